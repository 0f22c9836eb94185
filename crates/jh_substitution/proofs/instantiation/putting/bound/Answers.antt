use Rattle.std.proofs.Common.{◌≡◌, ◌∙◌, ap, refl, sym, ◌-◌, Some, slice_get, arith}
use Rattle.std.proofs.lemmas.Option.{slice_get_within}
use Rattle.std.proofs.lemmas.Result.{IfOk-weaker}
use Rattle.jh_form.specs.Tree.{of_object}
use Rattle.jh_boxed.specs.Mapped.{mapped_term, mapped_value}
use Rattle.jh_arena.specs.table.Entries.{the_object, the_value}
use Rattle.jh_arena.specs.table.Nodes.{nodes, fits, tree_in}
use Rattle.jh_arena.specs.declared.table.shapes.Shape.TheVariants as s
use Rattle.jh_substitution.specs.rewriting.Rewritten.{leaves_alone}
use Rattle.jh_substitution.specs.rewriting.Walks.{IsRewritten}
use Rattle.jh_substitution.specs.rewriting.Staying.{grown}
use Rattle.jh_substitution.proofs.rewriting.Sorted.{object-some, object-listed}
use Rattle.jh_substitution.specs.simultaneous.Lifted.{lifting}
use Rattle.jh_substitution.specs.instantiation.Putting.{putting}
use Rattle.jh_substitution.proofs.instantiation.Rules.{put-below, put-at, put-beyond, risen-object}
use Rattle.jh_substitution.proofs.instantiation.putting.bound.Goals as goal

pub lift-requires : goal.lift-requires
lift-requires c = slice_get_within (nodes c.args.table.now) c.args.with (of_object (the_object (slice_get (nodes c.args.table.now) c.args.with))) (object-listed (slice_get (nodes c.args.table.now) c.args.with) c.requires.with)

pub make-requires : goal.make-requires
unfolding fits
make-requires c = refl

pub returns-then-number-depth-clause-node : goal.returns-then-number-depth-clause-node
returns-then-number-depth-clause-node c =
    put-below c.args.table.now.pools (nodes c.args.table.now) (nodes c.args.table.now) (the_object (slice_get (nodes c.args.table.now) c.args.with)) c.args.depth c.args.number c.args.node c.if-number-depth.true c.requires.there

pub returns-then-number-depth-2-clause-node : goal.returns-then-number-depth-2-clause-node
returns-then-number-depth-2-clause-node c =
    let old = nodes c.args.table.now in
    let new = nodes c.lift.new.table in
    let same = grown old new c.args.with c.lift.ensures.grows.nodes (object-some (slice_get old c.args.with) c.requires.with) in
    let w = the_object (slice_get new c.args.with) in
    IfOk-weaker
    c.lift.result
    (λ made. slice_get new made ≡ Some (mapped_value (the_value (slice_get old c.args.with)) (lifting c.args.depth) 0))
    (λ made. IsRewritten (leaves_alone (putting w)) new c.args.node c.args.depth made)
    (λ r e. put-at c.args.table.now.pools old new w c.args.depth c.args.number c.args.node r c.if-number-depth-2.true (c.lift.ensures.grows.nodes.keeps c.args.node (tree_in c.args.table.now (s.Bound c.args.number)) c.requires.there)
    (e ∙ ap (λ v. Some v) (risen-object c.args.depth (slice_get old c.args.with) c.requires.with) ∙ ap (λ o. Some (of_object (mapped_term (the_object o) (lifting c.args.depth) 0))) (sym same)))
    c.lift.ensures.tree

pub returns-else-number-depth-2-clause-node : goal.returns-else-number-depth-2-clause-node
returns-else-number-depth-2-clause-node c =
    IfOk-weaker
    c.make.result
    (λ node. slice_get (nodes c.make.new.self) node ≡ Some (tree_in c.args.table.now (s.Bound (c.args.number - 1))))
    (λ made. IsRewritten (leaves_alone (putting (the_object (slice_get (nodes c.make.new.self) c.args.with)))) (nodes c.make.new.self) c.args.node c.args.depth made)
    (λ r e. put-beyond c.args.table.now.pools (nodes c.args.table.now) (nodes c.make.new.self) (the_object (slice_get (nodes c.make.new.self) c.args.with)) c.args.depth c.args.number c.args.node r (omega arith) (c.make.ensures.grows.nodes.keeps c.args.node (tree_in c.args.table.now (s.Bound c.args.number)) c.requires.there) e)
    c.make.ensures.node
