use Rattle.std.proofs.Common.{◌≡◌, ap, sym, ◌∙◌, Some, slice_get}
use Rattle.std.proofs.lemmas.Result.{IfOk-weaker}
use Rattle.jh_form.specs.Tree.{of_set, of_object}
use Rattle.jh_form.specs.Tree as t
use Rattle.jh_arena.specs.table.Entries.{the_value, the_set}
use Rattle.jh_arena.specs.table.Growth.{Extends}
use Rattle.jh_arena.specs.table.Nodes.{nodes, tree_in}
use Rattle.jh_arena.specs.declared.table.shapes.Shape.TheVariants as s
use Rattle.jh_arena.proofs.table.Listed.{extends-trans}
use Rattle.jh_arena.proofs.table.NodeSteps.{fits-Union, tree-Union, tree-Single}
use Rattle.jh_vars.specs.Resolved.{with_single, as_object}
use Rattle.jh_resolution.specs.Spots.{set_at}
use Rattle.jh_resolution.proofs.Loops.{sets-stand}
use Rattle.jh_resolution.proofs.resolving.with_single.Goals as goal

pub make-requires-in-Some : goal.make-requires-in-Some
make-requires-in-Some c =
    let old = c.args.table.now in
    let mid = c.coerced.new.table in
    let new = c.make.new.self in
    let grows : Extends old new = extends-trans old mid new c.in_ok-object.ensures.grows c.in_ok-single.ensures.grows in
    fits-Union new.pools (nodes new) c.in-Some.made c.in_ok-single.single _ _
    (grows.nodes.keeps c.in-Some.made (of_set (the_set (slice_get (nodes old) c.in-Some.made))) (sets-stand (nodes old) c.args.made c.in-Some.made c.in-Some.is c.requires.made))
    (c.in_ok-single.ensures.node ∙ ap Some (tree-Single mid.pools (nodes mid) c.in_ok-object.object _ c.in_ok-object.ensures.node))

pub returns-in-Some-clause-node : goal.returns-in-Some-clause-node
returns-in-Some-clause-node c =
    let old = c.args.table.now in
    let mid = c.coerced.new.table in
    let new = c.make.new.self in
    let last = c.make-in-Some.new.self in
    let a = as_object (the_value (slice_get (nodes old) c.args.member)) in
    let s0 = the_set (slice_get (nodes old) c.in-Some.made) in
    let grows : Extends old new = extends-trans old mid new c.in_ok-object.ensures.grows c.in_ok-single.ensures.grows in
    IfOk-weaker
    c.make-in-Some.result
    (λ node. slice_get (nodes last) node ≡ Some (tree_in new (s.Union c.in-Some.made c.in_ok-single.single)))
    (λ node. slice_get (nodes last) node ≡ Some (of_set (with_single (set_at (nodes old) c.args.made) a)))
    (λ node e. e ∙ ap Some (tree-Union new.pools (nodes new) c.in-Some.made c.in_ok-single.single s0 (t.single a)
    (grows.nodes.keeps c.in-Some.made (of_set s0) (sets-stand (nodes old) c.args.made c.in-Some.made c.in-Some.is c.requires.made))
    (c.in_ok-single.ensures.node ∙ ap Some (tree-Single mid.pools (nodes mid) c.in_ok-object.object a c.in_ok-object.ensures.node)))
    ∙ ap (λ o. Some (of_set (with_single (set_at (nodes old) o) a))) (sym c.in-Some.is))
    c.make-in-Some.ensures.node
