use Rattle.std.proofs.Common.{refl, sym, ap, ◌∙◌, nat_eq, slice_get}
use Rattle.jh_arena.specs.table.Entries.{is_object, the_object}
use Rattle.jh_arena.specs.table.Nodes.{nodes, shape_tree}
use Rattle.jh_arena.specs.declared.table.shapes.Shape.TheVariants as s
use Rattle.jh_fca.specs.elimination.Constraints.{is_variable}
use Rattle.jh_field_constraints.proofs.Shapes.{object-as, not-variable}
use Rattle.jh_field_constraints.proofs.Standings.{object-inside}
use Rattle.jh_field_constraints.proofs.naming.is_variable.Goals as goal

pub shape-requires : goal.shape-requires
shape-requires c = object-inside (nodes c.args.table.now) c.args.term c.requires.term

pub returns-in-Bound : goal.returns-in-Bound
unfolding shape_tree the_object is_variable
returns-in-Bound c =
    object-as c.args.table.now.pools (nodes c.args.table.now) (is_variable c.args.number) (slice_get (nodes c.args.table.now) c.args.term) c.shape.result (s.Bound c.in-Bound.other) (nat_eq c.in-Bound.other c.args.number) c.shape.ensures.tree c.in-Bound.is refl

pub returns-in_default : goal.returns-in_default
returns-in_default c =
    not-variable c.args.table.now.pools (nodes c.args.table.now) c.args.number c.shape.result c.in_default.not-Bound (ap is_object (sym c.shape.ensures.tree) ∙ c.requires.term) ∙ ap (λ o. is_variable c.args.number (the_object o)) (sym c.shape.ensures.tree)
