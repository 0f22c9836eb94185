use Rattle.std.proofs.Common.{sym, ap, ◌∙◌, slice_get}
use Rattle.jh_arena.specs.table.Entries.{the_name, the_value}
use Rattle.jh_arena.specs.table.Nodes.{nodes, shape_tree}
use Rattle.jh_arena.proofs.table.Below.{inside}
use Rattle.jh_arena.proofs.table.PartSteps.{part-FreeSet-n}
use Rattle.jh_approx.specs.free_name_tests.Passing.{name_passes}
use Rattle.jh_approx.specs.definition.Links.{is_class_set, at_set, is_set_of_class}
use Rattle.jh_abstraction.proofs.choice_of_hypotheses.Readings.{set-class, other-class}
use Rattle.jh_abstraction.proofs.choice_of_hypotheses.near.is_class.Goals as goal

pub name_at-requires : goal.name_at-requires
name_at-requires c = inside c.args.table.now.pools.names c.in-FreeSet.name (part-FreeSet-n c.args.table.now.pools (nodes c.args.table.now) c.in-FreeSet.name c.in-FreeSet.ensures.fits)

pub returns-in-FreeSet : goal.returns-in-FreeSet
unfolding shape_tree the_value the_name
returns-in-FreeSet c =
    c.is_class_set.ensures ∙ ap (λ o. is_class_set (the_name o)) (sym c.name_at.ensures)
    ∙ sym (ap (λ o. name_passes is_set_of_class (the_value o)) c.in-FreeSet.ensures.tree ∙ set-class (the_name (slice_get c.args.table.now.pools.names c.in-FreeSet.name)))

pub returns-in-FreeObject : goal.returns-in-FreeObject
unfolding shape_tree the_value name_passes at_set
returns-in-FreeObject c = sym (ap (λ o. name_passes is_set_of_class (the_value o)) c.in-FreeObject.ensures.tree)

pub returns-in-FreeNumber : goal.returns-in-FreeNumber
unfolding shape_tree the_value name_passes at_set
returns-in-FreeNumber c = sym (ap (λ o. name_passes is_set_of_class (the_value o)) c.in-FreeNumber.ensures.tree)

pub returns-in-FreeTruth : goal.returns-in-FreeTruth
unfolding shape_tree the_value name_passes at_set
returns-in-FreeTruth c = sym (ap (λ o. name_passes is_set_of_class (the_value o)) c.in-FreeTruth.ensures.tree)

pub returns-in-FreeField : goal.returns-in-FreeField
unfolding shape_tree the_value name_passes at_set
returns-in-FreeField c = sym (ap (λ o. name_passes is_set_of_class (the_value o)) c.in-FreeField.ensures.tree)

pub returns-in_default : goal.returns-in_default
unfolding the_value
returns-in_default c =
    sym (ap (λ o. name_passes is_set_of_class (the_value o)) c.shape.ensures.tree
    ∙ other-class c.args.table.now.pools (nodes c.args.table.now) c.shape.result c.in_default.not-FreeSet c.in_default.not-FreeObject c.in_default.not-FreeNumber c.in_default.not-FreeTruth c.in_default.not-FreeField)
