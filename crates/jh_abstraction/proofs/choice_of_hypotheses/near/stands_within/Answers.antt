use Rattle.std.proofs.Common.{◌≡◌, sym, ap, ◌∙◌, not, true, ◌||◌, slice_get}
use Rattle.jh_arena.specs.table.Entries.{the_name, the_value}
use Rattle.jh_arena.specs.table.Nodes.{nodes, shape_tree}
use Rattle.jh_arena.proofs.table.Below.{inside}
use Rattle.jh_arena.proofs.table.PartSteps.{part-FreeSet-n}
use Rattle.jh_approx.specs.free_name_tests.Passing.{name_passes}
use Rattle.jh_approx.specs.definition.Links.{is_class_set, reads_set}
use Rattle.jh_abstraction.specs.choice_of_hypotheses.Choosing.{stands_within}
use Rattle.jh_abstraction.proofs.choice_of_hypotheses.Lists.{in-front}
use Rattle.jh_abstraction.proofs.choice_of_hypotheses.Readings.{set-stands, other-stands, reads-has}
use Rattle.jh_abstraction.proofs.choice_of_hypotheses.near.stands_within.Goals as goal

pub name_at-requires : goal.name_at-requires
name_at-requires c = inside c.args.table.now.pools.names c.in-FreeSet.name (part-FreeSet-n c.args.table.now.pools (nodes c.args.table.now) c.in-FreeSet.name c.in-FreeSet.ensures.fits)

pub returns-then-not-is_class_set : goal.returns-then-not-is_class_set
unfolding shape_tree the_value the_name
returns-then-not-is_class_set c = λ goal free.
    let x = the_name (slice_get c.args.table.now.pools.names c.in-FreeSet.name) in
    let same : not c.is_class_set.result ≡ not (is_class_set x) = ap not (c.is_class_set.ensures ∙ ap (λ o. is_class_set (the_name o)) (sym c.name_at.ensures)) in
    let off : not c.is_class_set.result ≡ true = ap not c.if-not-is_class_set.true in
    off
    ∙ sym (ap (λ o. name_passes (stands_within goal) (the_value o)) c.in-FreeSet.ensures.tree ∙ set-stands goal x ∙ in-front (not (is_class_set x)) (reads_set goal x) (sym same ∙ off))

pub returns-else-not-is_class_set : goal.returns-else-not-is_class_set
unfolding shape_tree the_value the_name
returns-else-not-is_class_set c = λ goal free.
    let x = the_name (slice_get c.args.table.now.pools.names c.in-FreeSet.name) in
    let same : not c.is_class_set.result ≡ not (is_class_set x) = ap not (c.is_class_set.ensures ∙ ap (λ o. is_class_set (the_name o)) (sym c.name_at.ensures)) in
    c.has.ensures ∙ reads-has (nodes c.args.table.now) c.free_names_decide.ensures c.nodes_differ.ensures.different goal c.args.reads.now free c.args.node x c.in-FreeSet.ensures.tree
    ∙ sym (ap (λ o. name_passes (stands_within goal) (the_value o)) c.in-FreeSet.ensures.tree ∙ set-stands goal x ∙ ap (λ b. b || reads_set goal x) (sym same ∙ ap not c.if-not-is_class_set.false))

pub returns-in_default : goal.returns-in_default
unfolding the_value
returns-in_default c = λ goal free.
    sym (ap (λ o. name_passes (stands_within goal) (the_value o)) c.shape.ensures.tree ∙ other-stands c.args.table.now.pools (nodes c.args.table.now) goal c.shape.result c.in_default.not-FreeSet)
