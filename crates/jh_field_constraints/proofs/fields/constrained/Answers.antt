use Rattle.std.proofs.Common.{◌≡◌, ◌≤◌, refl, sym, ap, subst, ◌∙◌, ◌+◌, ◌++◌, ◌∷◌, [], ◌||◌, not, nat_eq, true, false, if◌then◌else◌, List, map, take, drop, length, Option, None, Some, slice_get, is_some, arith, add-one}
use Rattle.std.specs.Prelude.{filter}
use Rattle.std.specs.List.{list_any, list_all, flat_map}
use Rattle.std.proofs.lemmas.List.{drop_all, take_all}
use Rattle.std.proofs.lemmas.Result.{IfOk-weaker, on_ok_weaker}
use Rattle.indexmap.specs.IndexSet.{insert_key, insert_all}
use Rattle.jh_name.specs.declared.naming.Name.{Name}
use Rattle.jh_form.specs.Tree.{FormulaTree, of_truth, of_field, free_field}
use Rattle.jh_form.specs.Passing.{name_equal}
use Rattle.jh_arena.specs.table.Entries.{is_truth, the_truth, the_value, the_list, fields_at}
use Rattle.jh_arena.specs.table.Nodes.{nodes, fits_in, tree_in, shape_tree}
use Rattle.jh_arena.specs.declared.table.shapes.Shape.TheVariants as s
use Rattle.jh_arena.proofs.table.PartSteps.{part-Reach-l, part-Reach-fields, part-Tree-l, part-Tree-fields}
use Rattle.jh_seq.specs.sequent.Sequents.{HypTree, SequentTree}
use Rattle.jh_seq.specs.splitting.Local.{has_local_shape, is_local}
use Rattle.jh_reach.specs.Standing.{AreFormulas}
use Rattle.jh_reach.proofs.Standings.{formula-of, formulas-length}
use Rattle.jh_normal_forms.specs.declared.parts.order.Order.TheVariants as order
use Rattle.jh_fca.specs.elimination.Constraints.{is_name, constraint_in}
use Rattle.jh_fca.specs.elimination.Derived.{constrained, derived, fields_of, is_listed, is_listed_in, names_once}
use Rattle.jh_field_constraints.specs.Standing.{IsNamed, IsFormula, AreNames, IsSequent}
use Rattle.jh_field_constraints.specs.Reading.{is_among, is_along}
use Rattle.jh_field_constraints.proofs.Shapes.{value-as, not-along}
use Rattle.jh_field_constraints.proofs.Holding.{any-held, listed-local, among-found, among-next, among-none, fields-among}
use Rattle.jh_field_constraints.proofs.Onces.{names-inserted}
use Rattle.jh_field_constraints.proofs.Listings.{drop-next, hyp-at, local-goal, local-fact, listed-first, listed-last, no-more, constrained-next, none-constrained, derived-next, none-derived, derived-all, fact-there, local-there, added-if}
use Rattle.jh_field_constraints.proofs.Standings.{truth-of, truth-there, truth-inside, some-inside, are-at, are-none, are-push, are-length, are-said, are-lent, inserted, names-tell}
use Rattle.jh_field_constraints.proofs.Listings.{hyps-length}
use Rattle.jh_field_constraints.proofs.fields.constrained.Goals as goal

pub loop-place-init : goal.loop-place-init
loop-place-init c = λ hs are. none-constrained c.args.table.now c.new-list.result hs c.new-list.ensures

pub add_field-requires : goal.add_field-requires
add_field-requires c = record { fact = fact-there c.args.table.now c.args.facts.now c.requires.facts.0 c.loop-place.place c.node_at.result c.requires.facts.1 c.node_at.ensures }

pub loop-place-preserved : goal.loop-place-preserved
loop-place-preserved c = λ hs are.
    let x = hyp-at c.args.table.now c.args.facts.now hs c.loop-place.place c.node_at.result are c.node_at.ensures in
    are-said (IsNamed c.args.table.now) c.add_field.new.list (insert_all name_equal (insert_all name_equal [] (constrained (take c.loop-place.place hs))) (fields_of (constraint_in x.h.fact))) (insert_all name_equal [] (constrained (take (c.loop-place.place + 1) hs)))
    (constrained-next hs c.loop-place.place x.h x.at)
    (c.in_ok-add_field.ensures x.h.fact (insert_all name_equal [] (constrained (take c.loop-place.place hs))) x.there (c.loop-place.invariant hs are))

pub returns : goal.returns
returns c = λ hs are.
    let long = hyps-length c.args.table.now c.args.facts.now hs are in
    are-said (IsNamed c.args.table.now) c.loop-place.list (insert_all name_equal [] (constrained (take c.loop-place.place hs))) (names_once (constrained hs))
    (ap (λ xs. insert_all name_equal [] (constrained xs)) (take_all c.loop-place.place hs (search (arith, long))) ∙ names-inserted (constrained hs)) (c.loop-place.invariant hs are)
