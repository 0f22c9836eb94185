use Rattle.std.proofs.Common.{◌≡◌, ◌≤◌, refl, sym, ap, subst, ◌∙◌, ◌+◌, ◌++◌, ◌∷◌, [], ◌||◌, not, nat_eq, true, false, if◌then◌else◌, List, map, take, drop, length, Option, None, Some, slice_get, is_some, arith, add-one}
use Rattle.std.specs.Prelude.{filter}
use Rattle.std.specs.List.{list_any, list_all, flat_map}
use Rattle.std.proofs.lemmas.List.{drop_all, take_all}
use Rattle.std.proofs.lemmas.Result.{IfOk-weaker, on_ok_weaker}
use Rattle.indexmap.specs.IndexSet.{insert_key, insert_all}
use Rattle.jh_name.specs.declared.naming.Name.{Name}
use Rattle.jh_form.specs.Tree.{FormulaTree, of_truth, of_field, free_field}
use Rattle.jh_form.specs.Passing.{name_equal}
use Rattle.jh_arena.specs.table.Entries.{is_truth, the_truth, the_value, the_list, fields_at}
use Rattle.jh_arena.specs.table.Nodes.{nodes, fits_in, tree_in, shape_tree}
use Rattle.jh_arena.specs.declared.table.shapes.Shape.TheVariants as s
use Rattle.jh_arena.proofs.table.PartSteps.{part-Reach-l, part-Reach-fields, part-Tree-l, part-Tree-fields}
use Rattle.jh_seq.specs.sequent.Sequents.{HypTree, SequentTree}
use Rattle.jh_seq.specs.splitting.Local.{has_local_shape, is_local}
use Rattle.jh_reach.specs.Standing.{AreFormulas}
use Rattle.jh_reach.proofs.Standings.{formula-of, formulas-length}
use Rattle.jh_normal_forms.specs.declared.parts.order.Order.TheVariants as order
use Rattle.jh_fca.specs.elimination.Constraints.{is_name, constraint_in}
use Rattle.jh_fca.specs.elimination.Derived.{constrained, derived, fields_of, is_listed, is_listed_in, names_once}
use Rattle.jh_field_constraints.specs.Standing.{IsNamed, IsFormula, AreNames, IsSequent}
use Rattle.jh_field_constraints.specs.Reading.{is_among, is_along}
use Rattle.jh_field_constraints.proofs.Shapes.{value-as, not-along}
use Rattle.jh_field_constraints.proofs.Holding.{any-held, listed-local, among-found, among-next, among-none, fields-among}
use Rattle.jh_field_constraints.proofs.Onces.{names-inserted}
use Rattle.jh_field_constraints.proofs.Listings.{drop-next, hyp-at, local-goal, local-fact, listed-first, listed-last, no-more, constrained-next, none-constrained, derived-next, none-derived, derived-all, fact-there, local-there, added-if}
use Rattle.jh_field_constraints.proofs.Standings.{truth-of, truth-there, truth-inside, some-inside, are-at, are-none, are-push, are-length, are-said, are-lent, inserted, names-tell}
use Rattle.jh_field_constraints.proofs.fields.derived.Goals as goal

pub constrained-requires : goal.constrained-requires
constrained-requires c = record { facts = (map (λ (h : HypTree). h.fact) c.requires.sequent.0.hyps, c.requires.sequent.1.facts) }

pub loop-place-init : goal.loop-place-init
loop-place-init c = λ s is h. none-derived c.args.table.now c.new-made.result.items s (names_once (constrained s.hyps)) c.new-made.ensures.items

pub add_derived-requires-clause-field : goal.add_derived-requires-clause-field
add_derived-requires-clause-field c =
    let s = c.requires.sequent.0 in
    let x = are-at (IsNamed c.args.table.now) c.in_ok-list.list (names_once (constrained s.hyps)) c.loop-place.place c.at.result (c.in_ok-list.ensures s.hyps c.requires.sequent.1.facts) c.at.ensures in
    (x.0, x.2)

pub loop-place-preserved : goal.loop-place-preserved
loop-place-preserved c = λ s is h.
    let xs = names_once (constrained s.hyps) in
    let x = are-at (IsNamed c.args.table.now) c.in_ok-list.list xs c.loop-place.place c.at.result (c.in_ok-list.ensures s.hyps is.facts) c.at.ensures in
    let done = filter (λ f. not (is_listed_in f s)) (take c.loop-place.place xs) in
    are-said (IsNamed c.args.table.now) c.add_derived.new.made.items (if is_listed_in x.0 s then done else done ++ x.0 ∷ []) (filter (λ f. not (is_listed_in f s)) (take (c.loop-place.place + 1) xs)) (derived-next s xs c.loop-place.place x.0 x.1)
    (c.in_ok-add_derived.ensures s x.0 done is h x.2 (c.loop-place.invariant s is h))

pub returns : goal.returns
returns c = λ s is h.
    let long = are-length (IsNamed c.args.table.now) c.in_ok-list.list (names_once (constrained s.hyps)) (c.in_ok-list.ensures s.hyps is.facts) in
    derived-all c.args.table.now c.loop-place.made.items s c.loop-place.place (search (arith, long)) (c.loop-place.invariant s is h)
