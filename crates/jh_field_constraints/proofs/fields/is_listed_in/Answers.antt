use Rattle.std.proofs.Common.{◌≡◌, ◌≤◌, refl, sym, ap, subst, ◌∙◌, ◌+◌, ◌++◌, ◌∷◌, [], ◌||◌, not, nat_eq, true, false, if◌then◌else◌, List, map, take, drop, length, Option, None, Some, slice_get, is_some, arith, add-one}
use Rattle.std.specs.Prelude.{filter}
use Rattle.std.specs.List.{list_any, list_all, flat_map}
use Rattle.std.proofs.lemmas.List.{drop_all, take_all}
use Rattle.std.proofs.lemmas.Result.{IfOk-weaker, on_ok_weaker}
use Rattle.indexmap.specs.IndexSet.{insert_key, insert_all}
use Rattle.jh_name.specs.declared.naming.Name.{Name}
use Rattle.jh_form.specs.Tree.{FormulaTree, of_truth, of_field, free_field}
use Rattle.jh_form.specs.Passing.{name_equal}
use Rattle.jh_arena.specs.table.Entries.{is_truth, the_truth, the_value, the_list, fields_at}
use Rattle.jh_arena.specs.table.Nodes.{nodes, fits_in, tree_in, shape_tree}
use Rattle.jh_arena.specs.declared.table.shapes.Shape.TheVariants as s
use Rattle.jh_arena.proofs.table.PartSteps.{part-Reach-l, part-Reach-fields, part-Tree-l, part-Tree-fields}
use Rattle.jh_seq.specs.sequent.Sequents.{HypTree, SequentTree}
use Rattle.jh_seq.specs.splitting.Local.{has_local_shape, is_local}
use Rattle.jh_reach.specs.Standing.{AreFormulas}
use Rattle.jh_reach.proofs.Standings.{formula-of, formulas-length}
use Rattle.jh_normal_forms.specs.declared.parts.order.Order.TheVariants as order
use Rattle.jh_fca.specs.elimination.Constraints.{is_name, constraint_in}
use Rattle.jh_fca.specs.elimination.Derived.{constrained, derived, fields_of, is_listed, is_listed_in, names_once}
use Rattle.jh_field_constraints.specs.Standing.{IsNamed, IsFormula, AreNames, IsSequent}
use Rattle.jh_field_constraints.specs.Reading.{is_among, is_along}
use Rattle.jh_field_constraints.proofs.Shapes.{value-as, not-along}
use Rattle.jh_field_constraints.proofs.Holding.{any-held, listed-local, among-found, among-next, among-none, fields-among}
use Rattle.jh_field_constraints.proofs.Onces.{names-inserted}
use Rattle.jh_field_constraints.proofs.Listings.{drop-next, hyp-at, local-goal, local-fact, listed-first, listed-last, no-more, constrained-next, none-constrained, derived-next, none-derived, derived-all, fact-there, local-there, added-if}
use Rattle.jh_field_constraints.proofs.Standings.{truth-of, truth-there, truth-inside, some-inside, are-at, are-none, are-push, are-length, are-said, are-lent, inserted, names-tell}
use Rattle.jh_field_constraints.proofs.fields.is_listed_in.Goals as goal

pub loop-place-init : goal.loop-place-init
loop-place-init c = λ s is h. refl

pub is_listed-requires : goal.is_listed-requires
is_listed-requires c = record { formula = local-fact c.args.table.now c.args.facts.now c.args.goal c.requires.sequent.0 c.loop-place.place c.node_at.result c.requires.sequent.1 c.requires.sequent.2 c.node_at.ensures }

pub returns-then-listed : goal.returns-then-listed
returns-then-listed c = λ s is h.
    listed-first c.args.name.now c.args.table.now c.args.facts.now c.args.goal s c.loop-place.place c.node_at.result is c.node_at.ensures (sym c.in_ok-listed.ensures ∙ c.if-listed.true)

pub loop-place-preserved : goal.loop-place-preserved
loop-place-preserved c = λ s is h.
    no-more c.args.name.now c.args.table.now c.args.facts.now s.hyps c.loop-place.place c.node_at.result is.facts c.node_at.ensures (c.loop-place.invariant s is h) (sym c.in_ok-listed.ensures ∙ c.if-listed.false)

pub is_listed-requires-2 : goal.is_listed-requires-2
is_listed-requires-2 c = record { formula = local-goal c.args.table.now c.args.facts.now c.args.goal c.requires.sequent.0 c.requires.sequent.1 c.requires.sequent.2 }

pub returns : goal.returns
returns c =
    IfOk-weaker
    c.is_listed-2.result
    (λ listed. listed ≡ is_listed c.args.name.now (the_truth (slice_get (nodes c.args.table.now) c.args.goal)))
    (λ listed. (s : SequentTree) → IsSequent c.args.table.now c.args.facts.now c.args.goal s → is_local s ≡ true → listed ≡ is_listed_in c.args.name.now s)
    (λ listed e s is h. listed-last c.args.name.now c.args.table.now c.args.facts.now c.args.goal s c.loop-place.place listed is (search arith) (c.loop-place.invariant s is h) e)
    c.is_listed-2.ensures
