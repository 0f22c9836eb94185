use Rattle.std.proofs.Common.{◌≡◌, ◌≤◌, refl, sym, ap, subst, ◌∙◌, ◌+◌, ◌-◌, ◌++◌, ◌∷◌, [], true, false, List, map, take, drop, length, Option, None, Some, slice_get, arith}
use Rattle.std.specs.List.{list_all}
use Rattle.std.proofs.lemmas.List.{map-append}
use Rattle.std.proofs.lemmas.Result.{IfOk-weaker, on_ok_weaker}
use Rattle.jh_name.specs.declared.naming.Name.{Name}
use Rattle.jh_form.specs.Tree.{FormulaTree, of_truth}
use Rattle.jh_arena.specs.table.Entries.{the_truth}
use Rattle.jh_arena.specs.table.Growth.{Extends}
use Rattle.jh_arena.specs.table.Nodes.{nodes}
use Rattle.jh_arena.proofs.table.Listed.{extends-refl, extends-trans}
use Rattle.jh_seq.specs.sequent.Sequents.{HypTree, SequentTree}
use Rattle.jh_seq.specs.splitting.Local.{has_local_shape, is_local}
use Rattle.jh_reach.specs.Standing.{AreFormulas}
use Rattle.jh_reach.proofs.Standings.{formula-of, formulas-length, formulas-none, formulas-grow, formulas-as}
use Rattle.jh_fca.specs.elimination.Constraints.{Constraint, constraint_in}
use Rattle.jh_fca.specs.elimination.Derived.{is_listed_in, derived}
use Rattle.jh_fca.specs.elimination.Exchanged.{eliminated}
use Rattle.jh_fca.specs.elimination.Eliminated.{step, step_of, all_steps, eliminate}
use Rattle.jh_field_constraints.specs.declared.constraints.NodeConstraint.{NodeConstraint}
use Rattle.jh_field_constraints.specs.declared.stepping.Found.{Found}
use Rattle.jh_field_constraints.specs.declared.stepping.NodeSequent.{NodeSequent}
use Rattle.jh_field_constraints.specs.Standing.{IsNamed, IsFormula, IsConstraint, AreConstraint, AreNames, IsSequent}
use Rattle.jh_field_constraints.specs.Finding.{kept, IsAtPlace, IsFound}
use Rattle.jh_field_constraints.proofs.Arms.{constraint-grows, constraint-back}
use Rattle.jh_field_constraints.proofs.Listings.{hyp-at, hyps-length, fact-there, local-goal, local-there}
use Rattle.jh_field_constraints.proofs.Standings.{truth-of, truth-at, are-at, are-length, are-lent, are-said, names-grow}
use Rattle.jh_field_constraints.proofs.Steps.{constraint-some, constraint-none, kept-then, kept-else, kept-none, before-none, before-next, before-found, before-all, not-some, pushed, all-pushed, formulas-take, formulas-rest, all-take, all-drop, all-at, facts_of, sequent-facts, stepped, passed-over, no-constraint-left, step-taken, at-own, found-some, found-none, is-found, is-found-none, steps-local, steps-next, no-steps, sequent-grows, sequent-as, sequent-lent}
use Rattle.jh_field_constraints.proofs.stepping.first_for.Goals as goal

pub loop-place-init : goal.loop-place-init
loop-place-init c = λ f hs k are. before-none f hs

pub constraint_of-requires-clause-fact : goal.constraint_of-requires-clause-fact
constraint_of-requires-clause-fact c = fact-there c.args.table.now c.args.facts.now c.requires.facts.0 c.loop-place.place c.node_at.result c.requires.facts.1 c.node_at.ensures

pub returns-in-Some-clause-found : goal.returns-in-Some-clause-found
returns-in-Some-clause-found c = λ f hs k are.
    let x = hyp-at c.args.table.now c.args.facts.now hs c.loop-place.place c.node_at.result are c.node_at.ensures in
    let some = constraint-some c.args.table.now c.in-Some.of (kept f (constraint_in x.h.fact)) (subst (λ z. AreConstraint c.args.table.now z (kept f (constraint_in x.h.fact))) c.in-Some.is (c.in_ok-constraint.ensures f x.h.fact k x.there)) in
    let here : Found = record { place = c.loop-place.place; of = c.in-Some.of } in
    is-found c.args.table.now here f hs some.0 (before-found c.args.table.now f hs here x.h some.0 (c.loop-place.invariant f hs k are) x.at some.1 some.2)

pub loop-place-preserved : goal.loop-place-preserved
loop-place-preserved c = λ f hs k are.
    let x = hyp-at c.args.table.now c.args.facts.now hs c.loop-place.place c.node_at.result are c.node_at.ensures in
    let none = constraint-none c.args.table.now (kept f (constraint_in x.h.fact)) (subst (λ z. AreConstraint c.args.table.now z (kept f (constraint_in x.h.fact))) (not-some c.in_ok-constraint.constraint c.in_default.not-Some) (c.in_ok-constraint.ensures f x.h.fact k x.there)) in
    before-next f hs c.loop-place.place x.h (c.loop-place.invariant f hs k are) x.at none

pub returns-clause-found : goal.returns-clause-found
returns-clause-found c = λ f hs k are.
    let long = hyps-length c.args.table.now c.args.facts.now hs are in
    is-found-none c.args.table.now f hs (before-all f hs c.loop-place.place (c.loop-place.invariant f hs k are) (search (arith, long)))
