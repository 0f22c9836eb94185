use Rattle.std.proofs.Common.{◌≡◌, ◌≤◌, refl, sym, ap, subst, ◌∙◌, ◌+◌, ◌-◌, ◌++◌, ◌∷◌, [], true, false, List, map, take, drop, length, Option, None, Some, slice_get, arith}
use Rattle.std.specs.List.{list_all}
use Rattle.std.proofs.lemmas.List.{map-append}
use Rattle.std.proofs.lemmas.Result.{IfOk-weaker, on_ok_weaker}
use Rattle.jh_name.specs.declared.naming.Name.{Name}
use Rattle.jh_form.specs.Tree.{FormulaTree, of_truth}
use Rattle.jh_arena.specs.table.Entries.{the_truth}
use Rattle.jh_arena.specs.table.Growth.{Extends}
use Rattle.jh_arena.specs.table.Nodes.{nodes}
use Rattle.jh_arena.proofs.table.Listed.{extends-refl, extends-trans}
use Rattle.jh_seq.specs.sequent.Sequents.{HypTree, SequentTree}
use Rattle.jh_seq.specs.splitting.Local.{has_local_shape, is_local}
use Rattle.jh_reach.specs.Standing.{AreFormulas}
use Rattle.jh_reach.proofs.Standings.{formula-of, formulas-length, formulas-none, formulas-grow, formulas-as}
use Rattle.jh_fca.specs.elimination.Constraints.{Constraint, constraint_in}
use Rattle.jh_fca.specs.elimination.Derived.{is_listed_in, derived}
use Rattle.jh_fca.specs.elimination.Exchanged.{eliminated}
use Rattle.jh_fca.specs.elimination.Eliminated.{step, step_of, all_steps, eliminate}
use Rattle.jh_field_constraints.specs.declared.constraints.NodeConstraint.{NodeConstraint}
use Rattle.jh_field_constraints.specs.declared.stepping.Found.{Found}
use Rattle.jh_field_constraints.specs.declared.stepping.NodeSequent.{NodeSequent}
use Rattle.jh_field_constraints.specs.Standing.{IsNamed, IsFormula, IsConstraint, AreConstraint, AreNames, IsSequent}
use Rattle.jh_field_constraints.specs.Finding.{kept, IsAtPlace, IsFound}
use Rattle.jh_field_constraints.proofs.Arms.{constraint-grows, constraint-back}
use Rattle.jh_field_constraints.proofs.Listings.{hyp-at, hyps-length, fact-there, local-goal, local-there}
use Rattle.jh_field_constraints.proofs.Standings.{truth-of, truth-at, are-at, are-length, are-lent, are-said, names-grow}
use Rattle.jh_field_constraints.proofs.Steps.{constraint-some, constraint-none, kept-then, kept-else, kept-none, before-none, before-next, before-found, before-all, not-some, pushed, all-pushed, formulas-take, formulas-rest, all-take, all-drop, all-at, facts_of, sequent-facts, stepped, passed-over, no-constraint-left, step-taken, at-own, found-some, found-none, is-found, is-found-none, steps-local, steps-next, no-steps, sequent-grows, sequent-as, sequent-lent, given-stands, placed}
use Rattle.jh_field_constraints.proofs.stepping.step_of.Goals as goal

pub is_listed_in-requires : goal.is_listed_in-requires
is_listed_in-requires c = record { sequent = (c.requires.form.0, (sequent-lent c.args.table.now c.args.form.facts c.items.result.now c.args.form.goal c.requires.form.0 c.items.ensures c.requires.form.1), c.requires.form.2) }

pub returns-then-listed-clause-form : goal.returns-then-listed-clause-form
returns-then-listed-clause-form c = λ f s k is h.
    let yes : is_listed_in f s ≡ true = ap (λ g. is_listed_in g s) (sym (c.name_of.ensures f k)) ∙ sym (c.in_ok-listed.ensures s (sequent-lent c.args.table.now c.args.form.facts c.items.result.now c.args.form.goal s c.items.ensures is) h) ∙ c.if-listed.true in
    sequent-as c.args.table.now c.args.form.facts c.args.form.goal s (step_of f s) (passed-over f s yes) is

pub first_for-requires-clause-facts : goal.first_for-requires-clause-facts
first_for-requires-clause-facts c = (facts_of c.requires.form.0.hyps, formulas-as c.args.table.now c.args.form.facts c.items-2.result.now (facts_of c.requires.form.0.hyps) (facts_of c.requires.form.0.hyps) c.requires.form.1.facts (sym c.items-2.ensures) refl)

pub step-requires : goal.step-requires
step-requires c =
    let s = c.requires.form.0 in
    let some = found-some c.args.table.now c.in-Some.found c.requires.field.0 s.hyps _ c.in-Some.is (c.in_ok-found.ensures.found c.requires.field.0 s.hyps c.requires.field.1 (formulas-as c.args.table.now c.args.form.facts c.items-2.result.now (facts_of s.hyps) (facts_of s.hyps) c.requires.form.1.facts (sym c.items-2.ensures) refl)) in
    record {
      of = (some.0, some.1.of);
      place = placed _ c.in-Some.found c.args.form.facts c.items-2.result.now c.in-Some.is c.items-2.ensures c.in_ok-found.ensures.within;
      form = c.requires.form;
    }

pub returns-in-Some-clause-form : goal.returns-in-Some-clause-form
returns-in-Some-clause-form c =
    IfOk-weaker
    c.step.result
    (λ made. (d : Constraint) (s : SequentTree) → IsAtPlace c.args.table.now c.in-Some.found d.field s.hyps d → IsSequent c.args.table.now c.args.form.facts c.args.form.goal s → is_local s ≡ true → IsSequent c.step.new.table made.facts made.goal (step d s))
    (λ made. (f : Name) (s : SequentTree) → IsNamed c.args.table.now c.args.field f → IsSequent c.args.table.now c.args.form.facts c.args.form.goal s → is_local s ≡ true → IsSequent c.step.new.table made.facts made.goal (step_of f s))
    (λ made g f s k is h.
    let no : is_listed_in f s ≡ false = ap (λ x. is_listed_in x s) (sym (c.name_of.ensures f k)) ∙ sym (c.in_ok-listed.ensures s (sequent-lent c.args.table.now c.args.form.facts c.items.result.now c.args.form.goal s c.items.ensures is) h) ∙ c.if-listed.false in
    let some = found-some c.args.table.now c.in-Some.found f s.hyps _ c.in-Some.is (c.in_ok-found.ensures.found f s.hyps k (formulas-as c.args.table.now c.args.form.facts c.items-2.result.now (facts_of s.hyps) (facts_of s.hyps) is.facts (sym c.items-2.ensures) refl)) in
    sequent-as c.step.new.table made.facts made.goal (step some.0 s) (step_of f s) (step-taken f s some.0 no some.1.first) (g some.0 s (at-own c.args.table.now c.in-Some.found f s.hyps some.0 some.1) is h))
    c.step.ensures.form

pub returns-in-None-clause-form : goal.returns-in-None-clause-form
returns-in-None-clause-form c = λ f s k is h.
    sequent-as c.args.table.now c.args.form.facts c.args.form.goal s (step_of f s)
    (no-constraint-left f s (found-none c.args.table.now f s.hyps _ c.in-None.is (c.in_ok-found.ensures.found f s.hyps k (formulas-as c.args.table.now c.args.form.facts c.items-2.result.now (facts_of s.hyps) (facts_of s.hyps) is.facts (sym c.items-2.ensures) refl)))) is
