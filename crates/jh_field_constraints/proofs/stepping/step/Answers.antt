use Rattle.std.proofs.Common.{◌≡◌, ◌≤◌, ◌<◌, ℕ, refl, sym, ap, subst, ◌∙◌, ◌+◌, ◌-◌, ◌++◌, ◌∷◌, [], true, false, List, map, take, drop, length, Option, None, Some, slice_get, arith}
use Rattle.std.specs.List.{list_all}
use Rattle.std.proofs.lemmas.List.{map-append}
use Rattle.std.proofs.lemmas.Result.{IfOk-weaker, on_ok_weaker}
use Rattle.jh_name.specs.declared.naming.Name.{Name}
use Rattle.jh_form.specs.Tree.{FormulaTree, of_truth}
use Rattle.jh_arena.specs.table.Entries.{the_truth}
use Rattle.jh_arena.specs.table.Growth.{Extends}
use Rattle.jh_arena.specs.table.Nodes.{nodes}
use Rattle.jh_arena.proofs.table.Listed.{extends-refl, extends-trans}
use Rattle.jh_seq.specs.sequent.Sequents.{HypTree, SequentTree}
use Rattle.jh_seq.specs.splitting.Local.{has_local_shape, is_local}
use Rattle.jh_reach.specs.Standing.{AreFormulas}
use Rattle.jh_reach.proofs.Standings.{formula-of, formulas-length, formulas-none, formulas-grow, formulas-as}
use Rattle.jh_fca.specs.elimination.Constraints.{Constraint, constraint_in}
use Rattle.jh_fca.specs.elimination.Derived.{is_listed_in, derived}
use Rattle.jh_fca.specs.elimination.Exchanged.{eliminated}
use Rattle.jh_fca.specs.elimination.Eliminated.{step, step_of, all_steps, eliminate}
use Rattle.jh_field_constraints.specs.declared.constraints.NodeConstraint.{NodeConstraint}
use Rattle.jh_field_constraints.specs.declared.stepping.Found.{Found}
use Rattle.jh_field_constraints.specs.declared.stepping.NodeSequent.{NodeSequent}
use Rattle.jh_field_constraints.specs.Standing.{IsNamed, IsFormula, IsConstraint, AreConstraint, AreNames, IsSequent}
use Rattle.jh_field_constraints.specs.Finding.{kept, IsAtPlace, IsFound}
use Rattle.jh_field_constraints.proofs.Arms.{constraint-grows, constraint-back}
use Rattle.jh_field_constraints.proofs.Listings.{hyp-at, hyps-length, fact-there, local-goal, local-there}
use Rattle.jh_field_constraints.proofs.Standings.{truth-of, truth-at, are-at, are-length, are-lent, are-said, names-grow}
use Rattle.jh_field_constraints.proofs.Steps.{constraint-some, constraint-none, kept-then, kept-else, kept-none, before-none, before-next, before-found, before-all, not-some, pushed, all-pushed, formulas-take, formulas-rest, all-take, all-drop, all-at, facts_of, sequent-facts, stepped, passed-over, no-constraint-left, step-taken, at-own, found-some, found-none, is-found, is-found-none, steps-local, steps-next, no-steps, sequent-grows, sequent-as, sequent-lent}
use Rattle.jh_field_constraints.proofs.stepping.step.Goals as goal

pub eliminated-requires : goal.eliminated-requires
eliminated-requires c = record { of = c.requires.of; formula = local-goal c.args.table.now c.args.form.now.facts c.args.form.now.goal c.requires.form.0 c.requires.form.1 c.requires.form.2 }

pub others_eliminated-requires : goal.others_eliminated-requires
others_eliminated-requires c =
    let s = c.requires.form.0 in
    let t1 = c.eliminated.new.table in
    record {
      of = (c.requires.of.0, constraint-grows c.args.table.now t1 c.args.found.of c.requires.of.0 c.eliminated.ensures.grows c.requires.of.1);
      place = subst (λ (ns : List ℕ). c.args.found.place < length ns) (sym c.items.ensures) c.requires.place;
      facts = (
        facts_of s.hyps,
        formulas-as t1 c.args.form.now.facts c.items.result.now (facts_of s.hyps) (facts_of s.hyps) (formulas-grow c.args.table.now t1 c.args.form.now.facts (facts_of s.hyps) c.eliminated.ensures.grows c.requires.form.1.facts) (sym c.items.ensures) refl,
        sequent-facts s c.requires.form.2,
      );
    }

pub returns-clause-form : goal.returns-clause-form
returns-clause-form c = λ d s at is h.
    let t1 = c.eliminated.new.table in
    let t2 = c.others_eliminated.new.table in
    let goal : IsFormula t1 c.in_ok-goal.goal (eliminated d s.goal true) = c.in_ok-goal.ensures.node d at.of ∙ ap (λ a. Some (of_truth (eliminated d a true))) (truth-at (slice_get (nodes c.args.table.now) c.args.form.now.goal) s.goal is.goal) in
    let facts = c.in_ok-facts.ensures.facts d (facts_of s.hyps) (constraint-grows c.args.table.now t1 c.args.found.of d c.eliminated.ensures.grows at.of)
    (formulas-as t1 c.args.form.now.facts c.items.result.now (facts_of s.hyps) (facts_of s.hyps) (formulas-grow c.args.table.now t1 c.args.form.now.facts (facts_of s.hyps) c.eliminated.ensures.grows is.facts) (sym c.items.ensures) refl) in
    sequent-lent t2 c.in_ok-facts.facts.items c.of.result c.in_ok-goal.goal (step d s) c.of.ensures
    (stepped c.args.table.now t2 c.args.found d s c.in_ok-facts.facts.items c.in_ok-goal.goal at (c.others_eliminated.ensures.grows.nodes.keeps c.in_ok-goal.goal (of_truth (eliminated d s.goal true)) goal) facts)
