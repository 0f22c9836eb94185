use Rattle.std.proofs.Common.{◌≡◌, ◌≤◌, refl, sym, ap, subst, ◌∙◌, ◌+◌, ◌-◌, ◌++◌, ◌∷◌, [], true, false, List, map, take, drop, length, Option, None, Some, slice_get, arith}
use Rattle.std.specs.List.{list_all}
use Rattle.std.proofs.lemmas.List.{map-append}
use Rattle.std.proofs.lemmas.Result.{IfOk-weaker, on_ok_weaker}
use Rattle.jh_name.specs.declared.naming.Name.{Name}
use Rattle.jh_form.specs.Tree.{FormulaTree, of_truth}
use Rattle.jh_arena.specs.table.Entries.{the_truth}
use Rattle.jh_arena.specs.table.Growth.{Extends}
use Rattle.jh_arena.specs.table.Nodes.{nodes}
use Rattle.jh_arena.proofs.table.Listed.{extends-refl, extends-trans}
use Rattle.jh_seq.specs.sequent.Sequents.{HypTree, SequentTree}
use Rattle.jh_seq.specs.splitting.Local.{has_local_shape, is_local}
use Rattle.jh_reach.specs.Standing.{AreFormulas}
use Rattle.jh_reach.proofs.Standings.{formula-of, formulas-length, formulas-none, formulas-grow, formulas-as}
use Rattle.jh_fca.specs.elimination.Constraints.{Constraint, constraint_in}
use Rattle.jh_fca.specs.elimination.Derived.{is_listed_in, derived}
use Rattle.jh_fca.specs.elimination.Exchanged.{eliminated}
use Rattle.jh_fca.specs.elimination.Eliminated.{step, step_of, all_steps, eliminate}
use Rattle.jh_field_constraints.specs.declared.constraints.NodeConstraint.{NodeConstraint}
use Rattle.jh_field_constraints.specs.declared.stepping.Found.{Found}
use Rattle.jh_field_constraints.specs.declared.stepping.NodeSequent.{NodeSequent}
use Rattle.jh_field_constraints.specs.Standing.{IsNamed, IsFormula, IsConstraint, AreConstraint, AreNames, IsSequent}
use Rattle.jh_field_constraints.specs.Finding.{kept, IsAtPlace, IsFound}
use Rattle.jh_field_constraints.proofs.Arms.{constraint-grows, constraint-back}
use Rattle.jh_field_constraints.proofs.Listings.{hyp-at, hyps-length, fact-there, local-goal, local-there}
use Rattle.jh_field_constraints.proofs.Standings.{truth-of, truth-at, are-at, are-length, are-lent, are-said, names-grow}
use Rattle.jh_field_constraints.proofs.Steps.{constraint-some, constraint-none, kept-then, kept-else, kept-none, before-none, before-next, before-found, before-all, not-some, pushed, all-pushed, formulas-take, formulas-rest, all-take, all-drop, all-at, facts_of, sequent-facts, stepped, passed-over, no-constraint-left, step-taken, at-own, found-some, found-none, is-found, is-found-none, steps-local, steps-next, no-steps, sequent-grows, sequent-as, sequent-lent, given-stands, placed}
use Rattle.jh_field_constraints.proofs.stepping.eliminate.Goals as goal

pub all_steps-requires : goal.all_steps-requires
all_steps-requires c =
    let s = c.requires.sequent.0 in
    record {
      fields = (derived s, are-lent (IsNamed c.args.table.now) c.in_ok-fields.fields.items c.as_slice.result.now (derived s) c.as_slice.ensures.value (c.in_ok-fields.ensures s c.requires.sequent.1 c.requires.sequent.2));
      form = (s, given-stands c.args.table.now c.args.facts.now c.args.goal c.in_ok-form.form s c.in_ok-form.ensures c.requires.sequent.1, c.requires.sequent.2);
    }

pub returns-clause-sequent : goal.returns-clause-sequent
unfolding eliminate
returns-clause-sequent c =
    let t1 = c.all_steps.new.table in
    IfOk-weaker
    c.all_steps.result
    (λ made. (fs : List Name) (s : SequentTree) → AreNames c.args.table.now c.as_slice.result.now fs → IsSequent c.args.table.now c.in_ok-form.form.facts c.in_ok-form.form.goal s → is_local s ≡ true → IsSequent t1 made.facts made.goal (all_steps fs s))
    (λ made. (s : SequentTree) → IsSequent c.args.table.now c.args.facts.now c.args.goal s → is_local s ≡ true → IsSequent t1 made.facts made.goal (eliminate s))
    (λ made g s is h. g (derived s) s (are-lent (IsNamed c.args.table.now) c.in_ok-fields.fields.items c.as_slice.result.now (derived s) c.as_slice.ensures.value (c.in_ok-fields.ensures s is h)) (given-stands c.args.table.now c.args.facts.now c.args.goal c.in_ok-form.form s c.in_ok-form.ensures is) h)
    c.all_steps.ensures.form
