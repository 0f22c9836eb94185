use Rattle.std.proofs.Common.{◌≡◌, ◌≤◌, refl, sym, ap, subst, ◌∙◌, ◌+◌, ◌-◌, ◌++◌, ◌∷◌, [], true, false, List, map, take, drop, length, Option, None, Some, slice_get, arith}
use Rattle.std.specs.List.{list_all}
use Rattle.std.proofs.lemmas.List.{map-append}
use Rattle.std.proofs.lemmas.Result.{IfOk-weaker, on_ok_weaker}
use Rattle.jh_name.specs.declared.naming.Name.{Name}
use Rattle.jh_form.specs.Tree.{FormulaTree, of_truth}
use Rattle.jh_arena.specs.table.Entries.{the_truth}
use Rattle.jh_arena.specs.table.Growth.{Extends}
use Rattle.jh_arena.specs.table.Nodes.{nodes}
use Rattle.jh_arena.proofs.table.Listed.{extends-refl, extends-trans}
use Rattle.jh_seq.specs.sequent.Sequents.{HypTree, SequentTree}
use Rattle.jh_seq.specs.splitting.Local.{has_local_shape, is_local}
use Rattle.jh_reach.specs.Standing.{AreFormulas}
use Rattle.jh_reach.proofs.Standings.{formula-of, formulas-length, formulas-none, formulas-grow, formulas-as}
use Rattle.jh_fca.specs.elimination.Constraints.{Constraint, constraint_in}
use Rattle.jh_fca.specs.elimination.Derived.{is_listed_in, derived}
use Rattle.jh_fca.specs.elimination.Exchanged.{eliminated}
use Rattle.jh_fca.specs.elimination.Eliminated.{step, step_of, all_steps, eliminate}
use Rattle.jh_field_constraints.specs.declared.constraints.NodeConstraint.{NodeConstraint}
use Rattle.jh_field_constraints.specs.declared.stepping.Found.{Found}
use Rattle.jh_field_constraints.specs.declared.stepping.NodeSequent.{NodeSequent}
use Rattle.jh_field_constraints.specs.Standing.{IsNamed, IsFormula, IsConstraint, AreConstraint, AreNames, IsSequent}
use Rattle.jh_field_constraints.specs.Finding.{kept, IsAtPlace, IsFound}
use Rattle.jh_field_constraints.proofs.Arms.{constraint-grows, constraint-back}
use Rattle.jh_field_constraints.proofs.Listings.{hyp-at, hyps-length, fact-there, local-goal, local-there}
use Rattle.jh_field_constraints.proofs.Standings.{truth-of, truth-at, are-at, are-length, are-lent, are-said, names-grow}
use Rattle.jh_field_constraints.proofs.Steps.{constraint-some, constraint-none, kept-then, kept-else, kept-none, before-none, before-next, before-found, before-all, not-some, pushed, all-pushed, formulas-take, formulas-rest, all-take, all-drop, all-at, facts_of, sequent-facts, stepped, passed-over, no-constraint-left, step-taken, at-own, found-some, found-none, is-found, is-found-none, steps-local, steps-next, no-steps, sequent-grows, sequent-as, sequent-lent}
use Rattle.std.proofs.lemmas.List.{take_all}
use Rattle.jh_field_constraints.proofs.stepping.all_steps.Goals as goal

pub loop-place-init : goal.loop-place-init
loop-place-init c = record {
  form = λ fs s are is h. sequent-as c.args.table.now c.args.form.facts c.args.form.goal s (all_steps (take 0 fs) s) (no-steps fs s) is;
  grows = extends-refl c.args.table.now;
}

pub step_of-requires : goal.step_of-requires
step_of-requires c =
    let fs = c.requires.fields.0 in
    let s = c.requires.form.0 in
    let x = are-at (IsNamed c.args.table.now) c.args.fields.now fs c.loop-place.place c.node_at.result c.requires.fields.1 c.node_at.ensures in
    record {
      field = (x.0, c.loop-place.invariant.grows.nodes.keeps c.node_at.result _ x.2);
      form = (all_steps (take c.loop-place.place fs) s, c.loop-place.invariant.form fs s c.requires.fields.1 c.requires.form.1 c.requires.form.2, steps-local (take c.loop-place.place fs) s c.requires.form.2);
    }

pub loop-place-preserved : goal.loop-place-preserved
loop-place-preserved c = record {
  form = λ fs s are is h.
      let x = are-at (IsNamed c.args.table.now) c.args.fields.now fs c.loop-place.place c.node_at.result are c.node_at.ensures in
      sequent-as c.step_of.new.table c.in_ok-made.made.facts c.in_ok-made.made.goal (step_of x.0 (all_steps (take c.loop-place.place fs) s)) (all_steps (take (c.loop-place.place + 1) fs) s) (steps-next fs c.loop-place.place x.0 s x.1)
      (c.in_ok-made.ensures.form x.0 (all_steps (take c.loop-place.place fs) s) (c.loop-place.invariant.grows.nodes.keeps c.node_at.result _ x.2) (c.loop-place.invariant.form fs s are is h) (steps-local (take c.loop-place.place fs) s h));
  grows = extends-trans c.args.table.now c.loop-place.table c.step_of.new.table c.loop-place.invariant.grows c.step_of.ensures.grows;
}

pub returns-clause-form : goal.returns-clause-form
returns-clause-form c = λ fs s are is h.
    let long = are-length (IsNamed c.args.table.now) c.args.fields.now fs are in
    sequent-as c.loop-place.table c.loop-place.made.facts c.loop-place.made.goal (all_steps (take c.loop-place.place fs) s) (all_steps fs s) (ap (λ gs. all_steps gs s) (take_all c.loop-place.place fs (search (arith, long)))) (c.loop-place.invariant.form fs s are is h)
