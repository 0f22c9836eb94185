use Rattle.std.proofs.Common.{◌≡◌, ◌≤◌, refl, sym, ap, subst, ◌∙◌, ◌+◌, ◌-◌, ◌++◌, ◌∷◌, [], true, false, List, map, take, drop, length, Option, None, Some, slice_get, arith}
use Rattle.std.specs.List.{list_all}
use Rattle.std.proofs.lemmas.List.{map-append}
use Rattle.std.proofs.lemmas.Result.{IfOk-weaker, on_ok_weaker}
use Rattle.jh_name.specs.declared.naming.Name.{Name}
use Rattle.jh_form.specs.Tree.{FormulaTree, of_truth}
use Rattle.jh_arena.specs.table.Entries.{the_truth}
use Rattle.jh_arena.specs.table.Growth.{Extends}
use Rattle.jh_arena.specs.table.Nodes.{nodes}
use Rattle.jh_arena.proofs.table.Listed.{extends-refl, extends-trans}
use Rattle.jh_seq.specs.sequent.Sequents.{HypTree, SequentTree}
use Rattle.jh_seq.specs.splitting.Local.{has_local_shape, is_local}
use Rattle.jh_reach.specs.Standing.{AreFormulas}
use Rattle.jh_reach.proofs.Standings.{formula-of, formulas-length, formulas-none, formulas-grow, formulas-as}
use Rattle.jh_fca.specs.elimination.Constraints.{Constraint, constraint_in}
use Rattle.jh_fca.specs.elimination.Derived.{is_listed_in, derived}
use Rattle.jh_fca.specs.elimination.Exchanged.{eliminated}
use Rattle.jh_fca.specs.elimination.Eliminated.{step, step_of, all_steps, eliminate}
use Rattle.jh_field_constraints.specs.declared.constraints.NodeConstraint.{NodeConstraint}
use Rattle.jh_field_constraints.specs.declared.stepping.Found.{Found}
use Rattle.jh_field_constraints.specs.declared.stepping.NodeSequent.{NodeSequent}
use Rattle.jh_field_constraints.specs.Standing.{IsNamed, IsFormula, IsConstraint, AreConstraint, AreNames, IsSequent}
use Rattle.jh_field_constraints.specs.Finding.{kept, IsAtPlace, IsFound}
use Rattle.jh_field_constraints.proofs.Arms.{constraint-grows, constraint-back}
use Rattle.jh_field_constraints.proofs.Listings.{hyp-at, hyps-length, fact-there, local-goal, local-there}
use Rattle.jh_field_constraints.proofs.Standings.{truth-of, truth-at, are-at, are-length, are-lent, are-said, names-grow}
use Rattle.jh_field_constraints.proofs.Steps.{constraint-some, constraint-none, kept-then, kept-else, kept-none, before-none, before-next, before-found, before-all, not-some, pushed, all-pushed, formulas-take, formulas-rest, all-take, all-drop, all-at, facts_of, sequent-facts, stepped, passed-over, no-constraint-left, step-taken, at-own, found-some, found-none, is-found, is-found-none, steps-local, steps-next, no-steps, sequent-grows, sequent-as, sequent-lent}
use Rattle.jh_field_constraints.proofs.stepping.constraint_of.Goals as goal

pub returns-then-same : goal.returns-then-same
returns-then-same c = λ f a k at.
    kept-then c.args.table.now c.nodes_differ.ensures.different f c.args.field k c.in-Some.of (constraint_in a) (subst (λ z. AreConstraint c.args.table.now z (constraint_in a)) c.in-Some.is (c.in_ok-of.ensures a at)) (sym c.are_one-same.ensures ∙ c.if-same.true)

pub returns-else-same : goal.returns-else-same
returns-else-same c = λ f a k at.
    kept-else c.args.table.now c.nodes_differ.ensures.different f c.args.field k c.in-Some.of (constraint_in a) (subst (λ z. AreConstraint c.args.table.now z (constraint_in a)) c.in-Some.is (c.in_ok-of.ensures a at)) (sym c.are_one-same.ensures ∙ c.if-same.false)

pub returns-in-None : goal.returns-in-None
returns-in-None c = λ f a k at. kept-none c.args.table.now f (constraint_in a) (subst (λ z. AreConstraint c.args.table.now z (constraint_in a)) c.in-None.is (c.in_ok-of.ensures a at))
