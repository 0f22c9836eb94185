use Rattle.std.proofs.Common.{◌≡◌, ◌≤◌, refl, sym, ap, subst, ◌∙◌, ◌+◌, ◌-◌, ◌++◌, ◌∷◌, [], true, false, List, map, take, drop, length, Option, None, Some, slice_get, arith}
use Rattle.std.specs.List.{list_all}
use Rattle.std.proofs.lemmas.List.{map-append}
use Rattle.std.proofs.lemmas.Result.{IfOk-weaker, on_ok_weaker}
use Rattle.jh_name.specs.declared.naming.Name.{Name}
use Rattle.jh_form.specs.Tree.{FormulaTree, of_truth}
use Rattle.jh_arena.specs.table.Entries.{the_truth}
use Rattle.jh_arena.specs.table.Growth.{Extends}
use Rattle.jh_arena.specs.table.Nodes.{nodes}
use Rattle.jh_arena.proofs.table.Listed.{extends-refl, extends-trans}
use Rattle.jh_seq.specs.sequent.Sequents.{HypTree, SequentTree}
use Rattle.jh_seq.specs.splitting.Local.{has_local_shape, is_local}
use Rattle.jh_reach.specs.Standing.{AreFormulas}
use Rattle.jh_reach.proofs.Standings.{formula-of, formulas-length, formulas-none, formulas-grow, formulas-as}
use Rattle.jh_fca.specs.elimination.Constraints.{Constraint, constraint_in}
use Rattle.jh_fca.specs.elimination.Derived.{is_listed_in, derived}
use Rattle.jh_fca.specs.elimination.Exchanged.{eliminated}
use Rattle.jh_fca.specs.elimination.Eliminated.{step, step_of, all_steps, eliminate}
use Rattle.jh_field_constraints.specs.declared.constraints.NodeConstraint.{NodeConstraint}
use Rattle.jh_field_constraints.specs.declared.stepping.Found.{Found}
use Rattle.jh_field_constraints.specs.declared.stepping.NodeSequent.{NodeSequent}
use Rattle.jh_field_constraints.specs.Standing.{IsNamed, IsFormula, IsConstraint, AreConstraint, AreNames, IsSequent}
use Rattle.jh_field_constraints.specs.Finding.{kept, IsAtPlace, IsFound}
use Rattle.jh_field_constraints.proofs.Arms.{constraint-grows, constraint-back}
use Rattle.jh_field_constraints.proofs.Listings.{hyp-at, hyps-length, fact-there, local-goal, local-there}
use Rattle.jh_field_constraints.proofs.Standings.{truth-of, truth-at, are-at, are-length, are-lent, are-said, names-grow}
use Rattle.jh_field_constraints.proofs.Steps.{constraint-some, constraint-none, kept-then, kept-else, kept-none, before-none, before-next, before-found, before-all, not-some, pushed, all-pushed, formulas-take, formulas-rest, all-take, all-drop, all-at, facts_of, sequent-facts, stepped, passed-over, no-constraint-left, step-taken, at-own, found-some, found-none, is-found, is-found-none, steps-local, steps-next, no-steps, sequent-grows, sequent-as, sequent-lent}
use Rattle.std.proofs.Common.{append-nil}
use Rattle.jh_field_constraints.proofs.Arms.{local-stays}
use Rattle.jh_field_constraints.proofs.stepping.add_eliminated.Goals as goal

pub loop-place-init : goal.loop-place-init
loop-place-init c = record {
  facts = λ d all done k are old. formulas-as c.args.table.now c.args.made.now.items c.args.made.now.items done (done ++ []) old refl (sym (append-nil done));
  grows = extends-refl c.args.table.now;
}

pub eliminated-requires : goal.eliminated-requires
eliminated-requires c =
    let a = formula-of c.args.table.now c.args.facts.now c.requires.facts.0 c.loop-place.place c.node_at.result c.requires.facts.1 c.node_at.ensures in
    record {
      of = (c.requires.of.0, constraint-grows c.args.table.now c.loop-place.table c.args.of c.requires.of.0 c.loop-place.invariant.grows c.requires.of.1);
      formula = local-stays (nodes c.args.table.now) (nodes c.loop-place.table) c.node_at.result c.loop-place.invariant.grows.nodes (local-there c.args.table.now c.node_at.result a.0 a.2 (all-at c.requires.facts.0 c.loop-place.place a.0 c.requires.facts.2 a.1));
    }

pub loop-place-preserved : goal.loop-place-preserved
loop-place-preserved c = record {
  facts = λ d all done k are old.
      let a = formula-of c.args.table.now c.args.facts.now all c.loop-place.place c.node_at.result are c.node_at.ensures in
      let there : IsFormula c.loop-place.table c.node_at.result a.0 = c.loop-place.invariant.grows.nodes.keeps c.node_at.result (of_truth a.0) a.2 in
      pushed (λ x. eliminated d x false) c.loop-place.table c.eliminated.new.table c.loop-place.made.items c.push.new.self.items c.in_ok-node.node c.loop-place.place all done a.0 c.eliminated.ensures.grows (c.loop-place.invariant.facts d all done k are old) a.1
      (c.in_ok-node.ensures.node d (constraint-grows c.args.table.now c.loop-place.table c.args.of d c.loop-place.invariant.grows k) ∙ ap (λ x. Some (of_truth (eliminated d x false))) (truth-at (slice_get (nodes c.loop-place.table) c.node_at.result) a.0 there))
      c.in_ok-push.ensures.items;
  grows = extends-trans c.args.table.now c.loop-place.table c.eliminated.new.table c.loop-place.invariant.grows c.eliminated.ensures.grows;
}

pub returns-clause-facts : goal.returns-clause-facts
returns-clause-facts c = λ d all done k are old.
    let long = formulas-length c.args.table.now c.args.facts.now all are in
    all-pushed (λ x. eliminated d x false) c.loop-place.table c.loop-place.made.items c.loop-place.place all done (search (arith, long)) (c.loop-place.invariant.facts d all done k are old)
