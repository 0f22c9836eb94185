use Rattle.std.proofs.Common.{◌≡◌, ◌≤◌, refl, sym, ap, subst, ◌∙◌, ◌+◌, ◌-◌, ◌++◌, ◌∷◌, [], true, false, List, map, take, drop, length, Option, None, Some, slice_get, arith}
use Rattle.std.specs.List.{list_all}
use Rattle.std.proofs.lemmas.List.{map-append}
use Rattle.std.proofs.lemmas.Result.{IfOk-weaker, on_ok_weaker}
use Rattle.jh_name.specs.declared.naming.Name.{Name}
use Rattle.jh_form.specs.Tree.{FormulaTree, of_truth}
use Rattle.jh_arena.specs.table.Entries.{the_truth}
use Rattle.jh_arena.specs.table.Growth.{Extends}
use Rattle.jh_arena.specs.table.Nodes.{nodes}
use Rattle.jh_arena.proofs.table.Listed.{extends-refl, extends-trans}
use Rattle.jh_seq.specs.sequent.Sequents.{HypTree, SequentTree}
use Rattle.jh_seq.specs.splitting.Local.{has_local_shape, is_local}
use Rattle.jh_reach.specs.Standing.{AreFormulas}
use Rattle.jh_reach.proofs.Standings.{formula-of, formulas-length, formulas-none, formulas-grow, formulas-as}
use Rattle.jh_fca.specs.elimination.Constraints.{Constraint, constraint_in}
use Rattle.jh_fca.specs.elimination.Derived.{is_listed_in, derived}
use Rattle.jh_fca.specs.elimination.Exchanged.{eliminated}
use Rattle.jh_fca.specs.elimination.Eliminated.{step, step_of, all_steps, eliminate}
use Rattle.jh_field_constraints.specs.declared.constraints.NodeConstraint.{NodeConstraint}
use Rattle.jh_field_constraints.specs.declared.stepping.Found.{Found}
use Rattle.jh_field_constraints.specs.declared.stepping.NodeSequent.{NodeSequent}
use Rattle.jh_field_constraints.specs.Standing.{IsNamed, IsFormula, IsConstraint, AreConstraint, AreNames, IsSequent}
use Rattle.jh_field_constraints.specs.Finding.{kept, IsAtPlace, IsFound}
use Rattle.jh_field_constraints.proofs.Arms.{constraint-grows, constraint-back}
use Rattle.jh_field_constraints.proofs.Listings.{hyp-at, hyps-length, fact-there, local-goal, local-there}
use Rattle.jh_field_constraints.proofs.Standings.{truth-of, truth-at, are-at, are-length, are-lent, are-said, names-grow}
use Rattle.jh_field_constraints.proofs.Steps.{constraint-some, constraint-none, kept-then, kept-else, kept-none, before-none, before-next, before-found, before-all, not-some, pushed, all-pushed, formulas-take, formulas-rest, all-take, all-drop, all-at, facts_of, sequent-facts, stepped, passed-over, no-constraint-left, step-taken, at-own, found-some, found-none, is-found, is-found-none, steps-local, steps-next, no-steps, sequent-grows, sequent-as, sequent-lent}
use Rattle.jh_field_constraints.proofs.stepping.others_eliminated.Goals as goal

pub add_eliminated-requires : goal.add_eliminated-requires
add_eliminated-requires c = record {
  of = c.requires.of;
  facts = (take c.args.found.place c.requires.facts.0, formulas-take c.args.table.now c.args.facts.now c.requires.facts.0 c.args.found.place c.requires.facts.1, all-take has_local_shape c.requires.facts.0 c.args.found.place c.requires.facts.2);
}

pub add_eliminated-requires-2 : goal.add_eliminated-requires-2
add_eliminated-requires-2 c = record {
  of = (c.requires.of.0, constraint-grows c.args.table.now c.add_eliminated.new.table c.args.found.of c.requires.of.0 c.add_eliminated.ensures.grows c.requires.of.1);
  facts = (
    drop (c.args.found.place + 1) c.requires.facts.0,
    formulas-rest c.add_eliminated.new.table c.args.facts.now c.requires.facts.0 (c.args.found.place + 1) (formulas-grow c.args.table.now c.add_eliminated.new.table c.args.facts.now c.requires.facts.0 c.add_eliminated.ensures.grows c.requires.facts.1),
    all-drop has_local_shape c.requires.facts.0 (c.args.found.place + 1) c.requires.facts.2,
  );
}

pub returns-clause-facts : goal.returns-clause-facts
returns-clause-facts c = λ d all k are.
    let f = λ (x : FormulaTree). eliminated d x false in
    let first : AreFormulas c.add_eliminated.new.table c.add_eliminated.new.made.items (map f (take c.args.found.place all)) =
    c.in_ok-add_eliminated.ensures.facts d (take c.args.found.place all) [] k (formulas-take c.args.table.now c.args.facts.now all c.args.found.place are) (formulas-none c.args.table.now c.new-made.result.items c.new-made.ensures.items) in
    formulas-as c.add_eliminated-2.new.table c.add_eliminated-2.new.made.items c.add_eliminated-2.new.made.items (map f (take c.args.found.place all) ++ map f (drop (c.args.found.place + 1) all)) (map f (take c.args.found.place all ++ drop (c.args.found.place + 1) all))
    (c.in_ok-add_eliminated-2.ensures.facts d (drop (c.args.found.place + 1) all) (map f (take c.args.found.place all)) (constraint-grows c.args.table.now c.add_eliminated.new.table c.args.found.of d c.add_eliminated.ensures.grows k)
    (formulas-rest c.add_eliminated.new.table c.args.facts.now all (c.args.found.place + 1) (formulas-grow c.args.table.now c.add_eliminated.new.table c.args.facts.now all c.add_eliminated.ensures.grows are)) first) refl
    (sym (map-append f (take c.args.found.place all) (drop (c.args.found.place + 1) all)))
