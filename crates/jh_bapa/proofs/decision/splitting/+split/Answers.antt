use Rattle.std.proofs.Common.{◌≡◌, ap, sym, ◌∙◌, arith, length, rules, subst, List}
use Rattle.jh_query.specs.declared.partial_truth.casing.Atom.{Atom}
use Rattle.jh_query.specs.queries.Bare.{cond_tree, query_tree}
use Rattle.jh_query.specs.queries.Named.{room_of}
use Rattle.jh_bapa.specs.decision.Searching.{NoneLeft, is_open, open_count, with_case}
use Rattle.jh_bapa.proofs.decision.Searches.{at-closed, case-length, case-open, cases-none, chosen-casing, hopeless-case, hyps-stand, loop-casing, loop-falls, loop-inside, loop-kept, loop-none, named-stands, none-of, opens-inside, told-case}
use Rattle.jh_bapa.proofs.decision.splitting.+split.Goals as goal

pub split-open_query-requires-clause-hyps_stand : goal.split-open_query-requires-clause-hyps_stand
split-open_query-requires-clause-hyps_stand t c = hyps-stand (room_of (query_tree c.args.query.now)) (length c.args.spots.now) (query_tree c.args.query.now).hyps (sym c.requires.full) c.requires.formed.hyps

pub split-open_query-requires-clause-goal_stands : goal.split-open_query-requires-clause-goal_stands
split-open_query-requires-clause-goal_stands t c = named-stands (room_of (query_tree c.args.query.now)) (length c.args.spots.now) (query_tree c.args.query.now).goal (sym c.requires.full) c.requires.formed.goal

pub split-returns-then-is_true_by_flags-clause-none : goal.split-returns-then-is_true_by_flags-clause-none
split-returns-then-is_true_by_flags-clause-none t c = subst (λ (xs : List Atom). NoneLeft (query_tree c.args.query.now) c.args.spots.now xs) c.deref-in-None.ensures.value (c.is_true_by_flags.ensures c.if-is_true_by_flags.true)

pub split-split_atom-requires : goal.split-split_atom-requires
split-split_atom-requires t c = (omega (arith, c.decreases), (c.requires.formed, (c.requires.within, (c.requires.casing, (c.requires.placement, (c.requires.full, rw c.deref-in-None-2.ensures.value at c.in-Some.ensures.place))))))

pub split-returns-in-Some-true-clause-none : goal.split-returns-in-Some-true-clause-none
split-returns-in-Some-true-clause-none t c = told-case (query_tree c.args.query.now) c.args.spots.now c.deref.result.now c.args.atoms.now.items c.in-Some-true.field-0 c.in-Some-true.ensures.tells c.in-Some-true.field-0-test c.deref.ensures.value

pub split_atom-atom_at-atom-requires : goal.split_atom-atom_at-atom-requires
split_atom-atom_at-atom-requires t c = rw c.deref.ensures.value (opens-inside c.args.atoms.now.items c.args.place c.requires.unset)

pub split_atom-loop-number-init : goal.split_atom-loop-number-init
split_atom-loop-number-init t c = record { kept = case-open c.args.atoms.now.items c.args.place c.requires.unset; none = λ n h. absurd (omega (arith, h)) }

pub split_atom-split_case-requires : goal.split_atom-split_case-requires
split_atom-split_case-requires t c = (
  omega (arith, c.decreases, loop-falls c.args.atoms.now.items c.loop-number.atoms.items c.args.place c.case_at.result c.loop-number.invariant.kept c.requires.unset (ap is_open c.case_at.ensures ∙ at-closed (cond_tree c.atom_at-atom.result.cond.now) c.loop-number.number)),
  (
    c.requires.formed,
    (
      c.requires.within,
      (
        loop-casing (query_tree c.args.query.now) c.args.atoms.now.items c.loop-number.atoms.items c.args.place c.loop-number.invariant.kept c.requires.casing,
        (
          c.requires.placement,
          (
            c.requires.full,
            (
              loop-inside c.args.atoms.now.items c.loop-number.atoms.items c.args.place c.loop-number.invariant.kept c.requires.unset,
              ap is_open c.case_at.ensures ∙ at-closed (cond_tree c.atom_at-atom.result.cond.now) c.loop-number.number,
            ),
          ),
        ),
      ),
    ),
  ),
)

pub split_atom-loop-number-preserved : goal.split_atom-loop-number-preserved
split_atom-loop-number-preserved t c =
    let none : _ = none-of c.in_ok-found.found _ c.in_ok-found.ensures.none (sym c.is_some.ensures ∙ c.if-is_some.false) in
    let kept : _ = none-of c.in_ok-found.found _ c.in_ok-found.ensures.kept (sym c.is_some.ensures ∙ c.if-is_some.false) in
    record {
      kept = loop-kept c.args.atoms.now.items c.loop-number.atoms.items c.split_case.new.atoms.items c.args.place c.case_at.result c.loop-number.invariant.kept kept;
      none = loop-none (query_tree c.args.query.now) c.args.spots.now c.args.atoms.now.items c.loop-number.atoms.items c.args.place (cond_tree c.atom_at-atom.result.cond.now) c.case_at.result c.loop-number.number c.loop-number.invariant.kept c.case_at.ensures none c.loop-number.invariant.none;
    }

pub split_atom-choose-requires : goal.split_atom-choose-requires
split_atom-choose-requires t c = loop-inside c.args.atoms.now.items c.loop-number.atoms.items c.args.place c.loop-number.invariant.kept c.requires.unset

pub split_atom-returns-clause-none : goal.split_atom-returns-clause-none
split_atom-returns-clause-none t c = cases-none (query_tree c.args.query.now) c.args.spots.now c.args.atoms.now.items c.args.place c.atom_at-atom.result c.requires.formed c.requires.casing (opens-inside c.args.atoms.now.items c.args.place c.requires.unset) (rw c.deref.ensures.value at c.atom_at-atom.ensures)
    (λ n h. c.loop-number.invariant.none n (omega (arith, h, c.case_count-number-end.ensures)))

pub split_atom-returns-clause-kept : goal.split_atom-returns-clause-kept
split_atom-returns-clause-kept t c = c.choose.ensures ∙ c.loop-number.invariant.kept

pub split_case-is_hopeless_at-requires : goal.split_case-is_hopeless_at-requires
split_case-is_hopeless_at-requires t c = omega (arith, ap length c.deref.ensures.value, ap length c.choose.ensures, case-length c.args.atoms.now.items c.args.place c.args.case, c.requires.inside)

pub split_case-returns-then-is_hopeless_at-clause-none : goal.split_case-returns-then-is_hopeless_at-clause-none
split_case-returns-then-is_hopeless_at-clause-none t c =
    hopeless-case (query_tree c.args.query.now) c.args.spots.now c.deref.result.now (with_case c.args.atoms.now.items c.args.place c.args.case) c.args.place c.is_hopeless_at.result c.requires.full
    (omega (arith, ap length c.deref.ensures.value, ap length c.choose.ensures, case-length c.args.atoms.now.items c.args.place c.args.case, c.requires.inside))
    c.is_hopeless_at.ensures c.if-is_hopeless_at.true (c.deref.ensures.value ∙ c.choose.ensures)

pub split_case-split-requires : goal.split_case-split-requires
split_case-split-requires t c = (
  omega (arith, c.decreases, ap open_count c.choose.ensures),
  (
    c.requires.formed,
    (
      c.requires.within,
      (chosen-casing (query_tree c.args.query.now) c.args.atoms.now.items c.choose.new.atoms.items c.args.place c.args.case c.choose.ensures c.requires.casing, (c.requires.placement, c.requires.full)),
    ),
  ),
)
