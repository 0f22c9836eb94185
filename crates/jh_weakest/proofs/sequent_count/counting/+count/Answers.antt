use Rattle.std.proofs.Common.{◌≡◌, ◌∙◌, refl, sym, ap, subst, ◌+◌, ◌-◌, ◌<◌, false, arith, drop, length, ℕ, []}
use Rattle.std.proofs.lemmas.Result.{IfOk-weaker}
use Rattle.jh_arena.proofs.table.Listed.{extends-refl, extends-trans}
use Rattle.jh_command_terms.specs.command.Code.{truth_at, value_at, command_in, command_fits, list_in}
use Rattle.jh_command_terms.proofs.command.CodeSteps.{step-fits, fitting-grows, command-grows}
use Rattle.jh_seq.specs.counting.Counted.{with_value, with_name, counted, counted_all}
use Rattle.jh_seq.specs.counting.Goals.{Weights, goals}
use Rattle.jh_weakest.specs.sequent_count.Tallies.{Counts}
use Rattle.jh_weakest.proofs.sequent_count.Takings.{counts-grow}
use Rattle.jh_weakest.proofs.sequent_count.Commands.{counted-Assume, counted-Assert, counted-Assign, counted-Havoc, counted-Leave, counted-Stop, counted-Seq, counted-Choice, counts-as, counted-rest, counted-end, copied-counts, joined-counts, same-tally, no-goals}
use Rattle.jh_weakest.proofs.sequent_count.counting.+count.Goals as goal

pub counted-returns-in-Assume-clause-goals : goal.counted-returns-in-Assume-clause-goals
counted-returns-in-Assume-clause-goals t c = λ q r hq hr.
    let u = c.args.table.now in
    counts-as u c.args.normal.fixed c.args.normal.shares.items q (counted (command_in u c.args.command.now) q r) (sym (ap (λ a. counted (command_in u a) q r) c.in-Assume.is ∙ counted-Assume u q r c.in-Assume.field-0)) hq

pub counted-returns-in-Assert-clause-goals : goal.counted-returns-in-Assert-clause-goals
counted-returns-in-Assert-clause-goals t c = λ q r hq hr.
    let u = c.args.table.now in
    let after : Weights → ℕ = λ w. goals (truth_at u c.in-Assert.fact) w false + q w in
    let before = counted (command_in u c.args.command.now) q r in
    let same : after ≡ before = sym (ap (λ a. counted (command_in u a) q r) c.in-Assert.is ∙ counted-Assert u q r c.in-Assert.fact) in
    IfOk-weaker c.with_goals.result (λ made. Counts u made.fixed made.shares.items after) (λ made. Counts u made.fixed made.shares.items before) (λ made h. counts-as u made.fixed made.shares.items after before same h) (c.with_goals.ensures q hq)

pub counted-returns-in-Assign-clause-goals : goal.counted-returns-in-Assign-clause-goals
counted-returns-in-Assign-clause-goals t c = λ q r hq hr.
    let u = c.args.table.now in
    let v = c.given.new.table in
    let after : Weights → ℕ = λ w. q (with_value w c.in-Assign.name (value_at u c.in-Assign.value)) in
    let before = counted (command_in u c.args.command.now) q r in
    let same : after ≡ before = sym (ap (λ a. counted (command_in u a) q r) c.in-Assign.is ∙ counted-Assign u q r c.in-Assign.name c.in-Assign.value) in
    IfOk-weaker c.given.result (λ made. Counts v made.fixed made.shares.items after) (λ made. Counts v made.fixed made.shares.items before) (λ made h. counts-as v made.fixed made.shares.items after before same h) (c.given.ensures.goals q hq)

pub counted-returns-in-Havoc-clause-goals : goal.counted-returns-in-Havoc-clause-goals
counted-returns-in-Havoc-clause-goals t c = λ q r hq hr.
    let u = c.args.table.now in
    let v = c.renamed.new.table in
    let after : Weights → ℕ = λ w. q (with_name w c.in-Havoc.name c.in-Havoc.with) in
    let before = counted (command_in u c.args.command.now) q r in
    let same : after ≡ before = sym (ap (λ a. counted (command_in u a) q r) c.in-Havoc.is ∙ counted-Havoc u q r c.in-Havoc.name c.in-Havoc.with) in
    IfOk-weaker c.renamed.result (λ made. Counts v made.fixed made.shares.items after) (λ made. Counts v made.fixed made.shares.items before) (λ made h. counts-as v made.fixed made.shares.items after before same h) (c.renamed.ensures.goals q hq)

pub counted-returns-in-Leave-clause-goals : goal.counted-returns-in-Leave-clause-goals
counted-returns-in-Leave-clause-goals t c = λ q r hq hr.
    let u = c.args.table.now in
    copied-counts u c.copy.result c.args.returned.now.fixed c.args.returned.now.shares.items r (counted (command_in u c.args.command.now) q r) c.copy.ensures.fixed c.copy.ensures.shares
    (sym (ap (λ a. counted (command_in u a) q r) c.in-Leave.is ∙ counted-Leave u q r)) hr

pub counted-returns-in-Stop-clause-goals : goal.counted-returns-in-Stop-clause-goals
counted-returns-in-Stop-clause-goals t c = λ q r hq hr.
    let u = c.args.table.now in
    let before = counted (command_in u c.args.command.now) q r in
    let same : (λ (w : Weights). 0) ≡ before = sym (ap (λ a. counted (command_in u a) q r) c.in-Stop.is ∙ counted-Stop u q r) in
    same-tally u 0 c.new.result.fixed [] c.new.result.shares.items before c.new.ensures.fixed c.new.ensures.shares (counts-as u 0 [] (λ w. 0) before same (no-goals u))

pub counted-returns-in_ok-lower-in-Seq-clause-goals : goal.counted-returns-in_ok-lower-in-Seq-clause-goals
counted-returns-in_ok-lower-in-Seq-clause-goals t c = λ q r hq hr.
    let u = c.args.table.now in
    let v = c.counted_all.new.table in
    let after = counted_all (list_in u c.items.result.now) q r in
    let before = counted (command_in u c.args.command.now) q r in
    let same : after ≡ before = ap (λ cs. counted_all (list_in u cs) q r) c.items.ensures ∙ sym (ap (λ a. counted (command_in u a) q r) c.in-Seq.is ∙ counted-Seq u q r c.in-Seq.steps) in
    IfOk-weaker c.counted_all.result (λ made. Counts v made.fixed made.shares.items after) (λ made. Counts v made.fixed made.shares.items before) (λ made h. counts-as v made.fixed made.shares.items after before same h) (c.counted_all.ensures.goals q r hq hr)

pub counted-returns-in_ok-lower-in-Choice-clause-goals : goal.counted-returns-in_ok-lower-in-Choice-clause-goals
counted-returns-in_ok-lower-in-Choice-clause-goals t c = λ q r hq hr.
    let u = c.args.table.now in
    let v = c.counted_both.new.table in
    let a = c.deref.result.now in
    let b = c.deref-in-Choice.result.now in
    let after : Weights → ℕ = λ w. counted (command_in u a) q r w + counted (command_in u b) q r w in
    let before = counted (command_in u c.args.command.now) q r in
    let same : after ≡ before = (λ i w. counted (command_in u (c.deref.ensures i)) q r w + counted (command_in u (c.deref-in-Choice.ensures i)) q r w)
    ∙ sym (ap (λ d. counted (command_in u d) q r) c.in-Choice.is ∙ counted-Choice u q r _ _ c.in-Choice.left.value c.in-Choice.right.value) in
    IfOk-weaker c.counted_both.result (λ made. Counts v made.fixed made.shares.items after) (λ made. Counts v made.fixed made.shares.items before) (λ made h. counts-as v made.fixed made.shares.items after before same h) (c.counted_both.ensures.goals q r hq hr)

pub counted_all-steps-init : goal.counted_all-steps-init
counted_all-steps-init t c = record {
  within = omega arith;
  grows = extends-refl c.args.table.now;
  goals = λ q r hq hr.
      counts-as c.args.table.now c.args.normal.fixed c.args.normal.shares.items q (counted_all (list_in c.args.table.now (drop (length c.args.steps.now) c.args.steps.now)) q r) (counted-end c.args.table.now c.args.steps.now q r) hq;
}

pub counted_all-counted-requires : goal.counted_all-counted-requires
counted_all-counted-requires t c =
    let j = c.steps.at - 1 in
    let a = c.index-steps-at.result in
    let inside : j < length c.args.steps.now = omega (arith, c.steps-test.true, c.steps.invariant.within) in
    let fits = ap (command_fits c.args.table.now) c.index-steps-at.is ∙ step-fits c.args.table.now c.args.steps.now j a c.requires.fits inside in
    (omega (arith, c.decreases), fitting-grows c.args.table.now c.steps.table c.steps.invariant.grows a fits)

pub counted_all-steps-preserved : goal.counted_all-steps-preserved
counted_all-steps-preserved t c =
    let t0 = c.args.table.now in
    let t1 = c.steps.table in
    let t2 = c.counted.new.table in
    let steps = c.args.steps.now in
    let j = c.steps.at - 1 in
    let a = c.index-steps-at.result in
    let tally = c.in_ok-tally.tally in
    let inside : j < length steps = omega (arith, c.steps-test.true, c.steps.invariant.within) in
    let next : j + 1 ≡ c.steps.at = omega (arith, c.steps-test.true) in
    record {
      within = omega (arith, inside);
      grows = extends-trans t0 t1 t2 c.steps.invariant.grows c.counted.ensures.grows;
      goals = λ q r hq hr.
          let rest = counted_all (list_in t0 (drop (j + 1) steps)) q r in
          let before : Counts t1 c.steps.tally.fixed c.steps.tally.shares.items rest =
          subst (λ (n : ℕ). Counts t1 c.steps.tally.fixed c.steps.tally.shares.items (counted_all (list_in t0 (drop n steps)) q r)) (sym next) (c.steps.invariant.goals q r hq hr) in
          let back = counts-grow t0 t1 c.steps.invariant.grows c.args.returned.now.fixed c.args.returned.now.shares.items r hr in
          counts-as t2 tally.fixed tally.shares.items (counted (command_in t1 a) rest r) (counted_all (list_in t0 (drop j steps)) q r)
          (counted-rest t0 t1 steps j a q r inside c.index-steps-at.is c.steps.invariant.grows c.requires.fits) (c.in_ok-tally.ensures.goals rest r before back);
    }

pub counted_all-returns-clause-goals : goal.counted_all-returns-clause-goals
counted_all-returns-clause-goals t c = λ q r hq hr.
    let none : c.steps.at ≡ 0 = omega (arith, c.steps-test.false) in
    subst (λ (n : ℕ). Counts c.steps.table c.steps.tally.fixed c.steps.tally.shares.items (counted_all (list_in c.args.table.now (drop n c.args.steps.now)) q r)) none (c.steps.invariant.goals q r hq hr)

pub counted_both-counted-requires-2 : goal.counted_both-counted-requires-2
counted_both-counted-requires-2 t c = (omega (arith, c.decreases), fitting-grows c.args.table.now c.counted.new.table c.counted.ensures.grows c.args.right.now c.requires.right)

pub counted_both-returns-clause-goals : goal.counted_both-returns-clause-goals
counted_both-returns-clause-goals t c = λ q r hq hr.
    let t0 = c.args.table.now in
    let t1 = c.counted.new.table in
    let t2 = c.counted-2.new.table in
    let g1 = c.counted.ensures.grows in
    let g2 = c.counted-2.ensures.grows in
    let again = c.in_ok-again.again in
    let first = c.in_ok-first.first in
    let second = c.in_ok-second.second in
    let left = counted (command_in t0 c.args.left.now) q r in
    let right = counted (command_in t1 c.args.right.now) q r in
    let one = counts-grow t1 t2 g2 first.fixed first.shares.items left (c.in_ok-first.ensures.goals q r hq hr) in
    let kept = same-tally t0 c.args.normal.fixed again.fixed c.args.normal.shares.items again.shares.items q c.in_ok-again.ensures.fixed c.in_ok-again.ensures.shares hq in
    let two = c.in_ok-second.ensures.goals q r (counts-grow t0 t1 g1 again.fixed again.shares.items q kept) (counts-grow t0 t1 g1 c.args.returned.now.fixed c.args.returned.now.shares.items r hr) in
    let listed : c.as_slice.result.now ≡ second.shares.items = c.as_slice.ensures.value in
    joined-counts t2 c.join.result first.fixed second.fixed first.shares.items c.as_slice.result.now left right (λ w. left w + counted (command_in t0 c.args.right.now) q r w)
    (c.join.ensures.names t2 one.names (same-tally t2 second.fixed second.fixed second.shares.items c.as_slice.result.now right refl listed two).names) c.join.ensures.goals one
    (same-tally t2 second.fixed second.fixed second.shares.items c.as_slice.result.now right refl listed two)
    (λ i w. left w + counted (command-grows t0 t1 g1 c.args.right.now c.requires.right i) q r w)
