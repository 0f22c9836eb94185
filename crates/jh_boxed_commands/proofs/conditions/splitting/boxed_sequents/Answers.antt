use Rattle.std.proofs.Common.{◌≤◌, List, ap, sym, subst, ◌∙◌, map, length, slice_get}
use Rattle.jh_seq.specs.sequent.Sequents.{sequent_tree}
use Rattle.jh_splitting.specs.Standing.{IsSequent}
use Rattle.jh_splitting.specs.declared.sequent.NodeSequent.{NodeSequent}
use Rattle.jh_boxed_commands.proofs.conditions.SequentSteps.{boxed-next, boxed-all, paired-at}
use Rattle.jh_boxed_commands.proofs.conditions.splitting.boxed_sequents.Goals as goal

pub loop-place-init : goal.loop-place-init
loop-place-init c = λ ss h. ap (map sequent_tree) c.new-boxed.ensures.items

pub boxed_sequent-requires : goal.boxed_sequent-requires
boxed_sequent-requires c =
    let made = c.args.made.now in
    let at = ap (λ xs. slice_get xs c.loop-place.place) (sym c.as_slice-sequents.ensures.value) ∙ c.sequent_at-sequent.ensures in
    let p = paired-at (IsSequent c.args.table.now made.hyps made.method) made.sequents.items c.requires.0 c.loop-place.place c.sequent_at-sequent.result c.requires.1 at in
    (p.0, p.2)

pub loop-place-preserved : goal.loop-place-preserved
loop-place-preserved c = λ ss h.
    let made = c.args.made.now in
    let at = ap (λ xs. slice_get xs c.loop-place.place) (sym c.as_slice-sequents.ensures.value) ∙ c.sequent_at-sequent.ensures in
    boxed-next (IsSequent c.args.table.now made.hyps made.method) sequent_tree made.sequents.items ss c.loop-place.place c.sequent_at-sequent.result c.loop-place.boxed.items c.push.new.self.items c.in_ok-one.one c.loop-place.invariant at c.in_ok-one.ensures c.in_ok-push.ensures.items h

pub returns : goal.returns
returns c = λ ss h.
    let made = c.args.made.now in
    boxed-all (IsSequent c.args.table.now made.hyps made.method) sequent_tree made.sequents.items ss c.loop-place.place c.loop-place.boxed.items c.loop-place.invariant
    (subst (λ (xs : List NodeSequent). length xs ≤ c.loop-place.place) c.as_slice-sequents.ensures.value c.loop-place-test.false) h
