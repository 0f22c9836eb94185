use Rattle.std.proofs.Common.{◌≤◌, ◌+◌, sym, subst, List, [], take, length, arith}
use Rattle.std.proofs.lemmas.List.{take_all}
use Rattle.jh_seq.specs.sequent.Sequents.{SequentTree}
use Rattle.jh_splitting.specs.Standing.{IsSequent}
use Rattle.jh_splitting.proofs.Grown.{sequent-stays}
use Rattle.jh_arena.proofs.table.Listed.{extends-refl, extends-trans}
use Rattle.jh_prove.specs.declared.prover.answer.Answer.{Answer}
use Rattle.jh_prove.specs.prover.Right.{AllRight}
use Rattle.jh_prove.proofs.prover.Pairing.{paired-at, paired-length}
use Rattle.jh_prove.proofs.prover.Rights.{right-next}
use Rattle.jh_prove.proofs.prover.answering.add_answers.Goals as goal

pub loop-place-init : goal.loop-place-init
loop-place-init c = record {
  right = λ ss are. subst (λ (answers : List Answer). AllRight c.args.options [] answers) (sym c.requires.made) tt;
  memo = c.requires.memo;
  seen = c.requires.seen;
  grows = extends-refl c.args.table.now;
}

pub answer_to-requires-clause-sequent : goal.answer_to-requires-clause-sequent
answer_to-requires-clause-sequent c =
    let t = c.args.table.now in
    let all = c.args.sequents.now in
    let x = c.sequent_at-sequent.result in
    let there = paired-at (IsSequent t all.hyps all.method) all.sequents.items c.requires.sequents.0 c.loop-place.place x c.requires.sequents.1 c.sequent_at-sequent.ensures in
    (there.0, sequent-stays t c.loop-place.table c.loop-place.invariant.grows all.hyps all.method x there.0 there.2)

pub loop-place-preserved : goal.loop-place-preserved
loop-place-preserved c =
    let t = c.args.table.now in
    let all = c.args.sequents.now in
    let x = c.sequent_at-sequent.result in
    let i = c.loop-place.place in
    record {
      right = λ ss are.
          let there = paired-at (IsSequent t all.hyps all.method) all.sequents.items ss i x are c.sequent_at-sequent.ensures in
          subst (λ (answers : List Answer). AllRight c.args.options (take (i + 1) ss) answers) (sym c.in_ok-push.ensures.items)
          (right-next c.args.options ss c.loop-place.made.items i there.0 c.in_ok-answer.answer there.1 (c.loop-place.invariant.right ss are)
          (c.in_ok-answer.ensures.right there.0 (sequent-stays t c.loop-place.table c.loop-place.invariant.grows all.hyps all.method x there.0 there.2)));
      memo = c.in_ok-answer.ensures.memo;
      seen = c.in_ok-answer.ensures.seen;
      grows = extends-trans t c.loop-place.table c.answer_to.new.table c.loop-place.invariant.grows c.answer_to.ensures.grows;
    }

pub returns-clause-right : goal.returns-clause-right
returns-clause-right c = λ ss are.
    let all = c.args.sequents.now in
    let count = paired-length (IsSequent c.args.table.now all.hyps all.method) all.sequents.items ss are in
    let far : length ss ≤ c.loop-place.place = search (arith, count) in
    subst (λ (xs : List SequentTree). AllRight c.args.options xs c.loop-place.made.items) (take_all c.loop-place.place ss far) (c.loop-place.invariant.right ss are)
