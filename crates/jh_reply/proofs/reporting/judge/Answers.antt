use Rattle.std.proofs.Common.{refl, sym, ap, subst, ◌∙◌, List, length}
use Rattle.std.proofs.lemmas.Result.{on_ok_weaker}
use Rattle.jh_report.specs.jh_prove.declared.prover.answer.Answer.{Answer}
use Rattle.jh_report.specs.jh_prove.prover.Right.{AllRight}
use Rattle.jh_report.specs.jh_splitting.Standing.{IsSequent}
use Rattle.jh_report.proofs.of_jh_prove.prover.Rights.{right-length}
use Rattle.jh_reply.proofs.Judging.{paired-length, stand-stays}
use Rattle.jh_reply.proofs.reporting.judge.Goals as goal

-- src/reporting.rt
pub add_judged-requires-clause-stands : goal.add_judged-requires-clause-stands
add_judged-requires-clause-stands c =
    (c.requires.stands.0, stand-stays c.args.table.now c.answers.new.table c.answers.ensures.grows c.args.sequents.now c.requires.stands.0 c.requires.stands.1)

-- src/reporting.rt
pub add_judged-requires-clause-each : goal.add_judged-requires-clause-each
add_judged-requires-clause-each c =
    let x = c.args.sequents.now in
    let ss = c.requires.stands.0.sequents in
    paired-length (IsSequent c.args.table.now x.hyps x.method) x.sequents.items ss c.requires.stands.1.1
    ∙ right-length c.args.options ss c.in_ok-answers.answers.items (c.in_ok-answers.ensures.right ss c.requires.stands.1.1)
    ∙ ap (λ (us : List Answer). length us) (sym c.as_slice.ensures.value)

-- src/reporting.rt
pub returns-clause-judged : goal.returns-clause-judged
returns-clause-judged c =
    let t = c.args.table.now in
    let u = c.answers.new.table in
    on_ok_weaker c.add_judged.result
    (λ h rs d stands gathers. (
      _,
      record { class = refl; name = refl; sequents = refl; right = subst (λ (us : List Answer). AllRight c.args.options d.sequents us) (sym c.as_slice.ensures.value) (c.in_ok-answers.ensures.right d.sequents stands.1) },
      h rs d (stand-stays t u c.answers.ensures.grows c.args.sequents.now d stands) gathers,
    ))
    c.add_judged.ensures
