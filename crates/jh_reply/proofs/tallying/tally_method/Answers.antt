use Rattle.std.proofs.Common.{refl, sym, subst, List}
use Rattle.std.proofs.lemmas.Result.{on_ok_weaker}
use Rattle.jh_report.specs.jh_prove.declared.prover.answer.Answer.{Answer}
use Rattle.jh_report.specs.jh_prove.prover.Right.{AllRight}
use Rattle.jh_vars.specs.States.{class_text}
use Rattle.jh_reply.specs.Refusals.{method_text}
use Rattle.jh_reply.proofs.tallying.tally_method.Goals as goal

-- src/tallying.rt
pub returns-clause-tallied : goal.returns-clause-tallied
returns-clause-tallied c =
    on_ok_weaker c.add.result
    (λ h p rs d stands tally. (
      record { class = class_text p d.id.class; name = method_text p d.id; sequents = d.sequents; answers = c.as_slice.result.now },
      record { class = refl; name = refl; sequents = refl; right = subst (λ (us : List Answer). AllRight c.args.options d.sequents us) (sym c.as_slice.ensures.value) (c.in_ok-answers.ensures.right d.sequents stands.1) },
      h rs (class_text p d.id.class) (method_text p d.id) d.sequents tally,
    ))
    c.add.ensures
