use Rattle.std.proofs.Common.{◌≡◌, refl, sym, ◌∙◌, not, Bool, true, false}
use Rattle.jh_machine_code.proofs.entry_state.RecallSteps.{reads_there}
use Rattle.jh_machine_code.proofs.entry_state.recalling.may_recall.Goals as goal

pub returns-in-Ok : goal.returns-in-Ok
returns-in-Ok c = λ no. reads_there c.args.table.now c.args.node c.requires ∙ sym c.in-Ok.ensures.passes ∙ was-true c.in-Ok.is_now no
  where
    was-true : (b : Bool) → not b ≡ false → b ≡ true
    was-true true e = refl
    was-true false e = sym e
