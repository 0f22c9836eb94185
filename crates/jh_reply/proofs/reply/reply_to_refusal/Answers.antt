use Rattle.std.proofs.Common.{subst}
use Rattle.jh_reply.specs.Causes.{by_loop, by_place, by_rule}
use Rattle.jh_reply.specs.Refusals.{IsWhy}
use Rattle.jh_reply.proofs.Fitting.{says-refusal}
use Rattle.jh_reply.proofs.reply.reply_to_refusal.Goals as goal

-- src/reply.rt
pub returns-in-At : goal.returns-in-At
returns-in-At c = λ bytes why. says-refusal bytes _ c.said.result (λ line same. by_place c.in-At.number c.in-At.place (subst (λ r. IsWhy bytes r) c.in-At.is why) same) (c.said.ensures _ c.refused_line.ensures)

-- src/reply.rt
pub returns-in-Mistyped : goal.returns-in-Mistyped
returns-in-Mistyped c =
    λ bytes why. says-refusal bytes _ c.said-in-Mistyped.result (λ line same. by_rule c.in-Mistyped.rule c.in-Mistyped.place (subst (λ r. IsWhy bytes r) c.in-Mistyped.is why) same) (c.said-in-Mistyped.ensures _ c.mistyped_line.ensures)

-- src/reply.rt
pub returns-in-Cyclic : goal.returns-in-Cyclic
returns-in-Cyclic c = λ bytes why. says-refusal bytes _ c.said-in-Cyclic.result (λ line same. by_loop c.in-Cyclic.name.text (subst (λ r. IsWhy bytes r) c.in-Cyclic.is why) same) (c.said-in-Cyclic.ensures _ c.circular_line.ensures)
