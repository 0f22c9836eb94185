use Rattle.std.proofs.Common.{ℕ, arith}
use Rattle.jh_query.specs.queries.Bare.{query_tree}
use Rattle.jh_bapa.specs.decision.Choices.{IsVain}
use Rattle.jh_bapa.proofs.decision.Choosing.{more-vain, vain-none}
use Rattle.jh_bapa.proofs.decision.flagging.are_flags_vain.Goals as goal

pub loop-block-preserved : goal.loop-block-preserved
loop-block-preserved c =
    more-vain (λ (b : ℕ). IsVain b c.args.spots.now c.args.atoms.now (query_tree c.args.query.now)) c.loop-block.block c.loop-block.invariant (c.is_vain.ensures c.if-not-is_vain.false)

pub returns : goal.returns
returns c = λ t. vain-none (query_tree c.args.query.now) c.args.spots.now c.args.atoms.now (λ b h. c.loop-block.invariant b (omega (arith, h, c.loop-block-test.false, c.block_count-block-end.ensures)))
