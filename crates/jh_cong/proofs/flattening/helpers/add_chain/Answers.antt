use Rattle.std.proofs.Common.{◌-◌, length, drop, arith}
use Rattle.jh_cong.proofs.flattening.Chains.{chain-none, chain-next, chain-all}
use Rattle.jh_cong.proofs.flattening.Gathering.{adds-then, chain-inside}
use Rattle.jh_cong.proofs.flattening.helpers.add_chain.Goals as goal

pub loop-turn-init : goal.loop-turn-init
loop-turn-init c = record {
  chain = chain-none c.args.count c.add_number.new.helpers.items c.args.fields.now c.in_ok-chain.chain c.in_ok-chain.ensures.here;
  adds = c.in_ok-chain.ensures.adds;
}

pub add_link-requires-clause-rest : goal.add_link-requires-clause-rest
add_link-requires-clause-rest c = chain-inside c.args.count c.loop-turn.helpers.items (drop (length c.args.fields.now - c.loop-turn.turn) c.args.fields.now) c.loop-turn.chain c.loop-turn.invariant.chain

pub add_link-requires-clause-field : goal.add_link-requires-clause-field
add_link-requires-clause-field c = c.requires (length c.args.fields.now - 1 - c.loop-turn.turn) c.field_at-field.result c.field_at-field.ensures

pub loop-turn-preserved : goal.loop-turn-preserved
loop-turn-preserved c = record {
  chain = chain-next c.args.count c.loop-turn.helpers.items c.add_link.new.helpers.items c.args.fields.now c.loop-turn.turn c.field_at-field.result c.loop-turn.chain c.in_ok-chain-2.chain c.in_ok-chain-2.ensures.adds (omega (arith, c.loop-turn)) c.field_at-field.ensures c.loop-turn.invariant.chain c.in_ok-chain-2.ensures.here;
  adds = adds-then c.args.count c.args.helpers.now.items c.loop-turn.helpers.items c.add_link.new.helpers.items c.loop-turn.invariant.adds c.in_ok-chain-2.ensures.adds;
}

pub returns-clause-here : goal.returns-clause-here
returns-clause-here c = chain-all c.args.count c.loop-turn.helpers.items c.args.fields.now c.loop-turn.turn c.loop-turn.chain (omega (arith, c.loop-turn)) c.loop-turn.invariant.chain
