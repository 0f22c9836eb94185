use Rattle.std.proofs.Common.{arith}
use Rattle.jh_call_commands.proofs.calls.AfterSteps.{facts-next, facts-all}
use Rattle.jh_call_commands.proofs.calls.after.assume_facts.Goals as goal

pub loop-place-preserved : goal.loop-place-preserved
loop-place-preserved c = record {
  commands = λ fs are.
      facts-next c.args.table.now c.args.facts.now fs are c.args.commands.now.items c.loop-place.commands.items c.assume_fact.new.commands.items c.fact_at.result c.loop-place.place c.fact_at.ensures (c.loop-place.invariant.commands fs are) c.in_ok-assume_fact.ensures;
}

pub returns : goal.returns
returns c = λ fs are.
    facts-all c.args.table.now c.args.facts.now fs are c.args.commands.now.items c.loop-place.commands.items c.loop-place.place (omega (arith, c.loop-place-test.false)) (c.loop-place.invariant.commands fs are)
