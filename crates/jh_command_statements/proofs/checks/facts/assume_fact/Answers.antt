use Rattle.jh_state_facts.proofs.changes.AddedSteps.{adds-assume}
use Rattle.jh_command_statements.proofs.checks.facts.assume_fact.Goals as goal

pub returns : goal.returns
returns c = λ f h. adds-assume c.args.table.now c.args.commands.now.items c.push.new.self.items c.args.fact f c.in_ok-push.ensures.items h
