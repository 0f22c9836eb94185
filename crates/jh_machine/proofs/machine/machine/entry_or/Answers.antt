use Rattle.jh_machine.proofs.machine.Moments.{entry_some, entry_none}
use Rattle.jh_machine.proofs.machine.machine.entry_or.Goals as goal

pub returns-in-Some-clause-names : goal.returns-in-Some-clause-names
returns-in-Some-clause-names c = λ s is. (entry_some c.args.now.now.names c.args.now.now.last c.args.entry.now s is c.in-Some.entry c.in-Some.is).1

pub returns-in-Some-clause-last : goal.returns-in-Some-clause-last
returns-in-Some-clause-last c = λ s is. (entry_some c.args.now.now.names c.args.now.now.last c.args.entry.now s is c.in-Some.entry c.in-Some.is).2

pub returns-in-Some-clause-state : goal.returns-in-Some-clause-state
returns-in-Some-clause-state c = λ s is kept. (entry_some c.args.now.now.names c.args.now.now.last c.args.entry.now s is c.in-Some.entry c.in-Some.is).0

pub returns-in-None-clause-state : goal.returns-in-None-clause-state
returns-in-None-clause-state c = λ s is kept. entry_none c.args.now.now.names c.args.now.now.last c.args.entry.now s is c.in-None.is kept
