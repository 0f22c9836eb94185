use Rattle.std.proofs.Common.{rules}
use Rattle.jh_containers.proofs.shared_lists.Linked.{extended-keeps, extended-made}
use Rattle.jh_containers.proofs.shared_lists.chains.Chains.extend.Goals as goal

pub returns-clause-made : goal.returns-clause-made
returns-clause-made g c = λ xs h. extended-made c.args.self.now c.push.new.self.items c.args.list c.args.item xs c.len-made.result (search rules) (search rules) h

pub returns-clause-keeps : goal.returns-clause-keeps
returns-clause-keeps g c = extended-keeps c.args.self.now c.push.new.self.items (record { before = c.args.list; item = c.args.item }) (search rules)
