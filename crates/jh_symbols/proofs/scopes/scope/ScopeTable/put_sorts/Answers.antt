use Rattle.jh_symbols.specs.scopes.Lookings.{scope_by}
use Rattle.jh_symbols.proofs.scopes.Changes.{sorts-text}
use Rattle.jh_symbols.proofs.scopes.scope.ScopeTable.put_sorts.Goals as goal

-- src/scope.rt
pub returns-clause-changed : goal.returns-clause-changed
returns-clause-changed c = λ i. record {
  class = c.args.self.now.class;
  fixed = c.args.self.now.fixed;
  local = (scope_by c.args.self.now).local;
  earlier = λ x. sorts-text c.args.self.now.earlier c.insert.new.self c.in_ok-key.key c.args.sorts c.args.text.now c.in_ok-key.ensures.ok c.in_ok-insert.ensures.updates x i;
  labels = (scope_by c.args.self.now).labels;
}
