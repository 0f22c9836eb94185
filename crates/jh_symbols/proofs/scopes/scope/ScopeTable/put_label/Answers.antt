use Rattle.jh_symbols.specs.scopes.Lookings.{scope_by}
use Rattle.jh_symbols.proofs.scopes.Changes.{label-text}
use Rattle.jh_symbols.proofs.scopes.scope.ScopeTable.put_label.Goals as goal

-- src/scope.rt
pub returns-clause-changed : goal.returns-clause-changed
returns-clause-changed c = λ i. record {
  class = c.args.self.now.class;
  fixed = c.args.self.now.fixed;
  local = (scope_by c.args.self.now).local;
  earlier = (scope_by c.args.self.now).earlier;
  labels = λ x. label-text c.args.self.now.labels c.insert.new.self c.in_ok-key.key _ c.args.text.now c.in_ok-key.ensures.ok c.in_ok-insert.ensures.updates x i;
}
