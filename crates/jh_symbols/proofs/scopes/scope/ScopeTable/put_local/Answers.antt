use Rattle.jh_symbols.specs.scopes.Lookings.{scope_by}
use Rattle.jh_symbols.proofs.scopes.Changes.{flat-text}
use Rattle.jh_symbols.proofs.scopes.scope.ScopeTable.put_local.Goals as goal

-- src/scope.rt
pub returns-clause-changed : goal.returns-clause-changed
returns-clause-changed c = λ i. record {
  class = c.args.self.now.class;
  fixed = c.args.self.now.fixed;
  local = λ x. flat-text c.args.self.now.locals c.insert.new.self c.in_ok-key.key c.args.entry c.args.text.now c.in_ok-key.ensures.ok c.in_ok-insert.ensures.updates x i;
  earlier = (scope_by c.args.self.now).earlier;
  labels = (scope_by c.args.self.now).labels;
}
