use Rattle.std.proofs.Common.{◌≡◌, ◌≤◌, length, take, drop}
use Rattle.jh_symbols.specs.scopes.Lookings.{scope_by}
use Rattle.jh_symbols.specs.scopes.Changing.{undone}
use Rattle.jh_symbols.proofs.scopes.scope.ScopeTable.leave.Given as goal

-- what is left to be put back is a front of what was, and putting it back gives the same
abbrev pub invariant-loop-self : goal.invariant-loop-self
invariant-loop-self l = record {
  inside : l.mark ≤ length l.self.undos.items;
  front : take l.mark l.self.undos.items ≡ take l.mark l.initial.self.undos.items;
  same : undone (scope_by l.self) (drop l.mark l.self.undos.items) ≡ undone (scope_by l.initial.self) (drop l.mark l.initial.self.undos.items);
}

abbrev pub decreases-loop-self : goal.decreases-loop-self
decreases-loop-self l = length l.self.undos.items
