use Rattle.std.proofs.Common.{◌≡◌, sym, ap, subst, ◌∙◌, ◌≤◌, length, take, drop, arith}
use Rattle.jh_symbols.specs.scopes.Lookings.{scope_by}
use Rattle.jh_symbols.specs.scopes.Changing.{undone, with_local}
use Rattle.jh_symbols.proofs.scopes.Undoing.{take-last, one-back, all-back, shorter}
use Rattle.jh_symbols.proofs.scopes.scope.ScopeTable.leave.Goals as goal

-- src/scope.rt
pub loop-self-preserved : goal.loop-self-preserved
loop-self-preserved c =
    let back : c.put_local.new.self.undos.items ≡ c.pop.new.self.items = c.put_local.ensures.undos in
    let left : c.args.mark ≤ length c.pop.new.self.items = shorter c.args.mark c.loop-self.self.undos.items c.pop.new.self.items c.in-Some.undo c.in-Some.ensures.items (omega arith) in
    record {
      inside = subst (λ us. c.args.mark ≤ length us) (sym back) left;
      front = ap (take c.args.mark) back ∙ sym (take-last c.args.mark c.pop.new.self.items c.in-Some.undo left) ∙ sym (ap (take c.args.mark) c.in-Some.ensures.items) ∙ c.loop-self.invariant.front;
      same = ap (λ us. undone (scope_by c.put_local.new.self) (drop c.args.mark us)) back
          ∙ one-back (scope_by c.loop-self.self) (scope_by c.put_local.new.self) c.pop.new.self.items c.in-Some.undo c.args.mark left (c.in_ok-put_local-in-Some.ensures.changed ∙ ap (λ x. with_local (scope_by c.loop-self.self) x c.in-Some.undo.before) c.text.ensures)
          ∙ sym (ap (λ us. undone (scope_by c.loop-self.self) (drop c.args.mark us)) c.in-Some.ensures.items) ∙ c.loop-self.invariant.same;
    }

-- src/scope.rt
pub returns-clause-changed : goal.returns-clause-changed
returns-clause-changed c = sym (all-back (scope_by c.loop-self.self) c.loop-self.self.undos.items c.args.mark (omega arith)) ∙ c.loop-self.invariant.same
