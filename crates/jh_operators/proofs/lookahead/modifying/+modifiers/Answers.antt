use Rattle.std.proofs.Common.{ap, sym, ◌∙◌, arith}
use Rattle.jh_operators.specs.lookahead.Modifiers as modifier
use Rattle.jh_operators.proofs.lookahead.Modified.{modifiers-next}
use Rattle.jh_operators.proofs.lookahead.modifying.+modifiers.Goals as goal

-- the rest is read after one more
pub returns-in_ok-push-in-Some-clause-value : goal.returns-in_ok-push-in-Some-clause-value
returns-in_ok-push-in-Some-clause-value t c =
    rw (modifiers-next c.args.tokens.now c.args.symbols.now c.args.room c.args.at c.in-Some.symbol c.args.seen.now.items c.push.new.self.items (omega arith) (sym c.allowed.ensures.value ∙ c.in-Some.is) (ap (λ l. modifier.has l c.in-Some.symbol) (sym c.deref.ensures.value) ∙ sym c.has.ensures ∙ c.if-has.false) c.in_ok-push-in-Some.ensures.items) c.modifiers.ensures.value
