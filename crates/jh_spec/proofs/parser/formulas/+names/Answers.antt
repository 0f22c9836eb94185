use Rattle.std.proofs.Common.{arith, sym, ◌∙◌}
use Rattle.jh_spec.proofs.parser.Turns.{names-next}
use Rattle.jh_spec.proofs.parser.formulas.+names.Goals as goal

pub returns-then-is_symbol-clause-value : goal.returns-then-is_symbol-clause-value
returns-then-is_symbol-clause-value t c =
    rw (names-next c.args.tokens.now c.args.room c.args.at c.in_ok-word.word c.args.made.now.items c.push.new.self.items (omega arith) c.in_ok-word.ensures.value (sym c.is_symbol.ensures.value ∙ c.if-is_symbol.true) c.in_ok-push.ensures.items) c.names.ensures.value
