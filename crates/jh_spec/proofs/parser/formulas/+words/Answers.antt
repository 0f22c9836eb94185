use Rattle.std.proofs.Common.{arith, sym, ◌∙◌}
use Rattle.jh_spec.proofs.parser.Turns.{words-next}
use Rattle.jh_spec.proofs.parser.formulas.+words.Goals as goal

pub returns-clause-value : goal.returns-clause-value
returns-clause-value t c =
    rw (words-next c.args.tokens.now c.args.room c.args.at c.in_ok-word.word c.args.made.now.items c.push.new.self.items (omega arith) (sym c.is_plain_word.ensures.value ∙ c.if-not-is_plain_word.false) c.in_ok-word.ensures.value c.in_ok-push.ensures.items) c.words.ensures.value
