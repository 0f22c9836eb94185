use Rattle.std.proofs.Common.{ap, sym, ◌∙◌}
use Rattle.std.specs.Prelude.{◌||◌}
use Rattle.jh_operators.specs.lookahead.Standing.{is_quote_open_at}
use Rattle.jh_spec.proofs.parser.answering.begins_target.Goals as goal

pub returns-then-is_name : goal.returns-then-is_name
returns-then-is_name c = c.if-is_name.true ∙ sym (ap (λ b. b || is_quote_open_at c.args.tokens.now c.args.at) (sym c.is_name.ensures.value ∙ c.if-is_name.true))

pub returns-else-is_name : goal.returns-else-is_name
returns-else-is_name c = c.is_quote_open.ensures.value ∙ sym (ap (λ b. b || is_quote_open_at c.args.tokens.now c.args.at) (sym c.is_name.ensures.value ∙ c.if-is_name.false))
