use Rattle.std.proofs.Common.{◌+◌, sym, ap, ◌∙◌, ◌||◌}
use Rattle.jh_rules.specs.Rules.{rule_27_field}
use Rattle.jh_rules.specs.Names.{own_name}
use Rattle.jh_rules.specs.Words.{text_of}
use Rattle.jh_symbols.specs.scopes.Lookings.{declared_by}
use Rattle.jh_type.specs.formula_kinds.Parts as parts
use Rattle.jh_type.proofs.formula_kinds.Repeats.{rest-taken, twice-next, twice-end}
use Rattle.jh_type.proofs.formula_kinds.fields.has_twice.Goals as goal

pub loop-index-preserved : goal.loop-index-preserved
loop-index-preserved c = twice-next (λ w. own_name (text_of w)) (λ w. (rule_27_field (declared_by c.args.lookups.now) c.args.class w).known) c.args.words.now c.loop-index.index c.index-words-index.result c.loop-index.found _ c.loop-index-test.true c.index-words-index.is (c.either-found.ensures ∙ ap (λ b. c.loop-index.found || b) (c.is_again-again.ensures ∙ ap (parts.is_again (declared_by c.args.lookups.now) c.args.class c.index-words-index.result) (rest-taken (c.loop-index.index + 1) c.args.words.now))) ∙ c.loop-index.invariant

pub returns : goal.returns
returns c = sym (twice-end (λ w. own_name (text_of w)) (λ w. (rule_27_field (declared_by c.args.lookups.now) c.args.class w).known) c.args.words.now c.loop-index.index c.loop-index.found c.loop-index-test.false) ∙ c.loop-index.invariant
