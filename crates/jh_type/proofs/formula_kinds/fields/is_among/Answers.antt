use Rattle.std.proofs.Common.{sym, ap, ◌∙◌, ◌||◌}
use Rattle.jh_rules.specs.Rules.{same_state}
use Rattle.jh_symbols.specs.scopes.Lookings.{declared_by}
use Rattle.jh_type.specs.formula_kinds.Parts as parts
use Rattle.jh_type.proofs.formula_kinds.Repeats.{or-next, or-end}
use Rattle.jh_type.proofs.formula_kinds.fields.is_among.Goals as goal

pub loop-word-preserved : goal.loop-word-preserved
loop-word-preserved c = or-next (same_state (c.args.entry, c.args.own.now)) (parts.states_of (declared_by c.args.lookups.now) c.args.class) c.args.words.now c.loop-word.word-index c.word-item.result c.loop-word.found _ c.loop-word-test.true c.word-item.is (c.either-found.ensures ∙ ap (λ b. c.loop-word.found || b) c.is_same-same.ensures) ∙ c.loop-word.invariant

pub returns : goal.returns
returns c = sym (or-end (same_state (c.args.entry, c.args.own.now)) (parts.states_of (declared_by c.args.lookups.now) c.args.class) c.args.words.now c.loop-word.word-index c.loop-word.found c.loop-word-test.false) ∙ c.loop-word.invariant
