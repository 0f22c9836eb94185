use Rattle.std.proofs.Common.{ap, ◌∙◌, Some, if◌then◌else◌}
use Rattle.indexmap.specs.IndexMap.{get_by_text}
use Rattle.jh_rules.specs.Words.{same_text, text_of}
use Rattle.jh_symbols.specs.scopes.Firsts.{earlier, first}
use Rattle.jh_symbols.proofs.scopes.Changes.{at-text}
use Rattle.jh_symbols.proofs.scopes.Behind.{behind-one}
use Rattle.jh_symbols.proofs.scopes.firsts.Firsts.add.Goals as goal

-- src/firsts.rt
pub returns-clause-first : goal.returns-clause-first
returns-clause-first c = λ x. at-text c.args.self.now.places c.insert.new.self c.in_ok-key.key c.earlier-place.result (text_of c.args.word.now) (c.in_ok-key.ensures.ok ∙ c.text-text.ensures) c.in_ok-insert.ensures.updates x
    ∙ ap (λ p. if same_text (text_of c.args.word.now) x then Some p else get_by_text c.args.self.now.places x) (c.earlier-place.ensures ∙ ap (λ o. earlier o c.args.word.now.place) (c.first.ensures ∙ ap (first c.args.self.now) c.text-text.ensures))

-- src/firsts.rt
pub returns-clause-behind : goal.returns-clause-behind
returns-clause-behind c = behind-one c.args.self.now (record { places = c.insert.new.self }) c.args.word.now (returns-clause-first c)
