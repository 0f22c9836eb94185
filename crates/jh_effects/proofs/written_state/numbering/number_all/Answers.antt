use Rattle.jh_effects.proofs.written_state.Numbers.{numbers-keep}
use Rattle.jh_effects.proofs.written_state.numbering.number_all.Goals as goal

-- src/numbering.rt
pub returns-clause-numbers : goal.returns-clause-numbers
returns-clause-numbers c = numbers-keep c.number_list.new.keys.keys c.number_given.new.keys.keys c.in_ok-facts.ensures.keeps c.in_ok-list.list.items c.args.list.items c.in_ok-list.ensures.numbers
