use Rattle.jh_symbols.proofs.member_numbers.Puttings.{noted-text}
use Rattle.jh_symbols.proofs.member_numbers.numbers.note.Goals as goal

-- src/numbers.rt
pub returns : goal.returns
returns c = noted-text c.args.known.now c.insert.new.self c.in_ok-key.key c.args.number c.args.text.now c.in_ok-key.ensures.ok c.in_ok-insert.ensures.updates
