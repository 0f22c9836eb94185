use Rattle.jh_symbols.proofs.scopes.Changes.{at-text}
use Rattle.jh_symbols.proofs.declarations.putting.put.Goals as goal

pub returns : goal.returns
returns g c = λ x. at-text c.args.table.now c.insert.new.self c.in_ok-key.key c.args.value c.args.text.now c.in_ok-key.ensures.ok c.in_ok-insert.ensures.updates x
