use Rattle.indexmap.specs.IndexMap.{get_by_text}
use Rattle.jh_symbols.proofs.declarations.Stating.{first-put}
use Rattle.jh_symbols.proofs.declarations.states.put_first.Goals as goal

pub returns : goal.returns
returns c = first-put (λ x. get_by_text c.args.firsts.now x) (λ x. get_by_text c.put.new.table x) c.args.state c.args.text.now c.in_ok-put.ensures
