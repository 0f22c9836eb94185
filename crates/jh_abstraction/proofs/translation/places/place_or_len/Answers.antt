use Rattle.std.proofs.Common.{◌∙◌, nat_eq}
use Rattle.jh_abstraction.proofs.translation.Numbering.{place-missed}
use Rattle.jh_abstraction.proofs.translation.places.place_or_len.Goals as goal

pub returns-in-None : goal.returns-in-None
returns-in-None c = c.len.ensures.len ∙ place-missed (nat_eq c.args.node) c.args.list.now.keys c.in-None.ensures.index
