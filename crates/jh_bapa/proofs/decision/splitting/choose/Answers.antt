use Rattle.std.proofs.Common.{◌≡◌, Bool, arith, get_or}
use Rattle.jh_bapa.proofs.decision.Searches.{set-case}
use Rattle.jh_bapa.proofs.decision.splitting.choose.Goals as goal

pub returns : goal.returns
returns c = set-case c.args.atoms.now.items c.args.place c.atom_at-atom.result c.args.case c.requires (rw c.deref.ensures.value at c.atom_at-atom.ensures)
