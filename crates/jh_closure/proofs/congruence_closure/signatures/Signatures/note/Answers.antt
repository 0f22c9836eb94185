use Rattle.std.proofs.Common.{◌∙◌}
use Rattle.indexmap.proofs.CallerLemmas.{insert_entry-new}
use Rattle.jh_closure.specs.contracts.congruence_closure.node.NodePartialEq.TheImpl.{ghosts}
use Rattle.jh_closure.proofs.congruence_closure.signatures.Signatures.note.Goals as goal

pub returns-clause-entries : goal.returns-clause-entries
returns-clause-entries c = c.in_ok-insert.ensures.entries ∙ insert_entry-new ghosts.eq c.args.self.now.nodes c.args.signature c.args.node c.requires
