use Rattle.jh_loop_targets.proofs.Notings.{note-put}
use Rattle.jh_loop_targets.proofs.texts.Texts.note_new.Goals as goal

pub returns : goal.returns
returns c = note-put c.args.self.now (record { known = c.insert.new.self }) c.in_ok-key.key c.args.text.now c.in_ok-key.ensures.ok c.in_ok-insert.ensures.updates
