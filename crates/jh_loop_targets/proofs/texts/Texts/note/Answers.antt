use Rattle.std.proofs.Common.{sym, ◌∙◌}
use Rattle.jh_loop_targets.proofs.Notings.{note-kept}
use Rattle.jh_loop_targets.proofs.texts.Texts.note.Goals as goal

pub returns-then-holds : goal.returns-then-holds
returns-then-holds c = note-kept c.args.self.now c.args.text.now (sym c.holds.ensures ∙ c.if-holds.true)
