use Rattle.std.proofs.Common.{sym, ◌∙◌}
use Rattle.jh_loop_targets.specs.Noted.{names_in}
use Rattle.jh_loop_targets.proofs.Enterings.{kept}
use Rattle.jh_loop_targets.proofs.names.Names.add.Goals as goal

pub returns-in-Some : goal.returns-in-Some
returns-in-Some c = kept (names_in c.args.self.now) (record { text = c.args.text.now; sort = c.args.sort }) c.in-Some.field-0 (sym c.sort.ensures ∙ c.in-Some.is)
