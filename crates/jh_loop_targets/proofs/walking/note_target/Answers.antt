use Rattle.std.proofs.Common.{ap}
use Rattle.jh_semantics.specs.typed_code.Statements.{target_in}
use Rattle.jh_guard.specs.Writes.{target_writes}
use Rattle.jh_loop_targets.proofs.Notings.{notes-none}
use Rattle.jh_loop_targets.proofs.walking.note_target.Goals as goal

pub returns-in-Nowhere : goal.returns-in-Nowhere
unfolding target_in
returns-in-Nowhere c = notes-none c.args.written.now (target_writes (target_in c.args.target.now)) (λ x. ap (λ t. target_writes (target_in t) x) c.in-Nowhere.is)

pub returns-in-New : goal.returns-in-New
unfolding target_in
returns-in-New c = notes-none c.args.written.now (target_writes (target_in c.args.target.now)) (λ x. ap (λ t. target_writes (target_in t) x) c.in-New.is)
