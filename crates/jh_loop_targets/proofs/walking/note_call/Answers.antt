use Rattle.std.proofs.Common.{refl, sym, ap, ◌||◌}
use Rattle.std.proofs.lemmas.Result.{IfOk-weaker}
use Rattle.jh_semantics.specs.typed_code.Statements.{target_in}
use Rattle.jh_guard.specs.Writes.{target_writes}
use Rattle.jh_loop_targets.specs.Noted.{Notes}
use Rattle.jh_loop_targets.specs.Telling.{method_writes}
use Rattle.jh_loop_targets.proofs.Notings.{notes-then, notes-as}
use Rattle.jh_loop_targets.proofs.walking.note_call.Goals as goal

pub returns : goal.returns
returns c =
    let a = c.args.written.now in
    let mid = c.note_method.new.written in
    let last = c.note_target.new.written in
    let f = method_writes c.args.told.now (record { class = c.args.call.now.class; name = c.args.call.now.method }) in
    let h = target_writes (target_in c.args.call.now.target) in
    IfOk-weaker c.note_target.result
    (λ made. Notes mid last h)
    (λ made. Notes a last (λ x. f x || h x))
    (λ made e. notes-then a mid last f h (λ x. f x || h x) (notes-as a mid (method_writes c.args.told.now (record { class = c.args.call.now.class; name = c.text.result.now })) f c.in_ok-note_method.ensures (λ x. ap (λ y. method_writes c.args.told.now (record { class = c.args.call.now.class; name = y }) x) (sym c.text.ensures))) e (λ x. refl))
    c.note_target.ensures
