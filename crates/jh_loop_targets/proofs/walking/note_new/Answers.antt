use Rattle.std.proofs.Common.{refl, ◌||◌, codes}
use Rattle.std.proofs.lemmas.Result.{IfOk-weaker}
use Rattle.jh_rules.specs.Words.{same_text}
use Rattle.jh_semantics.specs.typed_code.Statements.{target_in}
use Rattle.jh_guard.specs.Writes.{target_writes}
use Rattle.jh_loop_targets.specs.Noted.{Notes}
use Rattle.jh_loop_targets.proofs.Notings.{notes-then, or-grouped}
use Rattle.jh_loop_targets.proofs.walking.note_new.Goals as goal

pub returns : goal.returns
returns c =
    let a = c.args.written.now in
    let first = c.note.new.self in
    let second = c.note-2.new.self in
    let last = c.note_target.new.written in
    let f = same_text (codes "alloc") in
    let g = same_text c.args.class.now in
    let h = target_writes (target_in c.args.target.now) in
    IfOk-weaker c.note_target.result
    (λ made. Notes second last h)
    (λ made. Notes a last (λ x. f x || g x || h x))
    (λ made e. notes-then a second last (λ x. f x || g x) h (λ x. f x || g x || h x) (notes-then a first second f g (λ x. f x || g x) c.in_ok-note.ensures c.in_ok-note-2.ensures (λ x. refl)) e (λ x. or-grouped (f x) (g x) (h x)))
    c.note_target.ensures
