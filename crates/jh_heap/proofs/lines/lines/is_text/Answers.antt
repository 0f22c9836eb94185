use Rattle.std.proofs.Common.{◌≡◌, refl, sym, Bool, true, false}
use Rattle.std.specs.Str.{is_utf8}
use Rattle.std.proofs.lemmas.Str.{IsUtf8-from_is_utf8, is_utf8-from_IsUtf8}
use Rattle.jh_heap.proofs.lines.lines.is_text.Goals as goal

no-text : (t : Bool) → (t ≡ true → ⊥) → false ≡ t
no-text true h = absurd (h refl)
no-text false h = refl

pub returns-in-Ok : goal.returns-in-Ok
returns-in-Ok c = sym (is_utf8-from_IsUtf8 c.args.bytes.now c.in-Ok.ensures.cases.1)

pub returns-in-Err : goal.returns-in-Err
returns-in-Err c = no-text (is_utf8 c.args.bytes.now) (λ e. c.in-Err.ensures.cases.0 (IsUtf8-from_is_utf8 c.args.bytes.now e))
