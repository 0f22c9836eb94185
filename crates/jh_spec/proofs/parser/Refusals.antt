-- What a refusal says.
use Rattle.std.proofs.Common.{◌≡◌, ℕ, subst}
use Rattle.std.specs.Prelude.{Err, None, Option}
use Rattle.jh_operators.specs.lookahead.Answers.{Gives}
use Rattle.jh_operators.specs.declared.lookahead.error.ReadError.{ReadError}
use Rattle.jh_operators.specs.declared.lookahead.error.ReadError.TheVariants.{Refused}

-- nothing is there where a reader refuses
pub refused-none : {X Y : Type 0} (view : X → Y) (w : Option Y) (e : ReadError) (n : ℕ) → e ≡ Refused n → Gives view w (Err e) → w ≡ None
refused-none view w e n q h = subst (λ x. Gives view w (Err x)) q h
