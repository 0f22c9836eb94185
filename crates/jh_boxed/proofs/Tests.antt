-- What a test of several parts comes to, from what it comes to at each.
use Rattle.std.proofs.Common.{◌≡◌, sym, ap, ◌∙◌, Bool, true, false, ◌&&◌}

-- a part that doesn't pass decides the whole
pub fails : (first one two whole : Bool) → first ≡ false → first ≡ one → whole ≡ (one && two) → first ≡ whole
fails first one two whole f p q = f ∙ sym (q ∙ ap (λ b. b && two) (sym p ∙ f))

-- and one that passes leaves the other
pub both : (first second one two whole : Bool) → first ≡ true → first ≡ one → second ≡ two → whole ≡ (one && two) → second ≡ whole
both first second one two whole f p e q = e ∙ sym (q ∙ ap (λ b. b && two) (sym p ∙ f))

-- so also along a list
pub stop : (whole rest first tail r : Bool) → whole ≡ rest → rest ≡ (first && tail) → r ≡ first → r ≡ false → false ≡ whole
stop whole rest first tail r p q e f = sym (p ∙ q ∙ ap (λ b. b && tail) (sym e ∙ f))

pub go_on : (whole rest first tail r : Bool) → whole ≡ rest → rest ≡ (first && tail) → r ≡ first → r ≡ true → whole ≡ tail
go_on whole rest first tail r p q e f = p ∙ q ∙ ap (λ b. b && tail) (sym e ∙ f)
