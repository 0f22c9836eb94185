-- What the definition of truth comes to.
use Rattle.std.specs.Prelude.{◌≡◌, ◌↔◌, ℕ, suc, ◌<◌, true, List, ℤ, ◌*ℤ◌, slice_index}
use Rattle.jh_form.specs.Tree.{TermTree}
use Rattle.jh_form.specs.Meaning.{Interp, InUniverse, term_value, divides_number}

-- a number divides another exactly where some whole number times it is the other
abbrev pub DividesSays : Type 0
DividesSays = (k z : ℤ) → (divides_number k z ≡ true) ↔ ((w : ℤ) × (k *ℤ w ≡ z))

-- terms are objects of the universe, where bound variables and the values of names are
abbrev pub TermsStayInside : Type 0
TermsStayInside =
    (m : Interp) → InUniverse m → (a : TermTree) (e : List ℕ) → ((k : ℕ) → slice_index e k < suc m.last) →
    term_value a m e < suc m.last
