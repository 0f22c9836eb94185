-- What an exchange under binders keeps.
use Rattle.std.specs.Prelude.{◌≡◌, ℕ, List, ◌∷◌}
use Rattle.jh_form.specs.Tree.{TermTree, ValueTree, FormulaTree}
use Rattle.jh_form.specs.Meaning.{Interp, InUniverse, datum, term_value, truth}
use Rattle.jh_boxed_operations.specs.comparison.Inside.{SameIn, AreInside}
use Rattle.jh_substitution.specs.exchange.Under.{exchanged_under, varied}

-- Exchanging one value for another keeps what a formula means under objects under which both have one meaning: for sets the same members
-- in the universe.
abbrev pub ExchangeUnderKeepsMeaning : Type 0
ExchangeUnderKeepsMeaning =
    (a : FormulaTree) (old new : ValueTree) (m : Interp) (e : List ℕ) → InUniverse m → AreInside m.last e → SameIn m.last (datum old m e) (datum new m e) →
    truth (exchanged_under a old new) m e ≡ truth a m e

-- Where the variable of the binder is the object of the term, a formula in which it stands for the term means what the formula means.
abbrev pub VariedKeepsMeaning : Type 0
VariedKeepsMeaning =
    (a : FormulaTree) (b : TermTree) (m : Interp) (e : List ℕ) → InUniverse m → AreInside m.last e → truth (varied a b) m (term_value b m e ∷ e) ≡ truth a m e
