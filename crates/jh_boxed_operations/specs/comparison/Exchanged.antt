-- A formula with some occurrences of a value exchanged for another.
use Rattle.std.specs.Prelude.{◌≡◌, Bool, true, false, ℕ, List, []}
use Rattle.jh_form.specs.Tree.{ValueTree, FormulaTree}
use Rattle.jh_boxed_operations.specs.comparison.Compared.{related_value}
use Rattle.jh_form.specs.Closed.{is_closed_value}
use Rattle.jh_form.specs.Meaning.{Interp, InUniverse, truth, datum}
use Rattle.jh_boxed_operations.specs.comparison.Inside.{SameIn, AreInside}
use Rattle.jh_boxed_operations.specs.comparison.Related.{FormulasRelated}

-- The second formula is the first with some occurrences of the old value, none or all of them maybe,
-- exchanged for the new one. Values and labels are compared as they stand, under binders too.
abbrev pub Exchanged : FormulaTree → FormulaTree → ValueTree → ValueTree → Type 0
Exchanged a b old new = FormulasRelated (λ u v. (u ≡ old) × (v ≡ new)) a b

-- no part may be exchanged
abbrev pub nothing : ValueTree → ValueTree → Bool
nothing u v = false

-- the test of equality of two trees, labels included
abbrev pub equal_trees : ValueTree → ValueTree → Bool
equal_trees u v = related_value u true nothing v

-- Exchanging a closed value for another of the same meaning keeps the meaning of the whole, under objects of
-- the universe. Two sets have the same meaning where they have the same members in the universe, so where
-- they are equal.
abbrev pub ExchangeKeepsMeaning : Type 0
ExchangeKeepsMeaning =
    (a b : FormulaTree) (old new : ValueTree) → Exchanged a b old new →
    is_closed_value old 0 ≡ true → is_closed_value new 0 ≡ true →
    (m : Interp) → InUniverse m → SameIn m.last (datum old m []) (datum new m []) →
    (e : List ℕ) → AreInside m.last e → truth a m e ≡ truth b m e
