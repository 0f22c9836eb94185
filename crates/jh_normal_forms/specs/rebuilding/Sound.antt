-- Rules that make a positive part stronger and a negative one weaker, and change no meaning elsewhere.
use Rattle.std.specs.Prelude.{◌≡◌, ℕ, Bool, true, List, Option}
use Rattle.jh_form.specs.Tree.{TermTree, IntTree, SetTree, FieldTree, FormulaTree, ValueTree}
use Rattle.jh_form.specs.Meaning.{Interp, term_value, int_value, set_value, field_value, truth}
use Rattle.jh_arena.specs.table.Entries.{is_truth, the_truth}
use Rattle.jh_normal_forms.specs.declared.rebuilding.polarity.Polarity.{Polarity}
use Rattle.jh_normal_forms.specs.declared.rebuilding.polarity.Polarity.TheVariants as pol
use Rattle.jh_normal_forms.specs.rebuilding.Built.{Rule}

-- The new truth p may stand for the old truth q at such a place: it implies it at a positive place, is
-- implied by it at a negative one, and else is the same.
abbrev pub StandsIn : Polarity → Bool → Bool → Type 0
StandsIn pol.Positive p q = p ≡ true → q ≡ true
StandsIn pol.Negative p q = q ≡ true → p ≡ true
StandsIn pol.Both p q = p ≡ q

-- The rule keeps the meaning of terms, and what it makes of a formula may stand for the formula.
pub record Sound (r : Rule) : Type 0 where
  pub object : (a : TermTree) (m : Interp) (e : List ℕ) → term_value (r.object a) m e ≡ term_value a m e
  pub number : (a : IntTree) (m : Interp) (e : List ℕ) → int_value (r.number a) m e ≡ int_value a m e
  pub set : (a : SetTree) (m : Interp) (e : List ℕ) → set_value (r.set a) m e ≡ set_value a m e
  pub field : (a : FieldTree) (m : Interp) (e : List ℕ) → field_value (r.field a) m e ≡ field_value a m e
  pub truth : (a : FormulaTree) (s : Polarity) (m : Interp) (e : List ℕ) → StandsIn s (truth (r.truth a s) m e) (truth a m e)

-- Where the rule is sound and the old tree is a formula, the new formula may stand for it.
abbrev pub MayStand : Rule → Polarity → Option ValueTree → Option ValueTree → Type 0
MayStand r p old new =
    Sound r → is_truth old ≡ true → (m : Interp) (e : List ℕ) → StandsIn p (truth (the_truth new) m e) (truth (the_truth old) m e)
