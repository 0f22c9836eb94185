-- Values that no object of a universe tells apart.
use Rattle.std.specs.Prelude.{◌≡◌, ℕ, suc, ◌<◌, Bool, List, slice_index}
use Rattle.jh_form.specs.Meaning.{Fields, Datum, an_object, a_number, a_truth, a_set, a_field}

-- both sets have the same members among the objects 0 to n
abbrev pub SameMembers : ℕ → (ℕ → Bool) → (ℕ → Bool) → Type 0
SameMembers n p q = (x : ℕ) → x < suc n → p x ≡ q x

-- Both fields give the same at each object, at each of the four kinds; sets the same members.
pub record SameFields (n : ℕ) (f g : Fields) : Type 0 where
  pub objects : f.objects ≡ g.objects
  pub numbers : f.numbers ≡ g.numbers
  pub truths : f.truths ≡ g.truths
  pub sets : (a : ℕ) → SameMembers n (f.sets a) (g.sets a)

-- Both values are of one sort and are the same; sets have the same members among the objects 0 to n.
abbrev pub SameIn : ℕ → Datum → Datum → Type 0
SameIn n (an_object v) (an_object w) = v ≡ w
SameIn n (a_number v) (a_number w) = v ≡ w
SameIn n (a_truth v) (a_truth w) = v ≡ w
SameIn n (a_set v) (a_set w) = SameMembers n v w
SameIn n (a_field v) (a_field w) = SameFields n v w
SameIn n _ _ = ⊥

-- each object for a bound variable is one of the objects 0 to n
abbrev pub AreInside : ℕ → List ℕ → Type 0
AreInside n e = (k : ℕ) → slice_index e k < suc n
