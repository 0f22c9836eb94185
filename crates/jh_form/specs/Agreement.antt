-- Interpretations that agree on some names.
use Rattle.std.specs.Prelude.{◌≡◌, ℕ, Bool, true, List}
use Rattle.jh_name.specs.declared.naming.Name.{Name}
use Rattle.jh_name.specs.declared.place.Sort as place
use Rattle.jh_name.specs.declared.place.Sort.TheVariants as Sort
use Rattle.jh_form.specs.Tree.{ValueTree}
use Rattle.jh_form.specs.Meaning.{Interp, datum}
use Rattle.jh_form.specs.Passing.{value_passes}
use Rattle.jh_form.specs.Closed.{is_closed_value}

-- m and n have one universe, and give the same to each name that passes the test, at its sort
pub record AgreeOn (p : Name → place.Sort → Bool) (m n : Interp) : Type 0 where
  pub last : m.last ≡ n.last
  pub object : (x : Name) → p x Sort.Obj ≡ true → m.object x ≡ n.object x
  pub number : (x : Name) → p x Sort.Int ≡ true → m.number x ≡ n.number x
  pub truth : (x : Name) → p x Sort.Bool ≡ true → m.truth x ≡ n.truth x
  pub set : (x : Name) → p x Sort.Set ≡ true → m.set x ≡ n.set x
  pub field : (x : Name) → p x Sort.Field ≡ true → m.field x ≡ n.field x

-- interpretations that agree on the free names of a tree give it the same meaning
abbrev pub NamesDecideMeaning : Type 0
NamesDecideMeaning =
    (p : Name → place.Sort → Bool) (m n : Interp) → AgreeOn p m n →
    (a : ValueTree) (e : List ℕ) → value_passes a p ≡ true → datum a m e ≡ datum a n e

-- a tree without loose bound variables means the same whatever objects stand for bound variables
abbrev pub ClosedMeansTheSame : Type 0
ClosedMeansTheSame =
    (a : ValueTree) (m : Interp) (e g : List ℕ) → is_closed_value a 0 ≡ true → datum a m e ≡ datum a m g
