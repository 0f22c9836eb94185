-- The parameters and locals of a memory.
use Rattle.std.specs.Prelude.{◌≡◌, ◌<◌, ℕ, suc, pos, false, if◌then◌else◌, List, [], ◌∷◌, Some, slice_get, length}
use Rattle.std.specs.List.{Contains}
use Rattle.jh_name.specs.declared.naming.Name.{Name}
use Rattle.jh_form.specs.Passing.{name_equal}
use Rattle.jh_semantics.specs.Code.{Text}
use Rattle.jh_semantics.specs.State.{State, named}
use Rattle.jh_semantics.specs.Locals.{has_dot}
use Rattle.jh_store.specs.memory.Held.{Held, state_of}
use Rattle.jh_operands.specs.declared.values.Scalar.{Scalar}
use Rattle.jh_operands.specs.Scalars as scalars
use Rattle.jh_operands.specs.Exprs.{text_at, IsPlain}
use Rattle.jh_machine.specs.declared.locals.locals.Saved.{Saved}

-- numbers are those of the names that are no state: the names without a dot
pub record AreLocals (names : List Name) (locals : List ℕ) : Type 0 where
  pub plain : (i k : ℕ) → slice_get locals i ≡ Some k → IsPlain names k
  pub dotless : (i k : ℕ) → slice_get locals i ≡ Some k → has_dot (text_at names k) ≡ false
  pub all : (k : ℕ) (x : Name) → slice_get names k ≡ Some x → has_dot x.text ≡ false → (i : ℕ) × (slice_get locals i ≡ Some k)

-- null, 0 and false
abbrev pub no_value : Saved
no_value = record { object = 0; number = pos 0; truth = false }

-- what a name has at the sorts of locals
pub record IsSaved (s : State) (x : Name) (v : Saved) : Type 0 where
  pub object : v.object ≡ s.object x
  pub number : v.number ≡ s.number x
  pub truth : v.truth ≡ s.truth x

-- what the names of a list have
unfoldable pub AreSaved : List Name → State → List ℕ → List Saved → Type 0
AreSaved names s [] vs = vs ≡ []
AreSaved names s (k ∷ ks) [] = ⊥
AreSaved names s (k ∷ ks) (v ∷ vs) = IsSaved s (named (text_at names k)) v × AreSaved names s ks vs

-- all objects among them are of the universe of 0 to `last`
unfoldable pub AreInside : ℕ → List Saved → Type 0
AreInside last [] = Unit {0}
AreInside last (v ∷ vs) = (v.object < suc last) × AreInside last vs

-- all objects among values are of the universe of 0 to `last`
unfoldable pub AllInside : ℕ → List Scalar → Type 0
AllInside last [] = Unit {0}
AllInside last (x ∷ xs) = scalars.IsInside last x × AllInside last xs

-- the state of some memory of these names
abbrev pub IsOf : List Name → State → Type 0
IsOf names s = (m : Held) × (m.names ≡ names) × (length m.cells ≡ length m.names) × (state_of m ≡ s)

-- a state in which one name has what it has in another, at the sorts of locals
abbrev pub with_name_of : Name → State → State → State
with_name_of x t s = record s {
  object = λ y. if name_equal y x then t.object x else s.object y;
  number = λ y. if name_equal y x then t.number x else s.number y;
  truth = λ y. if name_equal y x then t.truth x else s.truth y;
}

-- the same of the names of numbers, one after another
unfoldable pub with_names_of : List Name → List ℕ → State → State → State
with_names_of names [] t s = s
with_names_of names (k ∷ ks) t s = with_names_of names ks t (with_name_of (named (text_at names k)) t s)
