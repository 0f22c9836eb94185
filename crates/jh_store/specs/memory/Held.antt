-- What the memory of a run holds, and the state that it is.
use Rattle.std.specs.Prelude.{◌≡◌, ◌<◌, ℕ, suc, pos, false, if◌then◌else◌, List, [], ◌∷◌, get_or, slice_get, Some, length}
use Rattle.jh_name.specs.declared.naming.Name.{Name}
use Rattle.jh_form.specs.Meaning.{Interp}
use Rattle.jh_form.specs.Passing.{name_equal}
use Rattle.jh_store.specs.memory.Cells.{Cells, no_cells, field_in}

-- The names of a run by their numbers, the greatest object, and the cells of each name.
pub record Held : Type 0 where
  pub names : List Name
  pub last : ℕ
  pub cells : List Cells

-- where a name stands in a list, or the length where it doesn't
unfoldable pub place : List Name → Name → ℕ
place [] x = 0
place (y ∷ ys) x = if name_equal x y then 0 else suc (place ys x)

-- no name stands twice
abbrev pub AreApart : List Name → Type 0
AreApart names = (i : ℕ) (x : Name) → slice_get names i ≡ Some x → place names x ≡ i

-- all names are at turn 0, which no `old` and no instance has changed
abbrev pub ArePlain : List Name → Type 0
ArePlain names = (i : ℕ) (x : Name) → slice_get names i ≡ Some x → x.turn ≡ 0

abbrev pub cells_at : List Name → List Cells → Name → Cells
cells_at names cells x = get_or cells (place names x) no_cells

-- the state of the objects 0 to `last` in which each name has its cells
unfoldable pub state_in : List Name → ℕ → List Cells → Interp
state_in names last cells = record {
  last = last;
  object = λ x. (cells_at names cells x).object;
  number = λ x. (cells_at names cells x).number;
  truth = λ x. (cells_at names cells x).truth;
  set = λ x a. get_or (cells_at names cells x).set a false;
  field = λ x. field_in (cells_at names cells x);
}

-- The state that a memory is. A name that has no number has null, 0, false, the empty set and a field of these.
abbrev pub state_of : Held → Interp
state_of m = state_in m.names m.last m.cells

-- each object that cells have is one of 0 to `last`
pub record AreInside (last : ℕ) (cells : Cells) : Type 0 where
  pub object : cells.object < suc last
  pub objects : (a : ℕ) → get_or cells.objects a 0 < suc last

-- there are as many cells as names, each of objects 0 to `last`
pub record IsMemory (names : List Name) (last : ℕ) (cells : List Cells) : Type 0 where
  pub sized : length cells ≡ length names
  pub apart : AreApart names
  pub inside : (i : ℕ) → AreInside last (get_or cells i no_cells)

-- a number is that of a name
abbrev pub IsNamed : Held → ℕ → Name → Type 0
IsNamed m n x = slice_get m.names n ≡ Some x

-- the state in which each name has its defaults
abbrev pub nothing : ℕ → Interp
nothing n = record { last = n; object = λ x. 0; number = λ x. pos 0; truth = λ x. false; set = λ x a. false; field = λ x. field_in no_cells }
