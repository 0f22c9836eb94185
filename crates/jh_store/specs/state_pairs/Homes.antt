-- Where the names of formulas have their values in a run.
use Rattle.std.specs.Prelude.{◌≡◌, ◌≤◌, ℕ, ◌==◌, not, List, Some, slice_get, length}
use Rattle.jh_name.specs.declared.naming.Name.{Name}
use Rattle.jh_semantics.specs.jh_vars.Resolved.{own}
use Rattle.jh_store.specs.declared.state_pairs.moment.Home.{Home}

-- A name has its value under the number, in a memory, of the name of its text at turn 0; in the state at entry where its turn isn't 0.
abbrev pub IsHome : List Name → Name → Home → Type 0
IsHome names x h = (slice_get names h.number ≡ Some (own x.text 0)) × (h.is_old ≡ not (x.turn == 0))

-- each name of a table has its home
abbrev pub AreHomes : List Name → List Name → List Home → Type 0
AreHomes pool names homes =
    (length pool ≤ length homes) × ((n : ℕ) (x : Name) (h : Home) → slice_get pool n ≡ Some x → slice_get homes n ≡ Some h → IsHome names x h)
