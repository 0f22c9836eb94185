-- Texts and names that are gathered, by what contracts see of the maps that hold them.
use Rattle.std.specs.Prelude.{◌≡◌, ◌||◌, Bool, List, map, is_some}
use Rattle.std.specs.Borrow.{Bor}
use Rattle.indexmap.specs.IndexMap.{get_by_text}
use Rattle.jh_name.specs.declared.place.Sort.{Sort}
use Rattle.jh_semantics.specs.Code.{Text}
use Rattle.jh_guard.specs.Items.{Sorted}
use Rattle.jh_loop_targets.specs.declared.texts.Texts.{Texts}
use Rattle.jh_loop_targets.specs.declared.names.Names.{Names}
use Prim.Native.Nat.{ℕ}

-- whether a text was noted
abbrev pub holds : Texts → Text → Bool
holds s x = is_some (get_by_text s.known x)

-- The texts of a test are noted, beside those that were.
pub record Notes (old new : Texts) (test : Text → Bool) : Type 0 where
  pub is : (x : Text) → holds new x ≡ (holds old x || test x)

-- a text with its sort
abbrev pub entry_in : (Bor (List ℕ) × Sort) → Sorted
entry_in e = record { text = e.0.now; sort = e.1 }

-- the names that were gathered, in their order
abbrev pub names_in : Names → List Sorted
names_in s = map entry_in s.sorts.entries
