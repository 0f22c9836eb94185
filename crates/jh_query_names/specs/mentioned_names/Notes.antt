-- Which notes are right.
use Rattle.std.specs.Prelude.{◌≡◌, ◌<◌, ℕ, false, List, [], length, map, Option, Some, slice_get}
use Rattle.std.specs.List.{filter}
use Rattle.jh_form.specs.Tree.{FormulaTree, ValueTree, of_truth}
use Rattle.jh_normal_forms.specs.parts.Asked.{is_free_name}
use Rattle.jh_normal_forms.specs.parts.Collected.{IsCollected}
use Rattle.jh_normal_forms.specs.parts.Standing.{value_parts}
use Rattle.jh_normal_forms.specs.declared.parts.order.Order.TheVariants as order
use Rattle.jh_approx.specs.definition.Shown.{shown}
use Rattle.jh_approx.specs.definition.Names.{names, without_repeats}
use Rattle.jh_query_names.specs.visible_part.Memos.{found as found_shown}
use Rattle.jh_query_names.specs.visible_part.Showing.{HoldsShown}
use Rattle.jh_query_names.specs.declared.mentioned_names.memo.Note.{Note}
use Rattle.jh_query_names.specs.declared.mentioned_names.memo.Memo.{Memo}
use Rattle.jh_query_names.specs.mentioned_names.Memos.{found}

-- at the nodes stand these trees, one at each, in the same order
abbrev pub AreTrees : List ValueTree → List ℕ → List ValueTree → Type 0
AreTrees ts ns vs = map (slice_get ts) ns ≡ map (λ v. Some v) vs

-- the nodes are nodes of the table
abbrev pub AreInside : List ValueTree → List ℕ → Type 0
AreInside ts ns = (i n : ℕ) → slice_get ns i ≡ Some n → n < length ts

-- The nodes are the free names that stand in a tree, each once.
abbrev pub AreFree : List ValueTree → ValueTree → List ℕ → Type 0
AreFree ts v ns = IsCollected ts [] (filter is_free_name (value_parts v order.OuterFirst)) ns

-- A note is right for a formula: it has the node of what a query can say of it where it stands negatively, the nodes
-- of the names of that, each once where it stands first, and the nodes of the free names of the formula.
pub record IsNote (ts : List ValueTree) (a : FormulaTree) (note : Note) : Type 0 where
  pub said : slice_get ts note.shown ≡ Some (of_truth (shown a false))
  pub called : AreTrees ts note.names (without_repeats (names (shown a false)))
  pub speaks_of : AreFree ts (of_truth a) note.free

-- a note is right for the formula at a node
pub record IsNoteAt (ts : List ValueTree) (fact : ℕ) (note : Note) : Type 0 where
  pub formula : FormulaTree
  pub there : slice_get ts fact ≡ Some (of_truth formula)
  pub is : IsNote ts formula note

-- at the place stands a note that is right for the formula at a node
pub record IsNoted (ts : List ValueTree) (notes : List Note) (fact place : ℕ) : Type 0 where
  pub note : Note
  pub at : slice_get notes place ≡ Some note
  pub is : IsNoteAt ts fact note

-- each fact that is found is noted
pub record HoldsNotes (ts : List ValueTree) (find : ℕ → Option ℕ) (notes : List Note) : Type 0 where
  pub at : (fact place : ℕ) → find fact ≡ Some place → IsNoted ts notes fact place

-- All that a memo holds is right over a table.
pub record IsRight (ts : List ValueTree) (memo : Memo) : Type 0 where
  pub shown_before : HoldsShown ts (found_shown memo.shown.answers)
  pub noted_before : HoldsNotes ts (found memo.places) memo.notes.items
