-- What the maker of the names that a loop changes is told, and of which program it is the picture.
use Rattle.std.specs.Prelude.{◌≡◌, ℕ, suc, Bool, List, [], ◌∷◌, map, Option, Some, None, length, slice_get}
use Rattle.std.specs.List.{flat_map, list_any}
use Rattle.std.specs.Option.{option_map_or}
use Rattle.jh_ast.specs.Programs.{ProgramTree}
use Rattle.jh_form.specs.Tree.{FieldTree, ValueTree}
use Rattle.jh_form.specs.Tree as t
use Rattle.jh_arena.specs.table.Entries.{Listing}
use Rattle.jh_arena.specs.table.Nodes.{nodes}
use Rattle.jh_rules.specs.Words.{same_text}
use Rattle.jh_semantics.specs.jh_vars.Written.{Callee}
use Rattle.jh_containers.specs.transitive_closure.Spreads.{passed_to}
use Rattle.jh_symbols.specs.member_numbers.Numbering.{number_in}
use Rattle.jh_semantics.specs.Code.{Text}
use Rattle.jh_semantics.specs.Program.{Program}
use Rattle.jh_semantics.specs.LoweredStmts.{GhostTarget, a_name, a_read, no_target, ghost_target}
use Rattle.jh_semantics.specs.typed_code.Statements.{value_of}
use Rattle.jh_guard.specs.Items.{items, sorted_item}
use Rattle.jh_guard.specs.Writes.{Writes}
use Rattle.jh_state_facts.specs.changes.Added.{sorted_in}
use Rattle.jh_state_facts.specs.declared.changes.names.SortedName.{SortedName}
use Rattle.jh_loop_targets.specs.declared.told.Told.{Told}

-- what stands at a place of a list, and at several places
abbrev pub standing_at : {X : Type 0} → List X → ℕ → List X
standing_at xs i = option_map_or (λ x. x ∷ []) (slice_get xs i) []

abbrev pub standing : {X : Type 0} → List X → List ℕ → List X
standing xs places = flat_map (standing_at xs) places

-- whether a text is that of one of some names
abbrev pub is_text_of : List SortedName → Text → Bool
is_text_of xs x = list_any (λ (s : SortedName). same_text s.text.now x) xs

-- the node of the formula of a number
abbrev pub node_of : List (Option ℕ) → ℕ → Option ℕ
node_of ns n = option_map_or (λ o. o) (slice_get ns n) None

-- the value of a node; where there is none, it is True
abbrev pub told_at : Listing → Option ℕ → Option ValueTree
told_at l o = option_map_or (λ k. slice_get (nodes l) k) o None

abbrev pub value_at : Listing → Option ℕ → ValueTree
value_at l o = option_map_or (λ v. v) (told_at l o) (t.of_truth t.true_formula)

-- the text of what a ghost assignment writes, by the value of its left side
abbrev pub text_written : GhostTarget → Option Text
text_written (a_name kind x) = Some x.text
text_written (a_read kind x a) = Some x.text
text_written no_target = None

-- the text of the name that a field is
abbrev pub field_text : FieldTree → Option Text
field_text (t.free_field x) = Some x.text
field_text _ = None

abbrev pub ghost_text : ValueTree → Option Text
ghost_text v = text_written (ghost_target v)

-- the places of the state that a method may write
abbrev pub places_of : Told → Callee → List ℕ
places_of k m = option_map_or (λ n. passed_to k.rows.now n) (number_in k.numbers.now m.class m.name) []

-- whether a method may write what has a text
abbrev pub method_writes : Told → Callee → Text → Bool
method_writes k m x = is_text_of (standing k.states.now (places_of k m)) x

-- The methods write what the rows say, and the formulas of a program are the values of their nodes in a table.
pub record Tells (k : Told) (l : Listing) (p : ProgramTree) (ws : Writes) : Type 0 where
  pub written : (m : Callee) (x : Text) → ws.written m x ≡ method_writes k m x
  pub values : (n : ℕ) → value_of p n ≡ value_at l (node_of k.formulas.now n)

-- The names are those of all state of a program, and so many of them are sets of objects.
pub record AreStates (k : Told) (program : Program) : Type 0 where
  pub names : sorted_in k.states.now ≡ map sorted_item (items program)
  pub sets : k.sets ≡ suc (suc (length program.classes))
