-- The program that an outline is, what its methods write, and that its nodes and places say so.
use Rattle.std.specs.Prelude.{◌≡◌, ℕ, Bool, List, [], ◌∷◌, map, Option, Some, option_map, slice_get}
use Rattle.std.specs.List.{flat_map, list_any}
use Rattle.std.specs.Option.{option_map_or}
use Rattle.jh_ast.specs.Bare.{program_tree}
use Rattle.jh_ast.specs.Programs.{ProgramTree}
use Rattle.jh_arena.specs.table.Entries.{Listing}
use Rattle.jh_rules.specs.Names.{◌then◌}
use Rattle.jh_rules.specs.Words.{same_text}
use Rattle.jh_symbols.specs.member_numbers.Numbering.{number_in}
use Rattle.jh_containers.specs.transitive_closure.Spreads.{passed_to}
use Rattle.jh_vars.specs.Written.{Callee}
use Rattle.jh_semantics.specs.Code.{Text}
use Rattle.jh_semantics.specs.Program as p
use Rattle.jh_guard.specs.Items.{items, items_where, sorted_item}
use Rattle.jh_guard.specs.Writes.{Writes}
use Rattle.jh_guard.specs.Frames.{framed}
use Rattle.jh_semantics.specs.declared.typed_code.stmts.MethodCode.{MethodCode}
use Rattle.jh_semantics.specs.typed_code.Statements.{claim_in, method_in}
use Rattle.jh_state_facts.specs.well_formedness.Facts.{AreFacts}
use Rattle.jh_state_facts.specs.well_formedness.Formed.{head_facts, tail_facts}
use Rattle.jh_state_facts.specs.well_formedness.States.{members_in}
use Rattle.jh_state_facts.specs.declared.changes.names.SortedName.{SortedName}
use Rattle.jh_state_facts.specs.changes.Added.{sorted_in, chosen}
use Rattle.jh_call_commands.specs.jh_command_statements.checks.Told.{AreFormulas}
use Rattle.jh_method_commands.specs.declared.environment.outline.Outline.{Outline}
use Rattle.jh_method_commands.specs.declared.environment.outline.Callable.{Callable}

-- the source of the formulas
abbrev pub source_of : Outline → ProgramTree
source_of o = program_tree o.source.now

-- the number of a method, its code where there is such a method, and its places
abbrev pub number_of : Outline → Callee → Option ℕ
number_of o m = number_in o.numbers.now m.class m.name

abbrev pub method_of : Outline → Callee → Option MethodCode
method_of o m = number_of o m then λ k. slice_get o.methods.now k

abbrev pub written_by : Outline → Callee → List ℕ
written_by o m = option_map_or (λ k. passed_to o.written.now k) (number_of o m) []

abbrev pub modified_by : Outline → Callee → List ℕ
modified_by o m = option_map_or (λ k. passed_to o.modified.now k) (number_of o m) []

abbrev pub framed_by : Outline → Callee → List ℕ
framed_by o m = option_map_or (λ k. passed_to o.framed.now k) (number_of o m) []

-- a method has the code and the places of its class and its name
abbrev pub callee_of : Callable → Callee
callee_of x = record { class = x.class; name = x.name.now }

pub record IsCallable (o : Outline) (x : Callable) : Type 0 where
  pub code : method_of o (callee_of x) ≡ Some x.code.now
  pub written : x.written.now ≡ written_by o (callee_of x)
  pub framed : x.framed.now ≡ framed_by o (callee_of x)

-- the program
unfoldable pub program_in : Outline → p.Program
program_in o = record {
  classes = o.classes.now;
  members = members_in o.classes.now o.members.now;
  method = λ m. option_map (method_in (source_of o)) (method_of o m);
  invariants = map (claim_in (source_of o)) o.invariants.now;
}

-- what stands at a place of a list, and at several places
abbrev pub standing_at : {X : Type 0} → List X → ℕ → List X
standing_at xs i = option_map_or (λ x. x ∷ []) (slice_get xs i) []

abbrev pub standing : {X : Type 0} → List X → List ℕ → List X
standing xs places = flat_map (standing_at xs) places

-- whether a text is that of a name at one of some places
abbrev pub is_at : Outline → List ℕ → Text → Bool
is_at o places y = list_any (λ (s : SortedName). same_text s.text.now y) (standing o.state.now places)

-- what the methods write, and what their `modifies` names, by their places
unfoldable pub writes_in : Outline → Writes
writes_in o = record { written = λ m y. is_at o (written_by o m) y; modified = λ m y. is_at o (modified_by o m) y }

-- What the nodes and places of an outline are: the facts of each state and the values of the formulas, in this table; the names of all
-- state; of each method the state that it may write, in its order, and the members that are framed.
pub record IsOutline (t : Listing) (o : Outline) : Type 0 where
  pub head : AreFacts t o.facts.now.head (head_facts o.classes.now (members_in o.classes.now o.members.now))
  pub tail : AreFacts t o.facts.now.tail (tail_facts o.classes.now (members_in o.classes.now o.members.now))
  pub formulas : AreFormulas (source_of o) t o.formulas.now
  pub names : sorted_in o.state.now ≡ map sorted_item (items (program_in o))
  pub writes : (m : Callee) → items_where (program_in o) ((writes_in o).written m) ≡ standing (items (program_in o)) (written_by o m)
  pub frames : (m : Callee) → framed (program_in o) (writes_in o) m ≡ chosen o.classes.now o.members.now (framed_by o m)
