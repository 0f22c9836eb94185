-- The state of a program with its own names.
use Rattle.std.specs.Prelude.{ℕ, List, [], Option, option_map, slice_get}
use Rattle.std.specs.Option.{option_map_or}
use Rattle.jh_ast.specs.Programs.{ProgramTree, ClassPart}
use Rattle.jh_rules.specs.Words.{text_of}
use Rattle.jh_rules.specs.declared.entries.StateEntry.{StateEntry}
use Rattle.jh_rules.specs.Names.{Declared, own_name}
use Rattle.jh_rules.specs.Names as names

-- a field, static or specification variable, and its name in its class
pub record State : Type 0 where
  pub entry : StateEntry
  pub name : List ℕ

-- a specification variable, by its class and its own name
pub record Variable : Type 0 where
  pub class : ℕ
  pub name : List ℕ

abbrev pub variable_of : State → Variable
variable_of x = record { class = x.entry.class; name = x.name }

abbrev pub called : List ℕ → StateEntry → State
called x s = record { entry = s; name = own_name x }

-- the text of the class of a number
abbrev pub class_text : ProgramTree → ℕ → List ℕ
class_text p n = option_map_or (λ (c : ClassPart). text_of c.name) (slice_get p.classes n) []

module _ (l : Declared) where
  -- a qualified word, or a plain one as a member of the class
  abbrev pub state_spelled : ℕ → List ℕ → Option State
  state_spelled c x = option_map (called x) (names.state_spelled l c x)

  -- what a word after `..`, in `tree` and in `modifies` names
  abbrev pub state_named : ℕ → List ℕ → Option State
  state_named c x = option_map (called x) (names.state_named l c x)
