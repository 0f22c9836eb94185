-- The definitions of a program by their places in a list, and which of them each reads.
use Rattle.std.specs.Prelude.{◌≡◌, ℕ, not, false, List, [], ◌∷◌, map, Option, Some, None, length, slice_get}
use Rattle.std.specs.List.{flat_map}
use Rattle.std.specs.Option.{option_map_or}
use Rattle.jh_ast.specs.declared.word.Word.{Word}
use Rattle.jh_ast.specs.declared.program.SpecVar.{SpecVar}
use Rattle.jh_ast.specs.declared.program.VarDef.{VarDef}
use Rattle.jh_ast.specs.Bare.{form_tree}
use Rattle.jh_ast.specs.Programs.{ProgramTree}
use Rattle.jh_rules.specs.declared.entries.StateEntry.{StateEntry}
use Rattle.jh_rules.specs.Names.{Declared, def_of}
use Rattle.jh_rules.specs.Words.{text_of}
use Rattle.jh_symbols.specs.declared.member_numbers.numbers.Numbers.{Numbers}
use Rattle.jh_symbols.specs.member_numbers.Numbering.{number_in}
use Rattle.jh_containers.specs.topological_order.Orders.{Reaches}
use Rattle.jh_vars.specs.States.{State, Variable}
use Rattle.jh_vars.specs.Reading.{reads}
use Rattle.jh_definitions.specs.declared.expansion.opening.Definition.{Definition}

-- what a definition of a class is to be opened as
pub record IsDefinitionOf (l : Declared) (class : ℕ) (def : VarDef) (d : Definition) : Type 0 where
  pub of_class : d.class ≡ class
  pub word : d.word.now ≡ def.name
  pub body : d.body.now ≡ def.body.body
  pub objects : d.of_objects ≡ option_map_or (λ (s : StateEntry). not s.fixed) (l.state_of class (text_of def.name)) false

-- the number of a variable is the place of its definition
pub record AreNumbered (numbers : Numbers) (ds : List Definition) : Type 0 where
  pub there : (c : ℕ) (x : List ℕ) (k : ℕ) → number_in numbers c x ≡ Some k → (d : Definition) × (slice_get ds k ≡ Some d) × (d.class ≡ c) × (text_of d.word.now ≡ x)

-- each variable that has a definition has a number
abbrev pub AreAll : ProgramTree → Numbers → Type 0
AreAll p numbers = (c : ℕ) (x : List ℕ) → number_in numbers c x ≡ None → def_of p c x ≡ None

-- the numbers of what is read, of that which has a definition
abbrev pub number_of : Numbers → State → List ℕ
number_of numbers y = option_map_or (λ k. k ∷ []) (number_in numbers y.entry.class y.name) []

abbrev pub numbers_of : Numbers → List State → List ℕ
numbers_of numbers ys = flat_map (number_of numbers) ys

-- the numbers of the definitions that a definition reads
abbrev pub row_of : Declared → Numbers → Definition → List ℕ
row_of l numbers d = numbers_of numbers (reads l (form_tree d.body.now) d.class [])

-- the definition of a variable reads it, by the numbers of definitions
abbrev pub ReadsItself : Numbers → List (List ℕ) → Variable → Type 0
ReadsItself numbers rows v = (k : ℕ) × (number_in numbers v.class v.name ≡ Some k) × Reaches rows k k

abbrev pub called : ℕ → List ℕ → Variable
called c x = record { class = c; name = x }

-- the variable that a word names in a class
abbrev pub named : ℕ → Word → Variable
named c w = called c (text_of w)

-- the variables of a class
abbrev pub variables_in : ℕ → List SpecVar → List Variable
variables_in c vs = map (λ (v : SpecVar). named c v.name) vs

-- of none of a list something is so
abbrev pub IsOfNone : (Variable → Type 0) → List Variable → Type 0
IsOfNone holds vs = (j : ℕ) (v : Variable) → slice_get vs j ≡ Some v → holds v → ⊥

-- some of a list by their places
pub record AreTaken {X : Type 0} (xs : List X) (places : List ℕ) (made : List X) : Type 0 where
  pub long : length made ≡ length places
  pub taken : (i k : ℕ) → slice_get places i ≡ Some k → (x : X) × (slice_get xs k ≡ Some x) × (slice_get made i ≡ Some x)
