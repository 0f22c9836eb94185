-- What definitions read and what methods name, as what is given and linked.
use Rattle.std.specs.Prelude.{◌≡◌, ℕ, ◌+◌, ◌||◌, Bool, true, false, List, [], ◌∷◌, map, Some, None, slice_get, if◌then◌else◌}
use Rattle.std.specs.List.{flat_map}
use Rattle.std.specs.Option.{option_map_or}
use Rattle.jh_ast.specs.Programs.{ProgramTree, MethodPart}
use Rattle.jh_symbols.specs.declared.member_numbers.numbers.Numbers.{Numbers}
use Rattle.jh_symbols.specs.member_numbers.Numbering.{number_in}
use Rattle.jh_definitions.specs.declared.expansion.opening.Definition.{Definition}
use Rattle.jh_definitions.specs.expansion.Opening.{defined_by}
use Rattle.jh_rules.specs.Words.{text_of}
use Rattle.jh_vars.specs.States.{State, Variable}
use Rattle.jh_vars.specs.Reading.{definition_reads}
use Rattle.jh_vars.specs.Written.{Callee, as_written, named_by, part_of}
use Rattle.jh_effects.specs.declared.written_state.flow.Given.{Given}
use Rattle.jh_effects.specs.declared.written_state.flow.Link.{Link}
use Rattle.jh_effects.specs.written_state.Keys.{key_of}

-- the state that a method's `modifies` names, as it is spelled
abbrev pub named_in : ProgramTree → Callee → List State
named_in p m = option_map_or (λ (part : MethodPart). named_by p m.class part) (part_of p m) []

-- each definition has its place, from a number on, for its number
abbrev pub AreCounted : ℕ → Numbers → List Definition → Type 0
AreCounted start numbers ds = (c : ℕ) (x : List ℕ) (n : ℕ) → number_in numbers c x ≡ Some n → (k : ℕ) × (d : Definition) × (n ≡ start + k) × (slice_get ds k ≡ Some d) × (defined_by d ≡ record { class = c; name = x })

-- each definition has a number
abbrev pub AreAllCounted : Numbers → List Definition → Type 0
AreAllCounted numbers ds = (k : ℕ) (d : Definition) → slice_get ds k ≡ Some d → number_in numbers d.class (text_of d.word.now) ≡ None → ⊥

-- a piece of state is given to a thing, unless it is a variable with a definition
abbrev pub given_state : ProgramTree → ℕ → State → List Given
given_state p n y = if y.entry.is_defined then [] else record { of = n; what = key_of p (as_written p y) } ∷ []

abbrev pub given_states : ProgramTree → ℕ → List State → List Given
given_states p n ys = flat_map (given_state p n) ys

module _ (numbers : Numbers) (every : Bool) where
  -- the link to a thing from the definition of a variable, of every one that has a number or of those that are said to be defined
  abbrev pub link_state : ℕ → State → List Link
  link_state n y = if every || y.entry.is_defined then option_map_or (λ k. record { from = k; to = n } ∷ []) (number_in numbers y.entry.class y.name) [] else []

  abbrev pub link_states : ℕ → List State → List Link
  link_states n ys = flat_map (link_state n) ys

module _ (p : ProgramTree) where
  abbrev pub given_named : ℕ → Callee → List Given
  given_named n m = given_states p n (named_in p m)

  abbrev pub given_read : ℕ → Variable → List Given
  given_read n v = given_states p n (definition_reads p v)

  module _ (numbers : Numbers) where
    abbrev pub link_named : ℕ → Callee → List Link
    link_named n m = link_states numbers false n (named_in p m)

    abbrev pub link_read : ℕ → Variable → List Link
    link_read n v = link_states numbers true n (definition_reads p v)

abbrev pub variables_of : List Definition → List Variable
variables_of ds = map defined_by ds
