-- Definitions of which each reads only those before it.
use Rattle.std.specs.Prelude.{◌≡◌, ◌<◌, true, ℕ, List, [], ◌∷◌, Some, slice_get}
use Rattle.jh_ast.specs.Programs.{ProgramTree, DefPart}
use Rattle.jh_rules.specs.Names.{declared_in, def_of}
use Rattle.jh_vars.specs.States.{State, Variable, variable_of}
use Rattle.jh_vars.specs.Reading.{reads}

module _ (p : ProgramTree) where
  -- the defined ones of these variables stand in a list before a place
  abbrev pub AreBefore : List Variable → ℕ → List State → Type 0
  AreBefore order k [] = Unit {0}
  AreBefore order k (y ∷ ys) = (y.entry.is_defined ≡ true → (j : ℕ) × (j < k) × (slice_get order j ≡ Some (variable_of y))) × AreBefore order k ys

  -- each variable of the list has a definition, which reads only those before it
  abbrev pub Follows : List Variable → Type 0
  Follows order = (k : ℕ) (x : Variable) → slice_get order k ≡ Some x → (d : DefPart) × (def_of p x.class x.name ≡ Some d) × AreBefore order k (reads (declared_in p) d.spec.form x.class [])
