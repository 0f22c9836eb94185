-- The formulas of a program and their nodes, as they are added to a table.
use Rattle.std.specs.Prelude.{◌≡◌, ◌<◌, ℕ, false, List, [], ◌∷◌, ◌++◌, Option, Some, length, slice_get}
use Rattle.std.specs.List.{flat_map}
use Rattle.jh_ast.specs.Forms.{LabelledPart}
use Rattle.jh_ast.specs.Programs.{ProgramTree, ClassPart, VarPart, DefPart}
use Rattle.jh_form.specs.Tree.{ValueTree}
use Rattle.jh_arena.specs.table.Entries.{Listing}
use Rattle.jh_arena.specs.table.Nodes.{nodes}
use Rattle.jh_rules.specs.Names.{◌then◌, declared_in}
use Rattle.jh_symbols.specs.scopes.Lookings.{declared_by}
use Rattle.jh_vars.specs.Opened.{meant, all_definitions, found_in, values_of, valued, valued_some, invariant_value, outside}
use Rattle.jh_vars.specs.Statements.{InScope}
use Rattle.jh_symbols.specs.declared.member_numbers.numbers.Numbers.{Numbers}
use Rattle.jh_definitions.specs.jh_resolution.declared.context.Context.{Context}
use Rattle.jh_definitions.specs.jh_resolution.Meant.{meaning_in, AreHeld}
use Rattle.jh_definitions.specs.expansion.Opening.{source_of}
pub use Rattle.jh_unfolding.specs.unfolder.Noted.{place_of, ◌or_else◌}
use Rattle.jh_unfolding.specs.declared.unfolder.formulas.Gathered.{Gathered}
use Rattle.jh_unfolding.specs.declared.unfolder.statements.Unfolding.{Unfolding}

-- the program in whose context formulas are resolved
abbrev pub program_of : Context → ProgramTree
program_of x = source_of x.classes.now

-- each variable of a program stands for what its definition says
pub record AreKnown (p : ProgramTree) (ts : List ValueTree) (known : Numbers) : Type 0 where
  pub held : AreHeld ts known
  pub means : meaning_in ts known ≡ meant p (all_definitions p)

-- the context is that of the program, and each of its variables means what its definition says
pub record IsReady (l : Listing) (x : Context) : Type 0 where
  pub declared : declared_by x.lookups.now ≡ declared_in (program_of x)
  pub known : AreKnown (program_of x) (nodes l) x.meanings.now

-- the value of the formula of a number
abbrev pub value_of : List ValueTree → List (ℕ × ℕ) → ℕ → Option ValueTree
value_of ts q n = place_of q n then slice_get ts

-- these are the values of the nodes of a table at places, by the numbers of the formulas
pub record HoldsIn (p : ProgramTree) (l : Listing) (q : List (ℕ × ℕ)) (ys : List (ℕ × ValueTree)) : Type 0 where
  pub inside : (n k : ℕ) → place_of q n ≡ Some k → k < length (nodes l)
  pub is : (n : ℕ) → value_of (nodes l) q n ≡ found_in p n ys

abbrev pub Holds : ProgramTree → Gathered → List (ℕ × ValueTree) → Type 0
Holds p g ys = HoldsIn p g.table g.places ys

-- what is gathered holds these too
abbrev pub Adds : ProgramTree → Gathered → Gathered → List (ℕ × ValueTree) → Type 0
Adds p old new more = (ys : List (ℕ × ValueTree)) → Holds p old ys → Holds p new (ys ++ more)

-- the formulas of a statement are added
pub record Unfolds (old new : Unfolding) (x : InScope) : Type 0 where
  pub context : new.context ≡ old.context
  pub adds : Adds (program_of old.context) old.gathered new.gathered (values_of (program_of old.context) x)

-- the values of the formulas of a class that stand outside methods
abbrev pub outer_values : ProgramTree → ℕ → ClassPart → List (ℕ × ValueTree)
outer_values p n c =
    flat_map (λ (v : VarPart). valued_some p (outside n false) v.init) c.vars
    ++ flat_map (λ (d : DefPart). valued p (outside n false) d.spec) c.defs
    ++ flat_map (λ (l : LabelledPart). (l.spec.number, invariant_value p n c l.spec.form) ∷ []) c.invariants
