-- Facts in a table of their own.
use Rattle.std.specs.Prelude.{◌≡◌, ℕ, Bool, true, false, List, map, Some, slice_get}
use Rattle.std.specs.List.{list_all}
use Rattle.jh_form.specs.Tree.{FormulaTree, ValueTree}
use Rattle.jh_form.specs.Tree as t
use Rattle.jh_form.specs.Passing.{formula_passes}
use Rattle.jh_boxed_operations.specs.comparison.Unmarked.{unmarked_formula}
use Rattle.jh_normal_forms.specs.negation_normal_form.Normal.{normal}
use Rattle.jh_seq.specs.sequent.Sequents.{SequentTree}
use Rattle.jh_seq.specs.splitting.Split.{before}
use Rattle.jh_arena.specs.table.Facing.{IsLeast}
use Rattle.jh_arena.specs.table.Entries.{is_truth, the_truth}
use Rattle.jh_reach.specs.Standing.{AreFormulas}
use Rattle.jh_instantiation.specs.jh_inst.instances.Instances.{IsFirstFree, normal_facts}
use Rattle.jh_ground_input.specs.declared.facts.Apart.{Apart}

-- the formula at a node, without its labels
abbrev pub bare_at : List ValueTree → ℕ → FormulaTree
bare_at ts n = unmarked_formula (the_truth (slice_get ts n))

-- each node is a formula
abbrev pub AreThere : List ValueTree → List ℕ → Type 0
AreThere ts ns = (i n : ℕ) → slice_get ns i ≡ Some n → is_truth (slice_get ts n) ≡ true

-- a formula, or its negation where the sign is false
abbrev pub with_sign : Bool → FormulaTree → FormulaTree
with_sign true a = a
with_sign false a = t.negation a

-- constants from turn k on are free in the formulas
abbrev pub are_before : List FormulaTree → ℕ → Bool
are_before fs k = list_all (λ a. formula_passes a (before k)) fs

abbrev pub normals : List FormulaTree → List FormulaTree
normals fs = map (λ a. normal a true) fs

-- These facts, which have no labels, stand there in negation normal form, with the turn of the first constant that is free in them.
pub record IsApart (x : Apart) (fs : List FormulaTree) : Type 0 where
  pub facts : AreFormulas x.table x.facts.items (normals fs)
  pub first : IsLeast (are_before fs) x.first

-- The facts of the sequent stand there.
pub record IsPosed (x : Apart) (s : SequentTree) : Type 0 where
  pub facts : AreFormulas x.table x.facts.items (normal_facts s)
  pub first : IsFirstFree s x.first
