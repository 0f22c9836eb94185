-- The instances of a sequent that has local shape.
use Rattle.std.specs.Prelude.{◌≡◌, ◌≤◌, ℕ, Bool, true, false, ◌&&◌, List, map, filter}
use Rattle.std.specs.List.{list_all}
use Rattle.jh_form.specs.Tree.{FormulaTree}
use Rattle.jh_form.specs.Tree as t
use Rattle.jh_form.specs.Passing.{formula_passes}
use Rattle.jh_normal_forms.specs.negation_normal_form.Normal.{normal}
use Rattle.jh_seq.specs.sequent.Sequents.{SequentTree}
use Rattle.jh_seq.specs.splitting.Split.{before}
use Rattle.jh_derivation_rules.specs.Closes.{facts_of}
use Rattle.jh_inst.specs.instances.Entries.{Entry, formulas}
use Rattle.jh_inst.specs.instances.Rounds.{all_made}

-- The facts of a sequent, its hypotheses and then its negated goal, without labels and in negation normal form.
abbrev pub normal_facts : SequentTree → List FormulaTree
normal_facts s = map (λ a. normal a true) (facts_of s)

-- constants from number k on are free in the sequent
abbrev pub is_free : SequentTree → ℕ → Bool
is_free s k = list_all (λ a. formula_passes a (before k)) (facts_of s)

-- k is the number of the first of them, beyond all turns of the sequent
pub record IsFirstFree (s : SequentTree) (k : ℕ) : Type 0 where
  pub free : is_free s k ≡ true
  pub first : (n : ℕ) → is_free s n ≡ true → k ≤ n

-- The whole list, where k is the number of the first free constant: the facts first, and then all that was put, in r rounds
-- and the last pass.
abbrev pub made : SequentTree → ℕ → ℕ → List Entry
made s k r = all_made (normal_facts s) k r

-- a formula without a quantifier
abbrev pub is_ground : FormulaTree → Bool
is_ground (t.negation a) = is_ground a
is_ground (t.and a b) = is_ground a && is_ground b
is_ground (t.or a b) = is_ground a && is_ground b
is_ground (t.implies a b) = is_ground a && is_ground b
is_ground (t.iff a b) = is_ground a && is_ground b
is_ground (t.all a) = false
is_ground (t.ex a) = false
is_ground (t.mark m a) = is_ground a
is_ground _ = true

-- the instances are the entries without a quantifier
abbrev pub instances_of : List Entry → List FormulaTree
instances_of es = filter is_ground (formulas es)

abbrev pub instances : SequentTree → ℕ → ℕ → List FormulaTree
instances s k r = instances_of (made s k r)
