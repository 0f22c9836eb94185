-- The list of facts and instances: what stands in it, and its first part, the facts.
use Rattle.std.specs.Prelude.{ℕ, suc, ◌+◌, List, [], ◌∷◌, ◌++◌, map}
use Rattle.jh_name.specs.declared.naming.Name.{Name}
use Rattle.jh_form.specs.Tree.{TermTree, FormulaTree}
use Rattle.jh_form.specs.Tree as t
use Rattle.jh_inst.specs.instances.Witnesses.{witnesses, witnessed, constants_from}
use Rattle.jh_inst.specs.instances.Prenex.{prenex}

-- where an entry comes from: a fact, by its number, or a universal that was put, by its place in the list
pub data Source : Type 0 where
  of_fact : ℕ → Source
  of_entry : ℕ → Source

-- An entry, with the terms at which the universal was put, the outermost variable's first, and the constants that were made.
pub record Entry : Type 0 where
  pub formula : FormulaTree
  pub source : Source
  pub terms : List TermTree
  pub fresh : List Name

abbrev pub formulas : List Entry → List FormulaTree
formulas es = map (λ (e : Entry). e.formula) es

-- a fact that is an And is taken as its two parts, as often as that goes
abbrev pub conjuncts : FormulaTree → List FormulaTree
conjuncts (t.and a b) = conjuncts a ++ conjuncts b
conjuncts a = a ∷ []

abbrev pub part_of : ℕ → List Name → FormulaTree → Entry
part_of n fresh a = record { formula = prenex a; source = of_fact n; terms = []; fresh = fresh }

-- The entries of fact n, which is in negation normal form. Each part has all constants of the fact.
abbrev pub parts_of : ℕ → FormulaTree → ℕ → List Entry
parts_of n a k = map (part_of n (constants_from k (witnesses a))) (conjuncts (witnessed a [] k))

-- the facts, numbered from n on, where constants from number k on are free
abbrev pub taken : List FormulaTree → ℕ → ℕ → List Entry
taken [] n k = []
taken (a ∷ more) n k = parts_of n a k ++ taken more (suc n) (k + witnesses a)

abbrev pub all_witnesses : List FormulaTree → ℕ
all_witnesses [] = 0
all_witnesses (a ∷ more) = witnesses a + all_witnesses more
