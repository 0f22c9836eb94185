-- Constants for objects that are said to be there: in negation normal form, each `ex` that stands under no `all` gives way
-- to its body at a constant of its own.
use Rattle.std.specs.Prelude.{ℕ, zero, suc, ◌+◌, List, [], ◌∷◌}
use Rattle.jh_name.specs.declared.naming.Name.{Name}
use Rattle.jh_form.specs.Tree.{FormulaTree}
use Rattle.jh_form.specs.Tree as t
use Rattle.jh_seq.specs.splitting.Split.{constant, closed_by}

-- how many constants that takes
abbrev pub witnesses : FormulaTree → ℕ
witnesses (t.and a b) = witnesses a + witnesses b
witnesses (t.or a b) = witnesses a + witnesses b
witnesses (t.ex a) = suc (witnesses a)
witnesses _ = 0

-- The formula with constants from number k on, in the order of the text: in `EX x. EX y. p x y` x has the first one. The names
-- are the constants of the binders that were passed, the innermost binder's first. What stands under an `all` stays.
abbrev pub witnessed : FormulaTree → List Name → ℕ → FormulaTree
witnessed (t.and a b) ws k = t.and (witnessed a ws k) (witnessed b ws (k + witnesses a))
witnessed (t.or a b) ws k = t.or (witnessed a ws k) (witnessed b ws (k + witnesses a))
witnessed (t.ex a) ws k = witnessed a (constant k ∷ ws) (suc k)
witnessed a ws k = closed_by a ws

-- so many constants, from number k on
abbrev pub constants_from : ℕ → ℕ → List Name
constants_from k zero = []
constants_from k (suc n) = constant k ∷ constants_from (suc k) n
