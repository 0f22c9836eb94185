-- Quantifiers pulled to the front: `(ALL x. p x) | (ALL y. q y)` becomes `ALL x y. p x | q y`.
use Rattle.std.specs.Prelude.{ℕ, zero, suc, ◌+◌}
use Rattle.jh_form.specs.Tree.{FormulaTree}
use Rattle.jh_form.specs.Tree as t
use Rattle.jh_boxed.specs.Mapped.{mapped_formula}
use Rattle.jh_normal_forms.specs.jh_substitution.simultaneous.Lifted.{lifting}

-- a body, and behind how many `all`s it stands
pub record Matrix : Type 0 where
  pub variables : ℕ
  pub body : FormulaTree

-- A body that stood behind d binders of its own, with `by` more put between these and what is round them: its variables of
-- binders beyond the d rise.
abbrev pub under_more : FormulaTree → ℕ → ℕ → FormulaTree
under_more a d by = mapped_formula a (lifting by) d

-- Two bodies joined by And or by Or, behind the `all`s of both. Those of the first are the outer ones, so the first stands
-- under those of the second too. The second has its own ones innermost as before, and what is beyond them rises by the first's.
abbrev pub joined : (FormulaTree → FormulaTree → FormulaTree) → Matrix → Matrix → Matrix
joined with p q = record { variables = p.variables + q.variables; body = with (under_more p.body 0 q.variables) (under_more q.body q.variables p.variables) }

-- Each `all` that is under no `ex` is pulled out of And and Or, the leftmost outermost.
abbrev pub pulled : FormulaTree → Matrix
pulled (t.and a b) = joined (λ c d. t.and c d) (pulled a) (pulled b)
pulled (t.or a b) = joined (λ c d. t.or c d) (pulled a) (pulled b)
pulled (t.all a) = record { variables = suc (pulled a).variables; body = (pulled a).body }
pulled a = record { variables = 0; body = a }

abbrev pub behind : ℕ → FormulaTree → FormulaTree
behind zero a = a
behind (suc n) a = t.all (behind n a)

-- the formula with these quantifiers in front
abbrev pub prenex : FormulaTree → FormulaTree
prenex a = behind (pulled a).variables (pulled a).body

-- How many `all`s stand in front of a formula. Where there are some, it is a universal, and they are its variables.
abbrev pub in_front : FormulaTree → ℕ
in_front (t.all a) = suc (in_front a)
in_front _ = 0
