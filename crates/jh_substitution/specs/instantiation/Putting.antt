-- A body with a term for its binder's variable, where the term may have loose bound variables of its own.
use Rattle.std.specs.Prelude.{◌-◌, ◌==◌, nat_lt, if◌then◌else◌}
use Rattle.jh_form.specs.Tree.{TermTree, FormulaTree}
use Rattle.jh_form.specs.Tree as t
use Rattle.jh_boxed.specs.Mapped.{LeafMap, unchanged, mapped_term, mapped_formula}
use Rattle.jh_substitution.specs.simultaneous.Lifted.{lifting}

-- Under d inner binders the binder's own variable has the number d, and the term's loose variables rise by d. Smaller
-- numbers belong to inner binders; the loose ones beyond fall by one.
abbrev pub putting : TermTree → LeafMap
putting w = record unchanged { bound_at = λ k d. if nat_lt k d then t.bound k else (if k == d then mapped_term w (lifting d) 0 else t.bound (k - 1)) }

abbrev pub put : FormulaTree → TermTree → FormulaTree
put a w = mapped_formula a (putting w) 0
