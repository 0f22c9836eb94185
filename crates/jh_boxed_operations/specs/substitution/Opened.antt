-- A binder's body with a term for the binder's own variable.
use Rattle.std.specs.Prelude.{◌-◌, ◌==◌, nat_lt, if◌then◌else◌}
use Rattle.jh_form.specs.Tree.{TermTree, FormulaTree}
use Rattle.jh_form.specs.Tree as t
use Rattle.jh_boxed.specs.Mapped.{LeafMap, unchanged, mapped_formula}

-- Under d inner binders the binder's own variable has the number d. Smaller numbers belong to inner
-- binders; the loose ones beyond it fall by one.
abbrev pub opening : TermTree → LeafMap
opening w = record unchanged { bound_at = λ k d. if nat_lt k d then t.bound k else (if k == d then w else t.bound (k - 1)) }

abbrev pub opened : FormulaTree → TermTree → FormulaTree
opened a w = mapped_formula a (opening w) 0
