-- What putting keeps.
use Rattle.std.specs.Prelude.{◌≡◌, ℕ, List, ◌∷◌}
use Rattle.jh_form.specs.Tree.{TermTree, FormulaTree}
use Rattle.jh_form.specs.Meaning.{Interp, term_value, truth}
use Rattle.jh_substitution.specs.instantiation.Putting.{put}

-- A body with a term for its binder's variable means what the body means with the term's object for it.
abbrev pub PutKeepsMeaning : Type 0
PutKeepsMeaning = (a : FormulaTree) (w : TermTree) (m : Interp) (e : List ℕ) → truth (put a w) m e ≡ truth a m (term_value w m e ∷ e)
