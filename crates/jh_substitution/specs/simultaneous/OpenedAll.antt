-- A body under several binders with a term for the variable of each, the innermost binder's first.
use Rattle.std.specs.Prelude.{ℕ, ◌-◌, nat_lt, if◌then◌else◌, Bool, true, ◌&&◌, List, [], ◌∷◌, length, slice_get, Option, Some, None}
use Rattle.jh_form.specs.Tree.{TermTree, FormulaTree, ValueTree}
use Rattle.jh_form.specs.Tree as t
use Rattle.jh_form.specs.Closed.{is_closed_term}
use Rattle.jh_form.specs.Meaning.{Interp, term_value}
use Rattle.jh_boxed.specs.Mapped.{LeafMap, unchanged, mapped_formula}
use Rattle.jh_arena.specs.table.Entries.{is_object, the_object}

-- the term, or else the bound variable of this number
abbrev pub bound_or : Option TermTree → ℕ → TermTree
bound_or (Some w) n = w
bound_or None n = t.bound n

-- Under d inner binders the variables of the opened binders have the numbers from d on. Smaller numbers belong
-- to inner binders; the loose ones beyond fall by the number of the terms.
abbrev pub opening_all : List TermTree → LeafMap
opening_all ws = record unchanged { bound_at = λ k d. if nat_lt k d then t.bound k else bound_or (slice_get ws (k - d)) (k - length ws) }

abbrev pub opened_all : FormulaTree → List TermTree → FormulaTree
opened_all a ws = mapped_formula a (opening_all ws) 0

-- the objects of the terms, before others
abbrev pub values_before : List TermTree → Interp → List ℕ → List ℕ
values_before [] m e = e
values_before (w ∷ ws) m e = term_value w m [] ∷ values_before ws m e

-- no term has a loose bound variable
abbrev pub terms_closed : List TermTree → Bool
terms_closed [] = true
terms_closed (w ∷ ws) = is_closed_term w 0 && terms_closed ws

-- whether each of these nodes is a term for an object, and the terms
abbrev pub are_objects : List ValueTree → List ℕ → Bool
are_objects ts [] = true
are_objects ts (n ∷ ns) = is_object (slice_get ts n) && are_objects ts ns

abbrev pub objects_at : List ValueTree → List ℕ → List TermTree
objects_at ts [] = []
objects_at ts (n ∷ ns) = the_object (slice_get ts n) ∷ objects_at ts ns
