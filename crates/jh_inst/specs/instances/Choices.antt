-- The choices of terms at which a universal is put.
use Rattle.std.specs.Prelude.{ℕ, zero, suc, Bool, not, List, [], ◌∷◌, map, filter}
use Rattle.std.specs.List.{list_all, flat_map}
use Rattle.jh_form.specs.Tree.{TermTree}
use Rattle.jh_inst.specs.instances.Terms.{is_among}

-- All choices of m terms of a list, a term for each variable, the outermost variable's first. They are in lexicographic order
-- of the places of their terms: the last term changes fastest.
abbrev pub choices : ℕ → List TermTree → List (List TermTree)
choices zero ts = [] ∷ []
choices (suc m) ts = flat_map (λ a. map (λ c. a ∷ c) (choices m ts)) ts

-- those that have some term that isn't one of the old ones
abbrev pub is_old : List TermTree → List TermTree → Bool
is_old old c = list_all (λ a. is_among a old) c

abbrev pub new_choices : ℕ → List TermTree → List TermTree → List (List TermTree)
new_choices m ts old = filter (λ c. not (is_old old c)) (choices m ts)
