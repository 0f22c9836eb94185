-- Which hypotheses are chosen, by their names.
use Rattle.std.specs.Prelude.{Bool, true, List, [], ◌∷◌, Option}
use Rattle.jh_name.specs.declared.naming.Name.{Name}
use Rattle.jh_approx.specs.definition.Links.{named_in}
use Rattle.jh_fca.specs.local_form.Chosen.{well_formed}

-- whether a hypothesis of this name is chosen, where these facts alone are to be used; where none are named, all are
abbrev pub is_chosen_by : List Name → Option Name → Bool
is_chosen_by [] name = true
is_chosen_by (x ∷ from) name = named_in (well_formed ∷ x ∷ from) name
