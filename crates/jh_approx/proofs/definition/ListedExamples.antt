-- Interpretations that sizes list, worked by hand.
use Rattle.std.proofs.Common.{◌≡◌, refl, ℕ, List, [], ◌∷◌}
use Rattle.std.specs.Prelude.{codes}
use Rattle.jh_name.specs.declared.naming.Name.{Name}
use Rattle.jh_form.specs.Tree.{of_object, of_set}
use Rattle.jh_form.specs.Tree as t
use Rattle.jh_query.specs.declared.queries.sizes.Spot.{Spot}
use Rattle.jh_query.specs.queries.Sizing.{Sizing}
use Rattle.jh_approx.specs.definition.Listed.{listed_over, object_regions}
use Rattle.jh_approx.specs.definition.Names.{NameLists}

abbrev named : List ℕ → Name
named text = record { text = text; turn = 0 }

abbrev at : ℕ → ℕ → Spot
at class region = record { class = class; region = region }

-- null outside the set, two elements that are one object inside it, and three other objects
abbrev sizes : Sizing
sizes = record { rest = 2 ∷ 1 ∷ []; spots = at 0 0 ∷ at 1 1 ∷ at 1 1 ∷ []; numbers = []; flags = [] }

abbrev few : NameLists
few = record { sets = of_set (t.free_set (named (codes "C.A"))) ∷ []; elements = of_object t.null ∷ of_object (t.free_object (named (codes "x"))) ∷ of_object (t.free_object (named (codes "y"))) ∷ []; numbers = []; flags = [] }

-- null, the object of both elements, and the others, region by region
objects-are : object_regions sizes ≡ 0 ∷ 1 ∷ 0 ∷ 0 ∷ 1 ∷ []
objects-are = refl

last-is : (listed_over few sizes).last ≡ 4
last-is = refl
