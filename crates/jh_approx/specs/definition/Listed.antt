-- The interpretation that sizes list.
use Rattle.std.specs.Prelude.{ℕ, suc, ◌+◌, ◌-◌, ◌==◌, nat_lt, true, false, not, ◌&&◌, if◌then◌else◌, List, [], ◌∷◌, ◌++◌, length, map, filter, replicate, slice_index_or, pos}
use Rattle.std.specs.List.{flat_map}
use Rattle.jh_name.specs.declared.naming.Name.{Name}
use Rattle.jh_form.specs.Tree.{of_object, of_number, of_truth, of_set}
use Rattle.jh_form.specs.Tree as t
use Rattle.jh_form.specs.Meaning.{Fields, Interp}
use Rattle.jh_query.specs.declared.queries.sizes.Spot.{Spot}
use Rattle.jh_query.specs.queries.Sizing.{Sizing}
use Rattle.jh_query.specs.queries.Truth.{is_in, spot_of}
use Rattle.jh_derivation_rules.specs.jh_seq.sequent.Sequents.{SequentTree}
use Rattle.jh_approx.specs.definition.Shown.{shown}
use Rattle.jh_approx.specs.definition.Names.{NameLists, names, listed, place_in}
use Rattle.jh_approx.specs.definition.Regions.{unlabelled, kept_facts}

-- the spots that are the first of their class, in their order
abbrev pub firsts : List Spot → List Spot
firsts [] = []
firsts (s ∷ spots) = s ∷ filter (λ (u : Spot). not (u.class == s.class)) (firsts spots)

-- the place of a class in a list of spots; how many there are, where it isn't there
abbrev pub class_place : List Spot → ℕ → ℕ
class_place [] c = 0
class_place (s ∷ spots) c = if s.class == c then 0 else class_place spots c + 1

-- each region as often as it has objects that are no element, from region r on
abbrev pub rests : ℕ → List ℕ → List ℕ
rests r [] = []
rests r (n ∷ more) = replicate n r ++ rests (suc r) more

-- The region of each object: first one object for each class, in the order of the elements, so that null is the first; then the
-- others, region by region.
abbrev pub object_regions : Sizing → List ℕ
object_regions z = map (λ (s : Spot). s.region) (firsts z.spots) ++ rests 0 z.rest

-- the object of an element
abbrev pub object_of : Sizing → ℕ → ℕ
object_of z i = class_place (firsts z.spots) (spot_of z.spots i).class

-- null, 0, False and the empty set at each object
abbrev pub no_fields : Fields
no_fields = record { objects = λ o. 0; numbers = λ o. pos 0; truths = λ o. false; sets = λ o x. false }

-- The interpretation with these objects, in which each free name that has a number has the value that the sizes give it, and every
-- other name has null, 0, False, the empty set or a field of these.
abbrev pub listed_over : NameLists → Sizing → Interp
listed_over n z = record {
  last = length (object_regions z) - 1;
  object = λ (x : Name). let i = place_in n.elements (of_object (t.free_object x)) in if nat_lt i (length n.elements) then object_of z i else 0;
  number = λ (x : Name). slice_index_or z.numbers (place_in n.numbers (of_number (t.free_number x))) (pos 0);
  truth = λ (x : Name). slice_index_or z.flags (place_in n.flags (of_truth (t.free_truth x))) false;
  set = λ (x : Name) (o : ℕ). let k = place_in n.sets (of_set (t.free_set x)) in nat_lt k (length n.sets) && is_in (slice_index_or (object_regions z) o 0) k;
  field = λ (x : Name). no_fields;
}

-- the names of the query of a sequent
abbrev pub query_names : SequentTree → NameLists
query_names s = listed (flat_map names (kept_facts (unlabelled s)) ++ names (shown (unlabelled s).goal true))

-- the interpretation that sizes list for a sequent, whose query they fit
abbrev pub listed_in : SequentTree → Sizing → Interp
listed_in s z = listed_over (query_names s) z
