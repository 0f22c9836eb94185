-- The axioms of reachability along a list of fields: what holds of all paths, in formulas that take reaching as it stands.
-- A bound variable is the number of binders between it and its own: under `ALL x y.`, x is 1 and y is 0.
use Rattle.std.specs.Prelude.{ℕ, List, [], ◌∷◌, ◌++◌, map, Option, Some, None, slice_set}
use Rattle.jh_form.specs.Tree.{TermTree, FieldTree, FormulaTree}
use Rattle.jh_form.specs.Tree as t
use Rattle.jh_arena.specs.makers.Joined.{joined}
pub use Rattle.jh_path_formulas.specs.Ways.{listed, child, differ, way, forest, stops_at, leaves_out}

-- the formulas joined by Or to the right; none give the formula that is false
abbrev pub disjoined : List FormulaTree → FormulaTree
disjoined [] = t.false_formula
disjoined (a ∷ []) = a
disjoined (a ∷ b ∷ rest) = t.or a (disjoined (b ∷ rest))

-- f null = null
abbrev pub ends_at_null : FieldTree → FormulaTree
ends_at_null f = t.eq_object (child f t.null) t.null

-- f null = null, for each field
abbrev pub end_at_null : List FieldTree → FormulaTree
end_at_null fs = joined (map ends_at_null fs)

-- ALL x. R x x
abbrev pub reach_itself : List FieldTree → FormulaTree
reach_itself fs = t.all (way fs (t.bound 0) (t.bound 0))

-- R x (f x), of x
abbrev pub reaches_child : List FieldTree → FieldTree → FormulaTree
reaches_child fs f = way fs (t.bound 0) (child f (t.bound 0))

-- ALL x. for each field R x (f x)
abbrev pub reach_children : List FieldTree → FormulaTree
reach_children fs = t.all (joined (map (reaches_child fs) fs))

-- R (f x) y, of x and y
abbrev pub child_reaches : List FieldTree → FieldTree → FormulaTree
child_reaches fs f = way fs (child f (t.bound 1)) (t.bound 0)

-- ALL x y. R x y --> x = y | for some field R (f x) y
abbrev pub first_step : List FieldTree → FormulaTree
first_step fs =
    t.all (t.all (t.implies (way fs (t.bound 1) (t.bound 0)) (t.or (t.eq_object (t.bound 1) (t.bound 0)) (disjoined (map (child_reaches fs) fs)))))

-- f w = y, of y and w
abbrev pub leads_there : FieldTree → FormulaTree
leads_there f = t.eq_object (child f (t.bound 0)) (t.bound 1)

-- ALL x y. R x y --> x = y | (EX w. R x w & for some field f w = y)
abbrev pub last_step : List FieldTree → FormulaTree
last_step fs =
    t.all (t.all (t.implies (way fs (t.bound 1) (t.bound 0)) (t.or (t.eq_object (t.bound 1) (t.bound 0)) (t.ex (t.and (way fs (t.bound 2) (t.bound 0)) (disjoined (map leads_there fs)))))))

-- ALL x y z. R x y & R y z --> R x z
abbrev pub ways_join : List FieldTree → FormulaTree
ways_join fs =
    t.all (t.all (t.all (t.implies (t.and (way fs (t.bound 2) (t.bound 1)) (way fs (t.bound 1) (t.bound 0))) (way fs (t.bound 2) (t.bound 0)))))

-- along one field: ALL x y z. R x y & R x z --> R y z | R z y
abbrev pub ways_on : List FieldTree → FormulaTree
ways_on fs =
    t.all (t.all (t.all (t.implies (t.and (way fs (t.bound 2) (t.bound 1)) (way fs (t.bound 2) (t.bound 0))) (t.or (way fs (t.bound 1) (t.bound 0)) (way fs (t.bound 0) (t.bound 1))))))

-- in a forest: ALL x y z. R x z & R y z & z ~= null --> R x y | R y x
abbrev pub ways_up : List FieldTree → FormulaTree
ways_up fs =
    t.implies (t.and (forest fs) (end_at_null fs))
    (t.all (t.all (t.all (t.implies (t.and (way fs (t.bound 2) (t.bound 0)) (t.and (way fs (t.bound 1) (t.bound 0)) (differ (t.bound 0) t.null))) (t.or (way fs (t.bound 2) (t.bound 1)) (way fs (t.bound 1) (t.bound 2)))))))

-- two ways that meet are one behind the other
abbrev pub ways_compare : List FieldTree → FormulaTree
ways_compare (f ∷ []) = ways_on (f ∷ [])
ways_compare fs = ways_up fs

-- where each field has null at null: ALL y. R null y --> y = null
abbrev pub null_reaches_null : List FieldTree → FormulaTree
null_reaches_null fs = t.implies (end_at_null fs) (t.all (t.implies (way fs t.null (t.bound 0)) (t.eq_object (t.bound 0) t.null)))

-- ~ R (f x) x, of x
abbrev pub leads_not_back : List FieldTree → FieldTree → FormulaTree
leads_not_back fs f = t.negation (way fs (child f (t.bound 0)) (t.bound 0))

-- in a forest: ALL x. x ~= null --> for each field ~ R (f x) x
abbrev pub no_way_back : List FieldTree → FormulaTree
no_way_back fs = t.implies (forest fs) (t.all (t.implies (differ (t.bound 0) t.null) (joined (map (leads_not_back fs) fs))))

-- f x = f y & f x ~= null --> x = y, of x and y
abbrev pub has_one_parent : FieldTree → FormulaTree
has_one_parent f =
    t.implies (t.and (t.eq_object (child f (t.bound 1)) (child f (t.bound 0))) (differ (child f (t.bound 1)) t.null)) (t.eq_object (t.bound 1) (t.bound 0))

-- f x = g y --> f x = null, of x and y
abbrev pub share_no_child : FieldTree → FieldTree → FormulaTree
share_no_child f g = t.implies (t.eq_object (child f (t.bound 1)) (child g (t.bound 0))) (t.eq_object (child f (t.bound 1)) t.null)

-- the same for each field before another
abbrev pub pairs_share_no_child : List FieldTree → List FormulaTree
pairs_share_no_child [] = []
pairs_share_no_child (f ∷ fs) = map (share_no_child f) fs ++ pairs_share_no_child fs

-- in a forest: ALL x y. for each field (f x = f y & f x ~= null --> x = y), and for each before another (f x = g y --> f x = null)
abbrev pub one_parent : List FieldTree → FormulaTree
one_parent fs = t.implies (forest fs) (t.all (t.all (joined (map has_one_parent fs ++ pairs_share_no_child fs))))

-- The nine axioms of a list, in their order: five that say what a way is, and four of lists that end at null or are a forest.
abbrev pub first_of_list : List FieldTree → List FormulaTree
first_of_list fs = reach_itself fs ∷ reach_children fs ∷ first_step fs ∷ last_step fs ∷ ways_join fs ∷ []

abbrev pub last_of_list : List FieldTree → List FormulaTree
last_of_list fs = ways_compare fs ∷ null_reaches_null fs ∷ no_way_back fs ∷ one_parent fs ∷ []

abbrev pub axioms_of_list : List FieldTree → List FormulaTree
axioms_of_list fs = first_of_list fs ++ last_of_list fs

-- What a list came from: the member at a place is a field that was updated at an object with an object.
pub record BaseTree : Type 0 where
  pub place : ℕ
  pub field : FieldTree
  pub at : TermTree
  pub value : TermTree

-- the list before the change
abbrev pub before : List FieldTree → BaseTree → List FieldTree
before fs u = slice_set fs u.place u.field

-- ALL x y. R' x y iff P x y | R x a & P v y, where R' is along the new list and P x y is `stops_at`
abbrev pub changed_one : List FieldTree → List FieldTree → TermTree → TermTree → FormulaTree
changed_one new old a v =
    t.all (t.all (t.iff (way new (t.bound 1) (t.bound 0)) (t.or (stops_at old a (t.bound 1) (t.bound 0)) (t.and (way old (t.bound 1) a) (stops_at old a v (t.bound 0))))))

-- ALL x y. y ~= null --> (R' x y iff S x y | R x a & v ~= null & S v y), where S x y is `leaves_out`
abbrev pub changed_several : List FieldTree → List FieldTree → FieldTree → TermTree → TermTree → FormulaTree
changed_several new old f a v =
    t.all (t.all (t.implies (differ (t.bound 0) t.null) (t.iff (way new (t.bound 1) (t.bound 0))
    (t.or (leaves_out old f a (t.bound 1) (t.bound 0)) (t.and (way old (t.bound 1) a) (t.and (differ v t.null) (leaves_out old f a v (t.bound 0))))))))

abbrev pub changed_ways : List FieldTree → List FieldTree → FieldTree → TermTree → TermTree → FormulaTree
changed_ways new (g ∷ []) f a v = changed_one new (g ∷ []) a v
changed_ways new old f a v = changed_several new old f a v

-- The axiom of an update: where the old list is a forest, ends at null, and the object that changed isn't null, the new ways
-- are told by the old ones.
abbrev pub axiom_of_update : List FieldTree → BaseTree → FormulaTree
axiom_of_update fs u =
    t.implies (t.and (forest (before fs u)) (t.and (end_at_null (before fs u)) (differ u.at t.null))) (changed_ways fs (before fs u) u.field u.at u.value)

abbrev pub axioms_of_base : List FieldTree → Option BaseTree → List FormulaTree
axioms_of_base fs None = []
axioms_of_base fs (Some u) = axiom_of_update fs u ∷ []

-- A list of fields that formulas reach along, and what it came from.
pub record BackboneTree : Type 0 where
  pub fields : List FieldTree
  pub base : Option BaseTree

-- the axioms of a backbone, in their order
abbrev pub axioms_of : BackboneTree → List FormulaTree
axioms_of b = axioms_of_list b.fields ++ axioms_of_base b.fields b.base
