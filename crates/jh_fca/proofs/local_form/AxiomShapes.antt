-- The axioms of reachability along names have local shape.
use Rattle.std.proofs.Common.{◌≡◌, refl, ℕ, zero, suc, true, ◌&&◌, List, [], ◌∷◌, ◌++◌, map, Option, Some, None, slice_set}
use Rattle.jh_form.specs.Tree.{TermTree, FieldTree, FieldTrees, FormulaTree}
use Rattle.jh_form.specs.Tree as t
use Rattle.jh_arena.specs.makers.Joined.{joined}
use Rattle.jh_seq.specs.splitting.Local.{is_field_name, are_field_names, is_local_term, has_local_shape}
use Rattle.jh_approx.specs.jh_reach.Axioms.{disjoined, listed, child, differ, way, forest, ends_at_null, end_at_null, reaches_child, reach_children, child_reaches, first_step, leads_there, last_step, ways_join, ways_on, ways_up, ways_compare, null_reaches_null, leads_not_back, no_way_back, has_one_parent, share_no_child, pairs_share_no_child, one_parent, axioms_of_list, BaseTree, BackboneTree, before, stops_at, leaves_out, changed_one, changed_several, changed_ways, axiom_of_update, axioms_of}
use Rattle.jh_fca.proofs.local_form.Bare.{both-true}

abbrev IsLocal : FormulaTree → Type 0
IsLocal a = has_local_shape a ≡ true

-- all formulas of a list have local shape
abbrev pub AllLocal : List FormulaTree → Type 0
AllLocal [] = Unit {0}
AllLocal (a ∷ fs) = (has_local_shape a ≡ true) × AllLocal fs

pub local-both : (fs gs : List FormulaTree) → AllLocal fs → AllLocal gs → AllLocal (fs ++ gs)
local-both [] gs h k = k
local-both (a ∷ fs) gs h k = (h.0, local-both fs gs h.1 k)

-- each field of a list is a name
abbrev pub AreNames : List FieldTree → Type 0
AreNames [] = Unit {0}
AreNames (f ∷ fs) = (is_field_name f ≡ true) × AreNames fs

pub names-set : (fs : List FieldTree) (i : ℕ) (f : FieldTree) → AreNames fs → is_field_name f ≡ true → AreNames (slice_set fs i f)
names-set [] i f h k = tt
names-set (g ∷ fs) zero f h k = (k, h.1)
names-set (g ∷ fs) (suc i) f h k = (h.0, names-set fs i f h.1 k)

listed-names : (fs : List FieldTree) → AreNames fs → are_field_names (listed fs) ≡ true
listed-names [] h = refl
listed-names (f ∷ fs) h = both-true (is_field_name f) (are_field_names (listed fs)) h.0 (listed-names fs h.1)

two-local : (a b : FormulaTree) → IsLocal a → IsLocal b → (has_local_shape a && has_local_shape b) ≡ true
two-local a b h k = both-true (has_local_shape a) (has_local_shape b) h k

-- ---- several formulas joined

joined-local : (fs : List FormulaTree) → AllLocal fs → IsLocal (joined fs)
joined-local [] h = refl
joined-local (a ∷ []) h = h.0
joined-local (a ∷ b ∷ rest) h = two-local a (joined (b ∷ rest)) h.0 (joined-local (b ∷ rest) h.1)

disjoined-local : (fs : List FormulaTree) → AllLocal fs → IsLocal (disjoined fs)
disjoined-local [] h = refl
disjoined-local (a ∷ []) h = h.0
disjoined-local (a ∷ b ∷ rest) h = two-local a (disjoined (b ∷ rest)) h.0 (disjoined-local (b ∷ rest) h.1)

each-local : (g : FieldTree → FormulaTree) → ((f : FieldTree) → is_field_name f ≡ true → IsLocal (g f)) → (fs : List FieldTree) → AreNames fs → AllLocal (map g fs)
each-local g h [] names = tt
each-local g h (f ∷ fs) names = (h f names.0, each-local g h fs names.1)

-- ---- the parts of the axioms

child-local : (f : FieldTree) (a : TermTree) → is_field_name f ≡ true → is_local_term a ≡ true → is_local_term (child f a) ≡ true
child-local f a h k = both-true (is_field_name f) (is_local_term a) h k

differ-local : (a b : TermTree) → is_local_term a ≡ true → is_local_term b ≡ true → IsLocal (differ a b)
differ-local a b h k = both-true (is_local_term a) (is_local_term b) h k

null-local : (f : FieldTree) → is_field_name f ≡ true → IsLocal (ends_at_null f)
null-local f h = both-true (is_local_term (child f t.null)) true (child-local f t.null h refl) refl

module _ (fs : List FieldTree) (names : AreNames fs) where
  way-local : (a b : TermTree) → is_local_term a ≡ true → is_local_term b ≡ true → IsLocal (way fs a b)
  way-local a b h k = both-true (are_field_names (listed fs) && is_local_term a) (is_local_term b) (both-true (are_field_names (listed fs)) (is_local_term a) (listed-names fs names) h) k

  bound-way : (i j : ℕ) → IsLocal (way fs (t.bound i) (t.bound j))
  bound-way i j = way-local (t.bound i) (t.bound j) refl refl

  forest-local : IsLocal (forest fs)
  forest-local = listed-names fs names

  nulls-local : IsLocal (end_at_null fs)
  nulls-local = joined-local (map ends_at_null fs) (each-local ends_at_null null-local fs names)

  step-local : IsLocal (first_step fs)
  step-local = two-local (way fs (t.bound 1) (t.bound 0)) (disjoined (map (child_reaches fs) fs)) (bound-way 1 0)
      (disjoined-local (map (child_reaches fs) fs) (each-local (child_reaches fs) (λ f h. way-local (child f (t.bound 1)) (t.bound 0) (child-local f (t.bound 1) h refl) refl) fs names))

  last-local : IsLocal (last_step fs)
  last-local = two-local (way fs (t.bound 1) (t.bound 0)) (t.and (way fs (t.bound 2) (t.bound 0)) (disjoined (map leads_there fs))) (bound-way 1 0)
      (two-local (way fs (t.bound 2) (t.bound 0)) (disjoined (map leads_there fs)) (bound-way 2 0)
      (disjoined-local (map leads_there fs) (each-local leads_there (λ f h. both-true (is_local_term (child f (t.bound 0))) true (child-local f (t.bound 0) h refl) refl) fs names)))

  join-local : IsLocal (ways_join fs)
  join-local = two-local (t.and (way fs (t.bound 2) (t.bound 1)) (way fs (t.bound 1) (t.bound 0))) (way fs (t.bound 2) (t.bound 0))
      (two-local (way fs (t.bound 2) (t.bound 1)) (way fs (t.bound 1) (t.bound 0)) (bound-way 2 1) (bound-way 1 0)) (bound-way 2 0)

  on-local : IsLocal (ways_on fs)
  on-local = two-local (t.and (way fs (t.bound 2) (t.bound 1)) (way fs (t.bound 2) (t.bound 0))) (t.or (way fs (t.bound 1) (t.bound 0)) (way fs (t.bound 0) (t.bound 1)))
      (two-local (way fs (t.bound 2) (t.bound 1)) (way fs (t.bound 2) (t.bound 0)) (bound-way 2 1) (bound-way 2 0))
      (two-local (way fs (t.bound 1) (t.bound 0)) (way fs (t.bound 0) (t.bound 1)) (bound-way 1 0) (bound-way 0 1))

  up-local : IsLocal (ways_up fs)
  up-local =
      let ends : FormulaTree = t.and (way fs (t.bound 2) (t.bound 0)) (t.and (way fs (t.bound 1) (t.bound 0)) (differ (t.bound 0) t.null)) in
      let compared : FormulaTree = t.or (way fs (t.bound 2) (t.bound 1)) (way fs (t.bound 1) (t.bound 2)) in
      two-local (t.and (forest fs) (end_at_null fs)) (t.implies ends compared) (two-local (forest fs) (end_at_null fs) forest-local nulls-local)
      (two-local ends compared (two-local (way fs (t.bound 2) (t.bound 0)) (t.and (way fs (t.bound 1) (t.bound 0)) (differ (t.bound 0) t.null)) (bound-way 2 0) (two-local (way fs (t.bound 1) (t.bound 0)) (differ (t.bound 0) t.null) (bound-way 1 0) refl))
      (two-local (way fs (t.bound 2) (t.bound 1)) (way fs (t.bound 1) (t.bound 2)) (bound-way 2 1) (bound-way 1 2)))

  null-reaches-local : IsLocal (null_reaches_null fs)
  null-reaches-local = two-local (end_at_null fs) (t.implies (way fs t.null (t.bound 0)) (t.eq_object (t.bound 0) t.null)) nulls-local
      (two-local (way fs t.null (t.bound 0)) (t.eq_object (t.bound 0) t.null) (way-local t.null (t.bound 0) refl refl) refl)

  back-local : IsLocal (no_way_back fs)
  back-local = two-local (forest fs) (t.implies (differ (t.bound 0) t.null) (joined (map (leads_not_back fs) fs))) forest-local
      (joined-local (map (leads_not_back fs) fs) (each-local (leads_not_back fs) (λ f h. way-local (child f (t.bound 0)) (t.bound 0) (child-local f (t.bound 0) h refl) refl) fs names))

parent-local : (f : FieldTree) → is_field_name f ≡ true → IsLocal (has_one_parent f)
parent-local f h =
    let one : is_local_term (child f (t.bound 1)) ≡ true = child-local f (t.bound 1) h refl in
    let other : is_local_term (child f (t.bound 0)) ≡ true = child-local f (t.bound 0) h refl in
    two-local (t.and (t.eq_object (child f (t.bound 1)) (child f (t.bound 0))) (differ (child f (t.bound 1)) t.null)) (t.eq_object (t.bound 1) (t.bound 0))
    (two-local (t.eq_object (child f (t.bound 1)) (child f (t.bound 0))) (differ (child f (t.bound 1)) t.null) (both-true (is_local_term (child f (t.bound 1))) (is_local_term (child f (t.bound 0))) one other) (differ-local (child f (t.bound 1)) t.null one refl))
    refl

share-local : (f g : FieldTree) → is_field_name f ≡ true → is_field_name g ≡ true → IsLocal (share_no_child f g)
share-local f g h k =
    let one : is_local_term (child f (t.bound 1)) ≡ true = child-local f (t.bound 1) h refl in
    two-local (t.eq_object (child f (t.bound 1)) (child g (t.bound 0))) (t.eq_object (child f (t.bound 1)) t.null)
    (both-true (is_local_term (child f (t.bound 1))) (is_local_term (child g (t.bound 0))) one (child-local g (t.bound 0) k refl))
    (both-true (is_local_term (child f (t.bound 1))) true one refl)

pairs-local : (fs : List FieldTree) → AreNames fs → AllLocal (pairs_share_no_child fs)
pairs-local [] names = tt
pairs-local (f ∷ fs) names = local-both (map (share_no_child f) fs) (pairs_share_no_child fs) (each-local (share_no_child f) (λ g h. share-local f g names.0 h) fs names.1) (pairs-local fs names.1)

one-parent-local : (fs : List FieldTree) → AreNames fs → IsLocal (one_parent fs)
one-parent-local fs names =
    two-local (forest fs) (joined (map has_one_parent fs ++ pairs_share_no_child fs)) (forest-local fs names)
    (joined-local (map has_one_parent fs ++ pairs_share_no_child fs) (local-both (map has_one_parent fs) (pairs_share_no_child fs) (each-local has_one_parent parent-local fs names) (pairs-local fs names)))

compare-local : (fs : List FieldTree) → AreNames fs → IsLocal (ways_compare fs)
compare-local [] names = up-local [] names
compare-local (f ∷ []) names = on-local (f ∷ []) names
compare-local (f ∷ g ∷ fs) names = up-local (f ∷ g ∷ fs) names

children-local : (fs : List FieldTree) → AreNames fs → IsLocal (reach_children fs)
children-local fs names = joined-local (map (reaches_child fs) fs) (each-local (reaches_child fs) (λ f h. way-local fs names (t.bound 0) (child f (t.bound 0)) refl (child-local f (t.bound 0) h refl)) fs names)

list-local : (fs : List FieldTree) → AreNames fs → AllLocal (axioms_of_list fs)
list-local fs names =
    (bound-way fs names 0 0, (children-local fs names, (step-local fs names, (last-local fs names, (join-local fs names, (compare-local fs names, (null-reaches-local fs names, (back-local fs names, (one-parent-local fs names, tt)))))))))

-- ---- the axiom of an update

module _ (new old : List FieldTree) (new_names : AreNames new) (old_names : AreNames old) (a v : TermTree) (h : is_local_term a ≡ true) (k : is_local_term v ≡ true) where
  stops-local : (x y : TermTree) → is_local_term x ≡ true → is_local_term y ≡ true → IsLocal (stops_at old a x y)
  stops-local x y p q =
      two-local (way old x y) (t.implies (way old x a) (way old y a)) (way-local old old_names x y p q)
      (two-local (way old x a) (way old y a) (way-local old old_names x a p h) (way-local old old_names y a q h))

  one-local : IsLocal (changed_one new old a v)
  one-local =
      let there : FormulaTree = t.and (way old (t.bound 1) a) (stops_at old a v (t.bound 0)) in
      two-local (way new (t.bound 1) (t.bound 0)) (t.or (stops_at old a (t.bound 1) (t.bound 0)) there) (bound-way new new_names 1 0)
      (two-local (stops_at old a (t.bound 1) (t.bound 0)) there (stops-local (t.bound 1) (t.bound 0) refl refl)
      (two-local (way old (t.bound 1) a) (stops_at old a v (t.bound 0)) (way-local old old_names (t.bound 1) a refl h) (stops-local v (t.bound 0) k refl)))

  module _ (f : FieldTree) (name : is_field_name f ≡ true) where
    leaves-local : (x y : TermTree) → is_local_term x ≡ true → is_local_term y ≡ true → IsLocal (leaves_out old f a x y)
    leaves-local x y p q =
        let from : is_local_term (child f a) ≡ true = child-local f a name h in
        let through : FormulaTree = t.and (way old x a) (way old (child f a) y) in
        two-local (way old x y) (t.negation (t.and (differ (child f a) t.null) through)) (way-local old old_names x y p q)
        (two-local (differ (child f a) t.null) through (differ-local (child f a) t.null from refl)
        (two-local (way old x a) (way old (child f a) y) (way-local old old_names x a p h) (way-local old old_names (child f a) y from q)))

    several-local : IsLocal (changed_several new old f a v)
    several-local =
        let behind : FormulaTree = t.and (differ v t.null) (leaves_out old f a v (t.bound 0)) in
        let there : FormulaTree = t.and (way old (t.bound 1) a) behind in
        let told : FormulaTree = t.or (leaves_out old f a (t.bound 1) (t.bound 0)) there in
        two-local (differ (t.bound 0) t.null) (t.iff (way new (t.bound 1) (t.bound 0)) told) refl
        (two-local (way new (t.bound 1) (t.bound 0)) told (bound-way new new_names 1 0)
        (two-local (leaves_out old f a (t.bound 1) (t.bound 0)) there (leaves-local (t.bound 1) (t.bound 0) refl refl)
        (two-local (way old (t.bound 1) a) behind (way-local old old_names (t.bound 1) a refl h)
        (two-local (differ v t.null) (leaves_out old f a v (t.bound 0)) (differ-local v t.null k refl) (leaves-local v (t.bound 0) k refl)))))

changed-local : (new old : List FieldTree) → AreNames new → AreNames old → (f : FieldTree) → is_field_name f ≡ true → (a v : TermTree) → is_local_term a ≡ true → is_local_term v ≡ true → IsLocal (changed_ways new old f a v)
changed-local new [] m n f name a v h k = several-local new [] m n a v h k f name
changed-local new (g ∷ []) m n f name a v h k = one-local new (g ∷ []) m n a v h k
changed-local new (g ∷ i ∷ old) m n f name a v h k = several-local new (g ∷ i ∷ old) m n a v h k f name

-- what is asked of a base, where there is one: a name, and terms of local shape
pub record IsLocalBase (u : BaseTree) : Type 0 where
  pub field : is_field_name u.field ≡ true
  pub at : is_local_term u.at ≡ true
  pub value : is_local_term u.value ≡ true

update-local : (fs : List FieldTree) (u : BaseTree) → AreNames fs → IsLocalBase u → IsLocal (axiom_of_update fs u)
update-local fs u names is =
    let old : AreNames (before fs u) = names-set fs u.place u.field names is.field in
    two-local (t.and (forest (before fs u)) (t.and (end_at_null (before fs u)) (differ u.at t.null))) (changed_ways fs (before fs u) u.field u.at u.value)
    (two-local (forest (before fs u)) (t.and (end_at_null (before fs u)) (differ u.at t.null)) (forest-local (before fs u) old)
    (two-local (end_at_null (before fs u)) (differ u.at t.null) (nulls-local (before fs u) old) (differ-local u.at t.null is.at refl)))
    (changed-local fs (before fs u) names old u.field is.field u.at u.value is.at is.value)

abbrev pub OfBase : Option BaseTree → Type 0
OfBase None = Unit {0}
OfBase (Some u) = IsLocalBase u

base-local : (fs : List FieldTree) (base : Option BaseTree) → AreNames fs → OfBase base → AllLocal (axioms_of (record { fields = fs; base = base }))
base-local fs None names is = local-both (axioms_of_list fs) [] (list-local fs names) tt
base-local fs (Some u) names is = local-both (axioms_of_list fs) (axiom_of_update fs u ∷ []) (list-local fs names) (update-local fs u names is, tt)

pub axioms-local : (b : BackboneTree) → AreNames b.fields → OfBase b.base → AllLocal (axioms_of b)
axioms-local b names is = base-local b.fields b.base names is
