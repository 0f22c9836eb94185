-- What stands for the leaves and the whole parts of a tree in which updates have their names.
use Rattle.std.proofs.Common.{◌≡◌, refl, sym, ap, subst, ◌∙◌, ℕ, ◌<◌, ◌≤◌, nat_lt, Bool, true, false, if◌then◌else◌, List, map, length, slice_get, Option, Some, None, is_some, arith}
use Rattle.std.proofs.lemmas.Bool.{true≢false, lt-ltb, ltb-true}
use Rattle.std.proofs.lemmas.List.{length-map}
use Rattle.std.proofs.lemmas.Option.{slice_get_within}
use Rattle.jh_name.specs.declared.place.Sort.TheVariants as Sort
use Rattle.jh_form.specs.Tree.{FormulaTree, ValueTree, of_truth}
use Rattle.jh_form.specs.Tree as t
use Rattle.jh_form.specs.Sorts.{tree_sort}
use Rattle.jh_arena.specs.table.Entries.{Pools, Listing, the_truth, the_value, is_truth}
use Rattle.jh_arena.specs.table.Growth.{Grows, AreDifferent}
use Rattle.jh_arena.specs.table.Nodes.{nodes, shape_tree, tree_in}
use Rattle.jh_arena.specs.declared.table.shapes.Shape.{Shape}
use Rattle.jh_arena.specs.declared.table.shapes.Shape.TheVariants as s
use Rattle.jh_substitution.specs.rewriting.Leaf.{is_leaf}
use Rattle.jh_substitution.specs.rewriting.Rewritten.{rewritten_value, rewritten_term, rewritten_int, rewritten_set, rewritten_field, rewritten_formula}
use Rattle.jh_substitution.specs.rewriting.Walks.{IsRewritten, IsWhole}
use Rattle.jh_substitution.proofs.rewriting.Sorted.{truth-value, within-some}
use Rattle.jh_approx.specs.definition.Names.{place_in}
use Rattle.jh_fca.specs.local_form.Named.{is_whole_update, name_for, naming, named}
use Rattle.jh_fca.proofs.local_form.Among.{Among}
use Rattle.jh_fca.proofs.local_form.Naming.{place-within, within-among}
use Rattle.jh_local_form.specs.updates.Updating.{AreValues, values_in, Names, named_as, IsNaming}
use Rattle.jh_local_form.specs.updates.Remaining.{values-are}
use Rattle.jh_local_form.proofs.updates.Places.{value-at, node-of, values-length, map-at}
use Rattle.jh_local_form.proofs.updates.Apart.{at-among, among-at, passes-at}

-- a leaf stays
pub leaf-stays : (us : List ValueTree) (k : ℕ) (p : Pools) (ts : List ValueTree) (d : ℕ) (x : Shape) → is_leaf x ≡ true → rewritten_value (shape_tree p ts x) (naming us k) d ≡ shape_tree p ts x
unfolding is_leaf shape_tree rewritten_value rewritten_term rewritten_int rewritten_set rewritten_field rewritten_formula
leaf-stays us k p ts d (s.Bound n) leaf = refl
leaf-stays us k p ts d (s.FreeObject n) leaf = refl
leaf-stays us k p ts d (s.FreeNumber n) leaf = refl
leaf-stays us k p ts d (s.FreeTruth n) leaf = refl
leaf-stays us k p ts d (s.FreeSet n) leaf = refl
leaf-stays us k p ts d (s.FreeField n) leaf = refl
leaf-stays us k p ts d _ leaf = absurd (true≢false (sym leaf))

-- what is in the list has its name
pub name-known : (us : List ValueTree) (k : ℕ) (v : ValueTree) → Among v us → name_for us k v ≡ Some (named_as us k v)
name-known us k v h = ap (λ b. if b then Some (named_as us k v) else None) (lt-ltb (place_in us v) (length us) (place-within us v h))

-- what isn't has none
pub name-unknown : (us : List ValueTree) (k : ℕ) (v : ValueTree) → (Among v us → ⊥) → name_for us k v ≡ None
name-unknown us k v away = by (nat_lt (place_in us v) (length us)) refl
  where
    by : (b : Bool) → nat_lt (place_in us v) (length us) ≡ b → (if b then Some (named_as us k v) else None) ≡ None
    by true e = absurd (away (within-among us v (ltb-true (place_in us v) (length us) e)))
    by false e = refl

whole-sort : (v : ValueTree) → is_whole_update v ≡ true → tree_sort v ≡ Sort.Field
unfolding is_whole_update
whole-sort (t.of_field f) h = refl
whole-sort _ h = absurd (true≢false (sym h))

-- The update at a place and the name that stands for it.
pub record IsCalled (t : Listing) (n : Names) (us : List ValueTree) (i node name : ℕ) : Type 0 where
  pub value : ValueTree
  pub at : slice_get us i ≡ Some value
  pub there : slice_get (nodes t) node ≡ Some value
  pub called : slice_get (nodes t) name ≡ Some (named_as us n.first value)
  pub whole : is_whole_update value ≡ true

module _ (t : Listing) (n : Names) (us : List ValueTree) (is : IsNaming t n us) where
  pub called-at : (i node name : ℕ) → slice_get n.updates i ≡ Some node → slice_get n.names i ≡ Some name → IsCalled t n us i node name
  called-at i node name at as_name =
      let u = value-at (nodes t) n.updates us i node is.updates.are at in
      let w = value-at (nodes t) n.names (map (named_as us n.first) us) i name is.names as_name in
      record {
        value = u.0;
        at = u.1;
        there = u.2;
        called = w.2 ∙ sym w.1 ∙ map-at (named_as us n.first) us i u.0 u.1;
        whole = passes-at is_whole_update us i u.0 is.updates.whole u.1;
      }

  -- the name stands for the whole update
  pub whole-called : (i node name d : ℕ) → slice_get n.updates i ≡ Some node → slice_get n.names i ≡ Some name → IsWhole (naming (values_in (nodes t) n.updates) n.first) (nodes t) node d name
  unfolding the_value
  whole-called i node name d at as_name =
      let c = called-at i node name at as_name in
      let same : values_in (nodes t) n.updates ≡ us = values-are (nodes t) n.updates us is.updates.are in
      let value : the_value (slice_get (nodes t) node) ≡ c.value = ap the_value c.there in
      record {
        there = ap is_some c.called;
        is = c.called ∙ sym ((λ j. name_for (same j) n.first (value j)) ∙ name-known us n.first c.value (at-among us i c.value c.at));
        sort = ap (λ o. tree_sort (the_value o)) c.called ∙ sym (ap tree_sort value ∙ whole-sort c.value c.whole);
      }

  -- nothing stands for what has no name
  pub whole-uncalled : (node : ℕ) (v : ValueTree) → AreDifferent (nodes t) → slice_get (nodes t) node ≡ Some v → ((i : ℕ) → slice_get n.updates i ≡ Some node → ⊥) → name_for (values_in (nodes t) n.updates) n.first (the_value (slice_get (nodes t) node)) ≡ None
  unfolding the_value
  whole-uncalled node v different there missed =
      let same : values_in (nodes t) n.updates ≡ us = values-are (nodes t) n.updates us is.updates.are in
      (λ j. name_for (same j) n.first (the_value (there j)))
      ∙ name-unknown us n.first v (λ among.
      let r = among-at us v among in
      let m = node-of (nodes t) n.updates us r.0 v is.updates.are r.1 in
      missed r.0 (m.1 ∙ ap (λ k. Some k) (different m.0 node v m.2 there)))

-- the formula that comes of it
pub named-truth : (us : List ValueTree) (k : ℕ) (o : Option ValueTree) → is_truth o ≡ true → rewritten_value (the_value o) (naming us k) 0 ≡ of_truth (named us k (the_truth o))
unfolding rewritten_value named
named-truth us k o h = ap (λ v. rewritten_value v (naming us k) 0) (truth-value o h)

-- there are as many names as updates
pub name-within : (t : Listing) (n : Names) (us : List ValueTree) → IsNaming t n us → (i node : ℕ) → slice_get n.updates i ≡ Some node → i < length n.names
name-within t n us is i node at =
    let within : i < length n.updates = slice_get_within n.updates i node at in
    let first = values-length (nodes t) n.updates us is.updates.are in
    let second = values-length (nodes t) n.names (map (named_as us n.first) us) is.names in
    let same = length-map us (named_as us n.first) in
    omega (arith, within, first, second, same)

pub update-within : (t : Listing) (n : Names) (us : List ValueTree) → IsNaming t n us → (i : ℕ) → i < length n.names → i < length n.updates
update-within t n us is i within =
    let first = values-length (nodes t) n.updates us is.updates.are in
    let second = values-length (nodes t) n.names (map (named_as us n.first) us) is.names in
    let same = length-map us (named_as us n.first) in
    omega (arith, within, first, second, same)

-- ---- parts of updates

some-within : (ts us : List ValueTree) → Grows ts us → (n : ℕ) (o : Option ValueTree) → slice_get ts n ≡ o → is_some o ≡ true → n < length us
some-within ts us g n (Some v) e h = slice_get_within us n v (g.keeps n v e)
some-within ts us g n None e h = absurd (true≢false (sym h))

pub inside-grows : (ts us : List ValueTree) → Grows ts us → (n : ℕ) → n < length ts → n < length us
inside-grows ts us g n lt = some-within ts us g n (slice_get ts n) refl (within-some ts n lt)

pub part-named : (us : List ValueTree) (k : ℕ) (made old : Option ValueTree) (v : ValueTree) → made ≡ Some (rewritten_value (the_value old) (naming us k) 0) → old ≡ Some v → made ≡ Some (rewritten_value v (naming us k) 0)
unfolding the_value
part-named us k made old v e at = e ∙ ap (λ o. Some (rewritten_value (the_value o) (naming us k) 0)) at

-- ---- how many there are

pub all-named : (t : Listing) (n : Names) (us : List ValueTree) → IsNaming t n us → (i : ℕ) → length n.names ≤ i → length us ≤ i
all-named t n us is i le =
    let second = values-length (nodes t) n.names (map (named_as us n.first) us) is.names in
    let same = length-map us (named_as us n.first) in
    omega (arith, le, second, same)

pub update-there : (t : Listing) (n : Names) (us : List ValueTree) → IsNaming t n us → (i : ℕ) → i < length n.names → (u : ValueTree) × (slice_get us i ≡ Some u)
update-there t n us is i lt = some-there us i (slice_get us i) refl (within-some us i (let second = values-length (nodes t) n.names (map (named_as us n.first) us) is.names in let same = length-map us (named_as us n.first) in omega (arith, lt, second, same)))
  where
    some-there : (vs : List ValueTree) (j : ℕ) (o : Option ValueTree) → slice_get vs j ≡ o → is_some o ≡ true → (u : ValueTree) × (slice_get vs j ≡ Some u)
    some-there vs j (Some v) e h = (v, e)
    some-there vs j None e h = absurd (true≢false (sym h))

pub named-length : (t : Listing) (n : Names) (us : List ValueTree) → IsNaming t n us → length us ≡ length n.names
named-length t n us is =
    let second = values-length (nodes t) n.names (map (named_as us n.first) us) is.names in
    let same = length-map us (named_as us n.first) in
    omega (arith, second, same)
