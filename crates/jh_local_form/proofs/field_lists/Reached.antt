-- Lists of fields by their shapes, and what is gathered along formulas and lists.
use Rattle.std.proofs.Common.{◌≡◌, refl, sym, ap, subst, ◌∙◌, ℕ, ◌+◌, ◌<◌, true, List, [], ◌∷◌, ◌++◌, take, length, slice_get, Option, Some, None, is_some, append-nil}
use Rattle.std.specs.List.{flat_map}
use Rattle.std.proofs.lemmas.Bool.{true≢false}
use Rattle.std.proofs.lemmas.Option.{slice_get_within}
use Rattle.jh_form.specs.Tree.{FieldTree, FormulaTree, ValueTree}
use Rattle.jh_arena.specs.table.Entries.{Pools, Listing, the_list, the_field, are_fields, fields_at}
use Rattle.jh_arena.specs.table.Growth.{Extends}
use Rattle.jh_arena.specs.table.Nodes.{nodes, shape_tree, fits_in}
use Rattle.jh_arena.specs.declared.table.shapes.Shape.{Shape}
use Rattle.jh_arena.specs.declared.table.shapes.Shape.TheVariants as s
use Rattle.jh_arena.proofs.table.PartSteps.{part-Reach-l, part-Reach-fields, part-Tree-l, part-Tree-fields}
use Rattle.jh_reach.specs.declared.backbones.Base.{Base}
use Rattle.jh_reach.specs.Axioms.{BaseTree, BackboneTree, axioms_of}
use Rattle.jh_reach.specs.Based.{IsBaseAt, IsSortedBase}
use Rattle.jh_reach.specs.Standing.{AreFields, AreFormulas, fields_in}
use Rattle.jh_reach.proofs.NodeSteps.{holds-field, holds-object}
use Rattle.jh_reach.proofs.Standings.{fields-there, formulas-grow, formulas-append}
use Rattle.jh_fca.specs.local_form.Chains.{ChangeTree, led_from, fields_of, list_of}
use Rattle.jh_local_form.proofs.updates.Places.{some-same}
use Rattle.jh_local_form.proofs.updates.Told.{flat-next}
use Rattle.jh_local_form.specs.declared.field_lists.backbones.Backbone.{Backbone}
use Rattle.jh_local_form.specs.field_lists.Leading.{IsListed, AreBackbones, IsLed, led_of, with_backbones}
use Rattle.jh_local_form.proofs.field_lists.Gathered.{with-append}

-- ---- a list by its number

pub list-inside : (tab : Listing) (list : ℕ) (fs : List FieldTree) → IsListed tab list fs → list < length tab.pools.lists
list-inside tab list fs h = slice_get_within tab.pools.lists list h.items h.listed

pub listed-fields : (tab : Listing) (list : ℕ) (ns ms : List ℕ) (fs : List FieldTree) → IsListed tab list fs → slice_get tab.pools.lists list ≡ Some ns → ms ≡ ns → AreFields tab ms fs
listed-fields tab list ns ms fs h at same = subst (λ (ks : List ℕ). AreFields tab ks fs) (some-same h.items ns (sym h.listed ∙ at) ∙ sym same) h.fields

the-listed : (o : Option (List ℕ)) → is_some o ≡ true → o ≡ Some (the_list o)
unfolding the_list
the-listed (Some ns) h = refl
the-listed None h = absurd (true≢false (sym h))

-- the list that a shape names
pub listed-there : (tab : Listing) (l : ℕ) → is_some (slice_get tab.pools.lists l) ≡ true → are_fields (nodes tab) (the_list (slice_get tab.pools.lists l)) ≡ true →
    IsListed tab l (fields_in (nodes tab) (the_list (slice_get tab.pools.lists l)))
listed-there tab l is are = record {
  items = the_list (slice_get tab.pools.lists l);
  listed = the-listed (slice_get tab.pools.lists l) is;
  fields = fields-there tab (the_list (slice_get tab.pools.lists l)) are;
}

pub reach-listed : (tab : Listing) (x : Shape) (l a b : ℕ) → fits_in tab x ≡ true → x ≡ s.Reach l a b → IsListed tab l (fields_in (nodes tab) (the_list (slice_get tab.pools.lists l)))
reach-listed tab x l a b h e =
    let fits = sym (ap (fits_in tab) e) ∙ h in
    listed-there tab l (part-Reach-l tab.pools (nodes tab) l a b fits) (part-Reach-fields tab.pools (nodes tab) l a b fits)

pub tree-listed : (tab : Listing) (x : Shape) (l : ℕ) → fits_in tab x ≡ true → x ≡ s.Tree l → IsListed tab l (fields_in (nodes tab) (the_list (slice_get tab.pools.lists l)))
tree-listed tab x l h e =
    let fits = sym (ap (fits_in tab) e) ∙ h in
    listed-there tab l (part-Tree-l tab.pools (nodes tab) l fits) (part-Tree-fields tab.pools (nodes tab) l fits)

fields-in : (ts : List ValueTree) (ns : List ℕ) → fields_of (fields_at ts ns) ≡ fields_in ts ns
unfolding fields_of fields_at
fields-in ts [] = refl
fields-in ts (n ∷ ns) = ap (λ fs. the_field (slice_get ts n) ∷ fs) (fields-in ts ns)

module _ (p : Pools) (ts : List ValueTree) (v : ValueTree) (x : Shape) (there : Some v ≡ Some (shape_tree p ts x)) where
  pub list-of-reach : (l a b : ℕ) → x ≡ s.Reach l a b → list_of v ≡ fields_in ts (the_list (slice_get p.lists l)) ∷ []
  unfolding shape_tree list_of
  list-of-reach l a b e =
      ap list_of (some-same v (shape_tree p ts x) there) ∙ ap (λ y. list_of (shape_tree p ts y)) e ∙ ap (λ fs. fs ∷ []) (fields-in ts (the_list (slice_get p.lists l)))

  pub list-of-tree : (l : ℕ) → x ≡ s.Tree l → list_of v ≡ fields_in ts (the_list (slice_get p.lists l)) ∷ []
  unfolding shape_tree list_of
  list-of-tree l e =
      ap list_of (some-same v (shape_tree p ts x) there) ∙ ap (λ y. list_of (shape_tree p ts y)) e ∙ ap (λ fs. fs ∷ []) (fields-in ts (the_list (slice_get p.lists l)))

  not-listed : (y : Shape) → ((l a b : ℕ) → y ≡ s.Reach l a b → ⊥) → ((l : ℕ) → y ≡ s.Tree l → ⊥) → list_of (shape_tree p ts y) ≡ []
  unfolding shape_tree list_of
  not-listed (s.Reach l a b) h k = absurd (h l a b refl)
  not-listed (s.Tree l) h k = absurd (k l refl)
  not-listed _ h k = refl

  pub list-of-none : ((l a b : ℕ) → x ≡ s.Reach l a b → ⊥) → ((l : ℕ) → x ≡ s.Tree l → ⊥) → list_of v ≡ []
  list-of-none h k = ap list_of (some-same v (shape_tree p ts x) there) ∙ not-listed x h k

-- ---- what is gathered

module _ (tab : Listing) (made : List Backbone) (bs : List BackboneTree) where
  -- from the beginning
  pub led-begun : (ns : List ℕ) (cs : List ChangeTree) (fs : List FieldTree) → AreBackbones tab made bs → AreFields tab ns fs → IsLed tab made ns cs (with_backbones bs (led_from fs cs))
  led-begun ns cs fs are stand = record { done = bs; names = fs; are = are; stand = stand; come = refl }

  -- the list of one formula
  pub led-one : (cs : List ChangeTree) (v : ValueTree) (fs : List FieldTree) → list_of v ≡ fs ∷ [] → AreBackbones tab made (with_backbones bs (led_from fs cs)) → AreBackbones tab made (with_backbones bs (led_of cs v))
  led-one cs v fs e are =
      subst (λ (ds : List BackboneTree). AreBackbones tab made (with_backbones bs ds)) (sym (append-nil (led_from fs cs)) ∙ sym (ap (λ ls. flat_map (λ gs. led_from gs cs) ls) e)) are

  pub led-none : (cs : List ChangeTree) (v : ValueTree) → list_of v ≡ [] → AreBackbones tab made bs → AreBackbones tab made (with_backbones bs (led_of cs v))
  led-none cs v e are = subst (λ (ds : List BackboneTree). AreBackbones tab made (with_backbones bs ds)) (sym (ap (λ ls. flat_map (λ gs. led_from gs cs) ls) e)) are

-- one formula more
pub led-next : (cs : List ChangeTree) (vs : List ValueTree) (i : ℕ) (v : ValueTree) → slice_get vs i ≡ Some v →
    with_backbones (with_backbones [] (flat_map (led_of cs) (take i vs))) (led_of cs v) ≡ with_backbones [] (flat_map (led_of cs) (take (i + 1) vs))
led-next cs vs i v at = sym (with-append (flat_map (led_of cs) (take i vs)) (led_of cs v) []) ∙ ap (with_backbones []) (sym (flat-next (led_of cs) vs i v at))

-- ---- axioms

pub base-sorted : (tab : Listing) (w : Option Base) (b : Option BaseTree) → IsBaseAt tab w b → IsSortedBase tab w
unfolding IsBaseAt IsSortedBase
base-sorted tab None b h = tt
base-sorted tab (Some w) None h = absurd h
base-sorted tab (Some w) (Some b) h = record {
  field = holds-field (slice_get (nodes tab) w.field) b.field h.field;
  at = holds-object (slice_get (nodes tab) w.at) b.at h.at;
  value = holds-object (slice_get (nodes tab) w.value) b.value h.value;
}

-- those of one more
pub axioms-added : (t u : Listing) → Extends t u → (old more new : List ℕ) (done others : List FormulaTree) → AreFormulas t old done → AreFormulas u more others → new ≡ old ++ more → AreFormulas u new (done ++ others)
axioms-added t u g old more new done others h k e =
    subst (λ (ns : List ℕ). AreFormulas u ns (done ++ others)) (sym e) (formulas-append u old more done others (formulas-grow t u old done g h) k)

pub axioms-next : (tab : Listing) (ns : List ℕ) (bs : List BackboneTree) (i : ℕ) (b : BackboneTree) → slice_get bs i ≡ Some b → AreFormulas tab ns (flat_map axioms_of (take i bs) ++ axioms_of b) → AreFormulas tab ns (flat_map axioms_of (take (i + 1) bs))
axioms-next tab ns bs i b at h = subst (λ (all : List FormulaTree). AreFormulas tab ns all) (sym (flat-next axioms_of bs i b at)) h
