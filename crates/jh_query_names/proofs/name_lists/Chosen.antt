-- Nodes of one sort among those of names, and the names at them.
use Rattle.std.proofs.Common.{◌≡◌, refl, sym, ap, ◌∙◌, ℕ, zero, suc, ◌<◌, Bool, true, false, not, ◌||◌, if◌then◌else◌, nat_eq, List, [], ◌∷◌, ◌++◌, length, slice_get, Some, get_or, arith}
use Rattle.std.specs.Prelude.{filter}
use Rattle.std.specs.List.{list_any}
use Rattle.std.proofs.lemmas.Bool.{eqb-true, eq-eqb}
use Rattle.jh_name.specs.declared.place.Sort.{Sort}
use Rattle.jh_form.specs.Sorts.{tree_sort, same_sort}
use Rattle.jh_form.specs.Tree.{ValueTree}
use Rattle.jh_boxed_operations.specs.comparison.Exchanged.{equal_trees}
use Rattle.jh_boxed_operations.proofs.comparison.Equalities.{equal_trees-true, equal_trees-same}
use Rattle.jh_arena.specs.table.Entries.{the_value}
use Rattle.jh_arena.specs.table.Growth.{AreDifferent}
use Rattle.indexmap.specs.IndexSet.{insert_key, insert_all}
use Rattle.jh_approx.specs.definition.Names.{without_repeats}
use Rattle.jh_query_names.specs.query_names.Gathered.{has_name, with_name, with_names}
use Rattle.jh_query_names.specs.query_names.Kinds.{value_at}
use Rattle.jh_query_names.specs.query_names.Finding.{values_at, AreBelow}
use Rattle.jh_query_names.proofs.query_names.Onces.{with-once, once-filter}
use Rattle.jh_query_names.specs.name_lists.Sorting.{has_sort, of_sort}

pub both-ways : (p q : Bool) → (p ≡ true → q ≡ true) → (q ≡ true → p ≡ true) → p ≡ q
both-ways true q h k = sym (h refl)
both-ways false true h k = k refl
both-ways false false h k = refl

value-of : (ts : List ValueTree) (n : ℕ) → n < length ts → slice_get ts n ≡ Some (value_at ts n)
unfolding the_value
value-of [] n lt = absurd (omega arith)
value-of (v ∷ ts) zero lt = refl
value-of (v ∷ ts) (suc n) lt = value-of ts n (omega arith)

values-append : (ts : List ValueTree) (ns : List ℕ) (n : ℕ) → values_at ts (ns ++ n ∷ []) ≡ values_at ts ns ++ value_at ts n ∷ []
values-append ts [] n = refl
values-append ts (m ∷ ns) n = ap (λ vs. value_at ts m ∷ vs) (values-append ts ns n)

chosen-values : (ts : List ValueTree) (ns : List ℕ) (n : ℕ) (b : Bool) → values_at ts (if b then ns else ns ++ n ∷ []) ≡ (if b then values_at ts ns else values_at ts ns ++ value_at ts n ∷ [])
chosen-values ts ns n true = refl
chosen-values ts ns n false = values-append ts ns n

below-append : (k : ℕ) (ns : List ℕ) (n : ℕ) → AreBelow k ns → n < k → AreBelow k (ns ++ n ∷ [])
below-append k [] n h lt = (lt, tt)
below-append k (m ∷ ns) n h lt = (h.0, below-append k ns n h.1 lt)

chosen-below : (k : ℕ) (ns : List ℕ) (n : ℕ) (b : Bool) → AreBelow k ns → n < k → AreBelow k (if b then ns else ns ++ n ∷ [])
chosen-below k ns n true h lt = h
chosen-below k ns n false h lt = below-append k ns n h lt

-- one of them
pub below-at : (k : ℕ) (ns : List ℕ) (j d : ℕ) → AreBelow k ns → j < length ns → get_or ns j d < k
below-at k [] j d h lt = absurd (omega arith)
below-at k (n ∷ ns) zero d h lt = h.0
below-at k (n ∷ ns) (suc j) d h lt = below-at k ns j d h.1 (omega arith)

-- ---- nodes that are added in turn

pub below-all : (k : ℕ) (ms ns : List ℕ) → AreBelow k ms → AreBelow k ns → AreBelow k (insert_all nat_eq ms ns)
below-all k ms [] h l = h
below-all k ms (n ∷ ns) h l = below-all k (insert_key nat_eq ms n) ns (chosen-below k ms n (list_any (nat_eq n) ms) h l.0) l.1

module _ (ts : List ValueTree) (different : AreDifferent ts) where
  -- two nodes are one exactly where their values are
  pub same-node : (n m : ℕ) → n < length ts → m < length ts → nat_eq n m ≡ equal_trees (value_at ts n) (value_at ts m)
  same-node n m l k =
      both-ways (nat_eq n m) (equal_trees (value_at ts n) (value_at ts m))
      (λ h. equal_trees-same (value_at ts n) (value_at ts m) (ap (value_at ts) (eqb-true n m h)))
      (λ h. eq-eqb n m (different n m (value_at ts n) (value-of ts n l) (value-of ts m k ∙ ap (λ v. Some v) (sym (equal_trees-true (value_at ts n) (value_at ts m) h)))))

  same-has : (ns : List ℕ) (n : ℕ) → n < length ts → AreBelow (length ts) ns → list_any (nat_eq n) ns ≡ has_name (values_at ts ns) (value_at ts n)
  same-has [] n lt h = refl
  same-has (m ∷ ns) n lt h = λ i. same-node n m lt h.0 i || same-has ns n lt h.1 i

  values-insert : (ns : List ℕ) (n : ℕ) → n < length ts → AreBelow (length ts) ns → values_at ts (insert_key nat_eq ns n) ≡ with_name (values_at ts ns) (value_at ts n)
  values-insert ns n lt h =
      chosen-values ts ns n (list_any (nat_eq n) ns)
      ∙ ap (λ b. if b then values_at ts ns else values_at ts ns ++ value_at ts n ∷ []) (same-has ns n lt h)

  values-all : (ms ns : List ℕ) → AreBelow (length ts) ms → AreBelow (length ts) ns → values_at ts (insert_all nat_eq ms ns) ≡ with_names (values_at ts ms) (values_at ts ns)
  values-all ms [] h l = refl
  values-all ms (n ∷ ns) h l =
      values-all (insert_key nat_eq ms n) ns (chosen-below (length ts) ms n (list_any (nat_eq n) ms) h l.0) l.1
      ∙ ap (λ vs. with_names vs (values_at ts ns)) (values-insert ms n l.0 h)

-- ---- nodes of a sort

-- whether a value has this sort
abbrev pub sorted_as : Sort → ValueTree → Bool
sorted_as sort v = same_sort (tree_sort v) sort

chosen-sort : (ts : List ValueTree) (b : Bool) (n : ℕ) (ns : List ℕ) → values_at ts (if b then n ∷ ns else ns) ≡ (if b then value_at ts n ∷ values_at ts ns else values_at ts ns)
chosen-sort ts true n ns = refl
chosen-sort ts false n ns = refl

values-sort : (ts : List ValueTree) (sort : Sort) (ns : List ℕ) → values_at ts (of_sort ts sort ns) ≡ filter (sorted_as sort) (values_at ts ns)
values-sort ts sort [] = refl
values-sort ts sort (n ∷ ns) =
    chosen-sort ts (has_sort ts sort n) n (of_sort ts sort ns)
    ∙ ap (λ vs. if has_sort ts sort n then value_at ts n ∷ vs else vs) (values-sort ts sort ns)

chosen-below-sort : (k : ℕ) (b : Bool) (n : ℕ) (ns : List ℕ) → n < k → AreBelow k ns → AreBelow k (if b then n ∷ ns else ns)
chosen-below-sort k true n ns lt h = (lt, h)
chosen-below-sort k false n ns lt h = h

pub below-sort : (k : ℕ) (ts : List ValueTree) (sort : Sort) (ns : List ℕ) → AreBelow k ns → AreBelow k (of_sort ts sort ns)
below-sort k ts sort [] h = tt
below-sort k ts sort (n ∷ ns) h = chosen-below-sort k (has_sort ts sort n) n (of_sort ts sort ns) h.0 (below-sort k ts sort ns h.1)

-- ---- once, again

filter-chosen : (p : ValueTree → Bool) (b : Bool) (v : ValueTree) (vs : List ValueTree) → p v ≡ b → filter p vs ≡ vs → filter p (if b then v ∷ vs else vs) ≡ (if b then v ∷ vs else vs)
filter-chosen p true v vs e h = (λ i. if e i then v ∷ h i else h i)
filter-chosen p false v vs e h = h

filter-again : (p : ValueTree → Bool) (vs : List ValueTree) → filter p (filter p vs) ≡ filter p vs
filter-again p [] = refl
filter-again p (v ∷ vs) = filter-chosen p (p v) v (filter p vs) refl (filter-again p vs)

once-again : (vs : List ValueTree) → without_repeats (without_repeats vs) ≡ without_repeats vs
unfolding without_repeats
once-again [] = refl
once-again (v ∷ vs) =
    ap (λ ws. v ∷ filter (λ w. not (equal_trees v w)) ws) (once-filter (λ w. not (equal_trees v w)) (without_repeats vs))
    ∙ ap (λ ws. v ∷ ws) (filter-again (λ w. not (equal_trees v w)) (without_repeats (without_repeats vs)) ∙ ap (filter (λ w. not (equal_trees v w))) (once-again vs))

-- The nodes of a sort among those of names that were gathered from none: each name of the sort once.
pub values-of-sort : (ts : List ValueTree) (sort : Sort) (ns : List ℕ) (vs : List ValueTree) → AreDifferent ts → AreBelow (length ts) ns → values_at ts ns ≡ with_names [] vs →
    values_at ts (insert_all nat_eq [] (of_sort ts sort ns)) ≡ without_repeats (filter (sorted_as sort) vs)
values-of-sort ts sort ns vs different h e =
    values-all ts different [] (of_sort ts sort ns) tt (below-sort (length ts) ts sort ns h)
    ∙ with-once (values_at ts (of_sort ts sort ns))
    ∙ ap without_repeats (values-sort ts sort ns ∙ ap (filter (sorted_as sort)) (e ∙ with-once vs))
    ∙ once-filter (sorted_as sort) (without_repeats vs)
    ∙ ap (filter (sorted_as sort)) (once-again vs)
    ∙ sym (once-filter (sorted_as sort) vs)
