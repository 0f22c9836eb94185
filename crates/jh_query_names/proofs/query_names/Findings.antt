-- Names that are noted, over the values at their nodes.
use Rattle.std.proofs.Common.{◌≡◌, refl, sym, ap, subst, ◌∙◌, ℕ, zero, suc, ◌<◌, Bool, true, false, ◌||◌, if◌then◌else◌, nat_eq, List, [], ◌∷◌, ◌++◌, length, slice_get, Some, arith, ◌⊎◌, inl, inr}
use Rattle.std.proofs.lemmas.Bool.{true≢false, eqb-true, eq-eqb}
use Rattle.jh_form.specs.Tree.{ValueTree}
use Rattle.jh_boxed_operations.specs.comparison.Exchanged.{equal_trees}
use Rattle.jh_boxed_operations.proofs.comparison.Equalities.{equal_trees-true, equal_trees-same}
use Rattle.jh_arena.specs.table.Entries.{the_value}
use Rattle.jh_arena.specs.table.Growth.{AreDifferent}
use Rattle.indexmap.specs.IndexSet.{insert_key}
use Rattle.jh_query_names.specs.query_names.Gathered.{value_names, has_name, with_name}
use Rattle.jh_query_names.specs.query_names.Kinds.{value_at}
use Rattle.jh_query_names.specs.query_names.Finding.{values_at, has_node, IsFound}
use Rattle.jh_query_names.proofs.query_names.Onces.{with-keeps}

both-ways : (p q : Bool) → (p ≡ true → q ≡ true) → (q ≡ true → p ≡ true) → p ≡ q
both-ways true q h k = sym (h refl)
both-ways false true h k = k refl
both-ways false false h k = refl

either : (p q : Bool) → (p || q) ≡ true → (p ≡ true) ⊎ (q ≡ true)
either true q h = inl refl
either false q h = inr h

or-right : (p q : Bool) → q ≡ true → (p || q) ≡ true
or-right true q h = refl
or-right false q h = h

pub value-of : (ts : List ValueTree) (n : ℕ) → n < length ts → slice_get ts n ≡ Some (value_at ts n)
unfolding the_value
value-of [] n lt = absurd (omega arith)
value-of (v ∷ ts) zero lt = refl
value-of (v ∷ ts) (suc n) lt = value-of ts n (omega arith)

values-append : (ts : List ValueTree) (ns : List ℕ) (n : ℕ) → values_at ts (ns ++ n ∷ []) ≡ values_at ts ns ++ value_at ts n ∷ []
values-append ts [] n = refl
values-append ts (m ∷ ns) n = ap (λ vs. value_at ts m ∷ vs) (values-append ts ns n)

node-append : (ns : List ℕ) (n m : ℕ) → has_node (ns ++ n ∷ []) m ≡ true → (has_node ns m ≡ true) ⊎ (m ≡ n)
node-append [] n m h = elim (either (nat_eq m n) false h) [ inl e ↦ inr (eqb-true m n e) | inr k ↦ absurd (true≢false (sym k)) ]
node-append (l ∷ ns) n m h =
    elim (either (nat_eq m l) (has_node (ns ++ n ∷ []) m) h) [
      | inl e ↦ inl ((λ i. e i || has_node ns m))
      | inr k ↦ elim (node-append ns n m k) [
        | inl u ↦ inl (or-right (nat_eq m l) (has_node ns m) u)
        | inr u ↦ inr u
      ]
    ]

-- what is in a list of nodes with one more
pub inserted : (ns : List ℕ) (n m : ℕ) (b : Bool) → has_node (if b then ns else ns ++ n ∷ []) m ≡ true → (has_node ns m ≡ true) ⊎ (m ≡ n)
inserted ns n m true h = inl h
inserted ns n m false h = node-append ns n m h

chosen-values : (ts : List ValueTree) (ns : List ℕ) (n : ℕ) (b : Bool) → values_at ts (if b then ns else ns ++ n ∷ []) ≡ (if b then values_at ts ns else values_at ts ns ++ value_at ts n ∷ [])
chosen-values ts ns n true = refl
chosen-values ts ns n false = values-append ts ns n

module _ (ts : List ValueTree) (different : AreDifferent ts) where
  same-node : (n m : ℕ) → n < length ts → m < length ts → nat_eq n m ≡ equal_trees (value_at ts n) (value_at ts m)
  same-node n m l k =
      both-ways (nat_eq n m) (equal_trees (value_at ts n) (value_at ts m))
      (λ h. equal_trees-same (value_at ts n) (value_at ts m) (ap (value_at ts) (eqb-true n m h)))
      (λ h. eq-eqb n m (different n m (value_at ts n) (value-of ts n l) (value-of ts m k ∙ ap (λ v. Some v) (sym (equal_trees-true (value_at ts n) (value_at ts m) h)))))

  same-has : (ns : List ℕ) (n : ℕ) → n < length ts → ((m : ℕ) → has_node ns m ≡ true → m < length ts) → has_node ns n ≡ has_name (values_at ts ns) (value_at ts n)
  same-has [] n lt h = refl
  same-has (m ∷ ns) n lt h = λ i. same-node n m lt (h m (λ j. eq-eqb m m refl j || has_node ns m)) i || same-has ns n lt (λ l k. h l (or-right (nat_eq l m) (has_node ns l) k)) i

  -- a name that is noted
  pub note-names : (ns seen : List ℕ) (n : ℕ) → IsFound ts ns seen → n < length ts → values_at ts (insert_key nat_eq ns n) ≡ with_name (values_at ts ns) (value_at ts n)
  note-names ns seen n found lt =
      chosen-values ts ns n (has_node ns n)
      ∙ ap (λ b. if b then values_at ts ns else values_at ts ns ++ value_at ts n ∷ []) (same-has ns n lt found.inside)

  pub note-found : (ns seen : List ℕ) (n : ℕ) → IsFound ts ns seen → n < length ts → IsFound ts (insert_key nat_eq ns n) seen
  note-found ns seen n found lt = record {
    inside = λ m h. elim (inserted ns n m (has_node ns n) h) [ inl k ↦ found.inside m k | inr e ↦ subst (λ (l : ℕ). l < length ts) (sym e) lt ];
    known = λ m h v k. ap (λ vs. has_name vs v) (note-names ns seen n found lt) ∙ with-keeps (value_at ts n ∷ []) (values_at ts ns) v (found.known m h v k);
  }

-- a node that was seen
pub see-found : (ts : List ValueTree) (ns seen : List ℕ) (n : ℕ) → IsFound ts ns seen → ((v : ValueTree) → has_name (value_names (value_at ts n)) v ≡ true → has_name (values_at ts ns) v ≡ true) → IsFound ts ns (insert_key nat_eq seen n)
see-found ts ns seen n found h = record {
  inside = found.inside;
  known = λ m k v l. elim (inserted seen n m (has_node seen n) k) [ inl u ↦ found.known m u v l | inr e ↦ h v (subst (λ (j : ℕ). has_name (value_names (value_at ts j)) v ≡ true) e l) ];
}
