-- Nodes that were gathered stand for what they were gathered for, each once.
use Rattle.std.proofs.Common.{◌≡◌, refl, sym, ap, subst, ◌∙◌, ℕ, Bool, true, false, ◌||◌, if◌then◌else◌, ◌≤◌, ◌+◌, List, [], ◌∷◌, ◌++◌, map, take, length, slice_get, Some, nat_eq}
use Rattle.std.specs.List.{list_any, filter}
use Rattle.std.proofs.lemmas.Bool.{eqb-true, eq-eqb}
use Rattle.std.proofs.lemmas.List.{append-nil, append_assoc, map-append, take_all}
use Rattle.std.proofs.lemmas.List.Elements.{filter-append}
use Rattle.indexmap.specs.IndexSet.{insert_key, insert_all}
use Rattle.jh_form.specs.Tree.{FormulaTree, ValueTree, of_truth}
use Rattle.jh_boxed_operations.specs.comparison.Exchanged.{equal_trees}
use Rattle.jh_boxed_operations.proofs.comparison.Equalities.{equal_trees-true, equal_trees-same}
use Rattle.jh_arena.specs.table.Entries.{Listing, the_value}
use Rattle.jh_arena.specs.table.Growth.{AreDifferent}
use Rattle.jh_arena.specs.table.Nodes.{nodes}
use Rattle.jh_normal_forms.specs.parts.Collected.{IsCollected}
use Rattle.jh_normal_forms.specs.parts.Collected as collected
use Rattle.jh_normal_forms.specs.parts.Standing.{value_parts}
use Rattle.jh_normal_forms.specs.declared.parts.order.Order.{Order}
use Rattle.jh_normal_forms.specs.declared.parts.order.Order.TheVariants as order
use Rattle.jh_approx.specs.definition.Names.{without_repeats}
use Rattle.jh_abstraction.specs.jh_query_names.query_names.Gathered.{has_name, with_name, with_names}
use Rattle.jh_abstraction.proofs.of_jh_query_names.query_names.Onces.{with-once}
use Rattle.jh_reach.specs.Standing.{AreFormulas}
use Rattle.jh_fca.specs.local_form.Named as spec
use Rattle.jh_local_form.specs.updates.Updating.{AreValues}
use Rattle.jh_local_form.proofs.updates.Places.{take-next}

both-ways : (p q : Bool) → (p ≡ true → q ≡ true) → (q ≡ true → p ≡ true) → p ≡ q
both-ways true q h k = sym (h refl)
both-ways false true h k = k refl
both-ways false false h k = refl

value-same : (v w : ValueTree) → Some v ≡ Some w → v ≡ w
value-same v w e = cc

head-same : {X : Type 0} (x y : X) (xs ys : List X) → x ∷ xs ≡ y ∷ ys → x ≡ y
head-same x y xs ys e = cc

rest-same : {X : Type 0} (x y : X) (xs ys : List X) → x ∷ xs ≡ y ∷ ys → xs ≡ ys
rest-same x y xs ys e = cc

nothing-some : {X : Type 0} (x : X) (xs : List X) → [] ≡ x ∷ xs → ⊥
nothing-some x xs e = cc

-- values that stand at nodes, said by an equation
pub listed-values : (ts : List ValueTree) (ns : List ℕ) (vs : List ValueTree) → map (slice_get ts) ns ≡ map (λ v. Some v) vs → AreValues ts ns vs
unfolding AreValues
listed-values ts [] [] h = tt
listed-values ts [] (v ∷ vs) h = absurd (nothing-some (Some v) (map (λ w. Some w) vs) h)
listed-values ts (n ∷ ns) [] h = absurd (nothing-some (slice_get ts n) (map (slice_get ts) ns) (sym h))
listed-values ts (n ∷ ns) (v ∷ vs) h = (
  head-same (slice_get ts n) (Some v) (map (slice_get ts) ns) (map (λ w. Some w) vs) h,
  listed-values ts ns vs (rest-same (slice_get ts n) (Some v) (map (slice_get ts) ns) (map (λ w. Some w) vs) h),
)

pub values-append : (ts : List ValueTree) (ns ms : List ℕ) (vs ws : List ValueTree) → AreValues ts ns vs → AreValues ts ms ws → AreValues ts (ns ++ ms) (vs ++ ws)
unfolding AreValues
values-append ts [] ms [] ws h k = k
values-append ts [] ms (v ∷ vs) ws h k = absurd h
values-append ts (n ∷ ns) ms [] ws h k = absurd h
values-append ts (n ∷ ns) ms (v ∷ vs) ws h k = (h.0, values-append ts ns ms vs ws h.1 k)

pub values-push : (ts : List ValueTree) (ns : List ℕ) (vs : List ValueTree) (n : ℕ) (v : ValueTree) → AreValues ts ns vs → slice_get ts n ≡ Some v → AreValues ts (ns ++ n ∷ []) (vs ++ v ∷ [])
unfolding AreValues
values-push ts ns vs n v h k = values-append ts ns (n ∷ []) vs (v ∷ []) h (k, tt)

module _ (ts : List ValueTree) (different : AreDifferent ts) where
  -- two nodes are one where their trees are
  pub same-node : (n m : ℕ) (v w : ValueTree) → slice_get ts n ≡ Some v → slice_get ts m ≡ Some w → nat_eq n m ≡ equal_trees v w
  same-node n m v w h k =
      both-ways (nat_eq n m) (equal_trees v w) (λ e. equal_trees-same v w (value-same v w (sym h ∙ ap (slice_get ts) (eqb-true n m e) ∙ k)))
      (λ e. eq-eqb n m (different n m w (h ∙ ap (λ u. Some u) (equal_trees-true v w e)) k))

  has-node : (ks : List ℕ) (vs : List ValueTree) (n : ℕ) (v : ValueTree) → AreValues ts ks vs → slice_get ts n ≡ Some v → list_any (nat_eq n) ks ≡ has_name vs v
  unfolding AreValues
  has-node [] [] n v h k = refl
  has-node [] (w ∷ vs) n v h k = absurd h
  has-node (m ∷ ks) [] n v h k = absurd h
  has-node (m ∷ ks) (w ∷ vs) n v h k = λ i. same-node n m v w k h.0 i || has-node ks vs n v h.1 k i

  inserted-if : (b : Bool) (ks : List ℕ) (vs : List ValueTree) (n : ℕ) (v : ValueTree) → AreValues ts ks vs → slice_get ts n ≡ Some v → AreValues ts (if b then ks else ks ++ n ∷ []) (if b then vs else vs ++ v ∷ [])
  inserted-if true ks vs n v h k = h
  inserted-if false ks vs n v h k = values-push ts ks vs n v h k

  inserted : (ks : List ℕ) (vs : List ValueTree) (n : ℕ) (v : ValueTree) → AreValues ts ks vs → slice_get ts n ≡ Some v → AreValues ts (insert_key nat_eq ks n) (with_name vs v)
  inserted ks vs n v h k = subst (λ (b : Bool). AreValues ts (insert_key nat_eq ks n) (if b then vs else vs ++ v ∷ [])) (has-node ks vs n v h k) (inserted-if (list_any (nat_eq n) ks) ks vs n v h k)

  all-inserted : (ns ks : List ℕ) (ws vs : List ValueTree) → AreValues ts ks vs → AreValues ts ns ws → AreValues ts (insert_all nat_eq ks ns) (with_names vs ws)
  unfolding AreValues
  all-inserted [] ks [] vs h k = h
  all-inserted [] ks (w ∷ ws) vs h k = absurd k
  all-inserted (n ∷ ns) ks [] vs h k = absurd k
  all-inserted (n ∷ ns) ks (w ∷ ws) vs h k = all-inserted ns (insert_key nat_eq ks n) ws (with_name vs w) (inserted ks vs n w h k.0) k.1

  -- what was collected from nothing stands there, each once
  pub collected-once : (list none : List ℕ) (trees : List ValueTree) → none ≡ [] → IsCollected ts none trees list → AreValues ts list (without_repeats trees)
  unfolding AreValues
  collected-once list none trees e h =
      subst (λ (ks : List ℕ). AreValues ts ks (without_repeats trees)) (sym (h.added ∙ ap (λ ks. insert_all nat_eq ks h.numbers) e))
      (subst (λ (ws : List ValueTree). AreValues ts (insert_all nat_eq [] h.numbers) ws) (with-once trees) (all-inserted h.numbers [] trees [] tt (listed-values ts h.numbers trees h.are)))

-- the parts of formulas, by the nodes of the formulas
pub parts-facts : (t : Listing) (ns : List ℕ) (facts : List FormulaTree) → AreFormulas t ns facts → collected.all_parts order.InnerFirst (nodes t) ns ≡ spec.all_parts facts
unfolding AreFormulas the_value value_parts
parts-facts t [] [] h = refl
parts-facts t [] (a ∷ facts) h = absurd h
parts-facts t (n ∷ ns) [] h = absurd h
parts-facts t (n ∷ ns) (a ∷ facts) h = λ i. value_parts (the_value (h.0 i)) order.InnerFirst ++ parts-facts t ns facts h.1 i

-- ---- the parts of one formula after another

parts-append : (o : Order) (ts : List ValueTree) (xs ys : List ℕ) → collected.all_parts o ts (xs ++ ys) ≡ collected.all_parts o ts xs ++ collected.all_parts o ts ys
parts-append o ts [] ys = refl
parts-append o ts (x ∷ xs) ys =
    ap (λ z. value_parts (the_value (slice_get ts x)) o ++ z) (parts-append o ts xs ys)
    ∙ sym (append_assoc (value_parts (the_value (slice_get ts x)) o) (collected.all_parts o ts xs) (collected.all_parts o ts ys))

inserted-append : (ks ns ms : List ℕ) → insert_all nat_eq ks (ns ++ ms) ≡ insert_all nat_eq (insert_all nat_eq ks ns) ms
inserted-append ks [] ms = refl
inserted-append ks (n ∷ ns) ms = inserted-append (insert_key nat_eq ks n) ns ms

pub collected-none : (ts : List ValueTree) (list : List ℕ) → IsCollected ts list [] list
collected-none ts list = record { numbers = []; are = refl; added = refl }

collected-join : (ts xs ys : List ValueTree) (a b c : List ℕ) → IsCollected ts a xs b → IsCollected ts b ys c → IsCollected ts a (xs ++ ys) c
collected-join ts xs ys a b c h k = record {
  numbers = h.numbers ++ k.numbers;
  are = map-append (slice_get ts) h.numbers k.numbers ∙ (λ i. h.are i ++ k.are i) ∙ sym (map-append (λ v. Some v) xs ys);
  added = k.added ∙ ap (λ z. insert_all nat_eq z k.numbers) h.added ∙ sym (inserted-append a h.numbers k.numbers);
}

module _ (q : ValueTree → Bool) (o : Order) (ts : List ValueTree) where
  -- those of one more
  pub collected-step : (ps a b c : List ℕ) (i p : ℕ) → IsCollected ts a (filter q (collected.all_parts o ts (take i ps))) b → IsCollected ts b (filter q (value_parts (the_value (slice_get ts p)) o)) c → slice_get ps i ≡ Some p →
      IsCollected ts a (filter q (collected.all_parts o ts (take (i + 1) ps))) c
  collected-step ps a b c i p h k e =
      let here = value_parts (the_value (slice_get ts p)) o in
      let parts : collected.all_parts o ts (take (i + 1) ps) ≡ collected.all_parts o ts (take i ps) ++ here =
      ap (collected.all_parts o ts) (take-next ps i p e) ∙ parts-append o ts (take i ps) (p ∷ []) ∙ ap (λ z. collected.all_parts o ts (take i ps) ++ z) (append-nil here) in
      let same : filter q (collected.all_parts o ts (take (i + 1) ps)) ≡ filter q (collected.all_parts o ts (take i ps)) ++ filter q here =
      ap (filter q) parts ∙ filter-append q (collected.all_parts o ts (take i ps)) here in
      subst (λ (z : List ValueTree). IsCollected ts a z c) (sym same) (collected-join ts (filter q (collected.all_parts o ts (take i ps))) (filter q here) a b c h k)

  -- those of all
  pub collected-whole : (ps a b : List ℕ) (i : ℕ) → IsCollected ts a (filter q (collected.all_parts o ts (take i ps))) b → length ps ≤ i → IsCollected ts a (filter q (collected.all_parts o ts ps)) b
  collected-whole ps a b i h le = subst (λ (z : List ℕ). IsCollected ts a (filter q (collected.all_parts o ts z)) b) (take_all i ps le) h
