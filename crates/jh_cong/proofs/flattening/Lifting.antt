-- What a structure of plain nodes says of numbers, a structure says of the trees.
use Rattle.std.proofs.Common.{◌≡◌, refl, sym, ap, subst, ◌∙◌, ℕ, zero, suc, ◌+◌, ◌-◌, ◌<◌, ◌≤◌, ℤ, List, [], ◌∷◌, ◌++◌, length, slice_get, inl, inr, Option, Some, None, arith}
use Rattle.std.specs.Option.{option_map_or}
use Rattle.std.proofs.lemmas.Bool.{cases_lt}
use Rattle.std.proofs.lemmas.Bool.Decides.{eqb_tells}
use Rattle.std.proofs.lemmas.Option.{none-some, slice_get_within}
use Rattle.jh_closure.specs.congruence_closure.Nodes.{Structure, Gives, node_value}
use Rattle.jh_closure.specs.declared.congruence_closure.node.Node.{Node}
use Rattle.jh_closure.specs.structures.Structures.{Any, object_any, number_any, truth_any, set_any, field_any}
use Rattle.jh_form.specs.Tree.{ValueTree}
use Rattle.jh_arena.specs.table.Entries.{Listing, the_name, the_value}
use Rattle.jh_arena.specs.table.Growth.{AreDifferent}
use Rattle.jh_arena.specs.table.Nodes.{nodes, shape_tree, tree_in}
use Rattle.jh_arena.specs.table.Parts.{list_parts}
use Rattle.jh_arena.specs.declared.table.shapes.Shape.{Shape}
use Rattle.jh_arena.specs.declared.table.shapes.Shape.TheVariants as s
use Rattle.jh_arena.proofs.table.Listed.{slice_get-append}
use Rattle.jh_arena.proofs.table.ShapeSorts.{tree-seen}
use Rattle.jh_cong.specs.flattening.Plain.{flat, IsHelper, AreMade, sort_at}
use Rattle.jh_cong.specs.flattening.TreeValues.{NumberStructure, value_in, AreApart, KeepsApart, AreValues}
use Rattle.jh_cong.specs.declared.flattening.flat.Flat.TheVariants as f
use Rattle.jh_cong.proofs.flattening.Coding.{int_code, decoded-code, code-one}
use Rattle.jh_cong.proofs.flattening.Helping.{flat-same, node-flat}
use Rattle.jh_cong.proofs.flattening.Keying.{Key, key, key_of, tree_of, key-tree, no_name, found, found-is, found-has}
use Rattle.jh_cong.proofs.flattening.Lowering.{part-before, same-before}
use Rattle.jh_cong.proofs.flattening.Valuing.{Agrees, chain_value, flat_value, number_value, value-shape}

abbrev updated : Structure ℕ → ℕ → ℕ → Any ℕ ℕ ℕ ℕ ℕ → ℕ
updated q a b (object_any v) = q.apply 14 a (q.apply 37 b v)
updated q a b (number_any v) = q.apply 15 a (q.apply 37 b v)
updated q a b (truth_any v) = q.apply 16 a (q.apply 37 b v)
updated q a b (set_any v) = q.apply 17 a (q.apply 37 b v)
updated q a b (field_any v) = q.apply 18 a (q.apply 37 b v)

-- more than each of the first values
abbrev above : (ℕ → ℕ) → ℕ → ℕ
above at zero = zero
above at (suc m) = suc (at m) + above at m

at-above : (at : ℕ → ℕ) (m k : ℕ) → k < m → at k < above at m
at-above at zero k l = absurd (omega (arith, l))
at-above at (suc m) k l = elim (cases_lt k m) [
  | inl before ↦ let r : at k < above at m = at-above at m k before in omega (arith, r)
  | inr past ↦ let e : k ≡ m = omega (arith, l, past) in subst (λ z. at z < suc (at m) + above at m) (sym e) (omega arith)
]

item-at : {X : Type 0} (xs : List X) (k : ℕ) → k < length xs → (x : X) × (slice_get xs k ≡ Some x)
item-at [] k l = absurd (omega (arith, l))
item-at (x ∷ xs) zero l = (x, refl)
item-at (x ∷ xs) (suc k) l = item-at xs k (omega (arith, l))

get-behind : {X : Type 0} (xs ys : List X) (k : ℕ) (x : X) → length xs ≤ k → slice_get ys (k - length xs) ≡ Some x → slice_get (xs ++ ys) k ≡ Some x
get-behind [] ys k x l e = subst (λ z. slice_get ys z ≡ Some x) (omega arith) e
get-behind (y ∷ xs) ys zero x l e = absurd (omega (arith, l))
get-behind (y ∷ xs) ys (suc k) x l e =
    let m : length xs ≤ k = omega (arith, l) in
    let same : suc k - length (y ∷ xs) ≡ k - length xs = omega (arith, l) in
    get-behind xs ys k x m (subst (λ z. slice_get ys z ≡ Some x) same e)

module _ (ts : List ValueTree) (q : Structure ℕ) (at : ℕ → ℕ) (different : AreDifferent ts) (apart : KeepsApart ts at) where
  abbrev keyed : Key → ℕ
  keyed j = option_map_or at (found j ts) (above at (length ts) + j.code)

  keyed-here : (k : ℕ) (v : ValueTree) (j : Key) → slice_get ts k ≡ Some v → key_of v ≡ Some j → keyed j ≡ at k
  keyed-here k v j e h =
      let r = found-has j ts k v e h in
      let w = found-is j ts r.0 r.1 in
      let same : w.0 ≡ v = key-tree w.0 j w.2 ∙ sym (key-tree v j h) in
      let place : r.0 ≡ k = different r.0 k v (w.1 ∙ ap Some same) e in
      ap (λ (o : Option ℕ). option_map_or at o (above at (length ts) + j.code)) r.1 ∙ ap at place

  -- where a key is found, and where it isn't
  keyed-some : (j : Key) (k : ℕ) → found j ts ≡ Some k → (keyed j ≡ at k) × (slice_get ts k ≡ Some (tree_of j)) × (at k < above at (length ts))
  keyed-some j k e =
      let w = found-is j ts k e in
      (ap (λ (o : Option ℕ). option_map_or at o (above at (length ts) + j.code)) e, w.1 ∙ ap Some (key-tree w.0 j w.2), at-above at (length ts) k (slice_get_within ts k w.0 w.1))

  keyed-none : (j : Key) → found j ts ≡ None → keyed j ≡ above at (length ts) + j.code
  keyed-none j e = ap (λ (o : Option ℕ). option_map_or at o (above at (length ts) + j.code)) e

  -- two keys of different codes whose trees are apart have different values
  keyed-apart : (i j : Key) → (AreApart (tree_of i) (tree_of j)) → (i.code ≡ j.code → ⊥) → keyed i ≡ keyed j → ⊥
  keyed-apart i j trees codes e = cases (found i ts) (found j ts) refl refl
    where
      cases : (o u : Option ℕ) → found i ts ≡ o → found j ts ≡ u → ⊥
      cases (Some k) (Some m) a b =
          let x = keyed-some i k a in
          let y = keyed-some j m b in
          apart k m (tree_of i) (tree_of j) x.1 y.1 trees (sym x.0 ∙ (e ∙ y.0))
      cases (Some k) None a b =
          let x = keyed-some i k a in
          let h : at k ≡ above at (length ts) + j.code = sym x.0 ∙ (e ∙ keyed-none j b) in
          let l = x.2 in
          omega (arith, h, l)
      cases None (Some m) a b =
          let y = keyed-some j m b in
          let h : above at (length ts) + i.code ≡ at m = sym (keyed-none i a) ∙ (e ∙ y.0) in
          let l = y.2 in
          omega (arith, h, l)
      cases None None a b =
          let h : above at (length ts) + i.code ≡ above at (length ts) + j.code = sym (keyed-none i a) ∙ (e ∙ keyed-none j b) in
          codes (omega (arith, h))

  constants-apart : (y z : ℤ) → keyed (key 3 (int_code y) no_name) ≡ keyed (key 3 (int_code z) no_name) → y ≡ z
  constants-apart y z e = elim (eqb_tells (int_code y) (int_code z)) [
    | inl same ↦ code-one y z same.1
    | inr other ↦ absurd (keyed-apart (key 3 (int_code y) no_name) (key 3 (int_code z) no_name) (λ w. other.1 (sym (ap int_code (decoded-code y)) ∙ (ap int_code w ∙ ap int_code (decoded-code z)))) other.1 e)
  ]

  truths-apart : keyed (key 4 0 no_name) ≡ keyed (key 4 1 no_name) → ⊥
  truths-apart e = keyed-apart (key 4 0 no_name) (key 4 1 no_name) tt (λ h. omega (arith, h)) e

  abbrev lifted : NumberStructure
  lifted = record {
    bound = λ k. keyed (key 0 k no_name);
    free_object = λ x. keyed (key 1 0 x);
    null = keyed (key 2 0 no_name);
    const = λ z. keyed (key 3 (int_code z) no_name);
    true_value = keyed (key 4 0 no_name);
    false_value = keyed (key 4 1 no_name);
    free_number = λ x. keyed (key 5 0 x);
    free_set = λ x. keyed (key 6 0 x);
    empty = keyed (key 7 0 no_name);
    univ = keyed (key 8 0 no_name);
    free_field = λ x. keyed (key 9 0 x);
    free_truth = λ x. keyed (key 10 0 x);
    read_object = λ a b. q.apply 0 a b;
    read_number = λ a b. q.apply 1 a b;
    add = λ a b. q.apply 2 a b;
    sub = λ a b. q.apply 3 a b;
    neg = λ a. q.apply 4 a a;
    scale = λ z a. q.apply 5 (number_value q z) a;
    card = λ a. q.apply 6 a a;
    read_set = λ a b. q.apply 7 a b;
    single = λ a. q.apply 8 a a;
    union = λ a b. q.apply 9 a b;
    inter = λ a b. q.apply 10 a b;
    diff = λ a b. q.apply 11 a b;
    compl = λ a. q.apply 12 a a;
    compr = λ a. q.apply 13 a a;
    update = λ a b v. updated q a b v;
    read_truth = λ a b. q.apply 19 a b;
    negation = λ a. q.apply 20 a a;
    and = λ a b. q.apply 21 a b;
    or = λ a b. q.apply 22 a b;
    implies = λ a b. q.apply 23 a b;
    iff = λ a b. q.apply 24 a b;
    all = λ a. q.apply 25 a a;
    ex = λ a. q.apply 26 a a;
    eq_object = λ a b. q.apply 27 a b;
    eq_number = λ a b. q.apply 28 a b;
    eq_set = λ a b. q.apply 29 a b;
    less = λ a b. q.apply 30 a b;
    less_equal = λ a b. q.apply 31 a b;
    divides = λ z a. q.apply 32 (number_value q z) a;
    member = λ a b. q.apply 33 a b;
    subset = λ a b. q.apply 34 a b;
    reach = λ fs a b. q.apply 35 (chain_value q fs) (q.apply 37 a b);
    tree = λ fs. q.apply 36 (chain_value q fs) (chain_value q fs);
    constants_differ = constants-apart;
    truths_differ = truths-apart;
  }

  agrees-lifted : Agrees lifted q
  agrees-lifted = record {
    read_object = λ a b. refl;
    read_number = λ a b. refl;
    add = λ a b. refl;
    sub = λ a b. refl;
    neg = λ a. refl;
    scale = λ z a. refl;
    card = λ a. refl;
    read_set = λ a b. refl;
    single = λ a. refl;
    union = λ a b. refl;
    inter = λ a b. refl;
    diff = λ a b. refl;
    compl = λ a. refl;
    compr = λ a. refl;
    update_object = λ a b v. refl;
    update_number = λ a b v. refl;
    update_truth = λ a b v. refl;
    update_set = λ a b v. refl;
    update_field = λ a b v. refl;
    read_truth = λ a b. refl;
    negation = λ a. refl;
    and = λ a b. refl;
    or = λ a b. refl;
    implies = λ a b. refl;
    iff = λ a b. refl;
    all = λ a. refl;
    ex = λ a. refl;
    eq_object = λ a b. refl;
    eq_number = λ a b. refl;
    eq_set = λ a b. refl;
    less = λ a b. refl;
    less_equal = λ a b. refl;
    divides = λ z a. refl;
    member = λ a b. refl;
    subset = λ a b. refl;
    reach = λ fs a b. refl;
    tree = λ fs. refl;
  }

-- there is a structure whose values are numbers
pub some_structure : NumberStructure
some_structure = lifted [] (record { leaf = λ o. o; apply = λ o x y. o }) (λ k. k) (λ i j x h w. absurd (none-some x h)) (λ i j v w h. absurd (none-some v h))

module _ (t : Listing) (made helpers : List Node) (count-is : length made ≡ length (nodes t)) (ok : AreMade t made helpers) (different : AreDifferent (nodes t)) (q : Structure ℕ) (at : ℕ → ℕ) (given : Gives q (made ++ helpers) at) (apart : KeepsApart (nodes t) at) where
  abbrev g : NumberStructure
  g = lifted (nodes t) q at different apart

  leaf-value : (x : Shape) → flat x ≡ f.Leaf → (j : Key) × (key_of (tree_in t x) ≡ Some j) × (value_in g (tree_in t x) ≡ keyed (nodes t) q at different apart j)
  unfolding flat shape_tree
  leaf-value (s.Bound k) e = ((key 0 k no_name), refl, refl)
  leaf-value (s.FreeObject n) e = ((key 1 0 (the_name (slice_get t.pools.names n))), refl, refl)
  leaf-value s.Null e = ((key 2 0 no_name), refl, refl)
  leaf-value (s.ReadObject a b) e = absurd (cc)
  leaf-value (s.Const z) e = ((key 3 (int_code z) no_name), refl, refl)
  leaf-value (s.FreeNumber n) e = ((key 5 0 (the_name (slice_get t.pools.names n))), refl, refl)
  leaf-value (s.ReadNumber a b) e = absurd (cc)
  leaf-value (s.Add a b) e = absurd (cc)
  leaf-value (s.Sub a b) e = absurd (cc)
  leaf-value (s.Neg a) e = absurd (cc)
  leaf-value (s.Scale z a) e = absurd (cc)
  leaf-value (s.Card a) e = absurd (cc)
  leaf-value (s.FreeSet n) e = ((key 6 0 (the_name (slice_get t.pools.names n))), refl, refl)
  leaf-value (s.ReadSet a b) e = absurd (cc)
  leaf-value s.Empty e = ((key 7 0 no_name), refl, refl)
  leaf-value s.Univ e = ((key 8 0 no_name), refl, refl)
  leaf-value (s.Single a) e = absurd (cc)
  leaf-value (s.Union a b) e = absurd (cc)
  leaf-value (s.Inter a b) e = absurd (cc)
  leaf-value (s.Diff a b) e = absurd (cc)
  leaf-value (s.Compl a) e = absurd (cc)
  leaf-value (s.Compr a) e = absurd (cc)
  leaf-value (s.FreeField n) e = ((key 9 0 (the_name (slice_get t.pools.names n))), refl, refl)
  leaf-value (s.Update a b c) e = absurd (cc)
  leaf-value s.True e = ((key 4 0 no_name), refl, refl)
  leaf-value s.False e = ((key 4 1 no_name), refl, refl)
  leaf-value (s.FreeTruth n) e = ((key 10 0 (the_name (slice_get t.pools.names n))), refl, refl)
  leaf-value (s.ReadTruth a b) e = absurd (cc)
  leaf-value (s.Negation a) e = absurd (cc)
  leaf-value (s.And a b) e = absurd (cc)
  leaf-value (s.Or a b) e = absurd (cc)
  leaf-value (s.Implies a b) e = absurd (cc)
  leaf-value (s.Iff a b) e = absurd (cc)
  leaf-value (s.All a) e = absurd (cc)
  leaf-value (s.Ex a) e = absurd (cc)
  leaf-value (s.EqObject a b) e = absurd (cc)
  leaf-value (s.EqNumber a b) e = absurd (cc)
  leaf-value (s.EqSet a b) e = absurd (cc)
  leaf-value (s.Less a b) e = absurd (cc)
  leaf-value (s.LessEqual a b) e = absurd (cc)
  leaf-value (s.Divides z a) e = absurd (cc)
  leaf-value (s.Member a b) e = absurd (cc)
  leaf-value (s.Subset a b) e = absurd (cc)
  leaf-value (s.Reach l a b) e = absurd (cc)
  leaf-value (s.Tree l) e = absurd (cc)
  leaf-value (s.Mark m a) e = absurd (cc)

  helper-given : (k : ℕ) (x : Node) → IsHelper (length (nodes t)) helpers k x → at k ≡ node_value q at x
  helper-given k x h = given.each k x (get-behind made helpers k x (subst (λ z. z ≤ k) (sym count-is) h.0) (subst (λ z. slice_get helpers (k - z) ≡ Some x) (sym count-is) h.1))

  made-given : (k : ℕ) (x : Node) → slice_get made k ≡ Some x → at k ≡ node_value q at x
  made-given k x e = given.each k x (slice_get-append made helpers k x e)

  abbrev seen : ℕ → ℕ
  seen k = value_in g (the_value (slice_get (nodes t) k))

  seen-at : (room k : ℕ) (x : Node) → k < room → slice_get made k ≡ Some x → seen k ≡ at k
  seen-at zero k x l e = absurd (omega (arith, l))
  seen-at (suc room) k x l e =
      let m = ok k x e in
      let mine = q.apply 39 (q.leaf k) (q.leaf k) in
      let fields = list_parts t.pools.lists m.shape in
      let tree-value : seen k ≡ value_in g (tree_in t m.shape) = ap (value_in g) (tree-seen (slice_get (nodes t) k) (tree_in t m.shape) m.tree) in
      let node-value : at k ≡ flat_value q mine (sort_at t) fields at (flat m.shape) =
      made-given k x e ∙ node-flat (length (nodes t)) made helpers (sort_at t) fields q at helper-given k (flat m.shape) x m.plain (λ a w. let r = same-before t made helpers k x m a w in made-given a x r.1) in
      tree-value
      ∙ (value-shape g q (agrees-lifted (nodes t) q at different apart) t.pools (nodes t) mine m.shape m.fits (λ w.
      let r = leaf-value m.shape w in
      r.2 ∙ (keyed-here (nodes t) q at different apart k (tree_in t m.shape) r.0 m.tree r.1 ∙ (node-value ∙ ap (flat_value q mine (sort_at t) fields at) w)))
      ∙ (flat-same q mine (sort_at t) fields seen at (flat m.shape) (λ a w.
      let b = part-before t made helpers k x m a w in
      let c : k < length made = slice_get_within made k x e in
      let r = item-at made a (omega (arith, b, c)) in
      seen-at room a r.0 (omega (arith, b, l)) r.1)
      ∙ sym node-value))

  values-lifted : AreValues g (nodes t) at
  values-lifted k v e =
      let l : k < length (nodes t) = slice_get_within (nodes t) k v e in
      let r = item-at made k (subst (λ z. k < z) (sym count-is) l) in
      sym (ap (value_in g) (tree-seen (slice_get (nodes t) k) v e)) ∙ seen-at (suc k) k r.0 (omega arith) r.1

  pub lifts : (s' : NumberStructure) × AreValues s' (nodes t) at
  lifts = (g, values-lifted)
