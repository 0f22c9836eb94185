-- What a structure says of trees, a structure of plain nodes says of their numbers: pairs, lists and whole numbers are
-- numbers there.
use Rattle.std.proofs.Common.{◌≡◌, refl, sym, ap, subst, ◌∙◌, ℕ, zero, suc, ◌+◌, ◌-◌, ◌<◌, ◌≤◌, List, [], ◌∷◌, ◌++◌, length, slice_get, nat_lt, if◌then◌else◌, ◌⊎◌, inl, inr, Option, Some, arith}
use Rattle.std.specs.Option.{option_map_or}
use Rattle.std.proofs.lemmas.Bool.{cases_lt, lt-ltb, le-ltb}
use Rattle.std.proofs.lemmas.Option.{slice_get_within, slice_get_cases}
use Rattle.jh_closure.specs.congruence_closure.Nodes.{EachPart, Has, Structure, Gives, node_value}
use Rattle.jh_closure.specs.declared.congruence_closure.node.Node.{Node}
use Rattle.jh_closure.specs.declared.congruence_closure.node.Node.TheVariants as n
use Rattle.jh_closure.proofs.congruence_closure.Having.{has-right, place-of}
use Rattle.jh_closure.proofs.congruence_closure.Signing.{each-weaker}
use Rattle.jh_closure.specs.structures.Structures.{object_any, number_any, truth_any, set_any, field_any}
use Rattle.jh_form.specs.Tree.{ValueTree}
use Rattle.jh_arena.specs.table.Entries.{Listing, the_value}
use Rattle.jh_arena.specs.table.Nodes.{nodes, tree_in}
use Rattle.jh_arena.specs.table.Parts.{list_parts, own_parts, parts}
use Rattle.jh_arena.proofs.table.ShapeSorts.{tree-seen}
use Rattle.jh_cong.specs.flattening.Plain.{flat, IsHelper, IsPlain, IsMade, AreBehind, AreMade, sort_at}
use Rattle.jh_cong.specs.flattening.TreeValues.{NumberStructure, value_in, AreValues}
use Rattle.jh_cong.specs.declared.flattening.flat.Flat.{Flat}
use Rattle.jh_cong.specs.declared.flattening.flat.Flat.TheVariants as f
use Rattle.jh_cong.proofs.flattening.Coding.{pair, first, second, first-pair, second-pair, list_code, unlisted, unlisted-code, decoded, decoded-code}
use Rattle.jh_cong.proofs.flattening.Helping.{flat_parts, parts-flat, flat-same, node-flat}
use Rattle.jh_cong.proofs.flattening.Valuing.{Agrees, chain_value, value-shape}

-- where a joined list has something
pub get-joined : {X : Type 0} (xs ys : List X) (k : ℕ) (x : X) → slice_get (xs ++ ys) k ≡ Some x → ((k < length xs) × (slice_get xs k ≡ Some x)) ⊎ ((length xs ≤ k) × (slice_get ys (k - length xs) ≡ Some x))
get-joined [] ys k x h = inr (omega arith, subst (λ z. slice_get ys z ≡ Some x) (omega arith) h)
get-joined (y ∷ xs) ys zero x h = inl (omega arith, h)
get-joined (y ∷ xs) ys (suc k) x h = elim (get-joined xs ys k x h) [
  | inl w ↦ inl (let l = w.0 in omega (arith, l), w.1)
  | inr w ↦ (
      let l : length xs ≤ k = w.0 in
      let same : k - length xs ≡ suc k - length (y ∷ xs) = omega (arith, l) in
      inr (omega (arith, l), subst (λ z. slice_get ys z ≡ Some x) same w.1))
]

-- the parts of what was made stand before it
pub part-before : (t : Listing) (made helpers : List Node) (k : ℕ) (x : Node) (m : IsMade t made helpers k x) (a : ℕ) → Has (list_parts t.pools.lists m.shape ++ flat_parts (flat m.shape)) a → a < k
part-before t made helpers k x m a w =
    let here = place-of (list_parts t.pools.lists m.shape ++ own_parts m.shape) a (subst (λ (ps : List ℕ). Has (list_parts t.pools.lists m.shape ++ ps) a) (parts-flat m.shape) w) in
    m.below.below here.0 a here.1

-- the part of which it is another name
pub same-before : (t : Listing) (made helpers : List Node) (k : ℕ) (x : Node) (m : IsMade t made helpers k x) (a : ℕ) → flat m.shape ≡ f.Same a → (a < k) × (slice_get made a ≡ Some x)
same-before t made helpers k x m a e = (
  part-before t made helpers k x m a (subst (λ (y : Flat). Has (list_parts t.pools.lists m.shape ++ flat_parts y) a) (sym e) (has-right (list_parts t.pools.lists m.shape) (a ∷ []) a (inl refl))),
  subst (λ y. IsPlain (length (nodes t)) made helpers (sort_at t) (list_parts t.pools.lists m.shape) k y x) e m.plain,
)

below-room : (count p k bound : ℕ) → p < count + (k - count) → k < suc bound → count ≤ k → p < bound
below-room count p k bound w l past = omega (arith, w, l, past)

module _ (g : NumberStructure) (ts : List ValueTree) where
  abbrev operations : List (ℕ → ℕ → ℕ)
  operations =
      (λ x y. g.read_object x y)
      ∷ (λ x y. g.read_number x y)
      ∷ (λ x y. g.add x y)
      ∷ (λ x y. g.sub x y)
      ∷ (λ x y. g.neg x)
      ∷ (λ x y. g.scale (decoded x) y)
      ∷ (λ x y. g.card x)
      ∷ (λ x y. g.read_set x y)
      ∷ (λ x y. g.single x)
      ∷ (λ x y. g.union x y)
      ∷ (λ x y. g.inter x y)
      ∷ (λ x y. g.diff x y)
      ∷ (λ x y. g.compl x)
      ∷ (λ x y. g.compr x)
      ∷ (λ x y. g.update x (first y) (object_any (second y)))
      ∷ (λ x y. g.update x (first y) (number_any (second y)))
      ∷ (λ x y. g.update x (first y) (truth_any (second y)))
      ∷ (λ x y. g.update x (first y) (set_any (second y)))
      ∷ (λ x y. g.update x (first y) (field_any (second y)))
      ∷ (λ x y. g.read_truth x y)
      ∷ (λ x y. g.negation x)
      ∷ (λ x y. g.and x y)
      ∷ (λ x y. g.or x y)
      ∷ (λ x y. g.implies x y)
      ∷ (λ x y. g.iff x y)
      ∷ (λ x y. g.all x)
      ∷ (λ x y. g.ex x)
      ∷ (λ x y. g.eq_object x y)
      ∷ (λ x y. g.eq_number x y)
      ∷ (λ x y. g.eq_set x y)
      ∷ (λ x y. g.less x y)
      ∷ (λ x y. g.less_equal x y)
      ∷ (λ x y. g.divides (decoded x) y)
      ∷ (λ x y. g.member x y)
      ∷ (λ x y. g.subset x y)
      ∷ (λ x y. g.reach (unlisted x) (first y) (second y))
      ∷ (λ x y. g.tree (unlisted x))
      ∷ (λ x y. pair x y)
      ∷ (λ x y. suc (pair x y))
      ∷ (λ x y. value_in g (the_value (slice_get ts x)))
      ∷ []

  abbrev lowered : Structure ℕ
  lowered = record { leaf = λ o. o; apply = λ o x y. option_map_or (λ (h : ℕ → ℕ → ℕ). h x y) (slice_get operations o) 0 }

  chain-coded : (fs : List ℕ) → chain_value lowered fs ≡ list_code fs
  chain-coded [] = refl
  chain-coded (x ∷ xs) = ap (λ z. suc (pair x z)) (chain-coded xs)

  chain-back : (fs : List ℕ) → unlisted (chain_value lowered fs) ≡ fs
  chain-back fs = ap unlisted (chain-coded fs) ∙ unlisted-code fs

  agrees-lowered : Agrees g lowered
  agrees-lowered = record {
    read_object = λ a b. refl;
    read_number = λ a b. refl;
    add = λ a b. refl;
    sub = λ a b. refl;
    neg = λ a. refl;
    scale = λ z a. ap (λ y. g.scale y a) (sym (decoded-code z));
    card = λ a. refl;
    read_set = λ a b. refl;
    single = λ a. refl;
    union = λ a b. refl;
    inter = λ a b. refl;
    diff = λ a b. refl;
    compl = λ a. refl;
    compr = λ a. refl;
    update_object = λ a b v i. g.update a (sym (first-pair b v) i) (object_any (sym (second-pair b v) i));
    update_number = λ a b v i. g.update a (sym (first-pair b v) i) (number_any (sym (second-pair b v) i));
    update_truth = λ a b v i. g.update a (sym (first-pair b v) i) (truth_any (sym (second-pair b v) i));
    update_set = λ a b v i. g.update a (sym (first-pair b v) i) (set_any (sym (second-pair b v) i));
    update_field = λ a b v i. g.update a (sym (first-pair b v) i) (field_any (sym (second-pair b v) i));
    read_truth = λ a b. refl;
    negation = λ a. refl;
    and = λ a b. refl;
    or = λ a b. refl;
    implies = λ a b. refl;
    iff = λ a b. refl;
    all = λ a. refl;
    ex = λ a. refl;
    eq_object = λ a b. refl;
    eq_number = λ a b. refl;
    eq_set = λ a b. refl;
    less = λ a b. refl;
    less_equal = λ a b. refl;
    divides = λ z a. ap (λ y. g.divides y a) (sym (decoded-code z));
    member = λ a b. refl;
    subset = λ a b. refl;
    reach = λ fs a b i. g.reach (sym (chain-back fs) i) (sym (first-pair a b) i) (sym (second-pair a b) i);
    tree = λ fs i. g.tree (sym (chain-back fs) i);
  }

  own-value : (k : ℕ) → lowered.apply 39 (lowered.leaf k) (lowered.leaf k) ≡ value_in g (the_value (slice_get ts k))
  own-value k = refl

module _ (g : NumberStructure) (t : Listing) (made helpers : List Node) (count-is : length made ≡ length (nodes t)) (behind : AreBehind (length (nodes t)) helpers) (ok : AreMade t made helpers) where
  abbrev count : ℕ
  count = length (nodes t)

  abbrev q : Structure ℕ
  q = lowered g (nodes t)

  abbrev seen : ℕ → ℕ
  seen k = value_in g (the_value (slice_get (nodes t) k))

  -- the value of a plain node: its tree's, or that of the helper at its parts
  abbrev worth : ℕ → ℕ → ℕ
  worth zero k = 0
  worth (suc room) k = if nat_lt k count then seen k else option_map_or (node_value q (worth room)) (slice_get helpers (k - count)) 0

  abbrev at : ℕ → ℕ
  at k = worth (suc k) k

  worth-table : (room k : ℕ) → k < count → worth (suc room) k ≡ seen k
  worth-table room k l = ap (λ b. if b then seen k else option_map_or (node_value q (worth room)) (slice_get helpers (k - count)) 0) (lt-ltb k count l)

  worth-behind : (room k : ℕ) → count ≤ k → worth (suc room) k ≡ option_map_or (node_value q (worth room)) (slice_get helpers (k - count)) 0
  worth-behind room k l = ap (λ b. if b then seen k else option_map_or (node_value q (worth room)) (slice_get helpers (k - count)) 0) (le-ltb k count l)

  worth-helper : (room k : ℕ) (x : Node) → count ≤ k → slice_get helpers (k - count) ≡ Some x → worth (suc room) k ≡ node_value q (worth room) x
  worth-helper room k x l e = worth-behind room k l ∙ ap (λ (o : Option Node). option_map_or (node_value q (worth room)) o 0) e

  node-same : (one two : ℕ → ℕ) (x : Node) → EachPart (λ p. one p ≡ two p) x → node_value q one x ≡ node_value q two x
  node-same one two (n.Leaf o) h = refl
  node-same one two (n.Apply o a b) h = λ i. q.apply o (h.0 i) (h.1 i)

  -- with more room the value is the same
  worth-enough : (room more k : ℕ) → k < room → k < more → worth room k ≡ worth more k
  worth-enough zero more k l m = absurd (omega (arith, l))
  worth-enough (suc room) zero k l m = absurd (omega (arith, m))
  worth-enough (suc room) (suc more) k l m = elim (cases_lt k count) [
    | inl inside ↦ worth-table room k inside ∙ sym (worth-table more k inside)
    | inr past ↦ elim (slice_get_cases helpers (k - count)).1 [
      | inl there ↦
          worth-helper room k there.0 past there.2
          ∙ (node-same (worth room) (worth more) there.0 (each-weaker (λ p. p < length (nodes t) + (k - count)) (λ p. worth room p ≡ worth more p) (λ p w. worth-enough room more p (below-room count p k room w l past) (below-room count p k more w m past)) there.0 (behind (k - count) there.0 there.2))
          ∙ sym (worth-helper more k there.0 past there.2))
      | inr none ↦ worth-behind room k past ∙ (ap (λ (o : Option Node). option_map_or (node_value q (worth room)) o 0) none.1 ∙ (ap (λ (o : Option Node). option_map_or (node_value q (worth more)) o 0) (sym none.1) ∙ sym (worth-behind more k past)))
    ]
  ]

  helped : (k : ℕ) (x : Node) → IsHelper (length (nodes t)) helpers k x → at k ≡ node_value q at x
  helped k x h =
      worth-helper k k x h.0 h.1
      ∙ node-same (worth k) at x (each-weaker (λ p. p < length (nodes t) + (k - length (nodes t))) (λ p. worth k p ≡ at p) (λ p w. worth-enough k (suc p) p (let l = h.0 in omega (arith, w, l)) (omega arith)) x (behind (k - length (nodes t)) x h.1))

  at-table : (k : ℕ) → k < length (nodes t) → at k ≡ seen k
  at-table k l = worth-table k k l

  made-inside : (k : ℕ) (x : Node) → slice_get made k ≡ Some x → k < length (nodes t)
  made-inside k x e = subst (λ z. k < z) count-is (slice_get_within made k x e)

  table-given : (room k : ℕ) (x : Node) → k < room → slice_get made k ≡ Some x → at k ≡ node_value q at x
  table-given zero k x l e = absurd (omega (arith, l))
  table-given (suc room) k x l e =
      let m = ok k x e in
      let tree-value : seen k ≡ value_in g (tree_in t m.shape) = ap (value_in g) (tree-seen (slice_get (nodes t) k) (tree_in t m.shape) m.tree) in
      at-table k (made-inside k x e)
      ∙ (tree-value
      ∙ (value-shape g q (agrees-lowered g (nodes t)) t.pools (nodes t) (q.apply 39 (q.leaf k) (q.leaf k)) m.shape m.fits (λ w. sym tree-value ∙ sym (own-value g (nodes t) k))
      ∙ (flat-same q (q.apply 39 (q.leaf k) (q.leaf k)) (sort_at t) (list_parts t.pools.lists m.shape) seen at (flat m.shape) (λ a w. sym (at-table a (let u = part-before t made helpers k x m a w in let v = made-inside k x e in omega (arith, u, v))))
      ∙ sym (node-flat (length (nodes t)) made helpers (sort_at t) (list_parts t.pools.lists m.shape) q at helped k (flat m.shape) x m.plain (λ a s. let r = same-before t made helpers k x m a s in table-given room a x (let u = r.0 in omega (arith, u, l)) r.1)))))

  pub gives-lowered : Gives q (made ++ helpers) at
  gives-lowered = record {
    each = λ k x e. elim (get-joined made helpers k x e) [
      | inl w ↦ table-given (suc k) k x (omega arith) w.1
      | inr w ↦ helped k x (subst (λ z. z ≤ k) count-is w.0, subst (λ z. slice_get helpers (k - z) ≡ Some x) count-is w.1)
    ];
  }

  pub values-lowered : AreValues g (nodes t) at
  values-lowered k v e = sym (at-table k (slice_get_within (nodes t) k v e) ∙ ap (value_in g) (tree-seen (slice_get (nodes t) k) v e))

  pub lowers : (c : Structure ℕ) × (to : ℕ → ℕ) × Gives c (made ++ helpers) to × AreValues g (nodes t) to
  lowers = (q, at, gives-lowered, values-lowered)
