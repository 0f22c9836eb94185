-- The value of a plain node is that of what was made of its shape.
use Rattle.std.proofs.Common.{◌≡◌, refl, sym, ap, ◌∙◌, ℕ, ℤ, List, [], ◌∷◌, ◌++◌, map, inl, inr}
use Rattle.jh_name.specs.declared.place.Sort as place
use Rattle.jh_closure.specs.congruence_closure.Nodes.{Has, Structure, node_value}
use Rattle.jh_closure.specs.declared.congruence_closure.node.Node.{Node}
use Rattle.jh_closure.specs.declared.congruence_closure.node.Node.TheVariants as n
use Rattle.jh_closure.proofs.congruence_closure.Having.{has-left, has-right}
use Rattle.jh_arena.specs.table.Parts.{own_parts}
use Rattle.jh_arena.specs.declared.table.shapes.Shape.{Shape}
use Rattle.jh_arena.specs.declared.table.shapes.Shape.TheVariants as s
use Rattle.jh_cong.specs.flattening.Plain.{flat, minus, plus, update_operation, IsHelper, IsFactor, IsChain, IsPlain}
use Rattle.jh_cong.specs.declared.flattening.flat.Flat.{Flat}
use Rattle.jh_cong.specs.declared.flattening.flat.Flat.TheVariants as f
use Rattle.jh_cong.proofs.flattening.Valuing.{chain_value, flat_value, number_value}

-- the parts that are no fields of a list
abbrev pub flat_parts : Flat → List ℕ
flat_parts f.Leaf = []
flat_parts (f.Unary o a) = a ∷ []
flat_parts (f.Binary o a b) = a ∷ b ∷ []
flat_parts (f.Scaled o z a) = a ∷ []
flat_parts (f.Updated a b c) = a ∷ b ∷ c ∷ []
flat_parts (f.Reaches a b) = a ∷ b ∷ []
flat_parts f.Listed = []
flat_parts (f.Same a) = a ∷ []

pub parts-flat : (x : Shape) → flat_parts (flat x) ≡ own_parts x
unfolding flat own_parts
parts-flat (s.Bound k) = refl
parts-flat (s.FreeObject n) = refl
parts-flat s.Null = refl
parts-flat (s.ReadObject a b) = refl
parts-flat (s.Const z) = refl
parts-flat (s.FreeNumber n) = refl
parts-flat (s.ReadNumber a b) = refl
parts-flat (s.Add a b) = refl
parts-flat (s.Sub a b) = refl
parts-flat (s.Neg a) = refl
parts-flat (s.Scale z a) = refl
parts-flat (s.Card a) = refl
parts-flat (s.FreeSet n) = refl
parts-flat (s.ReadSet a b) = refl
parts-flat s.Empty = refl
parts-flat s.Univ = refl
parts-flat (s.Single a) = refl
parts-flat (s.Union a b) = refl
parts-flat (s.Inter a b) = refl
parts-flat (s.Diff a b) = refl
parts-flat (s.Compl a) = refl
parts-flat (s.Compr a) = refl
parts-flat (s.FreeField n) = refl
parts-flat (s.Update a b c) = refl
parts-flat s.True = refl
parts-flat s.False = refl
parts-flat (s.FreeTruth n) = refl
parts-flat (s.ReadTruth a b) = refl
parts-flat (s.Negation a) = refl
parts-flat (s.And a b) = refl
parts-flat (s.Or a b) = refl
parts-flat (s.Implies a b) = refl
parts-flat (s.Iff a b) = refl
parts-flat (s.All a) = refl
parts-flat (s.Ex a) = refl
parts-flat (s.EqObject a b) = refl
parts-flat (s.EqNumber a b) = refl
parts-flat (s.EqSet a b) = refl
parts-flat (s.Less a b) = refl
parts-flat (s.LessEqual a b) = refl
parts-flat (s.Divides z a) = refl
parts-flat (s.Member a b) = refl
parts-flat (s.Subset a b) = refl
parts-flat (s.Reach l a b) = refl
parts-flat (s.Tree l) = refl
parts-flat (s.Mark m a) = refl

-- one value for each node of a list
map-same : (at to : ℕ → ℕ) (ks : List ℕ) → ((k : ℕ) → Has ks k → at k ≡ to k) → map at ks ≡ map to ks
map-same at to [] h = refl
map-same at to (a ∷ ks) h = λ i. h a (inl refl) i ∷ map-same at to ks (λ k w. h k (inr w)) i

-- where the parts have the same values, so has what is made of the shape
pub flat-same : (q : Structure ℕ) (mine : ℕ) (sorts : ℕ → place.Sort) (fs : List ℕ) (at to : ℕ → ℕ) (x : Flat) → ((k : ℕ) → Has (fs ++ flat_parts x) k → at k ≡ to k) → flat_value q mine sorts fs at x ≡ flat_value q mine sorts fs to x
flat-same q mine sorts fs at to f.Leaf h = refl
flat-same q mine sorts fs at to (f.Unary o a) h = let e = h a (has-right fs (a ∷ []) a (inl refl)) in λ i. q.apply o (e i) (e i)
flat-same q mine sorts fs at to (f.Binary o a b) h = λ i. q.apply o (h a (has-right fs (a ∷ b ∷ []) a (inl refl)) i) (h b (has-right fs (a ∷ b ∷ []) b (inr (inl refl))) i)
flat-same q mine sorts fs at to (f.Scaled o z a) h = λ i. q.apply o (number_value q z) (h a (has-right fs (a ∷ []) a (inl refl)) i)
flat-same q mine sorts fs at to (f.Updated a b c) h =
    λ i. q.apply (update_operation (sorts c)) (h a (has-right fs (a ∷ b ∷ c ∷ []) a (inl refl)) i) (q.apply 37 (h b (has-right fs (a ∷ b ∷ c ∷ []) b (inr (inl refl))) i) (h c (has-right fs (a ∷ b ∷ c ∷ []) c (inr (inr (inl refl)))) i))
flat-same q mine sorts fs at to (f.Reaches a b) h =
    let e = map-same at to fs (λ k w. h k (has-left fs (a ∷ b ∷ []) k w)) in
    λ i. q.apply 35 (chain_value q (e i)) (q.apply 37 (h a (has-right fs (a ∷ b ∷ []) a (inl refl)) i) (h b (has-right fs (a ∷ b ∷ []) b (inr (inl refl))) i))
flat-same q mine sorts fs at to f.Listed h = let e = map-same at to fs (λ k w. h k (has-left fs [] k w)) in λ i. q.apply 36 (chain_value q (e i)) (chain_value q (e i))
flat-same q mine sorts fs at to (f.Same a) h = h a (has-right fs (a ∷ []) a (inl refl))

-- where each helper has its value
module _ (count : ℕ) (made helpers : List Node) (sorts : ℕ → place.Sort) (fs : List ℕ) (q : Structure ℕ) (at : ℕ → ℕ) (helped : (k : ℕ) (x : Node) → IsHelper count helpers k x → at k ≡ node_value q at x) where
  chain-is : (ks : List ℕ) (k : ℕ) → IsChain count helpers ks k → at k ≡ chain_value q (map at ks)
  chain-is [] k h = helped k (n.Leaf 0) h
  chain-is (a ∷ ks) k h = helped k (n.Apply 38 a h.0) h.1 ∙ ap (q.apply 38 (at a)) (chain-is ks h.0 h.2)

  factor-is : (z : ℤ) (k : ℕ) → IsFactor count helpers z k → at k ≡ number_value q z
  factor-is z k h = helped k (n.Apply 37 h.0 h.1) h.4 ∙ (λ i. q.apply 37 (helped h.0 (n.Leaf (plus z)) h.2 i) (helped h.1 (n.Leaf (minus z)) h.3 i))

  pub node-flat : (k : ℕ) (y : Flat) (x : Node) → IsPlain count made helpers sorts fs k y x → ((a : ℕ) → y ≡ f.Same a → at a ≡ node_value q at x) → node_value q at x ≡ flat_value q (q.apply 39 (q.leaf k) (q.leaf k)) sorts fs at y
  node-flat k f.Leaf x h same = ap (node_value q at) h.2 ∙ (λ i. q.apply 39 (helped h.0 (n.Leaf k) h.1 i) (helped h.0 (n.Leaf k) h.1 i))
  node-flat k (f.Unary o a) x h same = ap (node_value q at) h
  node-flat k (f.Binary o a b) x h same = ap (node_value q at) h
  node-flat k (f.Scaled o z a) x h same = ap (node_value q at) h.2 ∙ (λ i. q.apply o (factor-is z h.0 h.1 i) (at a))
  node-flat k (f.Updated a b c) x h same = ap (node_value q at) h.2 ∙ (λ i. q.apply (update_operation (sorts c)) (at a) (helped h.0 (n.Apply 37 b c) h.1 i))
  node-flat k (f.Reaches a b) x h same = ap (node_value q at) h.4 ∙ (λ i. q.apply 35 (chain-is fs h.0 h.2 i) (helped h.1 (n.Apply 37 a b) h.3 i))
  node-flat k f.Listed x h same = ap (node_value q at) h.2 ∙ (λ i. q.apply 36 (chain-is fs h.0 h.1 i) (chain-is fs h.0 h.1 i))
  node-flat k (f.Same a) x h same = sym (same a refl)
