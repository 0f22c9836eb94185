-- The list of trees that shapes make: how it grows, and what stands at a place of it.
use Rattle.std.proofs.Common.{◌≡◌, refl, sym, ap, ◌∙◌, ℕ, zero, suc, ◌+◌, ◌<◌, true, ◌&&◌, List, [], ◌∷◌, ◌++◌, length, slice_get, Some, length-append, subst, arith}
use Rattle.std.proofs.lemmas.Option.{slice_get_within}
use Rattle.jh_form.specs.Tree.{ValueTree}
use Rattle.jh_form.proofs.ClosedLemmas.{both-left, both-right}
use Rattle.jh_arena.specs.table.Entries.{Pools, Listing}
use Rattle.jh_arena.specs.declared.table.shapes.Shape.{Shape}
use Rattle.jh_arena.specs.table.Nodes.{fits, shape_tree, listed, well, nodes, fits_in, tree_in}
use Rattle.jh_arena.specs.table.Growth.{Grows, Extends}
use Rattle.jh_arena.specs.table.Parts.{parts, ArePartsBelow}
use Rattle.jh_arena.proofs.table.Growing.{shape_tree-stays, fits-stays, parts-stay}
use Rattle.jh_arena.proofs.table.Below.{parts-below}

pub grows-refl : {X : Type 0} (xs : List X) → Grows xs xs
grows-refl xs = record { keeps = λ n v h. h }

pub grows-trans : {X : Type 0} (xs ys zs : List X) → Grows xs ys → Grows ys zs → Grows xs zs
grows-trans xs ys zs g h = record { keeps = λ n v e. h.keeps n v (g.keeps n v e) }

pub slice_get-append : {X : Type 0} (xs ys : List X) (n : ℕ) (v : X) → slice_get xs n ≡ Some v → slice_get (xs ++ ys) n ≡ Some v
slice_get-append [] ys n v h = cc
slice_get-append (x ∷ xs) ys zero v h = h
slice_get-append (x ∷ xs) ys (suc n) v h = slice_get-append xs ys n v h

pub slice_get-last : {X : Type 0} (xs : List X) (v : X) → slice_get (xs ++ v ∷ []) (length xs) ≡ Some v
slice_get-last [] v = refl
slice_get-last (x ∷ xs) v = slice_get-last xs v

pub grows-append : {X : Type 0} (xs ys : List X) → Grows xs (xs ++ ys)
grows-append xs ys = record { keeps = λ n v h. slice_get-append xs ys n v h }

pub extends-refl : (t : Listing) → Extends t t
extends-refl t = record { nodes = grows-refl (nodes t); names = grows-refl t.pools.names; marks = grows-refl t.pools.marks; lists = grows-refl t.pools.lists }

pub extends-trans : (t u v : Listing) → Extends t u → Extends u v → Extends t v
extends-trans t u v g h = record {
  nodes = grows-trans (nodes t) (nodes u) (nodes v) g.nodes h.nodes;
  names = grows-trans t.pools.names u.pools.names v.pools.names g.names h.names;
  marks = grows-trans t.pools.marks u.pools.marks v.pools.marks g.marks h.marks;
  lists = grows-trans t.pools.lists u.pools.lists v.pools.lists g.lists h.lists;
}

-- a shape that fits is the same tree in a table that has grown
pub tree-grows : (t u : Listing) (x : Shape) → Extends t u → fits_in t x ≡ true → tree_in u x ≡ tree_in t x
tree-grows t u x g h = shape_tree-stays t.pools u.pools (nodes t) (nodes u) g.names g.marks g.lists g.nodes x h

pub fits-grows : (t u : Listing) (x : Shape) → Extends t u → fits_in t x ≡ true → fits_in u x ≡ true
fits-grows t u x g h = fits-stays t.pools u.pools (nodes t) (nodes u) g.names g.marks g.lists g.nodes x h

pub parts-grows : (t u : Listing) (x : Shape) → Extends t u → fits_in t x ≡ true → parts u.pools.lists x ≡ parts t.pools.lists x
parts-grows t u x g h = parts-stay t.pools u.pools (nodes t) (nodes u) g.names g.marks g.lists g.nodes x h

-- each pool of p is a prefix of q's
pub record PoolsGrow (p q : Pools) : Type 0 where
  pub names : Grows p.names q.names
  pub marks : Grows p.marks q.marks
  pub lists : Grows p.lists q.lists

pub pools-same : (p : Pools) → PoolsGrow p p
pools-same p = record { names = grows-refl p.names; marks = grows-refl p.marks; lists = grows-refl p.lists }

-- A shape stands at a place of the list, after trees that it fits.
pub record Placed (p : Pools) (n : ℕ) (x : Shape) (all : List ValueTree) : Type 0 where
  pub before : List ValueTree
  pub counted : length before ≡ n
  pub grows : Grows before all
  pub fits : fits p before x ≡ true
  pub tree : slice_get all n ≡ Some (shape_tree p before x)

module _ (p : Pools) where
  pub listed-push : (ts : List ValueTree) (xs : List Shape) (x : Shape) → listed p ts (xs ++ x ∷ []) ≡ listed p ts xs ++ shape_tree p (listed p ts xs) x ∷ []
  unfolding listed
  listed-push ts [] x = refl
  listed-push ts (y ∷ ys) x = listed-push (ts ++ shape_tree p ts y ∷ []) ys x

  pub well-push : (ts : List ValueTree) (xs : List Shape) (x : Shape) → well p ts xs ≡ true → fits p (listed p ts xs) x ≡ true → well p ts (xs ++ x ∷ []) ≡ true
  unfolding listed well
  well-push ts [] x w f = λ i. f i && true
  well-push ts (y ∷ ys) x w f =
      let rest = ts ++ shape_tree p ts y ∷ [] in
      λ i. both-left (fits p ts y) (well p rest ys) w i && well-push rest ys x (both-right (fits p ts y) (well p rest ys) w) f i

  pub listed-grows : (ts : List ValueTree) (xs : List Shape) → Grows ts (listed p ts xs)
  unfolding listed
  listed-grows ts [] = grows-refl ts
  listed-grows ts (y ∷ ys) =
      let rest = ts ++ shape_tree p ts y ∷ [] in
      grows-trans ts rest (listed p rest ys) (grows-append ts (shape_tree p ts y ∷ [])) (listed-grows rest ys)

  pub length-listed : (ts : List ValueTree) (xs : List Shape) → length (listed p ts xs) ≡ length ts + length xs
  unfolding listed
  length-listed ts [] = omega arith
  length-listed ts (y ∷ ys) =
      omega (arith, length-listed (ts ++ shape_tree p ts y ∷ []) ys, length-append ts (shape_tree p ts y ∷ []))

  pub listed-at : (ts : List ValueTree) (xs : List Shape) (n m : ℕ) (x : Shape) → m ≡ length ts + n → well p ts xs ≡ true → slice_get xs n ≡ Some x → Placed p m x (listed p ts xs)
  unfolding listed well
  listed-at ts [] n m x e w h = absurd (cc)
  listed-at ts (y ∷ ys) zero m x e w h =
      let rest = ts ++ shape_tree p ts y ∷ [] in
      let same : y ≡ x = cc in
      let length_is : length ts ≡ m = omega arith in
      let at : slice_get rest m ≡ Some (shape_tree p ts y) = subst (λ (k : ℕ). slice_get rest k ≡ Some (shape_tree p ts y)) length_is (slice_get-last ts (shape_tree p ts y)) in
      subst (λ (z : Shape). Placed p m z (listed p rest ys)) same (record {
        before = ts;
        counted = length_is;
        grows = listed-grows ts (y ∷ ys);
        fits = both-left (fits p ts y) (well p rest ys) w;
        tree = (listed-grows rest ys).keeps m (shape_tree p ts y) at;
      })
  listed-at ts (y ∷ ys) (suc n) m x e w h =
      let rest = ts ++ shape_tree p ts y ∷ [] in
      listed-at rest ys n m x (omega (arith, length-append ts (shape_tree p ts y ∷ []))) (both-right (fits p ts y) (well p rest ys) w) h

module _ (p q : Pools) (g : PoolsGrow p q) where
  pub listed-stays : (ts : List ValueTree) (xs : List Shape) → well p ts xs ≡ true → listed q ts xs ≡ listed p ts xs
  unfolding listed well
  listed-stays ts [] w = refl
  listed-stays ts (y ∷ ys) w =
      let rest = ts ++ shape_tree p ts y ∷ [] in
      let same = shape_tree-stays p q ts ts g.names g.marks g.lists (grows-refl ts) y (both-left (fits p ts y) (well p rest ys) w) in
      ap (λ (v : ValueTree). listed q (ts ++ v ∷ []) ys) same ∙ listed-stays rest ys (both-right (fits p ts y) (well p rest ys) w)

  pub well-stays : (ts : List ValueTree) (xs : List Shape) → well p ts xs ≡ true → well q ts xs ≡ true
  unfolding listed well
  well-stays ts [] w = refl
  well-stays ts (y ∷ ys) w =
      let rest = ts ++ shape_tree p ts y ∷ [] in
      let f : fits p ts y ≡ true = both-left (fits p ts y) (well p rest ys) w in
      let same = shape_tree-stays p q ts ts g.names g.marks g.lists (grows-refl ts) y f in
      let later : well q rest ys ≡ true = well-stays rest ys (both-right (fits p ts y) (well p rest ys) w) in
      let moved : well q (ts ++ shape_tree q ts y ∷ []) ys ≡ true = ap (λ (v : ValueTree). well q (ts ++ v ∷ []) ys) same ∙ later in
      let fit : fits q ts y ≡ true = fits-stays p q ts ts g.names g.marks g.lists (grows-refl ts) y f in
      λ i. fit i && moved i

-- what stands at a place, seen from the whole list
module _ (p : Pools) (n : ℕ) (x : Shape) (all : List ValueTree) (at : Placed p n x all) where
  pub placed-same : shape_tree p all x ≡ shape_tree p at.before x
  placed-same = shape_tree-stays p p at.before all (grows-refl p.names) (grows-refl p.marks) (grows-refl p.lists) at.grows x at.fits

  pub placed-tree : slice_get all n ≡ Some (shape_tree p all x)
  placed-tree = at.tree ∙ ap (λ v. Some v) (sym placed-same)

  pub placed-fits : fits p all x ≡ true
  placed-fits = fits-stays p p at.before all (grows-refl p.names) (grows-refl p.marks) (grows-refl p.lists) at.grows x at.fits

  pub placed-below : ArePartsBelow n p.lists x
  placed-below = record { below = λ i k h. subst (λ (m : ℕ). k < m) at.counted (parts-below p at.before x at.fits i k h) }

-- a node stays where the table grows
pub node-stays : (t u : Listing) (n : ℕ) (v : ValueTree) → Extends t u → slice_get (nodes t) n ≡ Some v → slice_get (nodes u) n ≡ Some v
node-stays t u n v g h = g.nodes.keeps n v h

pub node-inside : (t : Listing) (n : ℕ) (v : ValueTree) → slice_get (nodes t) n ≡ Some v → n < length (nodes t)
node-inside t n v h = slice_get_within (nodes t) n v h

pub ruleset growth_steps = (extends-refl, extends-trans, node-stays, node-inside)
