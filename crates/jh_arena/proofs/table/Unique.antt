-- No two nodes of a table are the same tree: each tree tells its place.
use Rattle.std.proofs.Common.{◌≡◌, refl, sym, ap, ◌∙◌, ℕ, zero, suc, ◌<◌, true, List, [], ◌∷◌, length, slice_get, Some, nat_eq, arith}
use Rattle.std.specs.List.{IsDistinct, position_or_len}
use Rattle.std.specs.Cmp.Lexicographic.{pointwise}
use Rattle.std.proofs.lemmas.Option.{slice_get_within}
use Rattle.jh_boxed.specs.jh_name.contracts.naming.NamePartialEq.TheImpl as name
use Rattle.jh_form.specs.contracts.mark.MarkPartialEq.TheImpl as mark
use Rattle.jh_form.specs.Tree.{ValueTree}
use Rattle.jh_arena.specs.contracts.table.shapes.ShapePartialEq.TheImpl as shape
use Rattle.jh_arena.specs.declared.table.shapes.Shape.{Shape}
use Rattle.jh_arena.specs.table.Entries.{Pools}
use Rattle.jh_arena.specs.table.Nodes.{fits, shape_tree, listed, well}
use Rattle.jh_arena.specs.table.Growth.{AreDifferent}
use Rattle.jh_arena.proofs.table.Keys.{name_eq-true, name_eq-same, mark_eq-true, mark_eq-same, list_eq-true, list_eq-same, position-is, position-holds}
use Rattle.jh_arena.proofs.table.ShapeEq.{shape_eq-true, shape_eq-same}
use Rattle.jh_arena.proofs.table.Places.{Finder, place, Knows, place-shape}
use Rattle.jh_arena.proofs.table.Listed.{Placed, listed-at, length-listed}

pub at-within : {X : Type 0} (xs : List X) (n : ℕ) → n < length xs → (x : X) × (slice_get xs n ≡ Some x)
at-within [] n h = absurd (omega arith)
at-within (x ∷ xs) zero h = (x, refl)
at-within (x ∷ xs) (suc n) h = at-within xs n (omega arith)

pub record AreApart (p : Pools) (xs : List Shape) : Type 0 where
  pub names : IsDistinct name.ghosts.eq p.names
  pub marks : IsDistinct mark.ghosts.eq p.marks
  pub lists : IsDistinct (pointwise nat_eq) p.lists
  pub shapes : IsDistinct shape.ghosts.eq xs

module _ (p : Pools) (xs : List Shape) (apart : AreApart p xs) (w : well p [] xs ≡ true) where
  all : List ValueTree
  all = listed p [] xs

  pub finder : Finder
  finder = record {
    name = λ x. position_or_len (name.ghosts.eq x) p.names;
    mark = λ x. position_or_len (mark.ghosts.eq x) p.marks;
    list = λ x. position_or_len (pointwise nat_eq x) p.lists;
    shape = λ x. position_or_len (shape.ghosts.eq x) xs;
  }

  shape-found : (n : ℕ) (x : Shape) → slice_get xs n ≡ Some x → finder.shape x ≡ n
  unfolding finder
  shape-found n x h = position-is shape.ghosts.eq shape_eq-true shape_eq-same xs n x apart.shapes h

  knows : (ts : List ValueTree) → ((n : ℕ) (v : ValueTree) → slice_get ts n ≡ Some v → place finder v ≡ n) → Knows finder p ts
  unfolding finder
  knows ts h = record {
    names = λ n x e. position-is name.ghosts.eq name_eq-true name_eq-same p.names n x apart.names e;
    marks = λ n x e. position-is mark.ghosts.eq mark_eq-true mark_eq-same p.marks n x apart.marks e;
    lists = λ n x e. position-is (pointwise nat_eq) list_eq-true list_eq-same p.lists n x apart.lists e;
    nodes = h;
  }

  shape-at : (n : ℕ) (v : ValueTree) → slice_get all n ≡ Some v → (x : Shape) × (slice_get xs n ≡ Some x)
  unfolding all
  shape-at n v h = at-within xs n (omega (arith, slice_get_within (listed p [] xs) n v h, length-listed p [] xs))

  places : (k n : ℕ) (v : ValueTree) → n < k → slice_get all n ≡ Some v → place finder v ≡ n
  unfolding all
  places zero n v lt h = absurd (omega arith)
  places (suc k) n v lt h =
      let s = shape-at n v h in
      let at : Placed p n s.0 (listed p [] xs) = listed-at p [] xs n n s.0 (omega arith) w s.1 in
      let below = knows at.before (λ m u e. places k m u (omega (arith, slice_get_within at.before m u e, at.counted)) (at.grows.keeps m u e)) in
      let same : v ≡ shape_tree p at.before s.0 = cc (at.tree) in
      ap (place finder) same ∙ place-shape finder p at.before below s.0 at.fits ∙ shape-found n s.0 s.1

  pub node-place : (n : ℕ) (v : ValueTree) → slice_get (listed p [] xs) n ≡ Some v → place finder v ≡ n
  unfolding all
  node-place n v h = places (suc n) n v (omega arith) h

  pub nodes-different : AreDifferent (listed p [] xs)
  nodes-different i j v h k = sym (node-place i v h) ∙ node-place j v k

  -- a node that is the tree of a shape is of that shape
  pub shape-known : (n : ℕ) (x : Shape) → fits p (listed p [] xs) x ≡ true → slice_get (listed p [] xs) n ≡ Some (shape_tree p (listed p [] xs) x) → slice_get xs n ≡ Some x
  unfolding all finder
  shape-known n x f h =
      let is = place-shape finder p (listed p [] xs) (knows (listed p [] xs) node-place) x f in
      let found : finder.shape x ≡ n = sym is ∙ node-place n (shape_tree p (listed p [] xs) x) h in
      position-holds shape.ghosts.eq shape_eq-true shape_eq-same xs n x found (omega (arith, slice_get_within (listed p [] xs) n (shape_tree p (listed p [] xs) x) h, length-listed p [] xs))
