-- Constants, and which of them are apart.
use Rattle.std.proofs.Common.{◌≡◌, refl, sym, ap, subst, ◌∙◌, ℕ, ◌<◌, ℤ, pos, Bool, true, false, List, length, slice_get, Some}
use Rattle.std.proofs.lemmas.Bool.{true≢false}
use Rattle.std.proofs.lemmas.Option.{slice_get_within}
use Rattle.jh_closure.specs.congruence_closure.Nodes.{Has}
use Rattle.jh_closure.specs.declared.congruence_closure.equation.Equation.{Equation}
use Rattle.jh_arena.specs.table.Entries.{Pools}
use Rattle.jh_arena.specs.table.Growth.{AreDifferent}
use Rattle.jh_arena.specs.table.Nodes.{shape_tree}
use Rattle.jh_arena.specs.declared.table.shapes.Shape.{Shape}
use Rattle.jh_arena.specs.declared.table.shapes.Shape.TheVariants as s
use Rattle.jh_arena.proofs.table.ShapeSorts.{tree-seen}
use Rattle.jh_form.specs.Sorts.{tree_sort}
use Rattle.jh_form.specs.Tree.{ValueTree}
use Rattle.jh_form.specs.Tree as t
use Rattle.jh_cong.specs.flattening.TreeValues.{AreApart}
use Rattle.jh_cong.specs.classes.Constants.{AreConstants, ArePair, ArePairs, constant_shape, int_sort, is_constant}
use Rattle.jh_cong.specs.classes.Saying.{pair_of, tree_at}
use Rattle.jh_cong.proofs.classes.Meeting.{tree-here}

constant-shape : (p : Pools) (ts : List ValueTree) (x : Shape) → constant_shape x ≡ is_constant (shape_tree p ts x)
unfolding constant_shape shape_tree
constant-shape p ts (s.Bound k) = refl
constant-shape p ts (s.FreeObject n) = refl
constant-shape p ts s.Null = refl
constant-shape p ts (s.ReadObject a b) = refl
constant-shape p ts (s.Const z) = refl
constant-shape p ts (s.FreeNumber n) = refl
constant-shape p ts (s.ReadNumber a b) = refl
constant-shape p ts (s.Add a b) = refl
constant-shape p ts (s.Sub a b) = refl
constant-shape p ts (s.Neg a) = refl
constant-shape p ts (s.Scale z a) = refl
constant-shape p ts (s.Card a) = refl
constant-shape p ts (s.FreeSet n) = refl
constant-shape p ts (s.ReadSet a b) = refl
constant-shape p ts s.Empty = refl
constant-shape p ts s.Univ = refl
constant-shape p ts (s.Single a) = refl
constant-shape p ts (s.Union a b) = refl
constant-shape p ts (s.Inter a b) = refl
constant-shape p ts (s.Diff a b) = refl
constant-shape p ts (s.Compl a) = refl
constant-shape p ts (s.Compr a) = refl
constant-shape p ts (s.FreeField n) = refl
constant-shape p ts (s.Update a b c) = refl
constant-shape p ts s.True = refl
constant-shape p ts s.False = refl
constant-shape p ts (s.FreeTruth n) = refl
constant-shape p ts (s.ReadTruth a b) = refl
constant-shape p ts (s.Negation a) = refl
constant-shape p ts (s.And a b) = refl
constant-shape p ts (s.Or a b) = refl
constant-shape p ts (s.Implies a b) = refl
constant-shape p ts (s.Iff a b) = refl
constant-shape p ts (s.All a) = refl
constant-shape p ts (s.Ex a) = refl
constant-shape p ts (s.EqObject a b) = refl
constant-shape p ts (s.EqNumber a b) = refl
constant-shape p ts (s.EqSet a b) = refl
constant-shape p ts (s.Less a b) = refl
constant-shape p ts (s.LessEqual a b) = refl
constant-shape p ts (s.Divides z a) = refl
constant-shape p ts (s.Member a b) = refl
constant-shape p ts (s.Subset a b) = refl
constant-shape p ts (s.Reach l a b) = refl
constant-shape p ts (s.Tree l) = refl
constant-shape p ts (s.Mark m a) = refl

-- the tree of a shape is a constant where the shape is one
pub constant-node : (p : Pools) (ts : List ValueTree) (k : ℕ) (x : Shape) → slice_get ts k ≡ Some (shape_tree p ts x) → constant_shape x ≡ is_constant (tree_at ts k)
constant-node p ts k x e = constant-shape p ts x ∙ ap is_constant (sym (tree-seen (slice_get ts k) (shape_tree p ts x) e))

-- different constants of one sort are apart
different-apart : (v w : ValueTree) → is_constant v ≡ true → is_constant w ≡ true → (v ≡ w → ⊥) → int_sort (tree_sort v) ≡ int_sort (tree_sort w) → AreApart v w
unfolding int_sort
different-apart (t.of_number (t.const y)) (t.of_number (t.const z)) hv hw d e = λ same. d (ap (λ u. t.of_number (t.const u)) same)
different-apart (t.of_number (t.const y)) (t.of_truth t.true_formula) hv hw d e = absurd (true≢false e)
different-apart (t.of_number (t.const y)) (t.of_truth t.false_formula) hv hw d e = absurd (true≢false e)
different-apart (t.of_number (t.const y)) _ hv hw d e = absurd (true≢false (sym hw))
different-apart (t.of_truth t.true_formula) (t.of_number (t.const z)) hv hw d e = absurd (true≢false (sym e))
different-apart (t.of_truth t.true_formula) (t.of_truth t.true_formula) hv hw d e = absurd (d refl)
different-apart (t.of_truth t.true_formula) (t.of_truth t.false_formula) hv hw d e = tt
different-apart (t.of_truth t.true_formula) _ hv hw d e = absurd (true≢false (sym hw))
different-apart (t.of_truth t.false_formula) (t.of_number (t.const z)) hv hw d e = absurd (true≢false (sym e))
different-apart (t.of_truth t.false_formula) (t.of_truth t.true_formula) hv hw d e = tt
different-apart (t.of_truth t.false_formula) (t.of_truth t.false_formula) hv hw d e = absurd (d refl)
different-apart (t.of_truth t.false_formula) _ hv hw d e = absurd (true≢false (sym hw))
different-apart _ w hv hw d e = absurd (true≢false (sym hv))

abbrev constant_of : ValueTree → ℤ
constant_of (t.of_number (t.const y)) = y
constant_of _ = pos 0

abbrev is_true : ValueTree → Bool
is_true (t.of_truth t.true_formula) = true
is_true _ = false

-- trees that are apart are different
apart-different : (v w : ValueTree) → AreApart v w → v ≡ w → ⊥
apart-different (t.of_number (t.const y)) (t.of_number (t.const z)) a e = a (ap constant_of e)
apart-different (t.of_truth t.true_formula) (t.of_truth t.false_formula) a e = true≢false (ap is_true e)
apart-different (t.of_truth t.false_formula) (t.of_truth t.true_formula) a e = true≢false (sym (ap is_true e))
apart-different _ _ a e = a

-- constants, and of one sort
apart-sorts : (v w : ValueTree) → AreApart v w → int_sort (tree_sort v) ≡ int_sort (tree_sort w)
apart-sorts (t.of_number (t.const y)) (t.of_number (t.const z)) a = refl
apart-sorts (t.of_truth t.true_formula) (t.of_truth t.false_formula) a = refl
apart-sorts (t.of_truth t.false_formula) (t.of_truth t.true_formula) a = refl
apart-sorts _ _ a = absurd a

pub apart-left : (v w : ValueTree) → AreApart v w → is_constant v ≡ true
apart-left (t.of_number (t.const y)) (t.of_number (t.const z)) a = refl
apart-left (t.of_truth t.true_formula) (t.of_truth t.false_formula) a = refl
apart-left (t.of_truth t.false_formula) (t.of_truth t.true_formula) a = refl
apart-left _ _ a = absurd a

pub apart-right : (v w : ValueTree) → AreApart v w → is_constant w ≡ true
apart-right (t.of_number (t.const y)) (t.of_number (t.const z)) a = refl
apart-right (t.of_truth t.true_formula) (t.of_truth t.false_formula) a = refl
apart-right (t.of_truth t.false_formula) (t.of_truth t.true_formula) a = refl
apart-right _ _ a = absurd a

-- a node isn't apart from itself, and two nodes are apart exactly where they are of one sort
pub not-apart : (ts : List ValueTree) (i j : ℕ) → i ≡ j → AreApart (tree_at ts i) (tree_at ts j) → ⊥
not-apart ts i j e a = apart-different (tree_at ts i) (tree_at ts j) a (ap (tree_at ts) e)

pub nodes-apart : (ts : List ValueTree) (i j : ℕ) → AreDifferent ts → i < length ts → j < length ts → (i ≡ j → ⊥) → is_constant (tree_at ts i) ≡ true → is_constant (tree_at ts j) ≡ true → int_sort (tree_sort (tree_at ts i)) ≡ int_sort (tree_sort (tree_at ts j)) →
    AreApart (tree_at ts i) (tree_at ts j)
nodes-apart ts i j different li lj other ci cj sorts =
    different-apart (tree_at ts i) (tree_at ts j) ci cj (λ same. other (different i j (tree_at ts j) (tree-here ts i li ∙ ap Some same) (tree-here ts j lj))) sorts

pub sorts-apart : (ts : List ValueTree) (i j : ℕ) → AreApart (tree_at ts i) (tree_at ts j) → int_sort (tree_sort (tree_at ts i)) ≡ int_sort (tree_sort (tree_at ts j))
sorts-apart ts i j a = apart-sorts (tree_at ts i) (tree_at ts j) a

-- all pairs of constants that are apart are all pairs of nodes that are
pub pairs-made : (ts : List ValueTree) (listed : List ℕ) (pairs : List Equation) → AreConstants ts listed → ((m k : ℕ) → Has listed m → Has listed k → AreApart (tree_at ts m) (tree_at ts k) → Has pairs (pair_of m k)) → ((e : Equation) → Has pairs e → ArePair ts e) → ArePairs ts pairs
pairs-made ts listed pairs constants covers each = record {
  covers = λ m k v w hm hk a.
      let em : tree_at ts m ≡ v = tree-seen (slice_get ts m) v hm in
      let ek : tree_at ts k ≡ w = tree-seen (slice_get ts k) w hk in
      covers m k
      (constants.covers m (slice_get_within ts m v hm) (ap is_constant em ∙ apart-left v w a))
      (constants.covers k (slice_get_within ts k w hk) (ap is_constant ek ∙ apart-right v w a))
      (moved v w (tree_at ts m) (tree_at ts k) (sym em) (sym ek) a);
  each = each;
}
  where
    moved : (v w x y : ValueTree) → v ≡ x → w ≡ y → AreApart v w → AreApart x y
    moved v w x y ex ey a = subst (λ u. AreApart u y) ex (subst (λ u. AreApart v u) ey a)
