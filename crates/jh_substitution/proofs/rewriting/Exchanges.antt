-- The rules of an exchange, over a table, and that it keeps the meaning.
use Rattle.std.proofs.Common.{◌≡◌, refl, sym, ap, ◌∙◌, ℕ, ◌<◌, nat_lt, true, if◌then◌else◌, List, [], slice_get, Option, Some, None, arith}
use Rattle.std.proofs.lemmas.Bool.{true≢false}
use Rattle.std.proofs.lemmas.Bool.Decides.{nat_tests}
use Rattle.jh_form.specs.Tree.{ValueTree, FormulaTree, of_object, of_number, of_truth, of_set, of_field}
use Rattle.jh_form.specs.Tree as t
use Rattle.jh_form.specs.Closed.{is_closed_value, is_closed_term}
use Rattle.jh_form.specs.Meaning.{Interp, InUniverse, datum, truth}
use Rattle.jh_form.specs.Sorts.{tree_sort}
use Rattle.jh_boxed_operations.specs.comparison.Inside.{SameIn, AreInside}
use Rattle.jh_boxed_operations.proofs.comparison.Equalities.{equal_trees-same}
use Rattle.jh_boxed_operations.proofs.comparison.ExchangeMeanings.{exchange-keeps}
use Rattle.jh_substitution.proofs.rewriting.Exchanged.{formula-exchanged}
use Rattle.jh_substitution.proofs.rewriting.Lacking.{PartsFirst, none-for, value-lacks, earlier-lacks}
use Rattle.jh_arena.specs.table.Entries.{Pools, Listing, the_name, the_value, the_truth, is_truth}
use Rattle.jh_arena.specs.table.Growth.{AreDifferent}
use Rattle.jh_arena.specs.table.Nodes.{nodes, shape_tree, tree_in}
use Rattle.jh_arena.specs.declared.table.shapes.Shape.{Shape}
use Rattle.jh_arena.specs.declared.table.shapes.Shape.TheVariants as s
use Rattle.jh_substitution.specs.rewriting.Leaf.{is_leaf}
use Rattle.jh_substitution.specs.rewriting.Exchanging.{new_for, exchanging, CanExchange}
use Rattle.jh_substitution.specs.rewriting.Rewritten.{object_or, number_or, truth_or, set_or, field_or, rewritten_value, rewritten_term, rewritten_int, rewritten_set, rewritten_field, rewritten_formula}
use Rattle.jh_substitution.specs.rewriting.Walks.{IsRewritten, IsWhole}
use Rattle.jh_substitution.proofs.rewriting.Sorted.{stays-rewritten, exchanged-rewritten, value-listed, listed-value, listed-truth, truth-value}
use Rattle.jh_substitution.proofs.rewriting.Wholes.{object-taken, number-taken, truth-taken, set-taken, field-taken}

bound-loose : (k : ℕ) → is_closed_value (of_object (t.bound k)) 0 ≡ true → ⊥
unfolding is_closed_value is_closed_term
bound-loose k h =
    let below : nat_lt k 0 ≡ true = h in
    grind (arith, nat_tests)

module _ (old new : ValueTree) where
  new-for : (v : ValueTree) → v ≡ old → new_for old new v ≡ Some new
  new-for v e = ap (λ b. if b then Some new else None) (equal_trees-same v old e)

  module _ (p : Pools) (ts : List ValueTree) (d : ℕ) where
    -- a leaf that is the old value
    pub leaf-exchanged : (x : Shape) → is_leaf x ≡ true → shape_tree p ts x ≡ old → is_closed_value (shape_tree p ts x) 0 ≡ true → tree_sort new ≡ tree_sort (shape_tree p ts x) →
        rewritten_value (shape_tree p ts x) (exchanging old new) d ≡ new
    unfolding is_leaf shape_tree is_closed_value is_closed_term rewritten_value rewritten_term rewritten_int rewritten_set rewritten_field rewritten_formula
    leaf-exchanged (s.Bound k) leaf e closed same = absurd (bound-loose k closed)
    leaf-exchanged (s.FreeObject k) leaf e closed same = object-taken _ new _ (new-for _ e) same
    leaf-exchanged (s.FreeNumber k) leaf e closed same = number-taken _ new _ (new-for _ e) same
    leaf-exchanged (s.FreeTruth k) leaf e closed same = truth-taken _ new _ (new-for _ e) same
    leaf-exchanged (s.FreeSet k) leaf e closed same = set-taken _ new _ (new-for _ e) same
    leaf-exchanged (s.FreeField k) leaf e closed same = field-taken _ new _ (new-for _ e) same
    leaf-exchanged _ leaf e closed same = absurd (true≢false (sym leaf))

    -- another leaf
    pub leaf-stays : (x : Shape) → is_leaf x ≡ true → (shape_tree p ts x ≡ old → ⊥) → rewritten_value (shape_tree p ts x) (exchanging old new) d ≡ shape_tree p ts x
    unfolding is_leaf shape_tree object_or number_or truth_or set_or field_or rewritten_value rewritten_term rewritten_int rewritten_set rewritten_field rewritten_formula
    leaf-stays (s.Bound k) leaf differs = refl
    leaf-stays (s.FreeObject k) leaf differs = ap (λ q. of_object (object_or q (t.free_object (the_name (slice_get p.names k))))) (none-for old new _ differs)
    leaf-stays (s.FreeNumber k) leaf differs = ap (λ q. of_number (number_or q (t.free_number (the_name (slice_get p.names k))))) (none-for old new _ differs)
    leaf-stays (s.FreeTruth k) leaf differs = ap (λ q. of_truth (truth_or q (t.free_truth (the_name (slice_get p.names k))))) (none-for old new _ differs)
    leaf-stays (s.FreeSet k) leaf differs = ap (λ q. of_set (set_or q (t.free_set (the_name (slice_get p.names k))))) (none-for old new _ differs)
    leaf-stays (s.FreeField k) leaf differs = ap (λ q. of_field (field_or q (t.free_field (the_name (slice_get p.names k))))) (none-for old new _ differs)
    leaf-stays _ leaf differs = absurd (true≢false (sym leaf))

module _ (t : Listing) (from to d : ℕ) (ready : CanExchange from to t) where
  abbrev one : ValueTree
  one = the_value (slice_get (nodes t) from)

  abbrev other : ValueTree
  other = the_value (slice_get (nodes t) to)

  -- the old node, where it is a leaf
  pub old-leaf : (n : ℕ) (x : Shape) → n ≡ from → is_leaf x ≡ true → slice_get (nodes t) n ≡ Some (tree_in t x) → IsRewritten (exchanging one other) (nodes t) n d to
  old-leaf n x at leaf there =
      let is : tree_in t x ≡ one = sym (listed-value (slice_get (nodes t) from) (tree_in t x) (ap (slice_get (nodes t)) (sym at) ∙ there)) in
      exchanged-rewritten (nodes t) (exchanging one other) n d to (tree_in t x) other there (value-listed (slice_get (nodes t) to) ready.new)
      (leaf-exchanged one other t.pools (nodes t) d x leaf is (ap (λ v. is_closed_value v 0) is ∙ ready.closed) (ready.sort ∙ sym (ap tree_sort is)))

  elsewhere : (n : ℕ) (v : ValueTree) → AreDifferent (nodes t) → slice_get (nodes t) n ≡ Some v → (n ≡ from → ⊥) → v ≡ one → ⊥
  elsewhere n v differ there away same = away (differ n from one (there ∙ ap Some same) (value-listed (slice_get (nodes t) from) ready.old))

  -- another leaf
  pub other-leaf : (n : ℕ) (x : Shape) → AreDifferent (nodes t) → (n ≡ from → ⊥) → is_leaf x ≡ true → slice_get (nodes t) n ≡ Some (tree_in t x) → IsRewritten (exchanging one other) (nodes t) n d n
  other-leaf n x differ away leaf there =
      stays-rewritten (nodes t) (exchanging one other) n d (tree_in t x) there
      (leaf-stays one other t.pools (nodes t) d x leaf (elsewhere n (tree_in t x) differ there away))

  -- the old node, where it is no leaf
  pub old-whole : (n : ℕ) → n ≡ from → IsWhole (exchanging one other) (nodes t) n d to
  old-whole n at =
      let is : the_value (slice_get (nodes t) n) ≡ one = ap (λ k. the_value (slice_get (nodes t) k)) at in
      record {
        there = ready.new;
        is = value-listed (slice_get (nodes t) to) ready.new ∙ sym (new-for one other (the_value (slice_get (nodes t) n)) is);
        sort = ready.sort ∙ sym (ap tree_sort is);
      }

  -- another part
  pub other-whole : (n : ℕ) (v : ValueTree) → AreDifferent (nodes t) → (n ≡ from → ⊥) → slice_get (nodes t) n ≡ Some v → new_for one other (the_value (slice_get (nodes t) n)) ≡ None
  other-whole n v differ away there =
      none-for one other (the_value (slice_get (nodes t) n)) (λ same. elsewhere n v differ there away (sym (listed-value (slice_get (nodes t) n) v there) ∙ same))

  -- a node before the old one stays
  pub earlier-stays : (n : ℕ) (v : ValueTree) → PartsFirst (nodes t) → AreDifferent (nodes t) → n < from → slice_get (nodes t) n ≡ Some v → IsRewritten (exchanging one other) (nodes t) n d n
  earlier-stays n v law differ lt there =
      stays-rewritten (nodes t) (exchanging one other) n d v there
      (value-lacks one other v d (earlier-lacks (nodes t) n from v one law differ lt there (value-listed (slice_get (nodes t) from) ready.old)))

-- the formula that comes of it
pub exchanged-truth : (old new : ValueTree) (o : Option ValueTree) → is_truth o ≡ true → Some (rewritten_value (the_value o) (exchanging old new) 0) ≡ Some (of_truth (rewritten_formula (the_truth o) (exchanging old new) 0))
unfolding rewritten_value
exchanged-truth old new o h = ap (λ v. Some (rewritten_value v (exchanging old new) 0)) (truth-value o h)

-- and what it means
pub exchanged-means : (old new : ValueTree) (o made : Option ValueTree) → is_truth o ≡ true → is_closed_value old 0 ≡ true → is_closed_value new 0 ≡ true →
    made ≡ Some (rewritten_value (the_value o) (exchanging old new) 0) →
    (m : Interp) (e : List ℕ) → InUniverse m → AreInside m.last e → SameIn m.last (datum old m []) (datum new m []) → truth (the_truth made) m e ≡ truth (the_truth o) m e
exchanged-means old new o made h closed_old closed_new is m e universe inside same =
    ap (λ a. truth a m e) (listed-truth made (rewritten_formula (the_truth o) (exchanging old new) 0) (is ∙ exchanged-truth old new o h))
    ∙ sym (exchange-keeps (the_truth o) (rewritten_formula (the_truth o) (exchanging old new) 0) old new (formula-exchanged old new (the_truth o) 0) closed_old closed_new m universe same e inside)
