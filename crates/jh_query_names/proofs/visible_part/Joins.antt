-- What is shown of formulas that are joined, from what is shown of their parts.
use Rattle.std.proofs.Common.{◌≡◌, sym, ap, ◌∙◌, ℕ, Bool, true, false, not, ◌&&◌, if◌then◌else◌, Some, slice_get}
use Rattle.jh_form.specs.Tree.{FormulaTree, of_truth}
use Rattle.jh_form.specs.Tree as t
use Rattle.jh_arena.specs.table.Entries.{Listing, is_truth, the_truth}
use Rattle.jh_arena.specs.table.Growth.{Extends}
use Rattle.jh_arena.specs.table.Nodes.{nodes}
use Rattle.jh_arena.proofs.table.Listed.{extends-trans}
use Rattle.jh_approx.specs.definition.Shown.{shown, is_sayable, negation_of, and_of, implies_of, iff_of}
use Rattle.jh_query_names.specs.declared.visible_part.folding.Connective.{Connective}
use Rattle.jh_query_names.specs.declared.visible_part.memo.Made.{Made}
use Rattle.jh_query_names.specs.visible_part.Folding.{joined}
use Rattle.jh_query_names.specs.visible_part.Showing.{IsMade, IsShown, IsShownAt, turned}
use Rattle.jh_query_names.proofs.visible_part.Standing.{truth-at, truth-stays, shown-before, shown-behind}

abbrev tree_at : Listing → ℕ → FormulaTree
tree_at t n = the_truth (slice_get (nodes t) n)

-- two formulas that are made are joined
pub join-made : (u v : Listing) (k : Connective) (a b : FormulaTree) (d e : Bool) (left right : Made) (node : ℕ) (flag : Bool) → IsMade (nodes u) left a d → IsMade (nodes u) right b e →
    slice_get (nodes v) node ≡ Some (of_truth (joined k (tree_at u left.node) (tree_at u right.node))) → flag ≡ (left.sayable && right.sayable) → IsMade (nodes v) (record { node = node; sayable = flag }) (joined k a b) (d && e)
join-made u v k a b d e left right node flag l r at f = record {
  node = at ∙ (λ i. Some (of_truth (joined k (truth-at (slice_get (nodes u) left.node) a l.node i) (truth-at (slice_get (nodes u) right.node) b r.node i))));
  flag = f ∙ (λ i. l.flag i && r.flag i);
}

pub both-made : (t u v w : Listing) (k : Connective) (a b : ℕ) (first second : Bool) (left right : Made) (node : ℕ) (flag : Bool) → Extends t u → Extends u v → is_truth (slice_get (nodes t) a) ≡ true → is_truth (slice_get (nodes t) b) ≡ true →
    IsShownAt (nodes u) (record { node = a; positive = first }) left → IsShownAt (nodes v) (record { node = b; positive = second }) right →
    slice_get (nodes w) node ≡ Some (of_truth (joined k (tree_at v left.node) (tree_at v right.node))) → flag ≡ (left.sayable && right.sayable) →
    IsMade (nodes w) (record { node = node; sayable = flag }) (joined k (shown (tree_at t a) first) (shown (tree_at t b) second)) (is_sayable (tree_at t a) && is_sayable (tree_at t b))
both-made t u v w k a b first second left right node flag g h is_a is_b l r at f =
    join-made v w k (shown (tree_at t a) first) (shown (tree_at t b) second) (is_sayable (tree_at t a)) (is_sayable (tree_at t b)) left right node flag
    (shown-behind t u v (record { node = a; positive = first }) left g h is_a l)
    (shown-before t v (record { node = b; positive = second }) right (extends-trans t u v g h) is_b r) at f

pub negated-made : (t u w : Listing) (a : ℕ) (positive : Bool) (part : Made) (node : ℕ) → Extends t u → is_truth (slice_get (nodes t) a) ≡ true → IsShownAt (nodes u) (record { node = a; positive = not positive }) part →
    slice_get (nodes w) node ≡ Some (of_truth (negation_of (tree_at u part.node))) → IsMade (nodes w) (record { node = node; sayable = part.sayable }) (negation_of (shown (tree_at t a) (not positive))) (is_sayable (tree_at t a))
negated-made t u w a positive part node g is_a h at =
    let before : IsShown (nodes u) (tree_at t a) (not positive) part = shown-before t u (record { node = a; positive = not positive }) part g is_a h in
    record {
      node = at ∙ ap (λ f. Some (of_truth (negation_of f))) (truth-at (slice_get (nodes u) part.node) (shown (tree_at t a) (not positive)) before.node);
      flag = before.flag;
    }

-- the same trees, behind more nodes
pub same-tree : (t u : Listing) (n : ℕ) → Extends t u → is_truth (slice_get (nodes t) n) ≡ true → tree_at u n ≡ tree_at t n
same-tree t u n g h = truth-at (slice_get (nodes u) n) (tree_at t n) (truth-stays t u n g h)

-- an equivalence of which a query can say both sides
pub whole-made : (u : Listing) (a b : FormulaTree) (positive : Bool) (made : Made) → IsMade (nodes u) made (iff_of (shown a positive) (shown b positive)) (is_sayable a && is_sayable b) → made.sayable ≡ true → IsMade (nodes u) made (shown (t.iff a b) positive) (is_sayable a && is_sayable b)
unfolding shown
whole-made u a b positive made m h = record {
  node = m.node ∙ ap (λ c. Some (of_truth (if c then iff_of (shown a positive) (shown b positive) else turned a b positive))) (sym (sym m.flag ∙ h));
  flag = m.flag;
}

-- one of which it can't
pub opened-made : (o u w : Listing) (a b : ℕ) (positive : Bool) (joint made : Made) → Extends o u → is_truth (slice_get (nodes o) a) ≡ true → is_truth (slice_get (nodes o) b) ≡ true →
    joint.sayable ≡ (is_sayable (tree_at o a) && is_sayable (tree_at o b)) → joint.sayable ≡ false → IsMade (nodes w) made (turned (tree_at u a) (tree_at u b) positive) (is_sayable (tree_at u a) && is_sayable (tree_at u b)) →
    IsMade (nodes w) made (shown (t.iff (tree_at o a) (tree_at o b)) positive) (is_sayable (tree_at o a) && is_sayable (tree_at o b))
unfolding shown
opened-made o u w a b positive joint made g is_a is_b f h m = record {
  node = m.node
      ∙ (λ i. Some (of_truth (turned (same-tree o u a g is_a i) (same-tree o u b g is_b i) positive)))
      ∙ ap (λ c. Some (of_truth (if c then iff_of (shown (tree_at o a) positive) (shown (tree_at o b) positive) else turned (tree_at o a) (tree_at o b) positive))) (sym (sym f ∙ h));
  flag = m.flag ∙ (λ i. is_sayable (same-tree o u a g is_a i) && is_sayable (same-tree o u b g is_b i));
}

-- the two implications of an equivalence
pub turned-made : (t u v w : Listing) (a b : ℕ) (positive : Bool) (left right : Made) (node : ℕ) → Extends t u → Extends u v → is_truth (slice_get (nodes t) a) ≡ true → is_truth (slice_get (nodes t) b) ≡ true →
    IsMade (nodes u) left (implies_of (shown (tree_at t a) (not positive)) (shown (tree_at t b) positive)) (is_sayable (tree_at t a) && is_sayable (tree_at t b)) →
    IsMade (nodes v) right (implies_of (shown (tree_at u b) (not positive)) (shown (tree_at u a) positive)) (is_sayable (tree_at u b) && is_sayable (tree_at u a)) →
    slice_get (nodes w) node ≡ Some (of_truth (and_of (tree_at v left.node) (tree_at v right.node))) →
    IsMade (nodes w) (record { node = node; sayable = left.sayable }) (turned (tree_at t a) (tree_at t b) positive) (is_sayable (tree_at t a) && is_sayable (tree_at t b))
turned-made t u v w a b positive left right node g h is_a is_b l r at =
    let first : tree_at v left.node ≡ implies_of (shown (tree_at t a) (not positive)) (shown (tree_at t b) positive) = truth-at (slice_get (nodes v) left.node) _ (h.nodes.keeps left.node _ l.node) in
    let second : tree_at v right.node ≡ implies_of (shown (tree_at t b) (not positive)) (shown (tree_at t a) positive) =
    truth-at (slice_get (nodes v) right.node) (implies_of (shown (tree_at u b) (not positive)) (shown (tree_at u a) positive)) r.node ∙ (λ i. implies_of (shown (same-tree t u b g is_b i) (not positive)) (shown (same-tree t u a g is_a i) positive)) in
    record { node = at ∙ (λ i. Some (of_truth (and_of (first i) (second i)))); flag = l.flag }
