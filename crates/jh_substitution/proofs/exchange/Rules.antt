-- The rules of an exchange under binders, over a table.
use Rattle.std.proofs.Common.{◌≡◌, refl, sym, ap, subst, ◌∙◌, ℕ, ◌<◌, length, true, false, if◌then◌else◌, Bool, List, Option, Some, None, is_some, slice_get}
use Rattle.std.proofs.lemmas.Bool.{true≢false}
use Rattle.jh_form.specs.Tree.{ValueTree, FormulaTree, of_object, of_number, of_truth, of_set, of_field}
use Rattle.jh_form.specs.Tree as t
use Rattle.jh_name.specs.declared.place.Sort.{Sort}
use Rattle.jh_name.specs.declared.place.Sort.TheVariants as sort
use Rattle.jh_form.specs.Sorts.{tree_sort, same_sort}
use Rattle.jh_boxed.specs.Mapped.{mapped_value, mapped_formula}
use Rattle.jh_boxed_operations.specs.comparison.Exchanged.{equal_trees}
use Rattle.jh_boxed_operations.proofs.comparison.Equalities.{equal_trees-true, equal_trees-same}
use Rattle.jh_arena.specs.table.Entries.{Pools, Listing, the_name, the_value, the_object, the_truth, is_object, is_truth}
use Rattle.jh_arena.specs.table.Growth.{AreDifferent, Extends}
use Rattle.jh_arena.specs.table.Nodes.{nodes, shape_tree, tree_in}
use Rattle.jh_arena.specs.declared.table.shapes.Shape.{Shape}
use Rattle.jh_arena.specs.declared.table.shapes.Shape.TheVariants as s
use Rattle.jh_substitution.specs.rewriting.Leaf.{is_leaf}
use Rattle.jh_substitution.specs.rewriting.Exchanging.{new_for}
use Rattle.jh_substitution.specs.rewriting.Rewritten.{Rewriting, object_or, number_or, truth_or, set_or, field_or, rewritten_value, rewritten_term, rewritten_int, rewritten_set, rewritten_field, rewritten_formula}
use Rattle.jh_substitution.specs.rewriting.Walks.{IsRewritten, IsWhole, StandsFor}
use Rattle.jh_arena.proofs.table.Listed.{extends-trans}
use Rattle.jh_substitution.specs.rewriting.Staying.{grown}
use Rattle.jh_substitution.proofs.rewriting.Sorted.{stays-rewritten, exchanged-rewritten, whole-rewritten, value-listed, listed-value, listed-truth, truth-value, truth-some, object-some, object-listed, there-within, within-some}
use Rattle.jh_substitution.proofs.rewriting.Wholes.{object-taken, number-taken, truth-taken, set-taken, field-taken}
use Rattle.jh_substitution.specs.simultaneous.Lifted.{lifting}
use Rattle.jh_substitution.specs.exchange.Under.{CanExchangeUnder, raised, new_at, StandsAt, exchanging_under, exchanged_under}

-- an answer that is a node, or else the node itself
abbrev pub node_or : Option ℕ → ℕ → ℕ
node_or (Some r) n = r
node_or None n = n

-- a sort is itself
sort-itself : (s : Sort) → same_sort s s ≡ true
sort-itself sort.Obj = refl
sort-itself sort.Int = refl
sort-itself sort.Bool = refl
sort-itself sort.Set = refl
sort-itself sort.Field = refl

-- raising keeps the sort
pub raised-sort : (d : ℕ) (v : ValueTree) → tree_sort (raised d v) ≡ tree_sort v
unfolding mapped_value
raised-sort d (of_object a) = refl
raised-sort d (of_number a) = refl
raised-sort d (of_truth a) = refl
raised-sort d (of_set a) = refl
raised-sort d (of_field a) = refl

-- the old value is exchanged, another stays
pub taken : (old new v : ValueTree) → v ≡ old → new_for old new v ≡ Some new
taken old new v e = ap (λ b. if b then Some new else None) (equal_trees-same v old e)

chosen-none : (old new v : ValueTree) (b : Bool) → equal_trees v old ≡ b → (v ≡ old → ⊥) → (if b then Some new else None) ≡ None
chosen-none old new v true is other = absurd (other (equal_trees-true v old is))
chosen-none old new v false is other = refl

pub left : (old new v : ValueTree) → (v ≡ old → ⊥) → new_for old new v ≡ None
left old new v other = chosen-none old new v (equal_trees v old) refl other

chosen-sort : (old new v w : ValueTree) (b : Bool) → equal_trees v old ≡ b → tree_sort new ≡ tree_sort old → (if b then Some new else None) ≡ Some w → tree_sort w ≡ tree_sort v
chosen-sort old new v w true is same q = let e : new ≡ w = cc in ap tree_sort (sym e) ∙ same ∙ ap tree_sort (sym (equal_trees-true v old is))
chosen-sort old new v w false is same q = absurd (cc)

-- what stands for a part is of its sort
pub new-sort : (old new : ValueTree) (d : ℕ) (v w : ValueTree) → tree_sort new ≡ tree_sort old → new_at old new d v ≡ Some w → tree_sort w ≡ tree_sort v
new-sort old new d v w same q = chosen-sort (raised d old) (raised d new) v w (equal_trees v (raised d old)) refl (raised-sort d new ∙ same ∙ sym (raised-sort d old)) q

module _ (old new : ValueTree) (p : Pools) (ts : List ValueTree) (d : ℕ) where
  -- a leaf for which a value stands
  pub leaf-taken : (x : Shape) (w : ValueTree) → is_leaf x ≡ true → new_at old new d (shape_tree p ts x) ≡ Some w → tree_sort w ≡ tree_sort (shape_tree p ts x) → rewritten_value (shape_tree p ts x) (exchanging_under old new) d ≡ w
  unfolding is_leaf shape_tree rewritten_value rewritten_term rewritten_int rewritten_set rewritten_field rewritten_formula
  leaf-taken (s.Bound k) w leaf e same = object-taken _ w _ e same
  leaf-taken (s.FreeObject k) w leaf e same = object-taken _ w _ e same
  leaf-taken (s.FreeNumber k) w leaf e same = number-taken _ w _ e same
  leaf-taken (s.FreeTruth k) w leaf e same = truth-taken _ w _ e same
  leaf-taken (s.FreeSet k) w leaf e same = set-taken _ w _ e same
  leaf-taken (s.FreeField k) w leaf e same = field-taken _ w _ e same
  leaf-taken _ w leaf e same = absurd (true≢false (sym leaf))

  -- another leaf
  pub leaf-left : (x : Shape) → is_leaf x ≡ true → new_at old new d (shape_tree p ts x) ≡ None → rewritten_value (shape_tree p ts x) (exchanging_under old new) d ≡ shape_tree p ts x
  unfolding is_leaf shape_tree object_or number_or truth_or set_or field_or rewritten_value rewritten_term rewritten_int rewritten_set rewritten_field rewritten_formula
  leaf-left (s.Bound k) leaf e = ap (λ q. of_object (object_or q (t.bound k))) e
  leaf-left (s.FreeObject k) leaf e = ap (λ q. of_object (object_or q (t.free_object (the_name (slice_get p.names k))))) e
  leaf-left (s.FreeNumber k) leaf e = ap (λ q. of_number (number_or q (t.free_number (the_name (slice_get p.names k))))) e
  leaf-left (s.FreeTruth k) leaf e = ap (λ q. of_truth (truth_or q (t.free_truth (the_name (slice_get p.names k))))) e
  leaf-left (s.FreeSet k) leaf e = ap (λ q. of_set (set_or q (t.free_set (the_name (slice_get p.names k))))) e
  leaf-left (s.FreeField k) leaf e = ap (λ q. of_field (field_or q (t.free_field (the_name (slice_get p.names k))))) e
  leaf-left _ leaf e = absurd (true≢false (sym leaf))

module _ (u : Listing) (from to d n : ℕ) (ready : CanExchangeUnder from to u) where
  abbrev one : ValueTree
  one = the_value (slice_get (nodes u) from)

  abbrev other : ValueTree
  other = the_value (slice_get (nodes u) to)

  abbrev l : Rewriting
  l = exchanging_under one other

  sorted : (v : ValueTree) → v ≡ raised d one → tree_sort (raised d other) ≡ tree_sort v
  sorted v e = raised-sort d other ∙ ready.sort ∙ sym (raised-sort d one) ∙ ap tree_sort (sym e)

  leaf-some : (t : Listing) (x : Shape) (r : ℕ) → Extends t u → is_leaf x ≡ true → slice_get (nodes t) n ≡ Some (tree_in t x) → StandsAt one other (nodes u) n d (Some r) → IsRewritten l (nodes u) n d r
  leaf-some t x r g leaf there h =
      let here : slice_get (nodes u) n ≡ Some (tree_in t x) = g.nodes.keeps n (tree_in t x) there in
      let is : tree_in t x ≡ raised d one = sym (listed-value (slice_get (nodes u) n) (tree_in t x) here) ∙ h.1 in
      exchanged-rewritten (nodes u) l n d r (tree_in t x) (raised d other) here h.0
      (leaf-taken one other t.pools (nodes t) d x (raised d other) leaf (taken (raised d one) (raised d other) (tree_in t x) is) (sorted (tree_in t x) is))

  leaf-none : (t : Listing) (x : Shape) → Extends t u → is_leaf x ≡ true → slice_get (nodes t) n ≡ Some (tree_in t x) → StandsAt one other (nodes u) n d None → IsRewritten l (nodes u) n d n
  leaf-none t x g leaf there h =
      let here : slice_get (nodes u) n ≡ Some (tree_in t x) = g.nodes.keeps n (tree_in t x) there in
      stays-rewritten (nodes u) l n d (tree_in t x) here
      (leaf-left one other t.pools (nodes t) d x leaf (left (raised d one) (raised d other) (tree_in t x) (λ e. h (listed-value (slice_get (nodes u) n) (tree_in t x) here ∙ e))))

  -- what the rule for a leaf answers
  pub leaf-so : (t : Listing) (x : Shape) (o : Option ℕ) → Extends t u → is_leaf x ≡ true → slice_get (nodes t) n ≡ Some (tree_in t x) → StandsAt one other (nodes u) n d o → IsRewritten l (nodes u) n d (node_or o n)
  leaf-so t x (Some r) g leaf there h = leaf-some t x r g leaf there h
  leaf-so t x None g leaf there h = leaf-none t x g leaf there h

  -- and that for a whole part
  pub whole-so : (t : Listing) (x : Shape) (o : Option ℕ) → Extends t u → is_leaf x ≡ false → slice_get (nodes t) n ≡ Some (tree_in t x) → StandsAt one other (nodes u) n d o → StandsFor l (nodes u) n d o
  whole-so t x (Some r) g leaf there h =
      let v = the_value (slice_get (nodes u) n) in
      whole-rewritten t u l n d r x g leaf there
      (record {
        there = ap is_some h.0;
        is = h.0 ∙ sym (taken (raised d one) (raised d other) v h.1);
        sort = ap tree_sort (listed-value (slice_get (nodes u) r) (raised d other) h.0) ∙ sorted v h.1;
      })
  whole-so t x None g leaf there h = left (raised d one) (raised d other) (the_value (slice_get (nodes u) n)) h

-- the formula that comes of it
pub exchanged-truth : (old new : ValueTree) (o : Option ValueTree) → is_truth o ≡ true → Some (rewritten_value (the_value o) (exchanging_under old new) 0) ≡ Some (of_truth (exchanged_under (the_truth o) old new))
unfolding rewritten_value
exchanged-truth old new o h = ap (λ v. Some (rewritten_value v (exchanging_under old new) 0)) (truth-value o h)

module _ (t u : Listing) (from n d : ℕ) (g : Extends t u) (inside : n < length (nodes t)) (there : is_some (slice_get (nodes t) from) ≡ true) where
  -- a part of another sort isn't the old value
  pub other-sort : (s r : Sort) → s ≡ tree_sort (the_value (slice_get (nodes t) n)) → r ≡ tree_sort (the_value (slice_get (nodes t) from)) → same_sort s r ≡ false → the_value (slice_get (nodes t) n) ≡ raised d (the_value (slice_get (nodes t) from)) → ⊥
  other-sort s r is was differ e =
      let same : s ≡ r = is ∙ ap tree_sort e ∙ raised-sort d (the_value (slice_get (nodes t) from)) ∙ sym was in
      true≢false (sym (sort-itself r) ∙ ap (λ q. same_sort q r) (sym same) ∙ differ)

  -- nor is another node
  pub other-node : (r : ℕ) → AreDifferent (nodes u) → slice_get (nodes u) r ≡ Some (raised d (the_value (slice_get (nodes t) from))) → (n ≡ r → ⊥) → the_value (slice_get (nodes u) n) ≡ raised d (the_value (slice_get (nodes u) from)) → ⊥
  other-node r differ listed away e =
      let v = the_value (slice_get (nodes u) n) in
      let old : slice_get (nodes u) from ≡ slice_get (nodes t) from = grown (nodes t) (nodes u) from g.nodes there in
      let stays : slice_get (nodes u) n ≡ slice_get (nodes t) n = grown (nodes t) (nodes u) n g.nodes (within-some (nodes t) n inside) in
      let here : slice_get (nodes u) n ≡ Some v = value-listed (slice_get (nodes u) n) (ap is_some stays ∙ within-some (nodes t) n inside) in
      away (differ n r v here (listed ∙ ap (λ q. Some (raised d (the_value q))) (sym old) ∙ ap (λ w. Some w) (sym e)))

-- the old node, and what stands for it
pub same-node : (t u w : Listing) (from to n r k d : ℕ) → Extends t u → Extends u w → is_some (slice_get (nodes t) from) ≡ true → is_some (slice_get (nodes t) to) ≡ true →
    slice_get (nodes u) r ≡ Some (raised d (the_value (slice_get (nodes t) from))) → n ≡ r → slice_get (nodes w) k ≡ Some (raised d (the_value (slice_get (nodes u) to))) →
    StandsAt (the_value (slice_get (nodes w) from)) (the_value (slice_get (nodes w) to)) (nodes w) n d (Some k)
same-node t u w from to n r k d g h there known listed at made =
    let both : Extends t w = extends-trans t u w g h in
    let old : slice_get (nodes w) from ≡ slice_get (nodes t) from = grown (nodes t) (nodes w) from both.nodes there in
    let first : slice_get (nodes u) to ≡ slice_get (nodes t) to = grown (nodes t) (nodes u) to g.nodes known in
    let new : slice_get (nodes w) to ≡ slice_get (nodes t) to = grown (nodes t) (nodes w) to both.nodes known in
    let v = raised d (the_value (slice_get (nodes t) from)) in (
      made ∙ ap (λ q. Some (raised d (the_value q))) (first ∙ sym new),
      listed-value (slice_get (nodes w) n) v (h.nodes.keeps n v (ap (slice_get (nodes u)) at ∙ listed)) ∙ ap (λ q. raised d (the_value q)) (sym old),
    )

pub object-within : (t u : Listing) (n : ℕ) → Extends t u → is_object (slice_get (nodes t) n) ≡ true → n < length (nodes u)
object-within t u n g h =
    let there : is_some (slice_get (nodes t) n) ≡ true = object-some (slice_get (nodes t) n) h in
    there-within (nodes u) n (ap is_some (grown (nodes t) (nodes u) n g.nodes there) ∙ there)

-- a formula and a term that rose
pub risen-truth : (t u w : Listing) (n r : ℕ) → is_truth (slice_get (nodes t) n) ≡ true → slice_get (nodes u) r ≡ Some (mapped_value (the_value (slice_get (nodes t) n)) (lifting 1) 0) → Extends u w →
    slice_get (nodes w) r ≡ Some (of_truth (mapped_formula (the_truth (slice_get (nodes t) n)) (lifting 1) 0))
unfolding mapped_value
risen-truth t u w n r h e g =
    g.nodes.keeps r (of_truth (mapped_formula (the_truth (slice_get (nodes t) n)) (lifting 1) 0)) (e ∙ ap (λ v. Some (mapped_value v (lifting 1) 0)) (truth-value (slice_get (nodes t) n) h))

pub risen-object : (s t u w : Listing) (n r : ℕ) → is_object (slice_get (nodes s) n) ≡ true → Extends s t → slice_get (nodes u) r ≡ Some (mapped_value (the_value (slice_get (nodes t) n)) (lifting 1) 0) → Extends u w →
    slice_get (nodes w) r ≡ Some (raised 1 (of_object (the_object (slice_get (nodes s) n))))
risen-object s t u w n r h f e g =
    let b = of_object (the_object (slice_get (nodes s) n)) in
    let is : slice_get (nodes s) n ≡ Some b = object-listed (slice_get (nodes s) n) h in
    let was : the_value (slice_get (nodes t) n) ≡ b = listed-value (slice_get (nodes t) n) b (f.nodes.keeps n b is) in
    g.nodes.keeps r (raised 1 b) (e ∙ ap (λ v. Some (raised 1 v)) was)

-- the variable of the binder
pub variable-is : (u w : Listing) (k : ℕ) → slice_get (nodes w) k ≡ Some (tree_in u (s.Bound 0)) → slice_get (nodes w) k ≡ Some (of_object (t.bound 0))
unfolding shape_tree
variable-is u w k e = e
