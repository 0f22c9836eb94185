-- The node that a substitution answers.
use Rattle.std.proofs.Common.{◌≡◌, sym, ap, ◌∙◌, ℕ, ◌<◌, true, length, slice_get, Some, is_some}
use Rattle.jh_name.specs.declared.naming.Name.{Name}
use Rattle.jh_form.specs.Tree.{of_truth}
use Rattle.jh_substitution.specs.rewriting.Rewritten.{leaves_alone, rewritten_value}
use Rattle.jh_form.specs.Sorts.{tree_sort}
use Rattle.jh_boxed_operations.specs.substitution.Substituted.{substituting, substituted}
use Rattle.jh_arena.specs.table.Entries.{Listing, is_truth, the_name, the_value, the_truth}
use Rattle.jh_arena.specs.table.Growth.{Extends, AreDifferent}
use Rattle.jh_arena.specs.table.Nodes.{nodes, tree_in}
use Rattle.jh_arena.specs.declared.table.shapes.Shape.{Shape}
use Rattle.jh_arena.proofs.table.Listed.{extends-trans}
use Rattle.jh_substitution.specs.rewriting.Leaf.{is_leaf, free_shape, free_value}
use Rattle.jh_substitution.specs.rewriting.Walks.{IsRewritten}
use Rattle.jh_substitution.specs.rewriting.Staying.{grown}
use Rattle.jh_substitution.specs.rewriting.Substitution.{IsReady}
use Rattle.jh_substitution.proofs.rewriting.Sorted.{stays-rewritten, exchanged-rewritten, truth-some, rewritten-truth, within-some, value-listed}
use Rattle.jh_substitution.proofs.rewriting.SubstitutionRules.{free-exchanged, other-kept, free-tree}

module _ (t : Listing) (name leaf value d : ℕ) (ready : IsReady name leaf value t) where
  -- the leaf itself is exchanged
  pub leaf-rewritten : (n : ℕ) → n ≡ leaf →
      IsRewritten (leaves_alone (substituting (the_name (slice_get t.pools.names name)) (the_value (slice_get (nodes t) value)))) (nodes t) n d value
  leaf-rewritten n e =
      let here : slice_get (nodes t) n ≡ Some (free_value (the_name (slice_get t.pools.names name)) (the_value (slice_get (nodes t) value))) = ap (slice_get (nodes t)) e ∙ ready.free in
      exchanged-rewritten (nodes t) (leaves_alone (substituting (the_name (slice_get t.pools.names name)) (the_value (slice_get (nodes t) value)))) n d value
      (free_value (the_name (slice_get t.pools.names name)) (the_value (slice_get (nodes t) value)))
      (the_value (slice_get (nodes t) value)) here (value-listed (slice_get (nodes t) value) ready.valued)
      (free-exchanged (the_name (slice_get t.pools.names name)) (the_value (slice_get (nodes t) value)) d)

  -- any other leaf stays
  pub other-rewritten : (n : ℕ) (x : Shape) → AreDifferent (nodes t) → is_leaf x ≡ true → slice_get (nodes t) n ≡ Some (tree_in t x) → (n ≡ leaf → ⊥) →
      IsRewritten (leaves_alone (substituting (the_name (slice_get t.pools.names name)) (the_value (slice_get (nodes t) value)))) (nodes t) n d n
  other-rewritten n x differ is e elsewhere =
      stays-rewritten (nodes t) (leaves_alone (substituting (the_name (slice_get t.pools.names name)) (the_value (slice_get (nodes t) value)))) n d (tree_in t x) e
      (other-kept t.pools (nodes t) (the_name (slice_get t.pools.names name)) d x (the_value (slice_get (nodes t) value)) is
      (λ same. elsewhere (differ n leaf (free_value (the_name (slice_get t.pools.names name)) (the_value (slice_get (nodes t) value))) (e ∙ ap Some same) ready.free)))

-- the name, its node at the sort of the value, and the value stand in the table
pub made-ready : (t u v : Listing) (n leaf value : ℕ) (x : Name) → Extends t u → Extends u v → v.pools ≡ u.pools → slice_get u.pools.names n ≡ Some x →
    value < length (nodes t) → slice_get (nodes v) leaf ≡ Some (tree_in u (free_shape n (tree_sort (the_value (slice_get (nodes t) value))))) → IsReady n leaf value v
made-ready t u v n leaf value x g h pools named lt made =
    let names : slice_get v.pools.names n ≡ slice_get u.pools.names n = ap (λ p. slice_get p.names n) pools in
    let there : is_some (slice_get (nodes t) value) ≡ true = within-some (nodes t) value lt in
    let stays : slice_get (nodes v) value ≡ slice_get (nodes t) value = grown (nodes t) (nodes v) value (extends-trans t u v g h).nodes there in
    record {
      named = ap is_some (names ∙ named);
      valued = ap is_some stays ∙ there;
      free = made ∙ ap Some (free-tree u.pools (nodes u) n (the_value (slice_get (nodes t) value))) ∙ (λ i. Some (free_value (the_name (sym names i)) (the_value (sym stays i))));
    }

-- the answer of the walk, said of the table before the name was put into it
pub made-substituted : (t v w : Listing) (n value formula made : ℕ) (x : Name) → Extends t v → slice_get v.pools.names n ≡ Some x →
    value < length (nodes t) → is_truth (slice_get (nodes t) formula) ≡ true →
    slice_get (nodes w) made ≡ Some (rewritten_value (the_value (slice_get (nodes v) formula)) (leaves_alone (substituting (the_name (slice_get v.pools.names n)) (the_value (slice_get (nodes v) value)))) 0) →
    slice_get (nodes w) made ≡ Some (of_truth (substituted (the_truth (slice_get (nodes t) formula)) x (the_value (slice_get (nodes t) value))))
unfolding the_name
made-substituted t v w n value formula made x g named lt truth e =
    let values : slice_get (nodes v) value ≡ slice_get (nodes t) value = grown (nodes t) (nodes v) value g.nodes (within-some (nodes t) value lt) in
    let formulas : slice_get (nodes v) formula ≡ slice_get (nodes t) formula = grown (nodes t) (nodes v) formula g.nodes (truth-some (slice_get (nodes t) formula) truth) in
    e
    ∙ (λ i. Some (rewritten_value (the_value (formulas i)) (leaves_alone (substituting (the_name (named i)) (the_value (values i)))) 0))
    ∙ rewritten-truth (substituting x (the_value (slice_get (nodes t) value))) 0 (slice_get (nodes t) formula) truth
