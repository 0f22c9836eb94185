-- The goals of a formula at the shape of its node.
use Rattle.std.proofs.Common.{◌≡◌, refl, sym, ap, ◌∙◌, ℕ, suc, ◌+◌, ◌<◌, arith, Bool, true, if◌then◌else◌, List, [], ◌∷◌, ◌++◌, length, length-append, slice_get, Some, is_some}
use Rattle.std.proofs.lemmas.Bool.{true≢false}
use Rattle.jh_form.specs.Tree.{of_truth}
use Rattle.jh_form.specs.Tree as tree
use Rattle.jh_form.proofs.ClosedLemmas.{both-left, both-right}
use Rattle.jh_arena.specs.table.Entries.{Listing, is_truth, the_truth, the_list, fields_at}
use Rattle.jh_arena.specs.table.Nodes.{nodes, fits, fits_in, shape_tree, tree_in}
use Rattle.jh_arena.specs.table.Parts.{own_parts, list_parts, parts, ArePartsBelow}
use Rattle.jh_arena.specs.declared.table.shapes.Shape.{Shape}
use Rattle.jh_arena.specs.declared.table.shapes.Shape.TheVariants as s
use Rattle.jh_weakest.specs.declared.sequent_count.forms.Form.TheVariants as form
use Rattle.jh_weakest.specs.sequent_count.Forms.{form_of}
use Rattle.jh_seq.specs.counting.Goals.{Weights, goals, field_count, forest_count}
use Rattle.jh_weakest.specs.sequent_count.Tallies.{name_at, truth_name, IsName}

module _ (t : Listing) (w : Weights) (marked : Bool) where
  abbrev pub goals_at : ℕ → Bool → ℕ
  goals_at n k = goals (the_truth (slice_get (nodes t) n)) w k

  abbrev pub goals_in : Shape → ℕ
  goals_in x = goals (the_truth (Some (tree_in t x))) w marked

  pub goals-both : (x : Shape) (a b : ℕ) → form_of x ≡ form.Both a b → goals_in x ≡ goals_at a marked + goals_at b marked
  unfolding form_of shape_tree the_truth goals
  goals-both (s.And c d) a b e = let p : c ≡ a = cc in let q : d ≡ b = cc in λ i. goals_at (p i) marked + goals_at (q i) marked
  goals-both (s.Iff c d) a b e = let p : d ≡ a = cc in let q : c ≡ b = cc in λ i. goals_at (p i) marked + goals_at (q i) marked
  goals-both _ a b e = absurd (cc)

  pub goals-part : (x : Shape) (a : ℕ) → form_of x ≡ form.Part a → goals_in x ≡ goals_at a marked
  unfolding form_of shape_tree the_truth goals
  goals-part (s.Implies c d) a e = let p : d ≡ a = cc in ap (λ n. goals_at n marked) p
  goals-part (s.All c) a e = let p : c ≡ a = cc in ap (λ n. goals_at n marked) p
  goals-part _ a e = absurd (cc)

  pub goals-labelled : (x : Shape) (a : ℕ) → form_of x ≡ form.Labelled a → goals_in x ≡ goals_at a true
  unfolding form_of shape_tree the_truth goals
  goals-labelled (s.Mark m c) a e = let p : c ≡ a = cc in ap (λ n. goals_at n true) p
  goals-labelled _ a e = absurd (cc)

  fields-counted : (ns : List ℕ) → field_count (fields_at (nodes t) ns) ≡ length ns
  unfolding fields_at
  fields-counted [] = refl
  fields-counted (n ∷ ns) = ap suc (fields-counted ns)

  pub goals-forest : (x : Shape) → form_of x ≡ form.Forest → goals_in x ≡ forest_count (length (parts t.pools.lists x))
  unfolding form_of shape_tree the_truth goals list_parts own_parts
  goals-forest (s.Tree l) e =
      let same : field_count (fields_at (nodes t) (the_list (slice_get t.pools.lists l))) ≡ length (the_list (slice_get t.pools.lists l) ++ []) =
      omega (arith, fields-counted (the_list (slice_get t.pools.lists l)), length-append (the_list (slice_get t.pools.lists l)) []) in
      ap forest_count same
  goals-forest _ e = absurd (cc)

  pub goals-truth : (x : Shape) → form_of x ≡ form.Truth → goals_in x ≡ (if marked then 1 else 0)
  unfolding form_of shape_tree the_truth goals
  goals-truth s.True e = refl
  goals-truth _ e = absurd (cc)

  pub goals-alone : (x : Shape) → form_of x ≡ form.Alone → is_truth (Some (tree_in t x)) ≡ true → goals_in x ≡ 1
  unfolding form_of shape_tree is_truth the_truth goals
  goals-alone (s.And c d) e h = absurd (cc)
  goals-alone (s.Iff c d) e h = absurd (cc)
  goals-alone (s.Implies c d) e h = absurd (cc)
  goals-alone (s.All c) e h = absurd (cc)
  goals-alone (s.Mark m c) e h = absurd (cc)
  goals-alone (s.Tree l) e h = absurd (cc)
  goals-alone (s.FreeTruth n) e h = absurd (cc)
  goals-alone s.True e h = absurd (cc)
  goals-alone s.False e h = refl
  goals-alone (s.ReadTruth a b) e h = refl
  goals-alone (s.Negation a) e h = refl
  goals-alone (s.Or a b) e h = refl
  goals-alone (s.Ex a) e h = refl
  goals-alone (s.EqObject a b) e h = refl
  goals-alone (s.EqNumber a b) e h = refl
  goals-alone (s.EqSet a b) e h = refl
  goals-alone (s.Less a b) e h = refl
  goals-alone (s.LessEqual a b) e h = refl
  goals-alone (s.Divides z a) e h = refl
  goals-alone (s.Member a b) e h = refl
  goals-alone (s.Subset a b) e h = refl
  goals-alone (s.Reach l a b) e h = refl
  goals-alone _ e h = absurd (true≢false (sym h))

-- the goals at a node of a shape
pub goals-here : (t : Listing) (w : Weights) (marked : Bool) (n : ℕ) (x : Shape) → slice_get (nodes t) n ≡ Some (tree_in t x) → goals (the_truth (slice_get (nodes t) n)) w marked ≡ goals_in t w marked x
goals-here t w marked n x there = ap (λ o. goals (the_truth o) w marked) there

-- a truth name
module _ (t : Listing) where
  pub name-is : (x : Shape) (n : ℕ) → form_of x ≡ form.Name → slice_get (nodes t) n ≡ Some (tree_in t x) → IsName t n
  unfolding form_of shape_tree the_truth
  name-is (s.FreeTruth k) n e there = there ∙ (λ i. Some (of_truth (tree.free_truth (truth_name (the_truth (sym there i))))))
  name-is _ n e there = absurd (cc)

  pub name-goals : (w : Weights) (marked : Bool) (n : ℕ) → IsName t n → goals (the_truth (slice_get (nodes t) n)) w marked ≡ w (name_at t n) marked
  unfolding goals the_truth
  name-goals w marked n is = ap (λ o. goals (the_truth o) w marked) is

  -- the parts are formulas before the node
  pub both-left-truth : (x : Shape) (a b : ℕ) → form_of x ≡ form.Both a b → fits_in t x ≡ true → is_truth (slice_get (nodes t) a) ≡ true
  unfolding form_of fits
  both-left-truth (s.And c d) a b e h = let p : c ≡ a = cc in ap (λ n. is_truth (slice_get (nodes t) n)) (sym p) ∙ both-left (is_truth (slice_get (nodes t) c)) (is_truth (slice_get (nodes t) d)) h
  both-left-truth (s.Iff c d) a b e h = let p : d ≡ a = cc in ap (λ n. is_truth (slice_get (nodes t) n)) (sym p) ∙ both-right (is_truth (slice_get (nodes t) c)) (is_truth (slice_get (nodes t) d)) h
  both-left-truth _ a b e h = absurd (cc)

  pub both-right-truth : (x : Shape) (a b : ℕ) → form_of x ≡ form.Both a b → fits_in t x ≡ true → is_truth (slice_get (nodes t) b) ≡ true
  unfolding form_of fits
  both-right-truth (s.And c d) a b e h = let p : d ≡ b = cc in ap (λ n. is_truth (slice_get (nodes t) n)) (sym p) ∙ both-right (is_truth (slice_get (nodes t) c)) (is_truth (slice_get (nodes t) d)) h
  both-right-truth (s.Iff c d) a b e h = let p : c ≡ b = cc in ap (λ n. is_truth (slice_get (nodes t) n)) (sym p) ∙ both-left (is_truth (slice_get (nodes t) c)) (is_truth (slice_get (nodes t) d)) h
  both-right-truth _ a b e h = absurd (cc)

  pub part-truth : (x : Shape) (a : ℕ) → form_of x ≡ form.Part a → fits_in t x ≡ true → is_truth (slice_get (nodes t) a) ≡ true
  unfolding form_of fits
  part-truth (s.Implies c d) a e h = let p : d ≡ a = cc in ap (λ n. is_truth (slice_get (nodes t) n)) (sym p) ∙ both-right (is_truth (slice_get (nodes t) c)) (is_truth (slice_get (nodes t) d)) h
  part-truth (s.All c) a e h = let p : c ≡ a = cc in ap (λ n. is_truth (slice_get (nodes t) n)) (sym p) ∙ h
  part-truth _ a e h = absurd (cc)

  pub labelled-truth : (x : Shape) (a : ℕ) → form_of x ≡ form.Labelled a → fits_in t x ≡ true → is_truth (slice_get (nodes t) a) ≡ true
  unfolding form_of fits
  labelled-truth (s.Mark m c) a e h = let p : c ≡ a = cc in ap (λ n. is_truth (slice_get (nodes t) n)) (sym p) ∙ both-right (is_some (slice_get t.pools.marks m)) (is_truth (slice_get (nodes t) c)) h
  labelled-truth _ a e h = absurd (cc)

  module _ (n : ℕ) where
    pub both-left-below : (x : Shape) (a b : ℕ) → form_of x ≡ form.Both a b → ArePartsBelow n t.pools.lists x → a < n
    unfolding form_of list_parts own_parts
    both-left-below (s.And c d) a b e h = let p : c ≡ a = cc in h.below 0 a (ap Some p)
    both-left-below (s.Iff c d) a b e h = let p : d ≡ a = cc in h.below 1 a (ap Some p)
    both-left-below _ a b e h = absurd (cc)

    pub both-right-below : (x : Shape) (a b : ℕ) → form_of x ≡ form.Both a b → ArePartsBelow n t.pools.lists x → b < n
    unfolding form_of list_parts own_parts
    both-right-below (s.And c d) a b e h = let p : d ≡ b = cc in h.below 1 b (ap Some p)
    both-right-below (s.Iff c d) a b e h = let p : c ≡ b = cc in h.below 0 b (ap Some p)
    both-right-below _ a b e h = absurd (cc)

    pub part-below : (x : Shape) (a : ℕ) → form_of x ≡ form.Part a → ArePartsBelow n t.pools.lists x → a < n
    unfolding form_of list_parts own_parts
    part-below (s.Implies c d) a e h = let p : d ≡ a = cc in h.below 1 a (ap Some p)
    part-below (s.All c) a e h = let p : c ≡ a = cc in h.below 0 a (ap Some p)
    part-below _ a e h = absurd (cc)

    pub labelled-below : (x : Shape) (a : ℕ) → form_of x ≡ form.Labelled a → ArePartsBelow n t.pools.lists x → a < n
    unfolding form_of list_parts own_parts
    labelled-below (s.Mark m c) a e h = let p : c ≡ a = cc in h.below 0 a (ap Some p)
    labelled-below _ a e h = absurd (cc)

pub ruleset going_steps = (both-left-truth, both-right-truth, part-truth, labelled-truth, both-left-below, both-right-below, part-below, labelled-below, name-is)
