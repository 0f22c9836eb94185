-- One name for another, and a value for a name, over a table.
use Rattle.std.proofs.Common.{◌≡◌, refl, sym, ap, ◌∙◌, ℕ, ◌==◌, Bool, true, false, not, if◌then◌else◌, List, slice_get, Option, Some}
use Rattle.std.proofs.lemmas.Bool.{true≢false, eqb-true, eqb-false}
use Rattle.jh_name.specs.declared.naming.Name.{Name}
use Rattle.jh_form.specs.Tree.{ValueTree, of_object, of_number, of_truth, of_set, of_field}
use Rattle.jh_form.specs.Tree as t
use Rattle.jh_form.specs.Passing.{value_passes, name_equal}
use Rattle.jh_boxed.specs.Mapped.{mapped_value}
use Rattle.jh_arena.specs.table.Entries.{Listing, is_truth, the_truth, the_value, the_name}
use Rattle.jh_arena.specs.table.Growth.{Extends}
use Rattle.jh_arena.specs.table.Nodes.{nodes, fits, fits_in, shape_tree, tree_in}
use Rattle.jh_arena.specs.declared.table.shapes.Shape.{Shape}
use Rattle.jh_arena.specs.declared.table.shapes.Shape.TheVariants as s
use Rattle.jh_substitution.specs.rewriting.Fixing.{FixesNames}
use Rattle.jh_substitution.specs.rewriting.Leaf.{is_leaf}
use Rattle.jh_substitution.specs.rewriting.Rewritten.{leaves_alone, rewritten_value, rewritten_term, rewritten_int, rewritten_set, rewritten_field, rewritten_formula}
use Rattle.jh_substitution.specs.rewriting.Walks.{IsRewritten}
use Rattle.jh_substitution.proofs.rewriting.Fixed.{value-kept}
use Rattle.jh_substitution.proofs.rewriting.Sorted.{stays-rewritten, exchanged-rewritten, listed-value, rewritten-truth}
use Rattle.jh_substitution.proofs.rewriting.SubstitutionRules.{chosen, other}
use Rattle.jh_substitution.proofs.rewriting.Wholes.{value-alone}
use Rattle.jh_wp.specs.Renamed.{renaming, renamed}
use Rattle.jh_weakest.specs.precondition.Names.{AreNamed, is_named, with_name}

skipped : {X : Type 0} (a c : X) (b : Bool) → not b ≡ true → (if b then a else c) ≡ c
skipped a c true h = absurd (true≢false (sym h))
skipped a c false h = refl

renaming-fixes : (x y : Name) → FixesNames (renaming x y) (λ z u. not (name_equal z x))
renaming-fixes x y = record {
  object = λ z d h. ap t.free_object (skipped y z (name_equal z x) h);
  number = λ z d h. ap t.free_number (skipped y z (name_equal z x) h);
  truth = λ z d h. ap t.free_truth (skipped y z (name_equal z x) h);
  set = λ z d h. ap t.free_set (skipped y z (name_equal z x) h);
  field = λ z d h. ap t.free_field (skipped y z (name_equal z x) h);
  bound = λ k d. refl;
}

-- a part that doesn't hold the name stays
pub lacks-renamed : (ts : List ValueTree) (n d : ℕ) (x y : Name) (v : ValueTree) → slice_get ts n ≡ Some v → value_passes (the_value (slice_get ts n)) (λ z u. not (name_equal z x)) ≡ true →
    IsRewritten (leaves_alone (renaming x y)) ts n d n
lacks-renamed ts n d x y v at h =
    stays-rewritten ts (leaves_alone (renaming x y)) n d v at
    (value-alone (renaming x y) v d
    ∙ value-kept (renaming x y) (λ z u. not (name_equal z x)) (renaming-fixes x y) v d ((λ i. value_passes (sym (listed-value (slice_get ts n) v at) i) (λ z u. not (name_equal z x))) ∙ h))

-- a formula that doesn't hold the name
pub nowhere-renamed : (o : Option ValueTree) (x y : Name) → is_truth o ≡ true → value_passes (the_value o) (λ z u. not (name_equal z x)) ≡ true → o ≡ Some (of_truth (renamed (the_truth o) x y))
unfolding is_truth the_truth the_value mapped_value
nowhere-renamed (Some (of_truth a)) x y h g = ap (λ z. Some z) (sym (value-kept (renaming x y) (λ z u. not (name_equal z x)) (renaming-fixes x y) (of_truth a) 0 g))
nowhere-renamed _ x y h g = absurd (true≢false (sym h))

module _ (u : Listing) (known : (n : ℕ) (x : Shape) → fits_in u x ≡ true → slice_get (nodes u) n ≡ Some (tree_in u x) → slice_get u.shapes n ≡ Some x) where
  -- two shapes of one node are one
  one-shape : (n : ℕ) (x y : Shape) → fits_in u x ≡ true → fits_in u y ≡ true → slice_get (nodes u) n ≡ Some (tree_in u x) → tree_in u x ≡ tree_in u y → x ≡ y
  one-shape n x y f g there same =
      let first : slice_get u.shapes n ≡ Some x = known n x f there in
      let second : slice_get u.shapes n ≡ Some y = known n y g (there ∙ ap Some same) in
      cc

module _ (u : Listing) (name with d : ℕ) where
  -- the name itself is exchanged
  hit : (k : ℕ) → (k == name) ≡ true →
      (if name_equal (the_name (slice_get u.pools.names k)) (the_name (slice_get u.pools.names name)) then the_name (slice_get u.pools.names with) else the_name (slice_get u.pools.names k)) ≡ the_name (slice_get u.pools.names with)
  hit k h =
      ap (λ (j : ℕ). if name_equal (the_name (slice_get u.pools.names j)) (the_name (slice_get u.pools.names name)) then the_name (slice_get u.pools.names with) else the_name (slice_get u.pools.names j)) (eqb-true k name h)
      ∙ chosen (the_name (slice_get u.pools.names name)) (the_name (slice_get u.pools.names with)) (the_name (slice_get u.pools.names name))

  named-tree : (x : Shape) → is_named x name ≡ true →
      rewritten_value (tree_in u x) (leaves_alone (renaming (the_name (slice_get u.pools.names name)) (the_name (slice_get u.pools.names with)))) d ≡ tree_in u (with_name x with)
  unfolding is_named with_name shape_tree rewritten_value rewritten_term rewritten_int rewritten_set rewritten_field rewritten_formula
  named-tree (s.FreeObject k) h = ap (λ z. of_object (t.free_object z)) (hit k h)
  named-tree (s.FreeNumber k) h = ap (λ z. of_number (t.free_number z)) (hit k h)
  named-tree (s.FreeTruth k) h = ap (λ z. of_truth (t.free_truth z)) (hit k h)
  named-tree (s.FreeSet k) h = ap (λ z. of_set (t.free_set z)) (hit k h)
  named-tree (s.FreeField k) h = ap (λ z. of_field (t.free_field z)) (hit k h)
  named-tree _ h = absurd (true≢false (sym h))

  pub named-fits : (x : Shape) → is_named x name ≡ true → AreNamed name with u → fits_in u (with_name x with) ≡ true
  unfolding is_named with_name fits
  named-fits (s.FreeObject k) h r = r.known
  named-fits (s.FreeNumber k) h r = r.known
  named-fits (s.FreeTruth k) h r = r.known
  named-fits (s.FreeSet k) h r = r.known
  named-fits (s.FreeField k) h r = r.known
  named-fits _ h r = absurd (true≢false (sym h))

  module _ (known : (n : ℕ) (x : Shape) → fits_in u x ≡ true → slice_get (nodes u) n ≡ Some (tree_in u x) → slice_get u.shapes n ≡ Some x) (ready : AreNamed name with u) (n : ℕ) where
    -- any other name stays
    miss : (k : ℕ) → (k == name) ≡ false → (the_name (slice_get u.pools.names k) ≡ the_name (slice_get u.pools.names name) → k ≡ name) →
        (if name_equal (the_name (slice_get u.pools.names k)) (the_name (slice_get u.pools.names name)) then the_name (slice_get u.pools.names with) else the_name (slice_get u.pools.names k)) ≡ the_name (slice_get u.pools.names k)
    miss k h one =
        other (the_name (slice_get u.pools.names k)) (the_name (slice_get u.pools.names name)) (the_name (slice_get u.pools.names with)) (the_name (slice_get u.pools.names k)) (λ e. eqb-false k name h (one e))

    other-tree : (x : Shape) → is_leaf x ≡ true → is_named x name ≡ false → fits_in u x ≡ true → slice_get (nodes u) n ≡ Some (tree_in u x) →
        rewritten_value (tree_in u x) (leaves_alone (renaming (the_name (slice_get u.pools.names name)) (the_name (slice_get u.pools.names with)))) d ≡ tree_in u x
    unfolding is_leaf is_named fits shape_tree rewritten_value rewritten_term rewritten_int rewritten_set rewritten_field rewritten_formula
    other-tree (s.Bound k) leaf h f e = refl
    other-tree (s.FreeObject k) leaf h f e = ap (λ z. of_object (t.free_object z)) (miss k h (λ same. let one : s.FreeObject k ≡ s.FreeObject name = one-shape u known n (s.FreeObject k) (s.FreeObject name) f ready.named e (ap (λ z. of_object (t.free_object z)) same) in cc))
    other-tree (s.FreeNumber k) leaf h f e = ap (λ z. of_number (t.free_number z)) (miss k h (λ same. let one : s.FreeNumber k ≡ s.FreeNumber name = one-shape u known n (s.FreeNumber k) (s.FreeNumber name) f ready.named e (ap (λ z. of_number (t.free_number z)) same) in cc))
    other-tree (s.FreeTruth k) leaf h f e = ap (λ z. of_truth (t.free_truth z)) (miss k h (λ same. let one : s.FreeTruth k ≡ s.FreeTruth name = one-shape u known n (s.FreeTruth k) (s.FreeTruth name) f ready.named e (ap (λ z. of_truth (t.free_truth z)) same) in cc))
    other-tree (s.FreeSet k) leaf h f e = ap (λ z. of_set (t.free_set z)) (miss k h (λ same. let one : s.FreeSet k ≡ s.FreeSet name = one-shape u known n (s.FreeSet k) (s.FreeSet name) f ready.named e (ap (λ z. of_set (t.free_set z)) same) in cc))
    other-tree (s.FreeField k) leaf h f e = ap (λ z. of_field (t.free_field z)) (miss k h (λ same. let one : s.FreeField k ≡ s.FreeField name = one-shape u known n (s.FreeField k) (s.FreeField name) f ready.named e (ap (λ z. of_field (t.free_field z)) same) in cc))
    other-tree _ leaf h f e = absurd (true≢false (sym leaf))

    pub other-renamed : (x : Shape) → is_leaf x ≡ true → is_named x name ≡ false → fits_in u x ≡ true → slice_get (nodes u) n ≡ Some (tree_in u x) →
        IsRewritten (leaves_alone (renaming (the_name (slice_get u.pools.names name)) (the_name (slice_get u.pools.names with)))) (nodes u) n d n
    other-renamed x leaf h f e =
        stays-rewritten (nodes u) (leaves_alone (renaming (the_name (slice_get u.pools.names name)) (the_name (slice_get u.pools.names with)))) n d (tree_in u x) e (other-tree x leaf h f e)

-- the node that was made for the name
pub named-renamed : (u v : Listing) (name with d n r : ℕ) (x : Shape) → is_named x name ≡ true → v.pools ≡ u.pools → Extends u v → slice_get (nodes u) n ≡ Some (tree_in u x) → slice_get (nodes v) r ≡ Some (tree_in u (with_name x with)) →
    IsRewritten (leaves_alone (renaming (the_name (slice_get v.pools.names name)) (the_name (slice_get v.pools.names with)))) (nodes v) n d r
named-renamed u v name with d n r x h pools g e f =
    exchanged-rewritten (nodes v) (leaves_alone (renaming (the_name (slice_get v.pools.names name)) (the_name (slice_get v.pools.names with)))) n d r (tree_in u x) (tree_in u (with_name x with))
    (g.nodes.keeps n (tree_in u x) e) f
    ((λ i. rewritten_value (tree_in u x) (leaves_alone (renaming (the_name (slice_get (pools i).names name)) (the_name (slice_get (pools i).names with)))) d) ∙ named-tree u name with d x h)

-- the answer of the walk, said of the table before the name was put into it
pub made-renamed : (u v w : Listing) (name with formula made : ℕ) (x y : Name) → nodes v ≡ nodes u → slice_get v.pools.names name ≡ Some x → slice_get v.pools.names with ≡ Some y →
    is_truth (slice_get (nodes u) formula) ≡ true →
    slice_get (nodes w) made ≡ Some (rewritten_value (the_value (slice_get (nodes v) formula)) (leaves_alone (renaming (the_name (slice_get v.pools.names name)) (the_name (slice_get v.pools.names with)))) 0) →
    slice_get (nodes w) made ≡ Some (of_truth (renamed (the_truth (slice_get (nodes u) formula)) x y))
unfolding the_name
made-renamed u v w name with formula made x y same named known truth e =
    e
    ∙ (λ i. Some (rewritten_value (the_value (slice_get (same i) formula)) (leaves_alone (renaming (the_name (named i)) (the_name (known i)))) 0))
    ∙ rewritten-truth (renaming x y) 0 (slice_get (nodes u) formula) truth
