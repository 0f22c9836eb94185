-- Written by tools/several.py: the node that is put for a leaf.
use Rattle.std.proofs.Common.{◌≡◌, refl, sym, ap, ◌∙◌, ℕ, ◌==◌, Bool, true, false, if◌then◌else◌, List, [], ◌∷◌, Some, slice_get}
use Rattle.std.proofs.lemmas.Bool.{true≢false, eqb-true, eqb-false}
use Rattle.jh_name.specs.declared.naming.Name.{Name}
use Rattle.jh_form.specs.Tree.{ValueTree, of_object, of_number, of_truth, of_set, of_field}
use Rattle.jh_form.specs.Tree as t
use Rattle.jh_arena.specs.table.Entries.{Listing, the_name, the_value}
use Rattle.jh_arena.specs.table.Growth.{AreDifferent}
use Rattle.jh_arena.specs.table.Nodes.{nodes, shape_tree, tree_in}
use Rattle.jh_arena.specs.declared.table.shapes.Shape.{Shape}
use Rattle.jh_arena.specs.declared.table.shapes.Shape.TheVariants as s
use Rattle.jh_substitution.specs.rewriting.Leaf.{is_leaf, free_value}
use Rattle.jh_substitution.specs.rewriting.Rewritten.{leaves_alone, rewritten_value, rewritten_term, rewritten_int, rewritten_set, rewritten_field, rewritten_formula}
use Rattle.jh_substitution.specs.rewriting.Walks.{IsRewritten}
use Rattle.jh_substitution.proofs.rewriting.Sorted.{exchanged-rewritten, value-listed}
use Rattle.jh_substitution.specs.declared.simultaneous.pairs.Instead.{Instead}
use Rattle.jh_substitution.specs.simultaneous.Pairs.{pairs_in, AreReady, chosen_of}
use Rattle.jh_substitution.specs.simultaneous.Several.{object_in, number_in, truth_in, set_in, field_in, instead}
use Rattle.jh_substitution.proofs.simultaneous.Fixes.{object-taken, object-passed, number-taken, number-passed, truth-taken, truth-passed, set-taken, set-passed, field-taken, field-passed, bound-taken}

module _ (u : Listing) (differ : AreDifferent (nodes u)) (n : ℕ) where
  -- the leaf of a pair is the node exactly where both are one tree
  abbrev leaf_tree : Instead → ValueTree
  leaf_tree p = free_value (the_name (slice_get u.pools.names p.name)) (the_value (slice_get (nodes u) p.value))

  object-step : (y : Name) (p : Instead) (ps : List Instead) (b : Bool) → (p.leaf == n) ≡ b → AreReady u (p ∷ ps) → slice_get (nodes u) n ≡ Some (of_object (t.free_object y)) →
      slice_get (nodes u) (chosen_of ps n) ≡ Some (of_object (object_in (pairs_in u ps) y)) → slice_get (nodes u) (if b then p.value else chosen_of ps n) ≡ Some (of_object (object_in (pairs_in u (p ∷ ps)) y))
  object-step y p ps true is ready there rest =
      let at : slice_get (nodes u) n ≡ Some (leaf_tree p) = ap (slice_get (nodes u)) (sym (eqb-true p.leaf n is)) ∙ ready.0.free in
      let same : leaf_tree p ≡ of_object (t.free_object y) = cc (at, there) in
      value-listed (slice_get (nodes u) p.value) ready.0.valued ∙ ap (λ v. Some v) (sym (object-taken y (the_name (slice_get u.pools.names p.name)) (the_value (slice_get (nodes u) p.value)) (pairs_in u ps) same))
  object-step y p ps false is ready there rest =
      let away : p.leaf ≡ n → ⊥ = eqb-false p.leaf n is in
      rest ∙ ap (λ a. Some (of_object a)) (sym (object-passed y (the_name (slice_get u.pools.names p.name)) (the_value (slice_get (nodes u) p.value)) (pairs_in u ps)
      (λ e. away (differ p.leaf n (of_object (t.free_object y)) (ready.0.free ∙ ap (λ v. Some v) e) there))))

  object-chosen : (y : Name) (ps : List Instead) → AreReady u ps → slice_get (nodes u) n ≡ Some (of_object (t.free_object y)) → slice_get (nodes u) (chosen_of ps n) ≡ Some (of_object (object_in (pairs_in u ps) y))
  object-chosen y [] ready there = there
  object-chosen y (p ∷ ps) ready there = object-step y p ps (p.leaf == n) refl ready there (object-chosen y ps ready.1 there)

  number-step : (y : Name) (p : Instead) (ps : List Instead) (b : Bool) → (p.leaf == n) ≡ b → AreReady u (p ∷ ps) → slice_get (nodes u) n ≡ Some (of_number (t.free_number y)) →
      slice_get (nodes u) (chosen_of ps n) ≡ Some (of_number (number_in (pairs_in u ps) y)) → slice_get (nodes u) (if b then p.value else chosen_of ps n) ≡ Some (of_number (number_in (pairs_in u (p ∷ ps)) y))
  number-step y p ps true is ready there rest =
      let at : slice_get (nodes u) n ≡ Some (leaf_tree p) = ap (slice_get (nodes u)) (sym (eqb-true p.leaf n is)) ∙ ready.0.free in
      let same : leaf_tree p ≡ of_number (t.free_number y) = cc (at, there) in
      value-listed (slice_get (nodes u) p.value) ready.0.valued ∙ ap (λ v. Some v) (sym (number-taken y (the_name (slice_get u.pools.names p.name)) (the_value (slice_get (nodes u) p.value)) (pairs_in u ps) same))
  number-step y p ps false is ready there rest =
      let away : p.leaf ≡ n → ⊥ = eqb-false p.leaf n is in
      rest ∙ ap (λ a. Some (of_number a)) (sym (number-passed y (the_name (slice_get u.pools.names p.name)) (the_value (slice_get (nodes u) p.value)) (pairs_in u ps)
      (λ e. away (differ p.leaf n (of_number (t.free_number y)) (ready.0.free ∙ ap (λ v. Some v) e) there))))

  number-chosen : (y : Name) (ps : List Instead) → AreReady u ps → slice_get (nodes u) n ≡ Some (of_number (t.free_number y)) → slice_get (nodes u) (chosen_of ps n) ≡ Some (of_number (number_in (pairs_in u ps) y))
  number-chosen y [] ready there = there
  number-chosen y (p ∷ ps) ready there = number-step y p ps (p.leaf == n) refl ready there (number-chosen y ps ready.1 there)

  truth-step : (y : Name) (p : Instead) (ps : List Instead) (b : Bool) → (p.leaf == n) ≡ b → AreReady u (p ∷ ps) → slice_get (nodes u) n ≡ Some (of_truth (t.free_truth y)) →
      slice_get (nodes u) (chosen_of ps n) ≡ Some (of_truth (truth_in (pairs_in u ps) y)) → slice_get (nodes u) (if b then p.value else chosen_of ps n) ≡ Some (of_truth (truth_in (pairs_in u (p ∷ ps)) y))
  truth-step y p ps true is ready there rest =
      let at : slice_get (nodes u) n ≡ Some (leaf_tree p) = ap (slice_get (nodes u)) (sym (eqb-true p.leaf n is)) ∙ ready.0.free in
      let same : leaf_tree p ≡ of_truth (t.free_truth y) = cc (at, there) in
      value-listed (slice_get (nodes u) p.value) ready.0.valued ∙ ap (λ v. Some v) (sym (truth-taken y (the_name (slice_get u.pools.names p.name)) (the_value (slice_get (nodes u) p.value)) (pairs_in u ps) same))
  truth-step y p ps false is ready there rest =
      let away : p.leaf ≡ n → ⊥ = eqb-false p.leaf n is in
      rest ∙ ap (λ a. Some (of_truth a)) (sym (truth-passed y (the_name (slice_get u.pools.names p.name)) (the_value (slice_get (nodes u) p.value)) (pairs_in u ps)
      (λ e. away (differ p.leaf n (of_truth (t.free_truth y)) (ready.0.free ∙ ap (λ v. Some v) e) there))))

  truth-chosen : (y : Name) (ps : List Instead) → AreReady u ps → slice_get (nodes u) n ≡ Some (of_truth (t.free_truth y)) → slice_get (nodes u) (chosen_of ps n) ≡ Some (of_truth (truth_in (pairs_in u ps) y))
  truth-chosen y [] ready there = there
  truth-chosen y (p ∷ ps) ready there = truth-step y p ps (p.leaf == n) refl ready there (truth-chosen y ps ready.1 there)

  set-step : (y : Name) (p : Instead) (ps : List Instead) (b : Bool) → (p.leaf == n) ≡ b → AreReady u (p ∷ ps) → slice_get (nodes u) n ≡ Some (of_set (t.free_set y)) →
      slice_get (nodes u) (chosen_of ps n) ≡ Some (of_set (set_in (pairs_in u ps) y)) → slice_get (nodes u) (if b then p.value else chosen_of ps n) ≡ Some (of_set (set_in (pairs_in u (p ∷ ps)) y))
  set-step y p ps true is ready there rest =
      let at : slice_get (nodes u) n ≡ Some (leaf_tree p) = ap (slice_get (nodes u)) (sym (eqb-true p.leaf n is)) ∙ ready.0.free in
      let same : leaf_tree p ≡ of_set (t.free_set y) = cc (at, there) in
      value-listed (slice_get (nodes u) p.value) ready.0.valued ∙ ap (λ v. Some v) (sym (set-taken y (the_name (slice_get u.pools.names p.name)) (the_value (slice_get (nodes u) p.value)) (pairs_in u ps) same))
  set-step y p ps false is ready there rest =
      let away : p.leaf ≡ n → ⊥ = eqb-false p.leaf n is in
      rest ∙ ap (λ a. Some (of_set a)) (sym (set-passed y (the_name (slice_get u.pools.names p.name)) (the_value (slice_get (nodes u) p.value)) (pairs_in u ps)
      (λ e. away (differ p.leaf n (of_set (t.free_set y)) (ready.0.free ∙ ap (λ v. Some v) e) there))))

  set-chosen : (y : Name) (ps : List Instead) → AreReady u ps → slice_get (nodes u) n ≡ Some (of_set (t.free_set y)) → slice_get (nodes u) (chosen_of ps n) ≡ Some (of_set (set_in (pairs_in u ps) y))
  set-chosen y [] ready there = there
  set-chosen y (p ∷ ps) ready there = set-step y p ps (p.leaf == n) refl ready there (set-chosen y ps ready.1 there)

  field-step : (y : Name) (p : Instead) (ps : List Instead) (b : Bool) → (p.leaf == n) ≡ b → AreReady u (p ∷ ps) → slice_get (nodes u) n ≡ Some (of_field (t.free_field y)) →
      slice_get (nodes u) (chosen_of ps n) ≡ Some (of_field (field_in (pairs_in u ps) y)) → slice_get (nodes u) (if b then p.value else chosen_of ps n) ≡ Some (of_field (field_in (pairs_in u (p ∷ ps)) y))
  field-step y p ps true is ready there rest =
      let at : slice_get (nodes u) n ≡ Some (leaf_tree p) = ap (slice_get (nodes u)) (sym (eqb-true p.leaf n is)) ∙ ready.0.free in
      let same : leaf_tree p ≡ of_field (t.free_field y) = cc (at, there) in
      value-listed (slice_get (nodes u) p.value) ready.0.valued ∙ ap (λ v. Some v) (sym (field-taken y (the_name (slice_get u.pools.names p.name)) (the_value (slice_get (nodes u) p.value)) (pairs_in u ps) same))
  field-step y p ps false is ready there rest =
      let away : p.leaf ≡ n → ⊥ = eqb-false p.leaf n is in
      rest ∙ ap (λ a. Some (of_field a)) (sym (field-passed y (the_name (slice_get u.pools.names p.name)) (the_value (slice_get (nodes u) p.value)) (pairs_in u ps)
      (λ e. away (differ p.leaf n (of_field (t.free_field y)) (ready.0.free ∙ ap (λ v. Some v) e) there))))

  field-chosen : (y : Name) (ps : List Instead) → AreReady u ps → slice_get (nodes u) n ≡ Some (of_field (t.free_field y)) → slice_get (nodes u) (chosen_of ps n) ≡ Some (of_field (field_in (pairs_in u ps) y))
  field-chosen y [] ready there = there
  field-chosen y (p ∷ ps) ready there = field-step y p ps (p.leaf == n) refl ready there (field-chosen y ps ready.1 there)

  bound-step : (k : ℕ) (p : Instead) (ps : List Instead) (b : Bool) → (p.leaf == n) ≡ b → AreReady u (p ∷ ps) → slice_get (nodes u) n ≡ Some (of_object (t.bound k)) →
      slice_get (nodes u) (chosen_of ps n) ≡ Some (of_object (t.bound k)) → slice_get (nodes u) (if b then p.value else chosen_of ps n) ≡ Some (of_object (t.bound k))
  bound-step k p ps true is ready there rest =
      let at : slice_get (nodes u) n ≡ Some (leaf_tree p) = ap (slice_get (nodes u)) (sym (eqb-true p.leaf n is)) ∙ ready.0.free in
      let same : leaf_tree p ≡ of_object (t.bound k) = cc (at, there) in
      absurd (bound-taken k (the_name (slice_get u.pools.names p.name)) (the_value (slice_get (nodes u) p.value)) same)
  bound-step k p ps false is ready there rest = rest

  bound-chosen : (k : ℕ) (ps : List Instead) → AreReady u ps → slice_get (nodes u) n ≡ Some (of_object (t.bound k)) → slice_get (nodes u) (chosen_of ps n) ≡ Some (of_object (t.bound k))
  bound-chosen k [] ready there = there
  bound-chosen k (p ∷ ps) ready there = bound-step k p ps (p.leaf == n) refl ready there (bound-chosen k ps ready.1 there)

  put-for : (x : Shape) (ps : List Instead) (d : ℕ) → is_leaf x ≡ true → AreReady u ps → slice_get (nodes u) n ≡ Some (tree_in u x) →
      slice_get (nodes u) (chosen_of ps n) ≡ Some (rewritten_value (tree_in u x) (leaves_alone (instead (pairs_in u ps))) d)
  unfolding is_leaf shape_tree rewritten_value rewritten_term rewritten_int rewritten_set rewritten_field rewritten_formula
  put-for (s.Bound k) ps d leaf ready there = bound-chosen k ps ready there
  put-for (s.FreeObject k) ps d leaf ready there = object-chosen (the_name (slice_get u.pools.names k)) ps ready there
  put-for (s.FreeNumber k) ps d leaf ready there = number-chosen (the_name (slice_get u.pools.names k)) ps ready there
  put-for (s.FreeTruth k) ps d leaf ready there = truth-chosen (the_name (slice_get u.pools.names k)) ps ready there
  put-for (s.FreeSet k) ps d leaf ready there = set-chosen (the_name (slice_get u.pools.names k)) ps ready there
  put-for (s.FreeField k) ps d leaf ready there = field-chosen (the_name (slice_get u.pools.names k)) ps ready there
  put-for _ ps d leaf ready there = absurd (true≢false (sym leaf))

  pub leaf-put : (x : Shape) (ps : List Instead) (d : ℕ) → is_leaf x ≡ true → AreReady u ps → slice_get (nodes u) n ≡ Some (tree_in u x) →
      IsRewritten (leaves_alone (instead (pairs_in u ps))) (nodes u) n d (chosen_of ps n)
  leaf-put x ps d leaf ready there =
      exchanged-rewritten (nodes u) (leaves_alone (instead (pairs_in u ps))) n d (chosen_of ps n) (tree_in u x) (rewritten_value (tree_in u x) (leaves_alone (instead (pairs_in u ps))) d) there (put-for x ps d leaf ready there) refl
