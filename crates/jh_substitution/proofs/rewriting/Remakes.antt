-- Written by tools/rewrite.py.
-- A shape with the answers for its parts in their places is the rewritten shape.
use Rattle.std.proofs.Common.{◌≡◌, refl, sym, ap, ◌∙◌, ℕ, ◌+◌, true, false, ◌&&◌, List, [], ◌∷◌, slice_get, slice_index, Some, None, is_some, ℤ}
use Rattle.std.proofs.lemmas.Bool.{true≢false}
use Rattle.std.specs.Cmp.Derive.{both_true}
use Rattle.jh_form.specs.Tree.{ValueTree, of_object, of_number, of_truth, of_set, of_field}
use Rattle.jh_form.specs.Tree as t
use Rattle.jh_form.proofs.ClosedLemmas.{both-left, both-right}
use Rattle.jh_substitution.specs.rewriting.Rewritten.{Rewriting, object_or, number_or, truth_or, set_or, field_or, rewritten_term, rewritten_int, rewritten_set, rewritten_field, rewritten_value, rewritten_formula}
use Rattle.jh_arena.specs.table.Entries.{Pools, the_list, the_mark, is_object, is_number, is_truth, is_set, is_field, are_fields}
use Rattle.jh_arena.specs.table.Growth.{Grows}
use Rattle.jh_arena.specs.table.Nodes.{fits, shape_tree}
use Rattle.jh_arena.specs.table.Parts.{own_parts, list_parts, has_list, binders, put}
use Rattle.jh_arena.specs.declared.table.shapes.Shape.{Shape}
use Rattle.jh_arena.specs.declared.table.shapes.Shape.TheVariants as s
use Rattle.jh_substitution.specs.rewriting.Leaf.{is_leaf}
use Rattle.jh_substitution.specs.rewriting.Walks.{AllRewritten}
use Rattle.jh_substitution.specs.rewriting.Staying.{grown}
use Rattle.jh_substitution.proofs.rewriting.Rewritings.{rewritten-there}
use Rattle.jh_substitution.proofs.rewriting.PartRewritings.{Remade, first-rewritten, second-rewritten, third-rewritten, object-fits, object-is, number-fits, number-is, truth-fits, truth-is, set-fits, set-is, field-fits, field-is, value-is, fields-fit, fields-are, plain}

module _ (p q : Pools) (ts : List ValueTree) (l : Rewriting) (d : ℕ) (n : ℕ) (marks : Grows p.marks q.marks) where
  remade-Null : l.whole_at (shape_tree p ts s.Null) d ≡ None → fits p ts s.Null ≡ true → Remade p q ts l d s.Null s.Null
  unfolding fits shape_tree rewritten_term rewritten_int rewritten_set rewritten_field rewritten_value rewritten_formula object_or number_or truth_or set_or field_or
  remade-Null alone h =
      record { fits = refl; is = λ i. of_object (object_or (sym alone i) t.null) }

  remade-ReadObject : (a : ℕ) (b : ℕ) (rs : List ℕ) → l.whole_at (shape_tree p ts (s.ReadObject a b)) d ≡ None → fits p ts (s.ReadObject a b) ≡ true → AllRewritten l ts d (a ∷ b ∷ []) rs → Remade p q ts l d (s.ReadObject a b) (s.ReadObject (slice_index rs 0) (slice_index rs 1))
  unfolding fits shape_tree rewritten_term rewritten_int rewritten_set rewritten_field rewritten_value rewritten_formula object_or number_or truth_or set_or field_or
  remade-ReadObject a b rs alone h w =
      let a1 = first-rewritten ts l d a (b ∷ []) rs w in
      let a2 = (both-left (is_field (slice_get ts a)) (is_object (slice_get ts b)) h) in
      let b1 = second-rewritten ts l d a b ([]) rs w in
      let b2 = (both-right (is_field (slice_get ts a)) (is_object (slice_get ts b)) h) in
      record { fits = (both_true (field-fits l ts a d (slice_index rs 0) a1 a2) (object-fits l ts b d (slice_index rs 1) b1 b2)); is = λ i. of_object (object_or (sym alone i) (t.read_object (field-is l ts a d (slice_index rs 0) a1 a2 i) (object-is l ts b d (slice_index rs 1) b1 b2 i))) }

  remade-Const : (z : ℤ) → l.whole_at (shape_tree p ts (s.Const z)) d ≡ None → fits p ts (s.Const z) ≡ true → Remade p q ts l d (s.Const z) (s.Const z)
  unfolding fits shape_tree rewritten_term rewritten_int rewritten_set rewritten_field rewritten_value rewritten_formula object_or number_or truth_or set_or field_or
  remade-Const z alone h =
      record { fits = refl; is = λ i. of_number (number_or (sym alone i) (t.const z)) }

  remade-ReadNumber : (a : ℕ) (b : ℕ) (rs : List ℕ) → l.whole_at (shape_tree p ts (s.ReadNumber a b)) d ≡ None → fits p ts (s.ReadNumber a b) ≡ true → AllRewritten l ts d (a ∷ b ∷ []) rs → Remade p q ts l d (s.ReadNumber a b) (s.ReadNumber (slice_index rs 0) (slice_index rs 1))
  unfolding fits shape_tree rewritten_term rewritten_int rewritten_set rewritten_field rewritten_value rewritten_formula object_or number_or truth_or set_or field_or
  remade-ReadNumber a b rs alone h w =
      let a1 = first-rewritten ts l d a (b ∷ []) rs w in
      let a2 = (both-left (is_field (slice_get ts a)) (is_object (slice_get ts b)) h) in
      let b1 = second-rewritten ts l d a b ([]) rs w in
      let b2 = (both-right (is_field (slice_get ts a)) (is_object (slice_get ts b)) h) in
      record { fits = (both_true (field-fits l ts a d (slice_index rs 0) a1 a2) (object-fits l ts b d (slice_index rs 1) b1 b2)); is = λ i. of_number (number_or (sym alone i) (t.read_number (field-is l ts a d (slice_index rs 0) a1 a2 i) (object-is l ts b d (slice_index rs 1) b1 b2 i))) }

  remade-Add : (a : ℕ) (b : ℕ) (rs : List ℕ) → l.whole_at (shape_tree p ts (s.Add a b)) d ≡ None → fits p ts (s.Add a b) ≡ true → AllRewritten l ts d (a ∷ b ∷ []) rs → Remade p q ts l d (s.Add a b) (s.Add (slice_index rs 0) (slice_index rs 1))
  unfolding fits shape_tree rewritten_term rewritten_int rewritten_set rewritten_field rewritten_value rewritten_formula object_or number_or truth_or set_or field_or
  remade-Add a b rs alone h w =
      let a1 = first-rewritten ts l d a (b ∷ []) rs w in
      let a2 = (both-left (is_number (slice_get ts a)) (is_number (slice_get ts b)) h) in
      let b1 = second-rewritten ts l d a b ([]) rs w in
      let b2 = (both-right (is_number (slice_get ts a)) (is_number (slice_get ts b)) h) in
      record { fits = (both_true (number-fits l ts a d (slice_index rs 0) a1 a2) (number-fits l ts b d (slice_index rs 1) b1 b2)); is = λ i. of_number (number_or (sym alone i) (t.add (number-is l ts a d (slice_index rs 0) a1 a2 i) (number-is l ts b d (slice_index rs 1) b1 b2 i))) }

  remade-Sub : (a : ℕ) (b : ℕ) (rs : List ℕ) → l.whole_at (shape_tree p ts (s.Sub a b)) d ≡ None → fits p ts (s.Sub a b) ≡ true → AllRewritten l ts d (a ∷ b ∷ []) rs → Remade p q ts l d (s.Sub a b) (s.Sub (slice_index rs 0) (slice_index rs 1))
  unfolding fits shape_tree rewritten_term rewritten_int rewritten_set rewritten_field rewritten_value rewritten_formula object_or number_or truth_or set_or field_or
  remade-Sub a b rs alone h w =
      let a1 = first-rewritten ts l d a (b ∷ []) rs w in
      let a2 = (both-left (is_number (slice_get ts a)) (is_number (slice_get ts b)) h) in
      let b1 = second-rewritten ts l d a b ([]) rs w in
      let b2 = (both-right (is_number (slice_get ts a)) (is_number (slice_get ts b)) h) in
      record { fits = (both_true (number-fits l ts a d (slice_index rs 0) a1 a2) (number-fits l ts b d (slice_index rs 1) b1 b2)); is = λ i. of_number (number_or (sym alone i) (t.sub (number-is l ts a d (slice_index rs 0) a1 a2 i) (number-is l ts b d (slice_index rs 1) b1 b2 i))) }

  remade-Neg : (a : ℕ) (rs : List ℕ) → l.whole_at (shape_tree p ts (s.Neg a)) d ≡ None → fits p ts (s.Neg a) ≡ true → AllRewritten l ts d (a ∷ []) rs → Remade p q ts l d (s.Neg a) (s.Neg (slice_index rs 0))
  unfolding fits shape_tree rewritten_term rewritten_int rewritten_set rewritten_field rewritten_value rewritten_formula object_or number_or truth_or set_or field_or
  remade-Neg a rs alone h w =
      let a1 = first-rewritten ts l d a ([]) rs w in
      let a2 = h in
      record { fits = number-fits l ts a d (slice_index rs 0) a1 a2; is = λ i. of_number (number_or (sym alone i) (t.neg (number-is l ts a d (slice_index rs 0) a1 a2 i))) }

  remade-Scale : (z : ℤ) (a : ℕ) (rs : List ℕ) → l.whole_at (shape_tree p ts (s.Scale z a)) d ≡ None → fits p ts (s.Scale z a) ≡ true → AllRewritten l ts d (a ∷ []) rs → Remade p q ts l d (s.Scale z a) (s.Scale z (slice_index rs 0))
  unfolding fits shape_tree rewritten_term rewritten_int rewritten_set rewritten_field rewritten_value rewritten_formula object_or number_or truth_or set_or field_or
  remade-Scale z a rs alone h w =
      let a1 = first-rewritten ts l d a ([]) rs w in
      let a2 = h in
      record { fits = number-fits l ts a d (slice_index rs 0) a1 a2; is = λ i. of_number (number_or (sym alone i) (t.scale z (number-is l ts a d (slice_index rs 0) a1 a2 i))) }

  remade-Card : (a : ℕ) (rs : List ℕ) → l.whole_at (shape_tree p ts (s.Card a)) d ≡ None → fits p ts (s.Card a) ≡ true → AllRewritten l ts d (a ∷ []) rs → Remade p q ts l d (s.Card a) (s.Card (slice_index rs 0))
  unfolding fits shape_tree rewritten_term rewritten_int rewritten_set rewritten_field rewritten_value rewritten_formula object_or number_or truth_or set_or field_or
  remade-Card a rs alone h w =
      let a1 = first-rewritten ts l d a ([]) rs w in
      let a2 = h in
      record { fits = set-fits l ts a d (slice_index rs 0) a1 a2; is = λ i. of_number (number_or (sym alone i) (t.card (set-is l ts a d (slice_index rs 0) a1 a2 i))) }

  remade-ReadSet : (a : ℕ) (b : ℕ) (rs : List ℕ) → l.whole_at (shape_tree p ts (s.ReadSet a b)) d ≡ None → fits p ts (s.ReadSet a b) ≡ true → AllRewritten l ts d (a ∷ b ∷ []) rs → Remade p q ts l d (s.ReadSet a b) (s.ReadSet (slice_index rs 0) (slice_index rs 1))
  unfolding fits shape_tree rewritten_term rewritten_int rewritten_set rewritten_field rewritten_value rewritten_formula object_or number_or truth_or set_or field_or
  remade-ReadSet a b rs alone h w =
      let a1 = first-rewritten ts l d a (b ∷ []) rs w in
      let a2 = (both-left (is_field (slice_get ts a)) (is_object (slice_get ts b)) h) in
      let b1 = second-rewritten ts l d a b ([]) rs w in
      let b2 = (both-right (is_field (slice_get ts a)) (is_object (slice_get ts b)) h) in
      record { fits = (both_true (field-fits l ts a d (slice_index rs 0) a1 a2) (object-fits l ts b d (slice_index rs 1) b1 b2)); is = λ i. of_set (set_or (sym alone i) (t.read_set (field-is l ts a d (slice_index rs 0) a1 a2 i) (object-is l ts b d (slice_index rs 1) b1 b2 i))) }

  remade-Empty : l.whole_at (shape_tree p ts s.Empty) d ≡ None → fits p ts s.Empty ≡ true → Remade p q ts l d s.Empty s.Empty
  unfolding fits shape_tree rewritten_term rewritten_int rewritten_set rewritten_field rewritten_value rewritten_formula object_or number_or truth_or set_or field_or
  remade-Empty alone h =
      record { fits = refl; is = λ i. of_set (set_or (sym alone i) t.empty) }

  remade-Univ : l.whole_at (shape_tree p ts s.Univ) d ≡ None → fits p ts s.Univ ≡ true → Remade p q ts l d s.Univ s.Univ
  unfolding fits shape_tree rewritten_term rewritten_int rewritten_set rewritten_field rewritten_value rewritten_formula object_or number_or truth_or set_or field_or
  remade-Univ alone h =
      record { fits = refl; is = λ i. of_set (set_or (sym alone i) t.univ) }

  remade-Single : (a : ℕ) (rs : List ℕ) → l.whole_at (shape_tree p ts (s.Single a)) d ≡ None → fits p ts (s.Single a) ≡ true → AllRewritten l ts d (a ∷ []) rs → Remade p q ts l d (s.Single a) (s.Single (slice_index rs 0))
  unfolding fits shape_tree rewritten_term rewritten_int rewritten_set rewritten_field rewritten_value rewritten_formula object_or number_or truth_or set_or field_or
  remade-Single a rs alone h w =
      let a1 = first-rewritten ts l d a ([]) rs w in
      let a2 = h in
      record { fits = object-fits l ts a d (slice_index rs 0) a1 a2; is = λ i. of_set (set_or (sym alone i) (t.single (object-is l ts a d (slice_index rs 0) a1 a2 i))) }

  remade-Union : (a : ℕ) (b : ℕ) (rs : List ℕ) → l.whole_at (shape_tree p ts (s.Union a b)) d ≡ None → fits p ts (s.Union a b) ≡ true → AllRewritten l ts d (a ∷ b ∷ []) rs → Remade p q ts l d (s.Union a b) (s.Union (slice_index rs 0) (slice_index rs 1))
  unfolding fits shape_tree rewritten_term rewritten_int rewritten_set rewritten_field rewritten_value rewritten_formula object_or number_or truth_or set_or field_or
  remade-Union a b rs alone h w =
      let a1 = first-rewritten ts l d a (b ∷ []) rs w in
      let a2 = (both-left (is_set (slice_get ts a)) (is_set (slice_get ts b)) h) in
      let b1 = second-rewritten ts l d a b ([]) rs w in
      let b2 = (both-right (is_set (slice_get ts a)) (is_set (slice_get ts b)) h) in
      record { fits = (both_true (set-fits l ts a d (slice_index rs 0) a1 a2) (set-fits l ts b d (slice_index rs 1) b1 b2)); is = λ i. of_set (set_or (sym alone i) (t.union (set-is l ts a d (slice_index rs 0) a1 a2 i) (set-is l ts b d (slice_index rs 1) b1 b2 i))) }

  remade-Inter : (a : ℕ) (b : ℕ) (rs : List ℕ) → l.whole_at (shape_tree p ts (s.Inter a b)) d ≡ None → fits p ts (s.Inter a b) ≡ true → AllRewritten l ts d (a ∷ b ∷ []) rs → Remade p q ts l d (s.Inter a b) (s.Inter (slice_index rs 0) (slice_index rs 1))
  unfolding fits shape_tree rewritten_term rewritten_int rewritten_set rewritten_field rewritten_value rewritten_formula object_or number_or truth_or set_or field_or
  remade-Inter a b rs alone h w =
      let a1 = first-rewritten ts l d a (b ∷ []) rs w in
      let a2 = (both-left (is_set (slice_get ts a)) (is_set (slice_get ts b)) h) in
      let b1 = second-rewritten ts l d a b ([]) rs w in
      let b2 = (both-right (is_set (slice_get ts a)) (is_set (slice_get ts b)) h) in
      record { fits = (both_true (set-fits l ts a d (slice_index rs 0) a1 a2) (set-fits l ts b d (slice_index rs 1) b1 b2)); is = λ i. of_set (set_or (sym alone i) (t.inter (set-is l ts a d (slice_index rs 0) a1 a2 i) (set-is l ts b d (slice_index rs 1) b1 b2 i))) }

  remade-Diff : (a : ℕ) (b : ℕ) (rs : List ℕ) → l.whole_at (shape_tree p ts (s.Diff a b)) d ≡ None → fits p ts (s.Diff a b) ≡ true → AllRewritten l ts d (a ∷ b ∷ []) rs → Remade p q ts l d (s.Diff a b) (s.Diff (slice_index rs 0) (slice_index rs 1))
  unfolding fits shape_tree rewritten_term rewritten_int rewritten_set rewritten_field rewritten_value rewritten_formula object_or number_or truth_or set_or field_or
  remade-Diff a b rs alone h w =
      let a1 = first-rewritten ts l d a (b ∷ []) rs w in
      let a2 = (both-left (is_set (slice_get ts a)) (is_set (slice_get ts b)) h) in
      let b1 = second-rewritten ts l d a b ([]) rs w in
      let b2 = (both-right (is_set (slice_get ts a)) (is_set (slice_get ts b)) h) in
      record { fits = (both_true (set-fits l ts a d (slice_index rs 0) a1 a2) (set-fits l ts b d (slice_index rs 1) b1 b2)); is = λ i. of_set (set_or (sym alone i) (t.diff (set-is l ts a d (slice_index rs 0) a1 a2 i) (set-is l ts b d (slice_index rs 1) b1 b2 i))) }

  remade-Compl : (a : ℕ) (rs : List ℕ) → l.whole_at (shape_tree p ts (s.Compl a)) d ≡ None → fits p ts (s.Compl a) ≡ true → AllRewritten l ts d (a ∷ []) rs → Remade p q ts l d (s.Compl a) (s.Compl (slice_index rs 0))
  unfolding fits shape_tree rewritten_term rewritten_int rewritten_set rewritten_field rewritten_value rewritten_formula object_or number_or truth_or set_or field_or
  remade-Compl a rs alone h w =
      let a1 = first-rewritten ts l d a ([]) rs w in
      let a2 = h in
      record { fits = set-fits l ts a d (slice_index rs 0) a1 a2; is = λ i. of_set (set_or (sym alone i) (t.compl (set-is l ts a d (slice_index rs 0) a1 a2 i))) }

  remade-Compr : (a : ℕ) (rs : List ℕ) → l.whole_at (shape_tree p ts (s.Compr a)) d ≡ None → fits p ts (s.Compr a) ≡ true → AllRewritten l ts (d + 1) (a ∷ []) rs → Remade p q ts l d (s.Compr a) (s.Compr (slice_index rs 0))
  unfolding fits shape_tree rewritten_term rewritten_int rewritten_set rewritten_field rewritten_value rewritten_formula object_or number_or truth_or set_or field_or
  remade-Compr a rs alone h w =
      let a1 = first-rewritten ts l (d + 1) a ([]) rs w in
      let a2 = h in
      record { fits = truth-fits l ts a (d + 1) (slice_index rs 0) a1 a2; is = λ i. of_set (set_or (sym alone i) (t.compr (truth-is l ts a (d + 1) (slice_index rs 0) a1 a2 i))) }

  remade-Update : (a : ℕ) (b : ℕ) (c : ℕ) (rs : List ℕ) → l.whole_at (shape_tree p ts (s.Update a b c)) d ≡ None → fits p ts (s.Update a b c) ≡ true → AllRewritten l ts d (a ∷ b ∷ c ∷ []) rs → Remade p q ts l d (s.Update a b c) (s.Update (slice_index rs 0) (slice_index rs 1) (slice_index rs 2))
  unfolding fits shape_tree rewritten_term rewritten_int rewritten_set rewritten_field rewritten_value rewritten_formula object_or number_or truth_or set_or field_or
  remade-Update a b c rs alone h w =
      let a1 = first-rewritten ts l d a (b ∷ c ∷ []) rs w in
      let a2 = (both-left (is_field (slice_get ts a)) (is_object (slice_get ts b)) (both-left ((is_field (slice_get ts a)) && is_object (slice_get ts b)) (is_some (slice_get ts c)) h)) in
      let b1 = second-rewritten ts l d a b (c ∷ []) rs w in
      let b2 = (both-right (is_field (slice_get ts a)) (is_object (slice_get ts b)) (both-left ((is_field (slice_get ts a)) && is_object (slice_get ts b)) (is_some (slice_get ts c)) h)) in
      let c1 = third-rewritten ts l d a b c ([]) rs w in
      let c2 = (both-right ((is_field (slice_get ts a)) && is_object (slice_get ts b)) (is_some (slice_get ts c)) h) in
      record { fits = (both_true (both_true (field-fits l ts a d (slice_index rs 0) a1 a2) (object-fits l ts b d (slice_index rs 1) b1 b2)) (rewritten-there l ts c d (slice_index rs 2) c1)); is = λ i. of_field (field_or (sym alone i) (t.update (field-is l ts a d (slice_index rs 0) a1 a2 i) (object-is l ts b d (slice_index rs 1) b1 b2 i) (value-is l ts c d (slice_index rs 2) c1 i))) }

  remade-True : l.whole_at (shape_tree p ts s.True) d ≡ None → fits p ts s.True ≡ true → Remade p q ts l d s.True s.True
  unfolding fits shape_tree rewritten_term rewritten_int rewritten_set rewritten_field rewritten_value rewritten_formula object_or number_or truth_or set_or field_or
  remade-True alone h =
      record { fits = refl; is = λ i. of_truth (truth_or (sym alone i) t.true_formula) }

  remade-False : l.whole_at (shape_tree p ts s.False) d ≡ None → fits p ts s.False ≡ true → Remade p q ts l d s.False s.False
  unfolding fits shape_tree rewritten_term rewritten_int rewritten_set rewritten_field rewritten_value rewritten_formula object_or number_or truth_or set_or field_or
  remade-False alone h =
      record { fits = refl; is = λ i. of_truth (truth_or (sym alone i) t.false_formula) }

  remade-ReadTruth : (a : ℕ) (b : ℕ) (rs : List ℕ) → l.whole_at (shape_tree p ts (s.ReadTruth a b)) d ≡ None → fits p ts (s.ReadTruth a b) ≡ true → AllRewritten l ts d (a ∷ b ∷ []) rs → Remade p q ts l d (s.ReadTruth a b) (s.ReadTruth (slice_index rs 0) (slice_index rs 1))
  unfolding fits shape_tree rewritten_term rewritten_int rewritten_set rewritten_field rewritten_value rewritten_formula object_or number_or truth_or set_or field_or
  remade-ReadTruth a b rs alone h w =
      let a1 = first-rewritten ts l d a (b ∷ []) rs w in
      let a2 = (both-left (is_field (slice_get ts a)) (is_object (slice_get ts b)) h) in
      let b1 = second-rewritten ts l d a b ([]) rs w in
      let b2 = (both-right (is_field (slice_get ts a)) (is_object (slice_get ts b)) h) in
      record { fits = (both_true (field-fits l ts a d (slice_index rs 0) a1 a2) (object-fits l ts b d (slice_index rs 1) b1 b2)); is = λ i. of_truth (truth_or (sym alone i) (t.read_truth (field-is l ts a d (slice_index rs 0) a1 a2 i) (object-is l ts b d (slice_index rs 1) b1 b2 i))) }

  remade-Negation : (a : ℕ) (rs : List ℕ) → l.whole_at (shape_tree p ts (s.Negation a)) d ≡ None → fits p ts (s.Negation a) ≡ true → AllRewritten l ts d (a ∷ []) rs → Remade p q ts l d (s.Negation a) (s.Negation (slice_index rs 0))
  unfolding fits shape_tree rewritten_term rewritten_int rewritten_set rewritten_field rewritten_value rewritten_formula object_or number_or truth_or set_or field_or
  remade-Negation a rs alone h w =
      let a1 = first-rewritten ts l d a ([]) rs w in
      let a2 = h in
      record { fits = truth-fits l ts a d (slice_index rs 0) a1 a2; is = λ i. of_truth (truth_or (sym alone i) (t.negation (truth-is l ts a d (slice_index rs 0) a1 a2 i))) }

  remade-And : (a : ℕ) (b : ℕ) (rs : List ℕ) → l.whole_at (shape_tree p ts (s.And a b)) d ≡ None → fits p ts (s.And a b) ≡ true → AllRewritten l ts d (a ∷ b ∷ []) rs → Remade p q ts l d (s.And a b) (s.And (slice_index rs 0) (slice_index rs 1))
  unfolding fits shape_tree rewritten_term rewritten_int rewritten_set rewritten_field rewritten_value rewritten_formula object_or number_or truth_or set_or field_or
  remade-And a b rs alone h w =
      let a1 = first-rewritten ts l d a (b ∷ []) rs w in
      let a2 = (both-left (is_truth (slice_get ts a)) (is_truth (slice_get ts b)) h) in
      let b1 = second-rewritten ts l d a b ([]) rs w in
      let b2 = (both-right (is_truth (slice_get ts a)) (is_truth (slice_get ts b)) h) in
      record { fits = (both_true (truth-fits l ts a d (slice_index rs 0) a1 a2) (truth-fits l ts b d (slice_index rs 1) b1 b2)); is = λ i. of_truth (truth_or (sym alone i) (t.and (truth-is l ts a d (slice_index rs 0) a1 a2 i) (truth-is l ts b d (slice_index rs 1) b1 b2 i))) }

  remade-Or : (a : ℕ) (b : ℕ) (rs : List ℕ) → l.whole_at (shape_tree p ts (s.Or a b)) d ≡ None → fits p ts (s.Or a b) ≡ true → AllRewritten l ts d (a ∷ b ∷ []) rs → Remade p q ts l d (s.Or a b) (s.Or (slice_index rs 0) (slice_index rs 1))
  unfolding fits shape_tree rewritten_term rewritten_int rewritten_set rewritten_field rewritten_value rewritten_formula object_or number_or truth_or set_or field_or
  remade-Or a b rs alone h w =
      let a1 = first-rewritten ts l d a (b ∷ []) rs w in
      let a2 = (both-left (is_truth (slice_get ts a)) (is_truth (slice_get ts b)) h) in
      let b1 = second-rewritten ts l d a b ([]) rs w in
      let b2 = (both-right (is_truth (slice_get ts a)) (is_truth (slice_get ts b)) h) in
      record { fits = (both_true (truth-fits l ts a d (slice_index rs 0) a1 a2) (truth-fits l ts b d (slice_index rs 1) b1 b2)); is = λ i. of_truth (truth_or (sym alone i) (t.or (truth-is l ts a d (slice_index rs 0) a1 a2 i) (truth-is l ts b d (slice_index rs 1) b1 b2 i))) }

  remade-Implies : (a : ℕ) (b : ℕ) (rs : List ℕ) → l.whole_at (shape_tree p ts (s.Implies a b)) d ≡ None → fits p ts (s.Implies a b) ≡ true → AllRewritten l ts d (a ∷ b ∷ []) rs → Remade p q ts l d (s.Implies a b) (s.Implies (slice_index rs 0) (slice_index rs 1))
  unfolding fits shape_tree rewritten_term rewritten_int rewritten_set rewritten_field rewritten_value rewritten_formula object_or number_or truth_or set_or field_or
  remade-Implies a b rs alone h w =
      let a1 = first-rewritten ts l d a (b ∷ []) rs w in
      let a2 = (both-left (is_truth (slice_get ts a)) (is_truth (slice_get ts b)) h) in
      let b1 = second-rewritten ts l d a b ([]) rs w in
      let b2 = (both-right (is_truth (slice_get ts a)) (is_truth (slice_get ts b)) h) in
      record { fits = (both_true (truth-fits l ts a d (slice_index rs 0) a1 a2) (truth-fits l ts b d (slice_index rs 1) b1 b2)); is = λ i. of_truth (truth_or (sym alone i) (t.implies (truth-is l ts a d (slice_index rs 0) a1 a2 i) (truth-is l ts b d (slice_index rs 1) b1 b2 i))) }

  remade-Iff : (a : ℕ) (b : ℕ) (rs : List ℕ) → l.whole_at (shape_tree p ts (s.Iff a b)) d ≡ None → fits p ts (s.Iff a b) ≡ true → AllRewritten l ts d (a ∷ b ∷ []) rs → Remade p q ts l d (s.Iff a b) (s.Iff (slice_index rs 0) (slice_index rs 1))
  unfolding fits shape_tree rewritten_term rewritten_int rewritten_set rewritten_field rewritten_value rewritten_formula object_or number_or truth_or set_or field_or
  remade-Iff a b rs alone h w =
      let a1 = first-rewritten ts l d a (b ∷ []) rs w in
      let a2 = (both-left (is_truth (slice_get ts a)) (is_truth (slice_get ts b)) h) in
      let b1 = second-rewritten ts l d a b ([]) rs w in
      let b2 = (both-right (is_truth (slice_get ts a)) (is_truth (slice_get ts b)) h) in
      record { fits = (both_true (truth-fits l ts a d (slice_index rs 0) a1 a2) (truth-fits l ts b d (slice_index rs 1) b1 b2)); is = λ i. of_truth (truth_or (sym alone i) (t.iff (truth-is l ts a d (slice_index rs 0) a1 a2 i) (truth-is l ts b d (slice_index rs 1) b1 b2 i))) }

  remade-All : (a : ℕ) (rs : List ℕ) → l.whole_at (shape_tree p ts (s.All a)) d ≡ None → fits p ts (s.All a) ≡ true → AllRewritten l ts (d + 1) (a ∷ []) rs → Remade p q ts l d (s.All a) (s.All (slice_index rs 0))
  unfolding fits shape_tree rewritten_term rewritten_int rewritten_set rewritten_field rewritten_value rewritten_formula object_or number_or truth_or set_or field_or
  remade-All a rs alone h w =
      let a1 = first-rewritten ts l (d + 1) a ([]) rs w in
      let a2 = h in
      record { fits = truth-fits l ts a (d + 1) (slice_index rs 0) a1 a2; is = λ i. of_truth (truth_or (sym alone i) (t.all (truth-is l ts a (d + 1) (slice_index rs 0) a1 a2 i))) }

  remade-Ex : (a : ℕ) (rs : List ℕ) → l.whole_at (shape_tree p ts (s.Ex a)) d ≡ None → fits p ts (s.Ex a) ≡ true → AllRewritten l ts (d + 1) (a ∷ []) rs → Remade p q ts l d (s.Ex a) (s.Ex (slice_index rs 0))
  unfolding fits shape_tree rewritten_term rewritten_int rewritten_set rewritten_field rewritten_value rewritten_formula object_or number_or truth_or set_or field_or
  remade-Ex a rs alone h w =
      let a1 = first-rewritten ts l (d + 1) a ([]) rs w in
      let a2 = h in
      record { fits = truth-fits l ts a (d + 1) (slice_index rs 0) a1 a2; is = λ i. of_truth (truth_or (sym alone i) (t.ex (truth-is l ts a (d + 1) (slice_index rs 0) a1 a2 i))) }

  remade-EqObject : (a : ℕ) (b : ℕ) (rs : List ℕ) → l.whole_at (shape_tree p ts (s.EqObject a b)) d ≡ None → fits p ts (s.EqObject a b) ≡ true → AllRewritten l ts d (a ∷ b ∷ []) rs → Remade p q ts l d (s.EqObject a b) (s.EqObject (slice_index rs 0) (slice_index rs 1))
  unfolding fits shape_tree rewritten_term rewritten_int rewritten_set rewritten_field rewritten_value rewritten_formula object_or number_or truth_or set_or field_or
  remade-EqObject a b rs alone h w =
      let a1 = first-rewritten ts l d a (b ∷ []) rs w in
      let a2 = (both-left (is_object (slice_get ts a)) (is_object (slice_get ts b)) h) in
      let b1 = second-rewritten ts l d a b ([]) rs w in
      let b2 = (both-right (is_object (slice_get ts a)) (is_object (slice_get ts b)) h) in
      record { fits = (both_true (object-fits l ts a d (slice_index rs 0) a1 a2) (object-fits l ts b d (slice_index rs 1) b1 b2)); is = λ i. of_truth (truth_or (sym alone i) (t.eq_object (object-is l ts a d (slice_index rs 0) a1 a2 i) (object-is l ts b d (slice_index rs 1) b1 b2 i))) }

  remade-EqNumber : (a : ℕ) (b : ℕ) (rs : List ℕ) → l.whole_at (shape_tree p ts (s.EqNumber a b)) d ≡ None → fits p ts (s.EqNumber a b) ≡ true → AllRewritten l ts d (a ∷ b ∷ []) rs → Remade p q ts l d (s.EqNumber a b) (s.EqNumber (slice_index rs 0) (slice_index rs 1))
  unfolding fits shape_tree rewritten_term rewritten_int rewritten_set rewritten_field rewritten_value rewritten_formula object_or number_or truth_or set_or field_or
  remade-EqNumber a b rs alone h w =
      let a1 = first-rewritten ts l d a (b ∷ []) rs w in
      let a2 = (both-left (is_number (slice_get ts a)) (is_number (slice_get ts b)) h) in
      let b1 = second-rewritten ts l d a b ([]) rs w in
      let b2 = (both-right (is_number (slice_get ts a)) (is_number (slice_get ts b)) h) in
      record { fits = (both_true (number-fits l ts a d (slice_index rs 0) a1 a2) (number-fits l ts b d (slice_index rs 1) b1 b2)); is = λ i. of_truth (truth_or (sym alone i) (t.eq_number (number-is l ts a d (slice_index rs 0) a1 a2 i) (number-is l ts b d (slice_index rs 1) b1 b2 i))) }

  remade-EqSet : (a : ℕ) (b : ℕ) (rs : List ℕ) → l.whole_at (shape_tree p ts (s.EqSet a b)) d ≡ None → fits p ts (s.EqSet a b) ≡ true → AllRewritten l ts d (a ∷ b ∷ []) rs → Remade p q ts l d (s.EqSet a b) (s.EqSet (slice_index rs 0) (slice_index rs 1))
  unfolding fits shape_tree rewritten_term rewritten_int rewritten_set rewritten_field rewritten_value rewritten_formula object_or number_or truth_or set_or field_or
  remade-EqSet a b rs alone h w =
      let a1 = first-rewritten ts l d a (b ∷ []) rs w in
      let a2 = (both-left (is_set (slice_get ts a)) (is_set (slice_get ts b)) h) in
      let b1 = second-rewritten ts l d a b ([]) rs w in
      let b2 = (both-right (is_set (slice_get ts a)) (is_set (slice_get ts b)) h) in
      record { fits = (both_true (set-fits l ts a d (slice_index rs 0) a1 a2) (set-fits l ts b d (slice_index rs 1) b1 b2)); is = λ i. of_truth (truth_or (sym alone i) (t.eq_set (set-is l ts a d (slice_index rs 0) a1 a2 i) (set-is l ts b d (slice_index rs 1) b1 b2 i))) }

  remade-Less : (a : ℕ) (b : ℕ) (rs : List ℕ) → l.whole_at (shape_tree p ts (s.Less a b)) d ≡ None → fits p ts (s.Less a b) ≡ true → AllRewritten l ts d (a ∷ b ∷ []) rs → Remade p q ts l d (s.Less a b) (s.Less (slice_index rs 0) (slice_index rs 1))
  unfolding fits shape_tree rewritten_term rewritten_int rewritten_set rewritten_field rewritten_value rewritten_formula object_or number_or truth_or set_or field_or
  remade-Less a b rs alone h w =
      let a1 = first-rewritten ts l d a (b ∷ []) rs w in
      let a2 = (both-left (is_number (slice_get ts a)) (is_number (slice_get ts b)) h) in
      let b1 = second-rewritten ts l d a b ([]) rs w in
      let b2 = (both-right (is_number (slice_get ts a)) (is_number (slice_get ts b)) h) in
      record { fits = (both_true (number-fits l ts a d (slice_index rs 0) a1 a2) (number-fits l ts b d (slice_index rs 1) b1 b2)); is = λ i. of_truth (truth_or (sym alone i) (t.less (number-is l ts a d (slice_index rs 0) a1 a2 i) (number-is l ts b d (slice_index rs 1) b1 b2 i))) }

  remade-LessEqual : (a : ℕ) (b : ℕ) (rs : List ℕ) → l.whole_at (shape_tree p ts (s.LessEqual a b)) d ≡ None → fits p ts (s.LessEqual a b) ≡ true → AllRewritten l ts d (a ∷ b ∷ []) rs → Remade p q ts l d (s.LessEqual a b) (s.LessEqual (slice_index rs 0) (slice_index rs 1))
  unfolding fits shape_tree rewritten_term rewritten_int rewritten_set rewritten_field rewritten_value rewritten_formula object_or number_or truth_or set_or field_or
  remade-LessEqual a b rs alone h w =
      let a1 = first-rewritten ts l d a (b ∷ []) rs w in
      let a2 = (both-left (is_number (slice_get ts a)) (is_number (slice_get ts b)) h) in
      let b1 = second-rewritten ts l d a b ([]) rs w in
      let b2 = (both-right (is_number (slice_get ts a)) (is_number (slice_get ts b)) h) in
      record { fits = (both_true (number-fits l ts a d (slice_index rs 0) a1 a2) (number-fits l ts b d (slice_index rs 1) b1 b2)); is = λ i. of_truth (truth_or (sym alone i) (t.less_equal (number-is l ts a d (slice_index rs 0) a1 a2 i) (number-is l ts b d (slice_index rs 1) b1 b2 i))) }

  remade-Divides : (z : ℤ) (a : ℕ) (rs : List ℕ) → l.whole_at (shape_tree p ts (s.Divides z a)) d ≡ None → fits p ts (s.Divides z a) ≡ true → AllRewritten l ts d (a ∷ []) rs → Remade p q ts l d (s.Divides z a) (s.Divides z (slice_index rs 0))
  unfolding fits shape_tree rewritten_term rewritten_int rewritten_set rewritten_field rewritten_value rewritten_formula object_or number_or truth_or set_or field_or
  remade-Divides z a rs alone h w =
      let a1 = first-rewritten ts l d a ([]) rs w in
      let a2 = h in
      record { fits = number-fits l ts a d (slice_index rs 0) a1 a2; is = λ i. of_truth (truth_or (sym alone i) (t.divides z (number-is l ts a d (slice_index rs 0) a1 a2 i))) }

  remade-Member : (a : ℕ) (b : ℕ) (rs : List ℕ) → l.whole_at (shape_tree p ts (s.Member a b)) d ≡ None → fits p ts (s.Member a b) ≡ true → AllRewritten l ts d (a ∷ b ∷ []) rs → Remade p q ts l d (s.Member a b) (s.Member (slice_index rs 0) (slice_index rs 1))
  unfolding fits shape_tree rewritten_term rewritten_int rewritten_set rewritten_field rewritten_value rewritten_formula object_or number_or truth_or set_or field_or
  remade-Member a b rs alone h w =
      let a1 = first-rewritten ts l d a (b ∷ []) rs w in
      let a2 = (both-left (is_object (slice_get ts a)) (is_set (slice_get ts b)) h) in
      let b1 = second-rewritten ts l d a b ([]) rs w in
      let b2 = (both-right (is_object (slice_get ts a)) (is_set (slice_get ts b)) h) in
      record { fits = (both_true (object-fits l ts a d (slice_index rs 0) a1 a2) (set-fits l ts b d (slice_index rs 1) b1 b2)); is = λ i. of_truth (truth_or (sym alone i) (t.member (object-is l ts a d (slice_index rs 0) a1 a2 i) (set-is l ts b d (slice_index rs 1) b1 b2 i))) }

  remade-Subset : (a : ℕ) (b : ℕ) (rs : List ℕ) → l.whole_at (shape_tree p ts (s.Subset a b)) d ≡ None → fits p ts (s.Subset a b) ≡ true → AllRewritten l ts d (a ∷ b ∷ []) rs → Remade p q ts l d (s.Subset a b) (s.Subset (slice_index rs 0) (slice_index rs 1))
  unfolding fits shape_tree rewritten_term rewritten_int rewritten_set rewritten_field rewritten_value rewritten_formula object_or number_or truth_or set_or field_or
  remade-Subset a b rs alone h w =
      let a1 = first-rewritten ts l d a (b ∷ []) rs w in
      let a2 = (both-left (is_set (slice_get ts a)) (is_set (slice_get ts b)) h) in
      let b1 = second-rewritten ts l d a b ([]) rs w in
      let b2 = (both-right (is_set (slice_get ts a)) (is_set (slice_get ts b)) h) in
      record { fits = (both_true (set-fits l ts a d (slice_index rs 0) a1 a2) (set-fits l ts b d (slice_index rs 1) b1 b2)); is = λ i. of_truth (truth_or (sym alone i) (t.subset (set-is l ts a d (slice_index rs 0) a1 a2 i) (set-is l ts b d (slice_index rs 1) b1 b2 i))) }

  remade-Reach : (f : ℕ) (a : ℕ) (b : ℕ) (rs : List ℕ) (fs : List ℕ) → l.whole_at (shape_tree p ts (s.Reach f a b)) d ≡ None → fits p ts (s.Reach f a b) ≡ true → slice_get q.lists n ≡ Some fs → AllRewritten l ts d (the_list (slice_get p.lists f)) fs → AllRewritten l ts d (a ∷ b ∷ []) rs → Remade p q ts l d (s.Reach f a b) (s.Reach n (slice_index rs 0) (slice_index rs 1))
  unfolding fits shape_tree rewritten_term rewritten_int rewritten_set rewritten_field rewritten_value rewritten_formula object_or number_or truth_or set_or field_or
  remade-Reach f a b rs fs alone h g u w =
      let u1 = (both-right (is_some (slice_get p.lists f)) (are_fields ts (the_list (slice_get p.lists f))) (both-left ((is_some (slice_get p.lists f)) && are_fields ts (the_list (slice_get p.lists f))) (is_object (slice_get ts a)) (both-left (((is_some (slice_get p.lists f)) && are_fields ts (the_list (slice_get p.lists f))) && is_object (slice_get ts a)) (is_object (slice_get ts b)) h))) in
      let a1 = first-rewritten ts l d a (b ∷ []) rs w in
      let a2 = (both-right ((is_some (slice_get p.lists f)) && are_fields ts (the_list (slice_get p.lists f))) (is_object (slice_get ts a)) (both-left (((is_some (slice_get p.lists f)) && are_fields ts (the_list (slice_get p.lists f))) && is_object (slice_get ts a)) (is_object (slice_get ts b)) h)) in
      let b1 = second-rewritten ts l d a b ([]) rs w in
      let b2 = (both-right (((is_some (slice_get p.lists f)) && are_fields ts (the_list (slice_get p.lists f))) && is_object (slice_get ts a)) (is_object (slice_get ts b)) h) in
      record { fits = (both_true (both_true (both_true (ap is_some g) (fields-fit q ts l d n fs (the_list (slice_get p.lists f)) g u u1)) (object-fits l ts a d (slice_index rs 0) a1 a2)) (object-fits l ts b d (slice_index rs 1) b1 b2)); is = λ i. of_truth (truth_or (sym alone i) (t.reach (fields-are q ts l d n fs (the_list (slice_get p.lists f)) g u u1 i) (object-is l ts a d (slice_index rs 0) a1 a2 i) (object-is l ts b d (slice_index rs 1) b1 b2 i))) }

  remade-Tree : (f : ℕ) (fs : List ℕ) → l.whole_at (shape_tree p ts (s.Tree f)) d ≡ None → fits p ts (s.Tree f) ≡ true → slice_get q.lists n ≡ Some fs → AllRewritten l ts d (the_list (slice_get p.lists f)) fs → Remade p q ts l d (s.Tree f) (s.Tree n)
  unfolding fits shape_tree rewritten_term rewritten_int rewritten_set rewritten_field rewritten_value rewritten_formula object_or number_or truth_or set_or field_or
  remade-Tree f fs alone h g u =
      let u1 = (both-right (is_some (slice_get p.lists f)) (are_fields ts (the_list (slice_get p.lists f))) h) in
      record { fits = (both_true (ap is_some g) (fields-fit q ts l d n fs (the_list (slice_get p.lists f)) g u u1)); is = λ i. of_truth (truth_or (sym alone i) (t.tree (fields-are q ts l d n fs (the_list (slice_get p.lists f)) g u u1 i))) }

  remade-Mark : (m : ℕ) (a : ℕ) (rs : List ℕ) → l.whole_at (shape_tree p ts (s.Mark m a)) d ≡ None → fits p ts (s.Mark m a) ≡ true → AllRewritten l ts d (a ∷ []) rs → Remade p q ts l d (s.Mark m a) (s.Mark m (slice_index rs 0))
  unfolding fits shape_tree rewritten_term rewritten_int rewritten_set rewritten_field rewritten_value rewritten_formula object_or number_or truth_or set_or field_or
  remade-Mark m a rs alone h w =
      let marked : slice_get q.marks m ≡ slice_get p.marks m = grown p.marks q.marks m marks (both-left (is_some (slice_get p.marks m)) (is_truth (slice_get ts a)) h) in
      let a1 = first-rewritten ts l d a ([]) rs w in
      let a2 = (both-right (is_some (slice_get p.marks m)) (is_truth (slice_get ts a)) h) in
      record { fits = (both_true ((ap is_some marked ∙ (both-left (is_some (slice_get p.marks m)) (is_truth (slice_get ts a)) h))) (truth-fits l ts a d (slice_index rs 0) a1 a2)); is = λ i. of_truth (truth_or (sym alone i) (t.mark (the_mark (marked i)) (truth-is l ts a d (slice_index rs 0) a1 a2 i))) }

  pub remade : (x : Shape) (rs fs : List ℕ) → is_leaf x ≡ false → l.whole_at (shape_tree p ts x) d ≡ None → fits p ts x ≡ true →
      (has_list x ≡ true → slice_get q.lists n ≡ Some fs) →
      AllRewritten l ts (d + binders x) (list_parts p.lists x) fs → AllRewritten l ts (d + binders x) (own_parts x) rs →
      Remade p q ts l d x (put n rs x)
  unfolding is_leaf has_list binders list_parts own_parts put
  remade (s.Bound k) rs fs leaf alone h g u w = absurd (true≢false leaf)
  remade (s.FreeObject x) rs fs leaf alone h g u w = absurd (true≢false leaf)
  remade s.Null rs fs leaf alone h g u w = remade-Null alone h
  remade (s.ReadObject a b) rs fs leaf alone h g u w = remade-ReadObject a b rs alone h (plain ts l d (a ∷ b ∷ []) rs w)
  remade (s.Const z) rs fs leaf alone h g u w = remade-Const z alone h
  remade (s.FreeNumber x) rs fs leaf alone h g u w = absurd (true≢false leaf)
  remade (s.ReadNumber a b) rs fs leaf alone h g u w = remade-ReadNumber a b rs alone h (plain ts l d (a ∷ b ∷ []) rs w)
  remade (s.Add a b) rs fs leaf alone h g u w = remade-Add a b rs alone h (plain ts l d (a ∷ b ∷ []) rs w)
  remade (s.Sub a b) rs fs leaf alone h g u w = remade-Sub a b rs alone h (plain ts l d (a ∷ b ∷ []) rs w)
  remade (s.Neg a) rs fs leaf alone h g u w = remade-Neg a rs alone h (plain ts l d (a ∷ []) rs w)
  remade (s.Scale z a) rs fs leaf alone h g u w = remade-Scale z a rs alone h (plain ts l d (a ∷ []) rs w)
  remade (s.Card a) rs fs leaf alone h g u w = remade-Card a rs alone h (plain ts l d (a ∷ []) rs w)
  remade (s.FreeSet x) rs fs leaf alone h g u w = absurd (true≢false leaf)
  remade (s.ReadSet a b) rs fs leaf alone h g u w = remade-ReadSet a b rs alone h (plain ts l d (a ∷ b ∷ []) rs w)
  remade s.Empty rs fs leaf alone h g u w = remade-Empty alone h
  remade s.Univ rs fs leaf alone h g u w = remade-Univ alone h
  remade (s.Single a) rs fs leaf alone h g u w = remade-Single a rs alone h (plain ts l d (a ∷ []) rs w)
  remade (s.Union a b) rs fs leaf alone h g u w = remade-Union a b rs alone h (plain ts l d (a ∷ b ∷ []) rs w)
  remade (s.Inter a b) rs fs leaf alone h g u w = remade-Inter a b rs alone h (plain ts l d (a ∷ b ∷ []) rs w)
  remade (s.Diff a b) rs fs leaf alone h g u w = remade-Diff a b rs alone h (plain ts l d (a ∷ b ∷ []) rs w)
  remade (s.Compl a) rs fs leaf alone h g u w = remade-Compl a rs alone h (plain ts l d (a ∷ []) rs w)
  remade (s.Compr a) rs fs leaf alone h g u w = remade-Compr a rs alone h w
  remade (s.FreeField x) rs fs leaf alone h g u w = absurd (true≢false leaf)
  remade (s.Update a b c) rs fs leaf alone h g u w = remade-Update a b c rs alone h (plain ts l d (a ∷ b ∷ c ∷ []) rs w)
  remade s.True rs fs leaf alone h g u w = remade-True alone h
  remade s.False rs fs leaf alone h g u w = remade-False alone h
  remade (s.FreeTruth x) rs fs leaf alone h g u w = absurd (true≢false leaf)
  remade (s.ReadTruth a b) rs fs leaf alone h g u w = remade-ReadTruth a b rs alone h (plain ts l d (a ∷ b ∷ []) rs w)
  remade (s.Negation a) rs fs leaf alone h g u w = remade-Negation a rs alone h (plain ts l d (a ∷ []) rs w)
  remade (s.And a b) rs fs leaf alone h g u w = remade-And a b rs alone h (plain ts l d (a ∷ b ∷ []) rs w)
  remade (s.Or a b) rs fs leaf alone h g u w = remade-Or a b rs alone h (plain ts l d (a ∷ b ∷ []) rs w)
  remade (s.Implies a b) rs fs leaf alone h g u w = remade-Implies a b rs alone h (plain ts l d (a ∷ b ∷ []) rs w)
  remade (s.Iff a b) rs fs leaf alone h g u w = remade-Iff a b rs alone h (plain ts l d (a ∷ b ∷ []) rs w)
  remade (s.All a) rs fs leaf alone h g u w = remade-All a rs alone h w
  remade (s.Ex a) rs fs leaf alone h g u w = remade-Ex a rs alone h w
  remade (s.EqObject a b) rs fs leaf alone h g u w = remade-EqObject a b rs alone h (plain ts l d (a ∷ b ∷ []) rs w)
  remade (s.EqNumber a b) rs fs leaf alone h g u w = remade-EqNumber a b rs alone h (plain ts l d (a ∷ b ∷ []) rs w)
  remade (s.EqSet a b) rs fs leaf alone h g u w = remade-EqSet a b rs alone h (plain ts l d (a ∷ b ∷ []) rs w)
  remade (s.Less a b) rs fs leaf alone h g u w = remade-Less a b rs alone h (plain ts l d (a ∷ b ∷ []) rs w)
  remade (s.LessEqual a b) rs fs leaf alone h g u w = remade-LessEqual a b rs alone h (plain ts l d (a ∷ b ∷ []) rs w)
  remade (s.Divides z a) rs fs leaf alone h g u w = remade-Divides z a rs alone h (plain ts l d (a ∷ []) rs w)
  remade (s.Member a b) rs fs leaf alone h g u w = remade-Member a b rs alone h (plain ts l d (a ∷ b ∷ []) rs w)
  remade (s.Subset a b) rs fs leaf alone h g u w = remade-Subset a b rs alone h (plain ts l d (a ∷ b ∷ []) rs w)
  remade (s.Reach f a b) rs fs leaf alone h g u w = remade-Reach f a b rs fs alone h (g refl) (plain ts l d (the_list (slice_get p.lists f)) fs u) (plain ts l d (a ∷ b ∷ []) rs w)
  remade (s.Tree f) rs fs leaf alone h g u w = remade-Tree f fs alone h (g refl) (plain ts l d (the_list (slice_get p.lists f)) fs u)
  remade (s.Mark m a) rs fs leaf alone h g u w = remade-Mark m a rs alone h (plain ts l d (a ∷ []) rs w)
