-- What stands at nodes while a table grows, and what the arms of the rule that opens sets come to.
use Rattle.std.proofs.Common.{◌≡◌, refl, sym, ap, ◌∙◌, ℕ, ◌<◌, true, List, length, slice_get, Option, Some}
use Rattle.std.proofs.lemmas.Bool.{true≢false}
use Rattle.std.proofs.lemmas.Option.{slice_get_within}
use Rattle.jh_form.specs.Tree.{TermTree, SetTree, FormulaTree, ValueTree, of_object, of_set, of_truth}
use Rattle.jh_form.specs.Tree as t
use Rattle.jh_boxed.specs.Mapped.{mapped_term, mapped_set, mapped_value}
use Rattle.jh_arena.specs.table.Entries.{Pools, Listing, is_object, is_set, is_truth, the_object, the_set, the_truth, the_value}
use Rattle.jh_arena.specs.table.Growth.{Extends}
use Rattle.jh_arena.specs.table.Nodes.{nodes, shape_tree}
use Rattle.jh_arena.specs.declared.table.shapes.Shape.{Shape}
use Rattle.jh_arena.specs.declared.table.shapes.Shape.TheVariants as s
use Rattle.jh_normal_forms.specs.declared.rebuilding.polarity.Polarity.{Polarity}
use Rattle.jh_normal_forms.specs.declared.rebuilding.polarity.Polarity.TheVariants as pol
use Rattle.jh_normal_forms.specs.rebuilding.Walking.{built_at, applied}
use Rattle.jh_substitution.specs.simultaneous.Lifted.{lifting}
use Rattle.jh_normal_forms.specs.set_opening.SetsOpened.{body, as_comprehension, is_in, relation, opening_sets, sets_opened}

-- ---- what stands at a node

pub object-of : (o : Option ValueTree) → is_object o ≡ true → o ≡ Some (of_object (the_object o))
unfolding is_object the_object
object-of (Some (of_object a)) h = refl
object-of _ h = absurd (true≢false (sym h))

pub set-of : (o : Option ValueTree) → is_set o ≡ true → o ≡ Some (of_set (the_set o))
unfolding is_set the_set
set-of (Some (of_set a)) h = refl
set-of _ h = absurd (true≢false (sym h))

pub truth-of : (o : Option ValueTree) → is_truth o ≡ true → o ≡ Some (of_truth (the_truth o))
unfolding is_truth the_truth
truth-of (Some (of_truth a)) h = refl
truth-of _ h = absurd (true≢false (sym h))

pub object-there : (o : Option ValueTree) (a : TermTree) → o ≡ Some (of_object a) → is_object o ≡ true
unfolding is_object
object-there o a e = ap is_object e

pub set-there : (o : Option ValueTree) (a : SetTree) → o ≡ Some (of_set a) → is_set o ≡ true
unfolding is_set
set-there o a e = ap is_set e

pub truth-there : (o : Option ValueTree) (a : FormulaTree) → o ≡ Some (of_truth a) → is_truth o ≡ true
unfolding is_truth
truth-there o a e = ap is_truth e

pub object-at : (o : Option ValueTree) (a : TermTree) → o ≡ Some (of_object a) → the_object o ≡ a
unfolding the_object
object-at o a e = ap the_object e

pub set-at : (o : Option ValueTree) (a : SetTree) → o ≡ Some (of_set a) → the_set o ≡ a
unfolding the_set
set-at o a e = ap the_set e

pub truth-at : (o : Option ValueTree) (a : FormulaTree) → o ≡ Some (of_truth a) → the_truth o ≡ a
unfolding the_truth
truth-at o a e = ap the_truth e

-- what stands at a node stays while the table grows
pub object-stays : (v w : Listing) (n : ℕ) → Extends v w → is_object (slice_get (nodes v) n) ≡ true → slice_get (nodes w) n ≡ Some (of_object (the_object (slice_get (nodes v) n)))
object-stays v w n g h = g.nodes.keeps n (of_object (the_object (slice_get (nodes v) n))) (object-of (slice_get (nodes v) n) h)

pub set-stays : (v w : Listing) (n : ℕ) → Extends v w → is_set (slice_get (nodes v) n) ≡ true → slice_get (nodes w) n ≡ Some (of_set (the_set (slice_get (nodes v) n)))
set-stays v w n g h = g.nodes.keeps n (of_set (the_set (slice_get (nodes v) n))) (set-of (slice_get (nodes v) n) h)

pub truth-stays : (v w : Listing) (n : ℕ) → Extends v w → is_truth (slice_get (nodes v) n) ≡ true → slice_get (nodes w) n ≡ Some (of_truth (the_truth (slice_get (nodes v) n)))
truth-stays v w n g h = g.nodes.keeps n (of_truth (the_truth (slice_get (nodes v) n))) (truth-of (slice_get (nodes v) n) h)

pub object-inside : (ts : List ValueTree) (n : ℕ) → is_object (slice_get ts n) ≡ true → n < length ts
object-inside ts n h = slice_get_within ts n (of_object (the_object (slice_get ts n))) (object-of (slice_get ts n) h)

pub set-inside : (ts : List ValueTree) (n : ℕ) → is_set (slice_get ts n) ≡ true → n < length ts
set-inside ts n h = slice_get_within ts n (of_set (the_set (slice_get ts n))) (set-of (slice_get ts n) h)

pub truth-inside : (ts : List ValueTree) (n : ℕ) → is_truth (slice_get ts n) ≡ true → n < length ts
truth-inside ts n h = slice_get_within ts n (of_truth (the_truth (slice_get ts n))) (truth-of (slice_get ts n) h)

-- ---- what stands raised

pub raised-object : (o : Option ValueTree) → is_object o ≡ true → mapped_value (the_value o) (lifting 1) 0 ≡ of_object (mapped_term (the_object o) (lifting 1) 0)
unfolding is_object the_value the_object mapped_value
raised-object (Some (of_object a)) h = refl
raised-object _ h = absurd (true≢false (sym h))

pub raised-set : (o : Option ValueTree) → is_set o ≡ true → mapped_value (the_value o) (lifting 1) 0 ≡ of_set (mapped_set (the_set o) (lifting 1) 0)
unfolding is_set the_value the_set mapped_value
raised-set (Some (of_set a)) h = refl
raised-set _ h = absurd (true≢false (sym h))

-- ---- shapes of sets

module _ (p : Pools) (ts : List ValueTree) where
  -- a comprehension has its formula for its body
  pub body-compr : (x : Shape) (a : ℕ) → x ≡ s.Compr a → is_truth (slice_get ts a) ≡ true → slice_get ts a ≡ Some (of_truth (body (the_set (Some (shape_tree p ts x)))))
  unfolding shape_tree the_set body
  body-compr x a e h = truth-of (slice_get ts a) h ∙ ap (λ y. Some (of_truth (body (the_set (Some (shape_tree p ts y)))))) (sym e)

  pub body-other : (x : Shape) → ((a : ℕ) → x ≡ s.Compr a → ⊥) → is_set (Some (shape_tree p ts x)) ≡ true → t.member (t.bound 0) (mapped_set (the_set (Some (shape_tree p ts x))) (lifting 1) 0) ≡ body (the_set (Some (shape_tree p ts x)))
  unfolding shape_tree is_set the_set body
  body-other (s.Compr a) other h = absurd (other a refl)
  body-other (s.FreeSet n) other h = refl
  body-other (s.ReadSet a b) other h = refl
  body-other s.Empty other h = refl
  body-other s.Univ other h = refl
  body-other (s.Single a) other h = refl
  body-other (s.Union a b) other h = refl
  body-other (s.Inter a b) other h = refl
  body-other (s.Diff a b) other h = refl
  body-other (s.Compl a) other h = refl
  body-other _ other h = absurd (true≢false (sym h))

  pub in-compr : (x : Shape) (a : ℕ) (w : TermTree) → x ≡ s.Compr a → is_in w (t.compr (the_truth (slice_get ts a))) ≡ is_in w (the_set (Some (shape_tree p ts x)))
  unfolding shape_tree the_set
  in-compr x a w e = ap (λ y. is_in w (the_set (Some (shape_tree p ts y)))) (sym e)

  pub in-other : (x : Shape) (w : TermTree) → ((a : ℕ) → x ≡ s.Compr a → ⊥) → is_set (Some (shape_tree p ts x)) ≡ true → t.member w (the_set (Some (shape_tree p ts x))) ≡ is_in w (the_set (Some (shape_tree p ts x)))
  unfolding shape_tree is_set the_set is_in
  in-other (s.Compr a) w other h = absurd (other a refl)
  in-other (s.FreeSet n) w other h = refl
  in-other (s.ReadSet a b) w other h = refl
  in-other s.Empty w other h = refl
  in-other s.Univ w other h = refl
  in-other (s.Single a) w other h = refl
  in-other (s.Union a b) w other h = refl
  in-other (s.Inter a b) w other h = refl
  in-other (s.Diff a b) w other h = refl
  in-other (s.Compl a) w other h = refl
  in-other _ w other h = absurd (true≢false (sym h))

  -- ---- what the rule makes of each shape

  pub made-as : (x y : Shape) (d : Polarity) (v : ValueTree) → x ≡ y → v ≡ applied (shape_tree p ts y) opening_sets d → v ≡ applied (shape_tree p ts x) opening_sets d
  made-as x y d v e h = h ∙ ap (λ z. applied (shape_tree p ts z) opening_sets d) (sym e)

  -- all else stays
  pub other-made : (x : Shape) (d : Polarity) → (x ≡ s.Empty → ⊥) → (x ≡ s.Univ → ⊥) → ((a : ℕ) → x ≡ s.Single a → ⊥) → ((a b : ℕ) → x ≡ s.Union a b → ⊥) → ((a b : ℕ) → x ≡ s.Inter a b → ⊥) → ((a b : ℕ) → x ≡ s.Diff a b → ⊥) →
      ((a : ℕ) → x ≡ s.Compl a → ⊥) → ((a b : ℕ) → x ≡ s.EqSet a b → ⊥) → ((a b : ℕ) → x ≡ s.Subset a b → ⊥) → ((a b : ℕ) → x ≡ s.Member a b → ⊥) → applied (shape_tree p ts x) opening_sets d ≡ shape_tree p ts x
  unfolding shape_tree applied as_comprehension relation
  other-made s.Empty d h1 h2 h3 h4 h5 h6 h7 h8 h9 h10 = absurd (h1 refl)
  other-made s.Univ d h1 h2 h3 h4 h5 h6 h7 h8 h9 h10 = absurd (h2 refl)
  other-made (s.Single a) d h1 h2 h3 h4 h5 h6 h7 h8 h9 h10 = absurd (h3 a refl)
  other-made (s.Union a b) d h1 h2 h3 h4 h5 h6 h7 h8 h9 h10 = absurd (h4 a b refl)
  other-made (s.Inter a b) d h1 h2 h3 h4 h5 h6 h7 h8 h9 h10 = absurd (h5 a b refl)
  other-made (s.Diff a b) d h1 h2 h3 h4 h5 h6 h7 h8 h9 h10 = absurd (h6 a b refl)
  other-made (s.Compl a) d h1 h2 h3 h4 h5 h6 h7 h8 h9 h10 = absurd (h7 a refl)
  other-made (s.EqSet a b) d h1 h2 h3 h4 h5 h6 h7 h8 h9 h10 = absurd (h8 a b refl)
  other-made (s.Subset a b) d h1 h2 h3 h4 h5 h6 h7 h8 h9 h10 = absurd (h9 a b refl)
  other-made (s.Member a b) d h1 h2 h3 h4 h5 h6 h7 h8 h9 h10 = absurd (h10 a b refl)
  other-made _ d h1 h2 h3 h4 h5 h6 h7 h8 h9 h10 = refl

-- a formula made anew by the rule is the formula with its sets opened
pub opened-at : (o : Option ValueTree) → is_truth o ≡ true → built_at (the_value o) opening_sets pol.Both ≡ of_truth (sets_opened (the_truth o))
unfolding is_truth the_value the_truth built_at sets_opened
opened-at (Some (of_truth a)) h = refl
opened-at _ h = absurd (true≢false (sym h))
