-- Values without loose bound variables beyond some, whose names pass a test: how they go together.
use Rattle.std.proofs.Common.{◌≡◌, refl, subst, ◌∙◌, ℕ, zero, suc, ◌+◌, Bool, true, false, ◌&&◌, if◌then◌else◌, arith}
use Rattle.jh_name.specs.declared.naming.Name.{Name}
use Rattle.jh_name.specs.declared.place.Kind.{Kind}
use Rattle.jh_name.specs.declared.place.Kind.TheVariants as k
use Rattle.jh_name.specs.declared.place.Sort.{Sort}
use Rattle.jh_name.specs.declared.place.Sort.TheVariants as sort
use Rattle.jh_form.specs.Tree.{TermTree, IntTree, SetTree, FieldTree, ValueTree, FormulaTree, FieldTrees}
use Rattle.jh_form.specs.Tree as t
use Rattle.jh_form.specs.Sorts.{tree_sort}
use Rattle.jh_form.specs.Closed.{is_closed_term, is_closed_int, is_closed_set, is_closed_field, is_closed_value, is_closed_formula}
use Rattle.jh_form.specs.Passing.{term_passes, int_passes, set_passes, field_passes, value_passes, formula_passes}
use Rattle.jh_boxed.specs.Mapped.{LeafMap, mapped_value}
use Rattle.jh_vars.specs.state_names.States.{sort_of}
use Rattle.jh_vars.specs.Resolved.{as_object, as_number, as_set, as_truth, free, read, quantified, equal_at, equal, at_most, difference, opposite, is_of_sets}
use Rattle.jh_logic.proofs.source.Lists.{both-true}
use Rattle.jh_logic.proofs.source.Passings.{Passing, value-passing}
use Rattle.jh_logic.proofs.source.Closings.{Closing, value-closing}

abbrev pub Test : Type 0
Test = Name → Sort → Bool

pub record Fine (q : Test) (d : ℕ) (v : ValueTree) : Type 0 where
  pub closed : is_closed_value v d ≡ true
  pub passes : value_passes v q ≡ true

module _ (q : Test) (d : ℕ) where
  -- what has no parts
  pub plain-fine : (v : ValueTree) → is_closed_value v d ≡ true → value_passes v q ≡ true → Fine q d v
  plain-fine v c h = record { closed = c; passes = h }

  -- what has one part, and two
  pub one-fine : (v x : ValueTree) → Fine q d x → is_closed_value v d ≡ is_closed_value x d → value_passes v q ≡ value_passes x q → Fine q d v
  one-fine v x f c h = record { closed = c ∙ f.closed; passes = h ∙ f.passes }

  pub two-fine : (v x y : ValueTree) → Fine q d x → Fine q d y → is_closed_value v d ≡ (is_closed_value x d && is_closed_value y d) → value_passes v q ≡ (value_passes x q && value_passes y q) → Fine q d v
  two-fine v x y f g c h = record { closed = c ∙ both-true (is_closed_value x d) (is_closed_value y d) f.closed g.closed; passes = h ∙ both-true (value_passes x q) (value_passes y q) f.passes g.passes }

  -- a value of a sort, where it has that sort, and else anything
  pub object-fine : (v : ValueTree) → Fine q d v → Fine q d (t.of_object (as_object v))
  unfolding is_closed_value is_closed_term value_passes term_passes
  object-fine (t.of_object a) f = f
  object-fine (t.of_number a) f = record { closed = refl; passes = refl }
  object-fine (t.of_truth a) f = record { closed = refl; passes = refl }
  object-fine (t.of_set a) f = record { closed = refl; passes = refl }
  object-fine (t.of_field a) f = record { closed = refl; passes = refl }

  pub number-fine : (v : ValueTree) → Fine q d v → Fine q d (t.of_number (as_number v))
  unfolding is_closed_value is_closed_int value_passes int_passes
  number-fine (t.of_number a) f = f
  number-fine (t.of_object a) f = record { closed = refl; passes = refl }
  number-fine (t.of_truth a) f = record { closed = refl; passes = refl }
  number-fine (t.of_set a) f = record { closed = refl; passes = refl }
  number-fine (t.of_field a) f = record { closed = refl; passes = refl }

  pub truth-fine : (v : ValueTree) → Fine q d v → Fine q d (t.of_truth (as_truth v))
  unfolding is_closed_value is_closed_formula value_passes formula_passes
  truth-fine (t.of_truth a) f = f
  truth-fine (t.of_object a) f = record { closed = refl; passes = refl }
  truth-fine (t.of_number a) f = record { closed = refl; passes = refl }
  truth-fine (t.of_set a) f = record { closed = refl; passes = refl }
  truth-fine (t.of_field a) f = record { closed = refl; passes = refl }

  pub set-fine : (v : ValueTree) → Fine q d v → Fine q d (t.of_set (as_set v))
  unfolding is_closed_value is_closed_set value_passes set_passes
  set-fine (t.of_set a) f = f
  set-fine (t.of_object a) f = record { closed = refl; passes = refl }
  set-fine (t.of_number a) f = record { closed = refl; passes = refl }
  set-fine (t.of_truth a) f = record { closed = refl; passes = refl }
  set-fine (t.of_field a) f = record { closed = refl; passes = refl }

  -- names and reads
  pub free-fine : (kind : Kind) (x : Name) → q x (sort_of kind) ≡ true → Fine q d (free kind x)
  unfolding is_closed_value is_closed_term is_closed_int is_closed_formula is_closed_set value_passes term_passes int_passes formula_passes set_passes
  free-fine k.Obj x h = record { closed = refl; passes = h }
  free-fine k.Int x h = record { closed = refl; passes = h }
  free-fine k.Bool x h = record { closed = refl; passes = h }
  free-fine k.Set x h = record { closed = refl; passes = h }

  pub read-fine : (kind : Kind) (x : Name) (a : TermTree) → q x sort.Field ≡ true → Fine q d (t.of_object a) → Fine q d (read kind x a)
  unfolding is_closed_value is_closed_term is_closed_int is_closed_formula is_closed_set is_closed_field value_passes term_passes int_passes formula_passes set_passes field_passes
  read-fine k.Obj x a h f = record { closed = f.closed; passes = both-true (q x sort.Field) (term_passes a q) h f.passes }
  read-fine k.Int x a h f = record { closed = f.closed; passes = both-true (q x sort.Field) (term_passes a q) h f.passes }
  read-fine k.Bool x a h f = record { closed = f.closed; passes = both-true (q x sort.Field) (term_passes a q) h f.passes }
  read-fine k.Set x a h f = record { closed = f.closed; passes = both-true (q x sort.Field) (term_passes a q) h f.passes }

  -- operators
  equal-fine : (s : Sort) (a b : ValueTree) → Fine q d a → Fine q d b → Fine q d (t.of_truth (equal_at s a b))
  unfolding is_closed_value is_closed_formula value_passes formula_passes
  equal-fine sort.Obj a b f g = two-fine (t.of_truth (t.eq_object (as_object a) (as_object b))) (t.of_object (as_object a)) (t.of_object (as_object b)) (object-fine a f) (object-fine b g) refl refl
  equal-fine sort.Int a b f g = two-fine (t.of_truth (t.eq_number (as_number a) (as_number b))) (t.of_number (as_number a)) (t.of_number (as_number b)) (number-fine a f) (number-fine b g) refl refl
  equal-fine sort.Set a b f g = two-fine (t.of_truth (t.eq_set (as_set a) (as_set b))) (t.of_set (as_set a)) (t.of_set (as_set b)) (set-fine a f) (set-fine b g) refl refl
  equal-fine sort.Bool a b f g = two-fine (t.of_truth (t.iff (as_truth a) (as_truth b))) (t.of_truth (as_truth a)) (t.of_truth (as_truth b)) (truth-fine a f) (truth-fine b g) refl refl
  equal-fine sort.Field a b f g = record { closed = refl; passes = refl }

  pub equation-fine : (a b : ValueTree) → Fine q d a → Fine q d b → Fine q d (t.of_truth (equal a b))
  equation-fine a b f g = equal-fine (tree_sort a) a b f g

  pub negation-fine : (a : FormulaTree) → Fine q d (t.of_truth a) → Fine q d (t.of_truth (t.negation a))
  unfolding is_closed_value is_closed_formula value_passes formula_passes
  negation-fine a f = one-fine (t.of_truth (t.negation a)) (t.of_truth a) f refl refl

  at-most-by : (b : Bool) (x y : ValueTree) → Fine q d x → Fine q d y → Fine q d (t.of_truth (if b then t.subset (as_set x) (as_set y) else t.less_equal (as_number x) (as_number y)))
  unfolding is_closed_value is_closed_formula value_passes formula_passes
  at-most-by true x y f g = two-fine (t.of_truth (t.subset (as_set x) (as_set y))) (t.of_set (as_set x)) (t.of_set (as_set y)) (set-fine x f) (set-fine y g) refl refl
  at-most-by false x y f g = two-fine (t.of_truth (t.less_equal (as_number x) (as_number y))) (t.of_number (as_number x)) (t.of_number (as_number y)) (number-fine x f) (number-fine y g) refl refl

  pub at-most-fine : (x y : ValueTree) → Fine q d x → Fine q d y → Fine q d (t.of_truth (at_most x y))
  at-most-fine x y f g = at-most-by (is_of_sets x) x y f g

  difference-by : (b : Bool) (x y : ValueTree) → Fine q d x → Fine q d y → Fine q d (if b then t.of_set (t.diff (as_set x) (as_set y)) else t.of_number (t.sub (as_number x) (as_number y)))
  unfolding is_closed_value is_closed_set is_closed_int value_passes set_passes int_passes
  difference-by true x y f g = two-fine (t.of_set (t.diff (as_set x) (as_set y))) (t.of_set (as_set x)) (t.of_set (as_set y)) (set-fine x f) (set-fine y g) refl refl
  difference-by false x y f g = two-fine (t.of_number (t.sub (as_number x) (as_number y))) (t.of_number (as_number x)) (t.of_number (as_number y)) (number-fine x f) (number-fine y g) refl refl

  pub difference-fine : (x y : ValueTree) → Fine q d x → Fine q d y → Fine q d (difference x y)
  difference-fine x y f g = difference-by (is_of_sets x) x y f g

  opposite-by : (b : Bool) (x : ValueTree) → Fine q d x → Fine q d (if b then t.of_set (t.compl (as_set x)) else t.of_number (t.neg (as_number x)))
  unfolding is_closed_value is_closed_set is_closed_int value_passes set_passes int_passes
  opposite-by true x f = one-fine (t.of_set (t.compl (as_set x))) (t.of_set (as_set x)) (set-fine x f) refl refl
  opposite-by false x f = one-fine (t.of_number (t.neg (as_number x))) (t.of_number (as_number x)) (number-fine x f) refl refl

  pub opposite-fine : (x : ValueTree) → Fine q d x → Fine q d (opposite x)
  opposite-fine x f = opposite-by (is_of_sets x) x f

-- under quantifiers
module _ (q : Test) (by : FormulaTree → FormulaTree) (keeps : (a : FormulaTree) (d : ℕ) → Fine q (d + 1) (t.of_truth a) → Fine q d (t.of_truth (by a))) where
  pub quantified-fine : (n d : ℕ) (a : FormulaTree) → Fine q (d + n) (t.of_truth a) → Fine q d (t.of_truth (quantified by n a))
  unfolding quantified
  quantified-fine zero d a f = subst (λ k. Fine q k (t.of_truth a)) (no-more d) f
    where
      no-more : (d : ℕ) → d + 0 ≡ d
      no-more d = omega arith
  quantified-fine (suc n) d a f = keeps (quantified by n a) d (quantified-fine n (d + 1) a (subst (λ k. Fine q k (t.of_truth a)) (one-more d n) f))
    where
      one-more : (d n : ℕ) → d + suc n ≡ d + 1 + n
      one-more d n = omega arith

pub all-fine : (q : Test) (a : FormulaTree) (d : ℕ) → Fine q (d + 1) (t.of_truth a) → Fine q d (t.of_truth (t.all a))
unfolding is_closed_value is_closed_formula value_passes formula_passes
all-fine q a d f = record { closed = f.closed; passes = f.passes }

pub ex-fine : (q : Test) (a : FormulaTree) (d : ℕ) → Fine q (d + 1) (t.of_truth a) → Fine q d (t.of_truth (t.ex a))
unfolding is_closed_value is_closed_formula value_passes formula_passes
ex-fine q a d f = record { closed = f.closed; passes = f.passes }

-- a mapped value
pub mapped-fine : (l : LeafMap) (p q : Test) (c d : ℕ) (v : ValueTree) → Passing l p q → Closing l c d → Fine p c v → Fine q d (mapped_value v l 0)
mapped-fine l p q c d v w z f = record { closed = value-closing l c d z v 0 c d (none-more c) (none-more d) f.closed; passes = value-passing l p q w v 0 f.passes }
  where
    none-more : (n : ℕ) → n ≡ 0 + n
    none-more n = omega arith
