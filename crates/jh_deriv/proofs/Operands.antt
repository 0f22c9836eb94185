-- Steps whose operands were entered.
use Rattle.std.proofs.Common.{◌≡◌, refl, sym, ap, ◌∙◌, ℕ, List, slice_get, Some, None, Ok, Err}
use Rattle.std.specs.Prelude.{Result, IfOk}
use Rattle.jh_boxed_operations.specs.comparison.Unmarked.{unmarked_term, unmarked_field, unmarked_value, unmarked_formula}
use Rattle.jh_name.specs.declared.naming.Name.{Name}
use Rattle.jh_name.specs.declared.place.Kind.{Kind}
use Rattle.jh_form.specs.Tree.{ValueTree, TermTree, FieldTree, FieldTrees, FormulaTree, of_object, of_truth, of_field}
use Rattle.jh_form.specs.Tree as t
use Rattle.jh_arena.specs.table.Entries.{the_truth, the_object, the_field, the_value}
use Rattle.jh_derivation_rules.specs.Steps as s
use Rattle.jh_derivation_steps.specs.declared.premises.nodes.NodeStep.TheVariants as d
use Rattle.jh_derivation_steps.specs.premises.Nodes.{step_at, AreOperands, name_of, forest_fields, changed_field, changed_at, changed_value, IsFormula, IsTerm, IsField, IsForest, IsUpdate, IsValue, IsName}
use Rattle.jh_deriv.specs.Replays.{Enters}

it-is-formula : (ts : List ValueTree) (n : ℕ) (x : FormulaTree) → slice_get ts n ≡ Some (of_truth x) → IsFormula ts n
unfolding the_truth
it-is-formula ts n x h = h ∙ sym (ap (λ o. Some (of_truth (the_truth o))) h)

it-is-term : (ts : List ValueTree) (n : ℕ) (x : TermTree) → slice_get ts n ≡ Some (of_object x) → IsTerm ts n
unfolding the_object
it-is-term ts n x h = h ∙ sym (ap (λ o. Some (of_object (the_object o))) h)

it-is-field : (ts : List ValueTree) (n : ℕ) (x : FieldTree) → slice_get ts n ≡ Some (of_field x) → IsField ts n
unfolding the_field
it-is-field ts n x h = h ∙ sym (ap (λ o. Some (of_field (the_field o))) h)

it-is-value : (ts : List ValueTree) (n : ℕ) (v : ValueTree) → slice_get ts n ≡ Some v → IsValue ts n
unfolding the_value
it-is-value ts n v h = h ∙ sym (ap (λ o. Some (the_value o)) h)

it-is-name : (ts : List ValueTree) (n : ℕ) (x : Name) → slice_get ts n ≡ Some (of_object (t.free_object x)) → IsName ts n
unfolding the_object name_of
it-is-name ts n x h = h ∙ sym (ap (λ o. Some (of_object (t.free_object (name_of (the_object o))))) h)

it-is-forest : (ts : List ValueTree) (n : ℕ) (fs : FieldTrees) → slice_get ts n ≡ Some (of_truth (t.tree fs)) → IsForest ts n
unfolding the_truth forest_fields
it-is-forest ts n fs h = h ∙ sym (ap (λ o. Some (of_truth (t.tree (forest_fields (the_truth o))))) h)

it-is-update : (ts : List ValueTree) (n : ℕ) (f : FieldTree) (a v : TermTree) → slice_get ts n ≡ Some (of_field (t.update f a (of_object v))) → IsUpdate ts n
unfolding the_field changed_field changed_at changed_value
it-is-update ts n f a v h = h ∙ sym (ap (λ o. Some (of_field (t.update (changed_field (the_field o)) (changed_at (the_field o)) (of_object (changed_value (the_field o)))))) h)

module _ (ts : List ValueTree) where
  pub entered-absurd : Enters ts s.absurdity (Ok d.Absurd)
  unfolding step_at AreOperands
  entered-absurd = (refl, tt)

  pub entered-symmetric : (x y : ℕ) (v w : ValueTree) → slice_get ts x ≡ Some v → slice_get ts y ≡ Some w → Enters ts (s.symmetric v w) (Ok (d.Symmetric x y))
  unfolding step_at AreOperands the_value
  entered-symmetric x y v w h k = ((λ i. s.symmetric (the_value (h i)) (the_value (k i))), (it-is-value ts x v h, it-is-value ts y w k))

  pub entered-transitive : (x y z : ℕ) (u v w : ValueTree) → slice_get ts x ≡ Some u → slice_get ts y ≡ Some v → slice_get ts z ≡ Some w → Enters ts (s.transitive u v w) (Ok (d.Transitive x y z))
  unfolding step_at AreOperands the_value
  entered-transitive x y z u v w h k l = ((λ i. s.transitive (the_value (h i)) (the_value (k i)) (the_value (l i))), (it-is-value ts x u h, it-is-value ts y v k, it-is-value ts z w l))

  pub entered-reading : (kind : Kind) (x y z : ℕ) (f : FieldTree) (a b : TermTree) → slice_get ts x ≡ Some (of_field f) → slice_get ts y ≡ Some (of_object a) → slice_get ts z ≡ Some (of_object b) → Enters ts (s.reading kind f a b) (Ok (d.Reading kind x y z))
  unfolding step_at AreOperands the_field the_object
  entered-reading kind x y z f a b h k l = ((λ i. s.reading kind (the_field (h i)) (the_object (k i)) (the_object (l i))), (it-is-field ts x f h, it-is-term ts y a k, it-is-term ts z b l))

  pub entered-replacing : (x y z u : ℕ) (a b : FormulaTree) (v w : ValueTree) → slice_get ts x ≡ Some (of_truth a) → slice_get ts y ≡ Some (of_truth b) → slice_get ts z ≡ Some v → slice_get ts u ≡ Some w → Enters ts (s.replacing a b v w) (Ok (d.Replacing x y z u))
  unfolding step_at AreOperands the_truth the_value
  entered-replacing x y z u a b v w h k l m = ((λ i. s.replacing (the_truth (h i)) (the_truth (k i)) (the_value (l i)) (the_value (m i))), (it-is-formula ts x a h, it-is-formula ts y b k, it-is-value ts z v l, it-is-value ts u w m))

  pub entered-instance : (x y : ℕ) (a : FormulaTree) (b : TermTree) → slice_get ts x ≡ Some (of_truth a) → slice_get ts y ≡ Some (of_object b) → Enters ts (s.instance_at a b) (Ok (d.Instance x y))
  unfolding step_at AreOperands the_truth the_object
  entered-instance x y a b h k = ((λ i. s.instance_at (the_truth (h i)) (the_object (k i))), (it-is-formula ts x a h, it-is-term ts y b k))

  pub entered-witness : (x y : ℕ) (a : FormulaTree) (name : Name) → slice_get ts x ≡ Some (of_truth a) → slice_get ts y ≡ Some (of_object (t.free_object name)) → Enters ts (s.witness a name) (Ok (d.Witness x y))
  unfolding step_at AreOperands the_truth the_object name_of
  entered-witness x y a name h k = ((λ i. s.witness (the_truth (h i)) (name_of (the_object (k i)))), (it-is-formula ts x a h, it-is-name ts y name k))

  pub entered-updating : (x : ℕ) (f : FieldTree) → slice_get ts x ≡ Some (of_field f) → Enters ts (s.updating f) (Ok (d.Updating x))
  unfolding step_at AreOperands the_field
  entered-updating x f h = ((λ i. s.updating (the_field (h i))), it-is-field ts x f h)

  pub entered-pair : (x : ℕ) (a : FormulaTree) → slice_get ts x ≡ Some (of_truth a) → Enters ts (s.pair a) (Ok (d.Pair x))
  unfolding step_at AreOperands the_truth
  entered-pair x a h = ((λ i. s.pair (the_truth (h i))), it-is-formula ts x a h)

  pub entered-reflexive : (x : ℕ) (a : FormulaTree) → slice_get ts x ≡ Some (of_truth a) → Enters ts (s.reflexive a) (Ok (d.Reflexive x))
  unfolding step_at AreOperands the_truth
  entered-reflexive x a h = ((λ i. s.reflexive (the_truth (h i))), it-is-formula ts x a h)

  pub entered-conjuncts : (x : ℕ) (a : FormulaTree) → slice_get ts x ≡ Some (of_truth a) → Enters ts (s.conjuncts a) (Ok (d.Conjuncts x))
  unfolding step_at AreOperands the_truth
  entered-conjuncts x a h = ((λ i. s.conjuncts (the_truth (h i))), it-is-formula ts x a h)

  pub entered-disjuncts : (x : ℕ) (a : FormulaTree) → slice_get ts x ≡ Some (of_truth a) → Enters ts (s.disjuncts a) (Ok (d.Disjuncts x))
  unfolding step_at AreOperands the_truth
  entered-disjuncts x a h = ((λ i. s.disjuncts (the_truth (h i))), it-is-formula ts x a h)

  pub entered-implication : (x : ℕ) (a : FormulaTree) → slice_get ts x ≡ Some (of_truth a) → Enters ts (s.implication a) (Ok (d.Implication x))
  unfolding step_at AreOperands the_truth
  entered-implication x a h = ((λ i. s.implication (the_truth (h i))), it-is-formula ts x a h)

  pub entered-equivalence : (x : ℕ) (a : FormulaTree) → slice_get ts x ≡ Some (of_truth a) → Enters ts (s.equivalence a) (Ok (d.Equivalence x))
  unfolding step_at AreOperands the_truth
  entered-equivalence x a h = ((λ i. s.equivalence (the_truth (h i))), it-is-formula ts x a h)

  pub entered-inward : (x : ℕ) (a : FormulaTree) → slice_get ts x ≡ Some (of_truth a) → Enters ts (s.inward a) (Ok (d.Inward x))
  unfolding step_at AreOperands the_truth
  entered-inward x a h = ((λ i. s.inward (the_truth (h i))), it-is-formula ts x a h)

  pub entered-cut : (x : ℕ) (a : FormulaTree) → slice_get ts x ≡ Some (of_truth a) → Enters ts (s.cut a) (Ok (d.Cut x))
  unfolding step_at AreOperands the_truth
  entered-cut x a h = ((λ i. s.cut (the_truth (h i))), it-is-formula ts x a h)

  pub entered-axiom : (number x : ℕ) (fs : FieldTrees) → slice_get ts x ≡ Some (of_truth (t.tree fs)) → Enters ts (s.axiom_of number fs None) (Ok (d.Axiom number x))
  unfolding step_at AreOperands the_truth forest_fields
  entered-axiom number x fs h = ((λ i. s.axiom_of number (forest_fields (the_truth (h i))) None), it-is-forest ts x fs h)

  pub entered-based : (number x place y : ℕ) (fs : FieldTrees) (f : FieldTree) (a v : TermTree) → slice_get ts x ≡ Some (of_truth (t.tree fs)) → slice_get ts y ≡ Some (of_field (t.update f a (of_object v))) → Enters ts (s.axiom_of number fs (Some (record { place = place; field = f; at = a; value = v }))) (Ok (d.BasedAxiom number x place y))
  unfolding step_at AreOperands the_truth the_field forest_fields changed_field changed_at changed_value
  entered-based number x place y fs f a v h k = (
    (λ i. s.axiom_of number (forest_fields (the_truth (h i))) (Some (record { place = place; field = changed_field (the_field (k i)); at = changed_at (the_field (k i)); value = changed_value (the_field (k i)) }))),
    (it-is-forest ts x fs h, it-is-update ts y f a v k),
  )

  pub entered-relation : (x : ℕ) (a : FormulaTree) → slice_get ts x ≡ Some (of_truth a) → Enters ts (s.relation a) (Ok (d.Relation x))
  unfolding step_at AreOperands the_truth
  entered-relation x a h = ((λ i. s.relation (the_truth (h i))), it-is-formula ts x a h)

pub ruleset entered_steps = (entered-absurd, entered-symmetric, entered-transitive, entered-reading, entered-replacing, entered-instance, entered-witness, entered-updating, entered-pair, entered-reflexive, entered-conjuncts, entered-disjuncts, entered-implication, entered-equivalence, entered-inward, entered-cut, entered-relation)

-- a node without its labels
pub bare-truth : (ts us : List ValueTree) (n m : ℕ) (a : FormulaTree) → slice_get ts n ≡ Some (of_truth a) → slice_get us m ≡ Some (unmarked_value (the_value (slice_get ts n))) → slice_get us m ≡ Some (of_truth (unmarked_formula a))
unfolding the_value unmarked_value
bare-truth ts us n m a h k = k ∙ ap (λ o. Some (unmarked_value (the_value o))) h

pub bare-object : (ts us : List ValueTree) (n m : ℕ) (a : TermTree) → slice_get ts n ≡ Some (of_object a) → slice_get us m ≡ Some (unmarked_value (the_value (slice_get ts n))) → slice_get us m ≡ Some (of_object (unmarked_term a))
unfolding the_value unmarked_value
bare-object ts us n m a h k = k ∙ ap (λ o. Some (unmarked_value (the_value o))) h

pub bare-field : (ts us : List ValueTree) (n m : ℕ) (a : FieldTree) → slice_get ts n ≡ Some (of_field a) → slice_get us m ≡ Some (unmarked_value (the_value (slice_get ts n))) → slice_get us m ≡ Some (of_field (unmarked_field a))
unfolding the_value unmarked_value
bare-field ts us n m a h k = k ∙ ap (λ o. Some (unmarked_value (the_value o))) h

pub bare-value : (ts us : List ValueTree) (n m : ℕ) (v : ValueTree) → slice_get ts n ≡ Some v → slice_get us m ≡ Some (unmarked_value (the_value (slice_get ts n))) → slice_get us m ≡ Some (unmarked_value v)
unfolding the_value
bare-value ts us n m v h k = k ∙ ap (λ o. Some (unmarked_value (the_value o))) h

-- what is said of an answer, carried over
pub if-ok : {A E : Type 0} {P Q : A → Type 0} (r : Result A E) → ((x : A) → P x → Q x) → IfOk r P → IfOk r Q
if-ok (Ok x) f h = f x h
if-ok (Err e) f h = tt

pub negated-truth : (us vs : List ValueTree) (n m : ℕ) (a : FormulaTree) → slice_get us n ≡ Some (of_truth a) → slice_get vs m ≡ Some (of_truth (t.negation (the_truth (slice_get us n)))) → slice_get vs m ≡ Some (of_truth (t.negation a))
unfolding the_truth
negated-truth us vs n m a h k = k ∙ ap (λ o. Some (of_truth (t.negation (the_truth o)))) h
