-- The constraint that a formula is, from its parts.
use Rattle.std.proofs.Common.{◌≡◌, refl, sym, ap, subst, ◌∙◌, ℕ, ◌≤◌, ◌<◌, Bool, true, false, ◌&&◌, if◌then◌else◌, List, Option, Some, None, slice_get, arith}
use Rattle.std.proofs.lemmas.Bool.{true≢false}
use Rattle.jh_name.specs.declared.naming.Name.{Name}
use Rattle.jh_form.specs.Tree.{TermTree, FieldTree, FormulaTree, ValueTree}
use Rattle.jh_form.specs.Tree as tree
use Rattle.jh_form.specs.Closed.{is_closed_value, is_closed_formula}
use Rattle.jh_form.specs.Passing.{value_passes, formula_passes}
use Rattle.jh_arena.specs.table.Entries.{Listing, is_truth, the_truth, the_value}
use Rattle.jh_arena.specs.table.Facing.{IsLeast}
use Rattle.jh_fca.specs.elimination.Constraints.{Constraint, is_variable, other_than, is_apart, constraint_in}
use Rattle.jh_field_constraints.specs.declared.constraints.NodeConstraint.{NodeConstraint}
use Rattle.jh_field_constraints.specs.Standing.{IsFormula, IsNamed, IsConstraint, AreConstraint}
use Rattle.jh_field_constraints.specs.Constraining.{in_field, in_read, in_implication, in_inner, in_body}
use Rattle.jh_field_constraints.proofs.Standings.{passes-same, closed-same}
use Rattle.jh_field_constraints.proofs.Shapes.{constraint-parts}

-- ---- what FC may speak of

both-false : (p q : Bool) → q ≡ false → (p && q) ≡ false
both-false true q h = h
both-false false q h = refl

not-true : (b : Bool) → (b ≡ true → ⊥) → b ≡ false
not-true true h = absurd (h refl)
not-true false h = refl

pub speaks-of-more : (f : Name) (o : Option ValueTree) (n : ℕ) → is_truth o ≡ true → IsLeast (λ d. is_closed_value (the_value o) d) n → (n ≤ 2 → ⊥) → false ≡ is_apart f (the_truth o)
unfolding is_apart
speaks-of-more f o n h least far =
    sym (both-false (formula_passes (the_truth o) (other_than f)) (is_closed_formula (the_truth o) 2) (sym (closed-same o 2 h) ∙ not-true (is_closed_value (the_value o) 2) (λ e. far (least.least 2 e))))

and-true : (p : Bool) → p ≡ (p && true)
and-true true = refl
and-true false = refl

pub speaks-of-two : (f : Name) (o : Option ValueTree) (n : ℕ) (b : Bool) → is_truth o ≡ true → IsLeast (λ d. is_closed_value (the_value o) d) n → n ≤ 2 → b ≡ value_passes (the_value o) (other_than f) → b ≡ is_apart f (the_truth o)
unfolding is_apart
speaks-of-two f o n b h least near e =
    e ∙ passes-same o (other_than f) h ∙ and-true (formula_passes (the_truth o) (other_than f)) ∙ ap (λ c. formula_passes (the_truth o) (other_than f) && c) (sym (sym (closed-same o 2 h) ∙ least.closed 2 near))

-- ---- part by part

module _ (t : Listing) where
  pub as-none : (o : Option Constraint) → o ≡ None → AreConstraint t None o
  unfolding AreConstraint
  as-none None e = tt
  as-none (Some c) e = absurd (cc)

  pub as-said : (made : Option NodeConstraint) (o q : Option Constraint) → o ≡ q → AreConstraint t made o → AreConstraint t made q
  as-said made o q e h = subst (λ (z : Option Constraint). AreConstraint t made z) e h

  field-if : (of : NodeConstraint) (z : Name) (p : FormulaTree) (b : Bool) → b ≡ true → IsNamed t of.field z → IsFormula t of.says p → AreConstraint t (Some of) (if b then Some (record { field = z; says = p }) else None)
  unfolding AreConstraint
  field-if of z p true e h k = record { field = h; says = k }
  field-if of z p false e h k = absurd (true≢false (sym e))

  pub field-then : (of : NodeConstraint) (g : FieldTree) (z : Name) (p : FormulaTree) → tree.free_field z ≡ g → is_apart z p ≡ true → IsNamed t of.field z → IsFormula t of.says p → AreConstraint t (Some of) (in_field g p)
  unfolding in_field
  field-then of g z p e a h k = subst (λ (f : FieldTree). AreConstraint t (Some of) (in_field f p)) e (field-if of z p (is_apart z p) a h k)

  pub field-else : (g : FieldTree) (z : Name) (p : FormulaTree) → tree.free_field z ≡ g → is_apart z p ≡ false → AreConstraint t None (in_field g p)
  unfolding in_field
  field-else g z p e a = as-none (in_field g p) (ap (λ f. in_field f p) (sym e) ∙ ap (λ b. if b then Some (record { field = z; says = p }) else None) a)

  pub read-then : (made : Option NodeConstraint) (a : TermTree) (f : FieldTree) (b : TermTree) (p : FormulaTree) → tree.read_object f b ≡ a → is_variable 1 b ≡ true → AreConstraint t made (in_field f p) → AreConstraint t made (in_read a p)
  unfolding in_read
  read-then made a f b p e v h = as-said made (in_field f p) (in_read a p) (ap (λ c. if c then in_field f p else None) (sym v) ∙ ap (λ x. in_read x p) e) h

  pub read-else : (a : TermTree) (f : FieldTree) (b : TermTree) (p : FormulaTree) → tree.read_object f b ≡ a → is_variable 1 b ≡ false → AreConstraint t None (in_read a p)
  unfolding in_read
  read-else a f b p e v = as-none (in_read a p) (ap (λ x. in_read x p) (sym e) ∙ ap (λ c. if c then in_field f p else None) v)

  pub equation-then : (made : Option NodeConstraint) (q : FormulaTree) (a b : TermTree) (p : FormulaTree) → tree.eq_object a b ≡ q → is_variable 0 b ≡ true → AreConstraint t made (in_read a p) → AreConstraint t made (in_implication q p)
  unfolding in_implication
  equation-then made q a b p e v h = as-said made (in_read a p) (in_implication q p) (ap (λ c. if c then in_read a p else None) (sym v) ∙ ap (λ x. in_implication x p) e) h

  pub equation-else : (q : FormulaTree) (a b : TermTree) (p : FormulaTree) → tree.eq_object a b ≡ q → is_variable 0 b ≡ false → AreConstraint t None (in_implication q p)
  unfolding in_implication
  equation-else q a b p e v = as-none (in_implication q p) (ap (λ x. in_implication x p) (sym e) ∙ ap (λ c. if c then in_read a p else None) v)

  pub implies-then : (made : Option NodeConstraint) (a q p : FormulaTree) → tree.implies q p ≡ a → AreConstraint t made (in_implication q p) → AreConstraint t made (in_inner a)
  unfolding in_inner
  implies-then made a q p e h = as-said made (in_implication q p) (in_inner a) (ap in_inner e) h

  pub body-then : (made : Option NodeConstraint) (a b : FormulaTree) → tree.all b ≡ a → AreConstraint t made (in_inner b) → AreConstraint t made (in_body a)
  unfolding in_body
  body-then made a b e h = as-said made (in_inner b) (in_body a) (ap in_body e) h

  pub fact-then : (made : Option NodeConstraint) (a b : FormulaTree) → tree.all b ≡ a → AreConstraint t made (in_body b) → AreConstraint t made (constraint_in a)
  fact-then made a b e h = as-said made (in_body b) (constraint_in a) (constraint-parts b ∙ ap constraint_in e) h
