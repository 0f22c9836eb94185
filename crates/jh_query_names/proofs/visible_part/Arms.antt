-- What is shown of each shape.
use Rattle.std.proofs.Common.{◌≡◌, refl, sym, ap, ◌∙◌, ℕ, Bool, true, false, not, if◌then◌else◌, List, Option, Some, None}
use Rattle.std.proofs.lemmas.Bool.{true≢false}
use Rattle.jh_form.specs.Tree.{FormulaTree, ValueTree}
use Rattle.jh_arena.specs.table.Entries.{Pools, is_truth, the_truth}
use Rattle.jh_arena.specs.table.Nodes.{shape_tree}
use Rattle.jh_arena.specs.declared.table.shapes.Shape.{Shape}
use Rattle.jh_arena.specs.declared.table.shapes.Shape.TheVariants as s
use Rattle.jh_query.specs.queries.Named.{is_divisor}
use Rattle.jh_approx.specs.definition.Shown.{shown, is_sayable, replacement}
use Rattle.jh_query_names.specs.visible_part.Folding.{constant}
use Rattle.jh_query_names.specs.visible_part.Showing.{is_replaced, leaf}

divided : (a : FormulaTree) (d c : Bool) → leaf a d (not c) ≡ (if c then a else replacement d)
divided a d true = refl
divided a d false = refl

twice : (c : Bool) → not (not c) ≡ c
twice true = refl
twice false = refl

module _ (p : Pools) (ts : List ValueTree) where
  pub not-constant : (x : Shape) → is_truth (Some (shape_tree p ts x)) ≡ true → (x ≡ s.True → ⊥) → (x ≡ s.False → ⊥) → None ≡ constant (the_truth (Some (shape_tree p ts x)))
  unfolding shape_tree is_truth the_truth constant
  not-constant s.True h k l = absurd (k refl)
  not-constant s.False h k l = absurd (l refl)
  not-constant (s.FreeTruth n) h k l = refl
  not-constant (s.ReadTruth a b) h k l = refl
  not-constant (s.Negation a) h k l = refl
  not-constant (s.And a b) h k l = refl
  not-constant (s.Or a b) h k l = refl
  not-constant (s.Implies a b) h k l = refl
  not-constant (s.Iff a b) h k l = refl
  not-constant (s.All a) h k l = refl
  not-constant (s.Ex a) h k l = refl
  not-constant (s.EqObject a b) h k l = refl
  not-constant (s.EqNumber a b) h k l = refl
  not-constant (s.EqSet a b) h k l = refl
  not-constant (s.Less a b) h k l = refl
  not-constant (s.LessEqual a b) h k l = refl
  not-constant (s.Divides z a) h k l = refl
  not-constant (s.Member a b) h k l = refl
  not-constant (s.Subset a b) h k l = refl
  not-constant (s.Reach fs a b) h k l = refl
  not-constant (s.Tree fs) h k l = refl
  not-constant (s.Mark m a) h k l = refl
  not-constant _ h k l = absurd (true≢false (sym h))

  -- the truth of a formula at sight, by its shape
  pub constant-of : (o : Option ValueTree) (x y : Shape) (r : Option Bool) → o ≡ Some (shape_tree p ts x) → x ≡ y → r ≡ constant (the_truth (Some (shape_tree p ts y))) → r ≡ constant (the_truth o)
  constant-of o x y r e f h = h ∙ ap (λ z. constant (the_truth (Some (shape_tree p ts z)))) (sym f) ∙ ap (λ u. constant (the_truth u)) (sym e)

  -- what is no connective and has no label
  abbrev pub IsLeaf : Shape → Type 0
  IsLeaf x = ((a : ℕ) → x ≡ s.Negation a → ⊥) × ((a b : ℕ) → x ≡ s.And a b → ⊥) × ((a b : ℕ) → x ≡ s.Or a b → ⊥) × ((a b : ℕ) → x ≡ s.Implies a b → ⊥) × ((a b : ℕ) → x ≡ s.Iff a b → ⊥) × ((m a : ℕ) → x ≡ s.Mark m a → ⊥)

  pub leaf-shown : (x : Shape) (d : Bool) → IsLeaf x → is_truth (Some (shape_tree p ts x)) ≡ true → leaf (the_truth (Some (shape_tree p ts x))) d (is_replaced x) ≡ shown (the_truth (Some (shape_tree p ts x))) d
  unfolding shape_tree is_truth the_truth shown is_replaced
  leaf-shown s.True d l h = refl
  leaf-shown s.False d l h = refl
  leaf-shown (s.FreeTruth n) d l h = refl
  leaf-shown (s.ReadTruth a b) d l h = refl
  leaf-shown (s.Negation a) d l h = absurd (l.0 a refl)
  leaf-shown (s.And a b) d l h = absurd (l.1 a b refl)
  leaf-shown (s.Or a b) d l h = absurd (l.2 a b refl)
  leaf-shown (s.Implies a b) d l h = absurd (l.3 a b refl)
  leaf-shown (s.Iff a b) d l h = absurd (l.4 a b refl)
  leaf-shown (s.Mark m a) d l h = absurd (l.5 m a refl)
  leaf-shown (s.All a) d l h = refl
  leaf-shown (s.Ex a) d l h = refl
  leaf-shown (s.EqObject a b) d l h = refl
  leaf-shown (s.EqNumber a b) d l h = refl
  leaf-shown (s.EqSet a b) d l h = refl
  leaf-shown (s.Less a b) d l h = refl
  leaf-shown (s.LessEqual a b) d l h = refl
  leaf-shown (s.Divides z a) d l h = divided (the_truth (Some (shape_tree p ts (s.Divides z a)))) d (is_divisor z)
  leaf-shown (s.Member a b) d l h = refl
  leaf-shown (s.Subset a b) d l h = refl
  leaf-shown (s.Reach fs a b) d l h = refl
  leaf-shown (s.Tree fs) d l h = refl
  leaf-shown _ d l h = absurd (true≢false (sym h))

  pub leaf-sayable : (x : Shape) → IsLeaf x → is_truth (Some (shape_tree p ts x)) ≡ true → not (is_replaced x) ≡ is_sayable (the_truth (Some (shape_tree p ts x)))
  unfolding shape_tree is_truth the_truth is_sayable is_replaced
  leaf-sayable s.True l h = refl
  leaf-sayable s.False l h = refl
  leaf-sayable (s.FreeTruth n) l h = refl
  leaf-sayable (s.ReadTruth a b) l h = refl
  leaf-sayable (s.Negation a) l h = absurd (l.0 a refl)
  leaf-sayable (s.And a b) l h = absurd (l.1 a b refl)
  leaf-sayable (s.Or a b) l h = absurd (l.2 a b refl)
  leaf-sayable (s.Implies a b) l h = absurd (l.3 a b refl)
  leaf-sayable (s.Iff a b) l h = absurd (l.4 a b refl)
  leaf-sayable (s.Mark m a) l h = absurd (l.5 m a refl)
  leaf-sayable (s.All a) l h = refl
  leaf-sayable (s.Ex a) l h = refl
  leaf-sayable (s.EqObject a b) l h = refl
  leaf-sayable (s.EqNumber a b) l h = refl
  leaf-sayable (s.EqSet a b) l h = refl
  leaf-sayable (s.Less a b) l h = refl
  leaf-sayable (s.LessEqual a b) l h = refl
  leaf-sayable (s.Divides z a) l h = twice (is_divisor z)
  leaf-sayable (s.Member a b) l h = refl
  leaf-sayable (s.Subset a b) l h = refl
  leaf-sayable (s.Reach fs a b) l h = refl
  leaf-sayable (s.Tree fs) l h = refl
  leaf-sayable _ l h = absurd (true≢false (sym h))
