-- What tests say of a node, by its shape.
use Rattle.std.proofs.Common.{◌≡◌, refl, sym, ap, ◌∙◌, ℕ, Bool, true, false, ◌&&◌, ◌||◌, if◌then◌else◌, List, Option, Some, None}
use Rattle.std.proofs.lemmas.Bool.{true≢false}
use Rattle.jh_name.specs.declared.naming.Name.{Name}
use Rattle.jh_form.specs.Tree.{TermTree, FieldTree, FormulaTree, ValueTree}
use Rattle.jh_form.specs.Tree as t
use Rattle.jh_arena.specs.table.Entries.{Pools, is_object, is_field, is_truth, the_object, the_field, the_truth, the_value}
use Rattle.jh_arena.specs.table.Nodes.{shape_tree}
use Rattle.jh_arena.specs.declared.table.shapes.Shape.{Shape}
use Rattle.jh_arena.specs.declared.table.shapes.Shape.TheVariants as s
use Rattle.jh_fca.specs.elimination.Constraints.{Constraint, is_name, is_variable, is_apart, constraint_in}
use Rattle.jh_fca.specs.elimination.Reads.{is_read}
use Rattle.jh_field_constraints.specs.Constraining.{in_field, in_read, in_implication, in_inner, in_body}
use Rattle.jh_field_constraints.specs.Reading.{is_object_read, is_along, is_atom}

module _ (p : Pools) (ts : List ValueTree) where
  -- what is said of the tree of a shape is said of what stands at the node
  pub value-as : {R : Type 0} (f : ValueTree → R) (o : Option ValueTree) (x y : Shape) (r : R) → o ≡ Some (shape_tree p ts x) → x ≡ y → r ≡ f (the_value (Some (shape_tree p ts y))) → r ≡ f (the_value o)
  value-as f o x y r at e h = h ∙ ap (λ z. f (the_value (Some (shape_tree p ts z)))) (sym e) ∙ ap (λ z. f (the_value z)) (sym at)

  pub field-as : {R : Type 0} (f : FieldTree → R) (o : Option ValueTree) (x y : Shape) (r : R) → o ≡ Some (shape_tree p ts x) → x ≡ y → r ≡ f (the_field (Some (shape_tree p ts y))) → r ≡ f (the_field o)
  field-as f o x y r at e h = h ∙ ap (λ z. f (the_field (Some (shape_tree p ts z)))) (sym e) ∙ ap (λ z. f (the_field z)) (sym at)

  pub object-as : {R : Type 0} (f : TermTree → R) (o : Option ValueTree) (x y : Shape) (r : R) → o ≡ Some (shape_tree p ts x) → x ≡ y → r ≡ f (the_object (Some (shape_tree p ts y))) → r ≡ f (the_object o)
  object-as f o x y r at e h = h ∙ ap (λ z. f (the_object (Some (shape_tree p ts z)))) (sym e) ∙ ap (λ z. f (the_object z)) (sym at)

  pub not-read : (f : Name) (x : Shape) → ((a b : ℕ) → x ≡ s.ReadObject a b → ⊥) → ((a b : ℕ) → x ≡ s.ReadNumber a b → ⊥) → ((a b : ℕ) → x ≡ s.ReadTruth a b → ⊥) → ((a b : ℕ) → x ≡ s.ReadSet a b → ⊥) → false ≡ is_read f (the_value (Some (shape_tree p ts x)))
  unfolding shape_tree the_value is_read
  not-read f (s.ReadObject a b) h1 h2 h3 h4 = absurd (h1 a b refl)
  not-read f (s.ReadNumber a b) h1 h2 h3 h4 = absurd (h2 a b refl)
  not-read f (s.ReadTruth a b) h1 h2 h3 h4 = absurd (h3 a b refl)
  not-read f (s.ReadSet a b) h1 h2 h3 h4 = absurd (h4 a b refl)
  not-read f _ h1 h2 h3 h4 = refl

  pub not-object-read : (f : Name) (x : Shape) → ((a b : ℕ) → x ≡ s.ReadObject a b → ⊥) → false ≡ is_object_read f (the_value (Some (shape_tree p ts x)))
  unfolding shape_tree the_value is_object_read
  not-object-read f (s.ReadObject a b) h = absurd (h a b refl)
  not-object-read f _ h = refl

  pub not-along : (f : Name) (x : Shape) → ((l a b : ℕ) → x ≡ s.Reach l a b → ⊥) → ((l : ℕ) → x ≡ s.Tree l → ⊥) → false ≡ is_along f (the_value (Some (shape_tree p ts x)))
  unfolding shape_tree the_value is_along
  not-along f (s.Reach l a b) h k = absurd (h l a b refl)
  not-along f (s.Tree l) h k = absurd (k l refl)
  not-along f _ h k = refl

  pub not-name : (f : Name) (x : Shape) → ((n : ℕ) → x ≡ s.FreeField n → ⊥) → is_field (Some (shape_tree p ts x)) ≡ true → false ≡ is_name f (the_field (Some (shape_tree p ts x)))
  unfolding shape_tree is_field the_field is_name
  not-name f (s.FreeField n) h k = absurd (h n refl)
  not-name f (s.Update a b c) h k = refl
  not-name f _ h k = absurd (true≢false (sym k))

  pub not-variable : (k : ℕ) (x : Shape) → ((n : ℕ) → x ≡ s.Bound n → ⊥) → is_object (Some (shape_tree p ts x)) ≡ true → false ≡ is_variable k (the_object (Some (shape_tree p ts x)))
  unfolding shape_tree is_object the_object is_variable
  not-variable k (s.Bound n) h e = absurd (h n refl)
  not-variable k (s.FreeObject n) h e = refl
  not-variable k s.Null h e = refl
  not-variable k (s.ReadObject a b) h e = refl
  not-variable k _ h e = absurd (true≢false (sym e))

  -- ---- no constraint

  no-all : (x : Shape) (a : FormulaTree) → ((n : ℕ) → x ≡ s.All n → ⊥) → shape_tree p ts x ≡ t.of_truth (t.all a) → ⊥
  unfolding shape_tree
  no-all (s.All n) a h e = h n refl
  no-all _ a h e = cc

  no-implies : (x : Shape) (a b : FormulaTree) → ((n m : ℕ) → x ≡ s.Implies n m → ⊥) → shape_tree p ts x ≡ t.of_truth (t.implies a b) → ⊥
  unfolding shape_tree
  no-implies (s.Implies n m) a b h e = h n m refl
  no-implies _ a b h e = cc

  pub no-equation : (x : Shape) (a b : TermTree) → ((n m : ℕ) → x ≡ s.EqObject n m → ⊥) → shape_tree p ts x ≡ t.of_truth (t.eq_object a b) → ⊥
  unfolding shape_tree
  no-equation (s.EqObject n m) a b h e = h n m refl
  no-equation _ a b h e = cc

  pub no-object-read : (x : Shape) (g : FieldTree) (a : TermTree) → ((n m : ℕ) → x ≡ s.ReadObject n m → ⊥) → shape_tree p ts x ≡ t.of_object (t.read_object g a) → ⊥
  unfolding shape_tree
  no-object-read (s.ReadObject n m) g a h e = h n m refl
  no-object-read _ g a h e = cc

  pub no-free-field : (x : Shape) (f : Name) → ((n : ℕ) → x ≡ s.FreeField n → ⊥) → shape_tree p ts x ≡ t.of_field (t.free_field f) → ⊥
  unfolding shape_tree
  no-free-field (s.FreeField n) f h e = h n refl
  no-free-field _ f h e = cc

  pub no-body : (x : Shape) (a : FormulaTree) → ((n : ℕ) → x ≡ s.All n → ⊥) → shape_tree p ts x ≡ t.of_truth a → in_body a ≡ None
  unfolding in_body
  no-body x (t.all a) h e = absurd (no-all x a h e)
  no-body x a h e = refl

  pub no-constraint : (x : Shape) (a : FormulaTree) → ((n : ℕ) → x ≡ s.All n → ⊥) → shape_tree p ts x ≡ t.of_truth a → constraint_in a ≡ None
  unfolding constraint_in
  no-constraint x (t.all a) h e = absurd (no-all x a h e)
  no-constraint x a h e = refl

  pub no-inner : (x : Shape) (a : FormulaTree) → ((n m : ℕ) → x ≡ s.Implies n m → ⊥) → shape_tree p ts x ≡ t.of_truth a → in_inner a ≡ None
  unfolding in_inner
  no-inner x (t.implies a b) h e = absurd (no-implies x a b h e)
  no-inner x a h e = refl

  pub no-implication : (x : Shape) (a q : FormulaTree) → ((n m : ℕ) → x ≡ s.EqObject n m → ⊥) → shape_tree p ts x ≡ t.of_truth a → in_implication a q ≡ None
  unfolding in_implication
  no-implication x (t.eq_object a b) q h e = absurd (no-equation x a b h e)
  no-implication x a q h e = refl

  pub no-read : (x : Shape) (a : TermTree) (q : FormulaTree) → ((n m : ℕ) → x ≡ s.ReadObject n m → ⊥) → shape_tree p ts x ≡ t.of_object a → in_read a q ≡ None
  unfolding in_read
  no-read x (t.read_object g a) q h e = absurd (no-object-read x g a h e)
  no-read x a q h e = refl

  pub no-field : (x : Shape) (g : FieldTree) (q : FormulaTree) → ((n : ℕ) → x ≡ s.FreeField n → ⊥) → shape_tree p ts x ≡ t.of_field g → in_field g q ≡ None
  unfolding in_field
  no-field x (t.free_field f) q h e = absurd (no-free-field x f h e)
  no-field x (t.update a b c) q h e = refl

  -- ---- atoms

  pub is-atom : (x : Shape) → ((a : ℕ) → x ≡ s.Negation a → ⊥) → ((a b : ℕ) → x ≡ s.And a b → ⊥) → ((a b : ℕ) → x ≡ s.Or a b → ⊥) → ((a b : ℕ) → x ≡ s.Implies a b → ⊥) → ((a b : ℕ) → x ≡ s.Iff a b → ⊥) →
      ((a : ℕ) → x ≡ s.All a → ⊥) → ((a : ℕ) → x ≡ s.Ex a → ⊥) → ((m a : ℕ) → x ≡ s.Mark m a → ⊥) → is_atom (the_truth (Some (shape_tree p ts x))) ≡ true
  unfolding shape_tree the_truth is_atom
  is-atom (s.Negation a) h1 h2 h3 h4 h5 h6 h7 h8 = absurd (h1 a refl)
  is-atom (s.And a b) h1 h2 h3 h4 h5 h6 h7 h8 = absurd (h2 a b refl)
  is-atom (s.Or a b) h1 h2 h3 h4 h5 h6 h7 h8 = absurd (h3 a b refl)
  is-atom (s.Implies a b) h1 h2 h3 h4 h5 h6 h7 h8 = absurd (h4 a b refl)
  is-atom (s.Iff a b) h1 h2 h3 h4 h5 h6 h7 h8 = absurd (h5 a b refl)
  is-atom (s.All a) h1 h2 h3 h4 h5 h6 h7 h8 = absurd (h6 a refl)
  is-atom (s.Ex a) h1 h2 h3 h4 h5 h6 h7 h8 = absurd (h7 a refl)
  is-atom (s.Mark m a) h1 h2 h3 h4 h5 h6 h7 h8 = absurd (h8 m a refl)
  is-atom _ h1 h2 h3 h4 h5 h6 h7 h8 = refl

-- ---- a constraint part by part

chosen : (u v w : Bool) (r : Option Constraint) → (if v then (if u then (if w then r else None) else None) else None) ≡ (if u && v && w then r else None)
chosen true true true r = refl
chosen true true false r = refl
chosen true false w r = refl
chosen false true w r = refl
chosen false false w r = refl

abbrev nothing : Option Constraint
nothing = None

none-if : (u v : Bool) → (if v then (if u then nothing else nothing) else nothing) ≡ nothing
none-if true true = refl
none-if false true = refl
none-if u false = refl

none-then : (v : Bool) → (if v then nothing else nothing) ≡ nothing
none-then true = refl
none-then false = refl

pub constraint-parts : (a : FormulaTree) → in_body a ≡ constraint_in (t.all a)
unfolding constraint_in in_body in_inner in_implication in_read in_field
constraint-parts (t.all (t.implies (t.eq_object (t.read_object (t.free_field f) x) y) q)) = chosen (is_variable 1 x) (is_variable 0 y) (is_apart f q) (Some (record { field = f; says = q }))
constraint-parts (t.all (t.implies (t.eq_object (t.read_object (t.update g b v) x) y) q)) = none-if (is_variable 1 x) (is_variable 0 y)
constraint-parts (t.all (t.implies (t.eq_object (t.bound k) y) q)) = none-then (is_variable 0 y)
constraint-parts (t.all (t.implies (t.eq_object (t.free_object x) y) q)) = none-then (is_variable 0 y)
constraint-parts (t.all (t.implies (t.eq_object t.null y) q)) = none-then (is_variable 0 y)
constraint-parts (t.all (t.implies a q)) = refl
constraint-parts (t.all a) = refl
constraint-parts a = refl
