-- Terms without loose bound variables have local shape once their updates have names.
use Rattle.std.proofs.Common.{◌≡◌, refl, sym, ap, ◌∙◌, ℕ, nat_lt, Bool, true, false, if◌then◌else◌, List, [], ◌∷◌, ◌++◌, length, Some, None, inl}
use Rattle.std.proofs.lemmas.Bool.{true≢false, lt-ltb}
use Rattle.jh_form.specs.Tree.{TermTree, FieldTree, ValueTree, FormulaTree}
use Rattle.jh_form.specs.Tree as t
use Rattle.jh_form.specs.Closed.{is_closed_term, is_closed_field}
use Rattle.jh_form.proofs.ClosedLemmas.{both-left, both-right}
use Rattle.jh_normal_forms.specs.declared.parts.order.Order.TheVariants as order
use Rattle.jh_normal_forms.specs.parts.Standing.{term_parts, field_parts}
use Rattle.jh_substitution.specs.rewriting.Rewritten.{object_or, field_or, rewritten_term, rewritten_field, rewritten_value}
use Rattle.jh_seq.specs.splitting.Local.{is_field_name, is_local_term}
use Rattle.jh_approx.specs.definition.Names.{place_in}
use Rattle.jh_fca.specs.local_form.Named.{is_whole_update, name_of, naming}
use Rattle.jh_fca.proofs.local_form.Among.{Among, among-left, among-right}
use Rattle.jh_fca.proofs.local_form.Bare.{both-true}
use Rattle.jh_fca.proofs.local_form.Naming.{place-within}

-- each update of a list that gets a name is one of those that have names
abbrev pub AreNamed : List ValueTree → List ValueTree → Type 0
AreNamed us vs = (v : ValueTree) → Among v vs → is_whole_update v ≡ true → Among v us

module _ (us : List ValueTree) (k : ℕ) where
  left-named : (xs ys : List ValueTree) → AreNamed us (xs ++ ys) → AreNamed us xs
  left-named xs ys h v m = h v (among-left v xs ys m)

  right-named : (xs ys : List ValueTree) → AreNamed us (xs ++ ys) → AreNamed us ys
  right-named xs ys h v m = h v (among-right v xs ys m)

  name-stands : (c : Bool) (v : ValueTree) (f : FieldTree) → c ≡ true → is_field_name (field_or (if c then Some (t.of_field (t.free_field (name_of us k v))) else None) f) ≡ true
  unfolding field_or
  name-stands true v f h = refl
  name-stands false v f h = absurd (true≢false (sym h))

  pub field-name : (f : FieldTree) → is_closed_field f 0 ≡ true → AreNamed us (field_parts f order.InnerFirst) → is_field_name (rewritten_field f (naming us k) 0) ≡ true
  unfolding rewritten_field field_parts is_whole_update
  field-name (t.free_field x) closed h = refl
  field-name (t.update f a v) closed h =
      let u = t.of_field (t.update f a v) in
      let has : Among u us = h u (among-right u _ (u ∷ []) (inl refl)) closed in
      name-stands (nat_lt (place_in us u) (length us)) u (t.update (rewritten_field f (naming us k) 0) (rewritten_term a (naming us k) 0) (rewritten_value v (naming us k) 0)) (lt-ltb (place_in us u) (length us) (place-within us u has))

  same-object : (c : Bool) (v : ValueTree) (a : TermTree) → object_or (if c then Some (t.of_field (t.free_field (name_of us k v))) else None) a ≡ a
  unfolding object_or
  same-object true v a = refl
  same-object false v a = refl

  pub term-spine : (a : TermTree) → is_closed_term a 0 ≡ true → AreNamed us (term_parts a order.InnerFirst) → is_local_term (rewritten_term a (naming us k) 0) ≡ true
  unfolding rewritten_term term_parts is_closed_term
  term-spine (t.bound j) closed h = refl
  term-spine (t.free_object x) closed h = refl
  term-spine t.null closed h = ap is_local_term (same-object (nat_lt (place_in us (t.of_object t.null)) (length us)) (t.of_object t.null) t.null)
  term-spine (t.read_object f a) closed h =
      let u = t.of_object (t.read_object f a) in
      let inside : AreNamed us (field_parts f order.InnerFirst ++ term_parts a order.InnerFirst) = left-named (field_parts f order.InnerFirst ++ term_parts a order.InnerFirst) (u ∷ []) h in
      ap is_local_term (same-object (nat_lt (place_in us u) (length us)) u (t.read_object (rewritten_field f (naming us k) 0) (rewritten_term a (naming us k) 0)))
      ∙ both-true (is_field_name (rewritten_field f (naming us k) 0)) (is_local_term (rewritten_term a (naming us k) 0))
      (field-name f (both-left (is_closed_field f 0) (is_closed_term a 0) closed) (left-named (field_parts f order.InnerFirst) (term_parts a order.InnerFirst) inside))
      (term-spine a (both-right (is_closed_field f 0) (is_closed_term a 0) closed) (right-named (field_parts f order.InnerFirst) (term_parts a order.InnerFirst) inside))
