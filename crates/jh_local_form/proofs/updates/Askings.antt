-- Which shapes are asked for as updates, and what lies under them.
use Rattle.std.proofs.Common.{◌≡◌, refl, sym, ap, subst, ◌∙◌, ℕ, ◌<◌, Bool, true, false, List, length, slice_get, Option, Some, None}
use Rattle.std.proofs.lemmas.Bool.{true≢false}
use Rattle.std.proofs.lemmas.Option.{slice_get_within}
use Rattle.jh_name.specs.declared.naming.Name.{Name}
use Rattle.jh_form.specs.Tree.{ValueTree, of_field, free_field}
use Rattle.jh_form.specs.Closed.{is_closed_value}
use Rattle.jh_arena.specs.table.Entries.{Pools, is_field, the_field, the_name, the_value}
use Rattle.jh_arena.specs.table.Nodes.{shape_tree}
use Rattle.jh_arena.specs.declared.table.shapes.Shape.{Shape}
use Rattle.jh_arena.specs.declared.table.shapes.Shape.TheVariants as s
use Rattle.jh_arena.specs.table.Parts.{list_parts, own_parts, ArePartsBelow}
use Rattle.jh_fca.specs.local_form.Named.{is_whole_update, text_under}

-- a field that is a name
unfoldable pub is_name_tree : ValueTree → Bool
is_name_tree (of_field (free_field x)) = true
is_name_tree v = false

module _ (p : Pools) (ts : List ValueTree) where
  -- an update is asked for where it is closed
  pub whole-of : (o : Option ValueTree) (x : Shape) (a b c : ℕ) (r : Bool) → o ≡ Some (shape_tree p ts x) → x ≡ s.Update a b c → r ≡ is_closed_value (the_value o) 0 → r ≡ is_whole_update (the_value o)
  unfolding shape_tree the_value is_whole_update is_closed_value
  whole-of o x a b c r at e h =
      h ∙ ap (λ z. is_closed_value (the_value z) 0) at ∙ ap (λ y. is_closed_value (the_value (Some (shape_tree p ts y))) 0) e
      ∙ ap (λ y. is_whole_update (the_value (Some (shape_tree p ts y)))) (sym e) ∙ ap (λ z. is_whole_update (the_value z)) (sym at)

  -- nothing else is
  pub not-update : (x : Shape) → ((a b c : ℕ) → x ≡ s.Update a b c → ⊥) → false ≡ is_whole_update (the_value (Some (shape_tree p ts x)))
  unfolding shape_tree the_value is_whole_update
  not-update (s.Update a b c) h = absurd (h a b c refl)
  not-update _ h = refl

  pub else-of : (o : Option ValueTree) (x : Shape) → o ≡ Some (shape_tree p ts x) → ((a b c : ℕ) → x ≡ s.Update a b c → ⊥) → false ≡ is_whole_update (the_value o)
  else-of o x at h = not-update x h ∙ ap (λ z. is_whole_update (the_value z)) (sym at)

  -- a field is an update or a name
  pub field-else : (x : Shape) → ((a b c : ℕ) → x ≡ s.Update a b c → ⊥) → is_field (Some (shape_tree p ts x)) ≡ true → (y : Name) × (Some (shape_tree p ts x) ≡ Some (of_field (free_field y)))
  unfolding shape_tree is_field
  field-else (s.Update a b c) h k = absurd (h a b c refl)
  field-else (s.FreeField n) h k = (the_name (slice_get p.names n), refl)
  field-else _ h k = absurd (true≢false (sym k))

  pub text-inner : (o : Option ValueTree) (x : Shape) (a b c : ℕ) → o ≡ Some (shape_tree p ts x) → x ≡ s.Update a b c → text_under (the_field o) ≡ text_under (the_field (slice_get ts a))
  unfolding shape_tree the_field text_under
  text-inner o x a b c at e = ap (λ z. text_under (the_field z)) at ∙ ap (λ y. text_under (the_field (Some (shape_tree p ts y)))) e

  -- what is a name is one by its shape
  pub name-else : (x : Shape) → ((n : ℕ) → x ≡ s.FreeField n → ⊥) → is_name_tree (shape_tree p ts x) ≡ false
  unfolding shape_tree is_name_tree
  name-else (s.FreeField n) h = absurd (h n refl)
  name-else _ h = refl

-- the field that an update updates stands before it
pub first-below : (n : ℕ) (lists : List (List ℕ)) (x : Shape) (a b c : ℕ) → x ≡ s.Update a b c → ArePartsBelow n lists x → a < n
unfolding list_parts own_parts
first-below n lists x a b c e h = (subst (λ (y : Shape). ArePartsBelow n lists y) e h).below 0 a refl

some-inside : (ts : List ValueTree) (n : ℕ) (o : Option ValueTree) → slice_get ts n ≡ o → is_field o ≡ true → n < length ts
unfolding is_field
some-inside ts n (Some v) e h = slice_get_within ts n v e
some-inside ts n None e h = absurd (true≢false (sym h))

pub field-inside : (ts : List ValueTree) (n : ℕ) → is_field (slice_get ts n) ≡ true → n < length ts
field-inside ts n h = some-inside ts n (slice_get ts n) refl h

pub name-tree : (o : Option ValueTree) (p : Pools) (ts : List ValueTree) (x : Shape) (y : Name) → o ≡ Some (of_field (free_field y)) → o ≡ Some (shape_tree p ts x) → is_name_tree (shape_tree p ts x) ≡ true
unfolding is_name_tree the_value
name-tree o p ts x y e at = ap (λ z. is_name_tree (the_value z)) (sym at ∙ e)

pub text-name : (p : Pools) (ts : List ValueTree) (o : Option ValueTree) (x : Shape) (n : ℕ) (y : Name) → o ≡ Some (shape_tree p ts x) → x ≡ s.FreeField n → slice_get p.names n ≡ Some y → text_under (the_field o) ≡ y.text
unfolding shape_tree the_field text_under the_name
text-name p ts o x n y at e named =
    ap (λ z. text_under (the_field z)) at ∙ ap (λ w. text_under (the_field (Some (shape_tree p ts w)))) e ∙ ap (λ z. (the_name z).text) named
