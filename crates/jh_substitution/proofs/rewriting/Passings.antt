-- Written by tools/rewrite.py.
-- The free names of a shape's tree pass a test: at a part that is no leaf exactly where those of its parts do, and at a leaf
-- where its own does.
use Rattle.std.proofs.Common.{◌≡◌, refl, sym, ap, ◌∙◌, ℕ, ◌<◌, Bool, true, false, ◌&&◌, List, length, slice_get, Option, Some, None, is_some}
use Rattle.std.proofs.lemmas.Bool.{true≢false}
use Rattle.std.proofs.lemmas.Option.{slice_get_within}
use Rattle.jh_name.specs.declared.naming.Name.{Name}
use Rattle.jh_name.specs.declared.place.Sort as place
use Rattle.jh_name.specs.declared.place.Sort.TheVariants as Sort
use Rattle.jh_form.specs.Tree.{ValueTree}
use Rattle.jh_form.specs.Passing.{term_passes, int_passes, set_passes, field_passes, value_passes, formula_passes}
use Rattle.jh_arena.specs.table.Entries.{Pools, the_name}
use Rattle.jh_arena.specs.table.Facing.{own_passes, all_pass}
use Rattle.jh_arena.specs.table.Nodes.{fits, shape_tree}
use Rattle.jh_arena.specs.table.Parts.{parts}
use Rattle.jh_arena.specs.declared.table.shapes.Shape.{Shape}
use Rattle.jh_arena.specs.declared.table.shapes.Shape.TheVariants as s
use Rattle.jh_arena.proofs.table.ShapePasses.{passes-shape}
use Rattle.jh_substitution.specs.rewriting.Leaf.{is_leaf}

some-name : (xs : List Name) (n : ℕ) (o : Option Name) → slice_get xs n ≡ o → is_some o ≡ true → n < length xs
some-name xs n (Some v) e h = slice_get_within xs n v e
some-name xs n None e h = absurd (true≢false (sym h))

name-within : (xs : List Name) (n : ℕ) → is_some (slice_get xs n) ≡ true → n < length xs
name-within xs n h = some-name xs n (slice_get xs n) refl h

own-passes : (p : Pools) (q : Name → place.Sort → Bool) (x : Shape) → is_leaf x ≡ false → own_passes p x q ≡ true
unfolding is_leaf own_passes
own-passes p q (s.FreeObject n) leaf = absurd (true≢false leaf)
own-passes p q (s.FreeNumber n) leaf = absurd (true≢false leaf)
own-passes p q (s.FreeTruth n) leaf = absurd (true≢false leaf)
own-passes p q (s.FreeSet n) leaf = absurd (true≢false leaf)
own-passes p q (s.FreeField n) leaf = absurd (true≢false leaf)
own-passes p q _ leaf = refl

module _ (p : Pools) (ts : List ValueTree) (q : Name → place.Sort → Bool) where
  pub passes-parts : (x : Shape) → is_leaf x ≡ false → fits p ts x ≡ true → value_passes (shape_tree p ts x) q ≡ all_pass q ts (parts p.lists x)
  passes-parts x leaf h = passes-shape p ts q x h ∙ ap (λ b. b && all_pass q ts (parts p.lists x)) (own-passes p q x leaf)

  pub object-named : (x : Shape) (n : ℕ) → x ≡ s.FreeObject n → fits p ts x ≡ true → n < length p.names
  unfolding fits
  object-named x n e h = name-within p.names n (ap (fits p ts) (sym e) ∙ h)

  pub object-asked : (x : Shape) (n : ℕ) (y : Name) (r : Bool) → x ≡ s.FreeObject n → slice_get p.names n ≡ Some y → r ≡ q y Sort.Obj → r ≡ value_passes (shape_tree p ts x) q
  unfolding shape_tree the_name term_passes value_passes
  object-asked x n y r e named asked = asked ∙ ap (λ o. q (the_name o) Sort.Obj) (sym named) ∙ ap (λ z. value_passes (shape_tree p ts z) q) (sym e)

  pub number-named : (x : Shape) (n : ℕ) → x ≡ s.FreeNumber n → fits p ts x ≡ true → n < length p.names
  unfolding fits
  number-named x n e h = name-within p.names n (ap (fits p ts) (sym e) ∙ h)

  pub number-asked : (x : Shape) (n : ℕ) (y : Name) (r : Bool) → x ≡ s.FreeNumber n → slice_get p.names n ≡ Some y → r ≡ q y Sort.Int → r ≡ value_passes (shape_tree p ts x) q
  unfolding shape_tree the_name int_passes value_passes
  number-asked x n y r e named asked = asked ∙ ap (λ o. q (the_name o) Sort.Int) (sym named) ∙ ap (λ z. value_passes (shape_tree p ts z) q) (sym e)

  pub truth-named : (x : Shape) (n : ℕ) → x ≡ s.FreeTruth n → fits p ts x ≡ true → n < length p.names
  unfolding fits
  truth-named x n e h = name-within p.names n (ap (fits p ts) (sym e) ∙ h)

  pub truth-asked : (x : Shape) (n : ℕ) (y : Name) (r : Bool) → x ≡ s.FreeTruth n → slice_get p.names n ≡ Some y → r ≡ q y Sort.Bool → r ≡ value_passes (shape_tree p ts x) q
  unfolding shape_tree the_name formula_passes value_passes
  truth-asked x n y r e named asked = asked ∙ ap (λ o. q (the_name o) Sort.Bool) (sym named) ∙ ap (λ z. value_passes (shape_tree p ts z) q) (sym e)

  pub set-named : (x : Shape) (n : ℕ) → x ≡ s.FreeSet n → fits p ts x ≡ true → n < length p.names
  unfolding fits
  set-named x n e h = name-within p.names n (ap (fits p ts) (sym e) ∙ h)

  pub set-asked : (x : Shape) (n : ℕ) (y : Name) (r : Bool) → x ≡ s.FreeSet n → slice_get p.names n ≡ Some y → r ≡ q y Sort.Set → r ≡ value_passes (shape_tree p ts x) q
  unfolding shape_tree the_name set_passes value_passes
  set-asked x n y r e named asked = asked ∙ ap (λ o. q (the_name o) Sort.Set) (sym named) ∙ ap (λ z. value_passes (shape_tree p ts z) q) (sym e)

  pub field-named : (x : Shape) (n : ℕ) → x ≡ s.FreeField n → fits p ts x ≡ true → n < length p.names
  unfolding fits
  field-named x n e h = name-within p.names n (ap (fits p ts) (sym e) ∙ h)

  pub field-asked : (x : Shape) (n : ℕ) (y : Name) (r : Bool) → x ≡ s.FreeField n → slice_get p.names n ≡ Some y → r ≡ q y Sort.Field → r ≡ value_passes (shape_tree p ts x) q
  unfolding shape_tree the_name field_passes value_passes
  field-asked x n y r e named asked = asked ∙ ap (λ o. q (the_name o) Sort.Field) (sym named) ∙ ap (λ z. value_passes (shape_tree p ts z) q) (sym e)

  pub bound-asked : (x : Shape) → is_leaf x ≡ true → ((n : ℕ) → x ≡ s.FreeObject n → ⊥) → ((n : ℕ) → x ≡ s.FreeNumber n → ⊥) → ((n : ℕ) → x ≡ s.FreeTruth n → ⊥) → ((n : ℕ) → x ≡ s.FreeSet n → ⊥) → ((n : ℕ) → x ≡ s.FreeField n → ⊥) → true ≡ value_passes (shape_tree p ts x) q
  unfolding is_leaf shape_tree term_passes value_passes
  bound-asked (s.Bound k) leaf a b c d e = refl
  bound-asked (s.FreeObject n) leaf a b c d e = absurd (a n refl)
  bound-asked (s.FreeNumber n) leaf a b c d e = absurd (b n refl)
  bound-asked (s.FreeTruth n) leaf a b c d e = absurd (c n refl)
  bound-asked (s.FreeSet n) leaf a b c d e = absurd (d n refl)
  bound-asked (s.FreeField n) leaf a b c d e = absurd (e n refl)
  bound-asked _ leaf a b c d e = absurd (true≢false (sym leaf))
