-- What has no local form, by the shape of a node; and whether a list of parts has any.
use Rattle.std.proofs.Common.{◌≡◌, refl, sym, ap, ◌∙◌, ℕ, suc, Bool, true, false, not, ◌||◌, if◌then◌else◌, nat_eq, List, [], ◌∷◌, ◌++◌, ℤ, length, map, Option, Some, slice_get, arith}
use Rattle.std.specs.List.{list_any, filter}
use Rattle.std.proofs.lemmas.Bool.{true≢false, eqb-true}
use Rattle.indexmap.specs.IndexSet.{insert_key, insert_all}
use Rattle.jh_form.specs.Tree.{ValueTree}
use Rattle.jh_arena.specs.table.Entries.{Pools, is_number, the_number, the_value}
use Rattle.jh_arena.specs.table.Nodes.{shape_tree}
use Rattle.jh_arena.specs.declared.table.shapes.Shape.{Shape}
use Rattle.jh_arena.specs.declared.table.shapes.Shape.TheVariants as s
use Rattle.jh_normal_forms.specs.parts.Collected.{IsCollected}
use Rattle.jh_fca.specs.cutting.Cut.{is_simple, is_foreign}

module _ (p : Pools) (ts : List ValueTree) where
  pub foreign-of : (o : Option ValueTree) (x y : Shape) (r : Bool) → o ≡ Some (shape_tree p ts x) → x ≡ y → r ≡ is_foreign (the_value (Some (shape_tree p ts y))) → r ≡ is_foreign (the_value o)
  foreign-of o x y r at e h = h ∙ ap (λ z. is_foreign (the_value (Some (shape_tree p ts z)))) (sym e) ∙ ap (λ z. is_foreign (the_value z)) (sym at)

  pub not-foreign : (x : Shape) → ((a b v : ℕ) → x ≡ s.Update a b v → ⊥) → ((a b : ℕ) → x ≡ s.Less a b → ⊥) → ((a b : ℕ) → x ≡ s.LessEqual a b → ⊥) → ((z : ℤ) (a : ℕ) → x ≡ s.Divides z a → ⊥) → ((a b : ℕ) → x ≡ s.EqNumber a b → ⊥) →
      false ≡ is_foreign (the_value (Some (shape_tree p ts x)))
  unfolding shape_tree the_value is_foreign
  not-foreign (s.Bound k) h1 h2 h3 h4 h5 = refl
  not-foreign (s.FreeObject n) h1 h2 h3 h4 h5 = refl
  not-foreign s.Null h1 h2 h3 h4 h5 = refl
  not-foreign (s.ReadObject a b) h1 h2 h3 h4 h5 = refl
  not-foreign (s.Const z) h1 h2 h3 h4 h5 = refl
  not-foreign (s.FreeNumber n) h1 h2 h3 h4 h5 = refl
  not-foreign (s.ReadNumber a b) h1 h2 h3 h4 h5 = refl
  not-foreign (s.Add a b) h1 h2 h3 h4 h5 = refl
  not-foreign (s.Sub a b) h1 h2 h3 h4 h5 = refl
  not-foreign (s.Neg a) h1 h2 h3 h4 h5 = refl
  not-foreign (s.Scale z a) h1 h2 h3 h4 h5 = refl
  not-foreign (s.Card a) h1 h2 h3 h4 h5 = refl
  not-foreign (s.FreeSet n) h1 h2 h3 h4 h5 = refl
  not-foreign (s.ReadSet a b) h1 h2 h3 h4 h5 = refl
  not-foreign s.Empty h1 h2 h3 h4 h5 = refl
  not-foreign s.Univ h1 h2 h3 h4 h5 = refl
  not-foreign (s.Single a) h1 h2 h3 h4 h5 = refl
  not-foreign (s.Union a b) h1 h2 h3 h4 h5 = refl
  not-foreign (s.Inter a b) h1 h2 h3 h4 h5 = refl
  not-foreign (s.Diff a b) h1 h2 h3 h4 h5 = refl
  not-foreign (s.Compl a) h1 h2 h3 h4 h5 = refl
  not-foreign (s.Compr a) h1 h2 h3 h4 h5 = refl
  not-foreign (s.FreeField n) h1 h2 h3 h4 h5 = refl
  not-foreign (s.Update a b v) h1 h2 h3 h4 h5 = absurd (h1 a b v refl)
  not-foreign s.True h1 h2 h3 h4 h5 = refl
  not-foreign s.False h1 h2 h3 h4 h5 = refl
  not-foreign (s.FreeTruth n) h1 h2 h3 h4 h5 = refl
  not-foreign (s.ReadTruth a b) h1 h2 h3 h4 h5 = refl
  not-foreign (s.Negation a) h1 h2 h3 h4 h5 = refl
  not-foreign (s.And a b) h1 h2 h3 h4 h5 = refl
  not-foreign (s.Or a b) h1 h2 h3 h4 h5 = refl
  not-foreign (s.Implies a b) h1 h2 h3 h4 h5 = refl
  not-foreign (s.Iff a b) h1 h2 h3 h4 h5 = refl
  not-foreign (s.All a) h1 h2 h3 h4 h5 = refl
  not-foreign (s.Ex a) h1 h2 h3 h4 h5 = refl
  not-foreign (s.EqObject a b) h1 h2 h3 h4 h5 = refl
  not-foreign (s.EqNumber a b) h1 h2 h3 h4 h5 = absurd (h5 a b refl)
  not-foreign (s.EqSet a b) h1 h2 h3 h4 h5 = refl
  not-foreign (s.Less a b) h1 h2 h3 h4 h5 = absurd (h2 a b refl)
  not-foreign (s.LessEqual a b) h1 h2 h3 h4 h5 = absurd (h3 a b refl)
  not-foreign (s.Divides z a) h1 h2 h3 h4 h5 = absurd (h4 z a refl)
  not-foreign (s.Member a b) h1 h2 h3 h4 h5 = refl
  not-foreign (s.Subset a b) h1 h2 h3 h4 h5 = refl
  not-foreign (s.Reach l a b) h1 h2 h3 h4 h5 = refl
  not-foreign (s.Tree l) h1 h2 h3 h4 h5 = refl
  not-foreign (s.Mark m a) h1 h2 h3 h4 h5 = refl

  pub simple-of : (o : Option ValueTree) (x y : Shape) (r : Bool) → o ≡ Some (shape_tree p ts x) → x ≡ y → r ≡ is_simple (the_number (Some (shape_tree p ts y))) → r ≡ is_simple (the_number o)
  simple-of o x y r at e h = h ∙ ap (λ z. is_simple (the_number (Some (shape_tree p ts z)))) (sym e) ∙ ap (λ z. is_simple (the_number z)) (sym at)

  pub not-simple : (x : Shape) → ((z : ℤ) → x ≡ s.Const z → ⊥) → ((n : ℕ) → x ≡ s.FreeNumber n → ⊥) → ((a b : ℕ) → x ≡ s.ReadNumber a b → ⊥) → is_number (Some (shape_tree p ts x)) ≡ true → false ≡ is_simple (the_number (Some (shape_tree p ts x)))
  unfolding shape_tree is_number the_number is_simple
  not-simple (s.Const z) h1 h2 h3 h = absurd (h1 z refl)
  not-simple (s.FreeNumber n) h1 h2 h3 h = absurd (h2 n refl)
  not-simple (s.ReadNumber a b) h1 h2 h3 h = absurd (h3 a b refl)
  not-simple (s.Add a b) h1 h2 h3 h = refl
  not-simple (s.Sub a b) h1 h2 h3 h = refl
  not-simple (s.Neg a) h1 h2 h3 h = refl
  not-simple (s.Scale z a) h1 h2 h3 h = refl
  not-simple (s.Card a) h1 h2 h3 h = refl
  not-simple _ h1 h2 h3 h = absurd (true≢false (sym h))

-- ---- whether a list of parts has any

abbrev is_none : {X : Type 0} → List X → Bool
is_none [] = true
is_none (x ∷ xs) = false

more-than-none : (n : ℕ) (b : Bool) → nat_eq (suc n) 0 ≡ b → b ≡ false
more-than-none n true e = absurd (let h : suc n ≡ 0 = eqb-true (suc n) 0 e in omega (arith, h))
more-than-none n false e = refl

none-length : {X : Type 0} (xs : List X) → nat_eq (length xs) 0 ≡ is_none xs
none-length [] = refl
none-length (x ∷ xs) = more-than-none (length xs) (nat_eq (suc (length xs)) 0) refl

any-if : (p : ValueTree → Bool) (c : Bool) (v : ValueTree) (vs : List ValueTree) → list_any p vs ≡ not (is_none (filter p vs)) → (c || list_any p vs) ≡ not (is_none (if c then v ∷ filter p vs else filter p vs))
any-if p true v vs h = refl
any-if p false v vs h = h

any-filter : (p : ValueTree → Bool) (vs : List ValueTree) → list_any p vs ≡ not (is_none (filter p vs))
any-filter p [] = refl
any-filter p (v ∷ vs) = any-if p (p v) v vs (any-filter p vs)

none-map : {X Y : Type 0} (f : X → Y) (xs : List X) → is_none (map f xs) ≡ is_none xs
none-map f [] = refl
none-map f (x ∷ xs) = refl

some-if : (b : Bool) (k : ℕ) (ks : List ℕ) → is_none ks ≡ false → is_none (if b then ks else ks ++ k ∷ []) ≡ false
some-if true k ks h = h
some-if false k [] h = refl
some-if false k (x ∷ ks) h = refl

some-all : (ks ns : List ℕ) → is_none ks ≡ false → is_none (insert_all nat_eq ks ns) ≡ false
some-all ks [] h = h
some-all ks (n ∷ ns) h = some-all (insert_key nat_eq ks n) ns (some-if (list_any (nat_eq n) ks) n ks h)

none-all : (ns : List ℕ) → is_none (insert_all nat_eq [] ns) ≡ is_none ns
none-all [] = refl
none-all (n ∷ ns) = some-all (n ∷ []) ns refl

-- the list to which the parts were added has a node exactly where a part passes
pub any-collected : (ts : List ValueTree) (p : ValueTree → Bool) (vs : List ValueTree) (list : List ℕ) → IsCollected ts [] (filter p vs) list → not (nat_eq (length list) 0) ≡ list_any p vs
any-collected ts p vs list h =
    ap not (none-length list ∙ ap is_none h.added ∙ none-all h.numbers ∙ sym (none-map (slice_get ts) h.numbers) ∙ ap is_none h.are ∙ none-map (λ v. Some v) (filter p vs))
    ∙ sym (any-filter p vs)
