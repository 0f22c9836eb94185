-- Where the names of updates have the updates' values, a formula with the names means what it means without them.
use Rattle.std.proofs.Common.{◌≡◌, refl, sym, ap, ◌∙◌, ℕ, suc, ◌+◌, ◌<◌, nat_lt, Bool, true, false, if◌then◌else◌, List, [], ◌∷◌, length, Option, Some, None, ◌⊎◌, inl, inr, arith}
use Rattle.std.proofs.lemmas.Bool.{true≢false, ltb-true}
use Rattle.std.specs.List.{flat_map}
use Rattle.jh_name.specs.declared.naming.Name.{Name}
use Rattle.jh_form.specs.Tree.{TermTree, FieldTree, ValueTree, FormulaTree}
use Rattle.jh_form.specs.Tree as t
use Rattle.jh_form.specs.Passing.{name_equal, value_passes, formula_passes}
use Rattle.jh_form.specs.Meaning.{Fields, Datum, a_field, Interp, InUniverse, updated, term_value, field_value, datum, truth}
use Rattle.jh_form.specs.Agreement.{AgreeOn}
use Rattle.jh_form.proofs.ClosedLemmas.{field_value-closed}
use Rattle.jh_form.proofs.Coincidences.{field_value-agrees, truth-agrees}
use Rattle.jh_form.proofs.Names.{name_equal-same, name_equal-true}
use Rattle.jh_form.proofs.Universes.{field_inside}
use Rattle.jh_boxed.specs.Kept.{Keeps}
use Rattle.jh_boxed.specs.Mapped.{unchanged}
use Rattle.jh_boxed_operations.specs.comparison.Exchanged.{equal_trees}
use Rattle.jh_boxed_operations.proofs.comparison.Equalities.{equal_trees-true, equal_trees-same}
use Rattle.jh_substitution.specs.rewriting.Rewritten.{KeepsWholes, rewritten_term, rewritten_field, rewritten_value}
use Rattle.jh_substitution.proofs.rewriting.Meanings.{term_value-rewritten, field_value-rewritten, datum-rewritten, truth-rewritten}
use Rattle.jh_seq.specs.splitting.Split.{before}
use Rattle.jh_approx.specs.definition.Names.{place_in}
use Rattle.jh_fca.specs.local_form.Named.{is_whole_update, name_of, naming, named, update_fact, update_facts}
use Rattle.jh_fca.proofs.local_form.Among.{Among}
use Rattle.jh_fca.proofs.local_form.Described.{described-hold}
use Rattle.jh_fca.proofs.local_form.Holding.{AllHold, hold-both}

sure : (b : Bool) → (b ≡ true) ⊎ (b ≡ false)
sure true = inl refl
sure false = inr refl

-- ---- places in a list

found-later : (w v : ValueTree) (ws : List ValueTree) → (w ≡ v) ⊎ Among v ws → equal_trees w v ≡ false → Among v ws
found-later w v ws (inl e) h = absurd (true≢false (sym (equal_trees-same w v e) ∙ h))
found-later w v ws (inr k) h = k

place-if : (b : Bool) (n l : ℕ) → (b ≡ false → n < l) → (if b then 0 else n + 1) < suc l
place-if true n l h = omega arith
place-if false n l h = let lt : n < l = h refl in omega (arith, lt)

-- what is in the list has a place there
pub place-within : (us : List ValueTree) (v : ValueTree) → Among v us → place_in us v < length us
unfolding place_in
place-within [] v h = absurd h
place-within (u ∷ us) v h = place-if (equal_trees u v) (place_in us v) (length us) (λ e. place-within us v (found-later u v us h e))

there-if : (u v : ValueTree) (us : List ValueTree) (b : Bool) → (b ≡ true → u ≡ v) → (place_in us v < length us → Among v us) → (if b then 0 else place_in us v + 1) < suc (length us) → (u ≡ v) ⊎ Among v us
there-if u v us true h f lt = inl (h refl)
there-if u v us false h f lt = inr (f (omega (arith, lt)))

-- and what has a place in the list is there
pub within-among : (us : List ValueTree) (v : ValueTree) → place_in us v < length us → Among v us
unfolding place_in
within-among [] v lt = absurd (omega (arith, lt))
within-among (u ∷ us) v lt = there-if u v us (equal_trees u v) (equal_trees-true u v) (within-among us v) lt

one-if : (u v w : ValueTree) (us : List ValueTree) (b c : Bool) → (b ≡ true → u ≡ v) → (c ≡ true → u ≡ w) →
    (place_in us v ≡ place_in us w → place_in us v < length us → v ≡ w) →
    (if b then 0 else place_in us v + 1) ≡ (if c then 0 else place_in us w + 1) → (if b then 0 else place_in us v + 1) < suc (length us) → v ≡ w
one-if u v w us true true h k f same lt = sym (h refl) ∙ k refl
one-if u v w us true false h k f same lt = absurd (omega (arith, same))
one-if u v w us false true h k f same lt = absurd (omega (arith, same))
one-if u v w us false false h k f same lt = f (omega (arith, same)) (omega (arith, lt))

-- what has one place is one
pub place-one : (us : List ValueTree) (v w : ValueTree) → place_in us v ≡ place_in us w → place_in us v < length us → v ≡ w
unfolding place_in
place-one [] v w same lt = absurd (omega (arith, lt))
place-one (u ∷ us) v w same lt = one-if u v w us (equal_trees u v) (equal_trees u w) (equal_trees-true u v) (equal_trees-true u w) (place-one us v w) same lt

-- ---- the interpretation in which each name has its update's value

pub the_field : Datum → Fields → Fields
the_field (a_field f) g = f
the_field d g = g

-- an update of the list: it holds no variable bound outside it, and no name with a turn from k on
pub record IsNamed (k : ℕ) (v : ValueTree) : Type 0 where
  pub whole : is_whole_update v ≡ true
  pub early : value_passes v (before k) ≡ true

module _ (us : List ValueTree) (k : ℕ) (m : Interp) (all : (v : ValueTree) → Among v us → IsNamed k v) where
  pub field_for : List ValueTree → Name → Fields
  field_for [] x = m.field x
  field_for (v ∷ vs) x = if name_equal x (name_of us k v) then the_field (datum v m []) (m.field x) else field_for vs x

  abbrev pub with_updates : Interp
  with_updates = record m { field = field_for us }

  -- a name before turn k is none of theirs
  old-if : (b : Bool) (x : Name) (v : ValueTree) (f : Fields) → (b ≡ true → x ≡ name_of us k v) → nat_lt x.turn k ≡ true → f ≡ m.field x → (if b then the_field (datum v m []) (m.field x) else f) ≡ m.field x
  old-if true x v f h lt same =
      let turns : x.turn ≡ k + place_in us v = ap (λ y. y.turn) (h refl) in
      let less : x.turn < k = ltb-true x.turn k lt in
      absurd (omega (arith, turns, less))
  old-if false x v f h lt same = same

  old-field : (vs : List ValueTree) (x : Name) → nat_lt x.turn k ≡ true → field_for vs x ≡ m.field x
  unfolding field_for
  old-field [] x lt = refl
  old-field (v ∷ vs) x lt = old-if (name_equal x (name_of us k v)) x v (field_for vs x) (name_equal-true x (name_of us k v)) lt (old-field vs x lt)

  pub with-agree : AgreeOn (before k) with_updates m
  with-agree = record {
    last = refl;
    object = λ x h. refl;
    number = λ x h. refl;
    truth = λ x h. refl;
    set = λ x h. refl;
    field = λ x h. old-field us x h;
  }

  the-inside : InUniverse m → (v : ValueTree) (f : Fields) → ((a : ℕ) → a < suc m.last → f.objects a < suc m.last) → (a : ℕ) → a < suc m.last → (the_field (datum v m []) f).objects a < suc m.last
  unfolding the_field
  the-inside inside (t.of_object v) f h a lt = h a lt
  the-inside inside (t.of_number v) f h a lt = h a lt
  the-inside inside (t.of_truth v) f h a lt = h a lt
  the-inside inside (t.of_set v) f h a lt = h a lt
  the-inside inside (t.of_field g) f h a lt = field_inside m inside [] (λ i. omega arith) g a lt

  inside-if : (b : Bool) (f g : Fields) → ((a : ℕ) → a < suc m.last → f.objects a < suc m.last) → ((a : ℕ) → a < suc m.last → g.objects a < suc m.last) → (a : ℕ) → a < suc m.last → (if b then f else g).objects a < suc m.last
  inside-if true f g h j a lt = h a lt
  inside-if false f g h j a lt = j a lt

  for-inside : InUniverse m → (vs : List ValueTree) (x : Name) (a : ℕ) → a < suc m.last → (field_for vs x).objects a < suc m.last
  unfolding field_for
  for-inside inside [] x a lt = inside.field x a lt
  for-inside inside (v ∷ vs) x a lt =
      inside-if (name_equal x (name_of us k v)) (the_field (datum v m []) (m.field x)) (field_for vs x) (the-inside inside v (m.field x) (inside.field x)) (for-inside inside vs x) a lt

  pub with-inside : InUniverse m → InUniverse with_updates
  with-inside inside = record { object = inside.object; field = for-inside inside us }

  -- a name of theirs has its update's value
  name-if : (b : Bool) (v w : ValueTree) (f : Fields) → (b ≡ true → w ≡ v) → (b ≡ false → f ≡ the_field (datum v m []) (m.field (name_of us k v))) →
      (if b then the_field (datum w m []) (m.field (name_of us k v)) else f) ≡ the_field (datum v m []) (m.field (name_of us k v))
  name-if true v w f h j = ap (λ u. the_field (datum u m []) (m.field (name_of us k v))) (h refl)
  name-if false v w f h j = j refl

  same-name : (v w : ValueTree) → Among v us → name_equal (name_of us k v) (name_of us k w) ≡ true → w ≡ v
  same-name v w h e =
      let turns : k + place_in us v ≡ k + place_in us w = ap (λ y. y.turn) (name_equal-true (name_of us k v) (name_of us k w) e) in
      sym (place-one us v w (omega (arith, turns)) (place-within us v h))

  found-behind : (v w : ValueTree) (vs : List ValueTree) → (w ≡ v) ⊎ Among v vs → name_equal (name_of us k v) (name_of us k w) ≡ false → Among v vs
  found-behind v w vs (inl same) e = absurd (true≢false (sym (name_equal-same (name_of us k v) (name_of us k w) (ap (name_of us k) (sym same))) ∙ e))
  found-behind v w vs (inr h) e = h

  name-field : (vs : List ValueTree) (v : ValueTree) → Among v us → Among v vs → field_for vs (name_of us k v) ≡ the_field (datum v m []) (m.field (name_of us k v))
  unfolding field_for
  name-field [] v h j = absurd j
  name-field (w ∷ vs) v h j =
      name-if (name_equal (name_of us k v) (name_of us k w)) v w (field_for vs (name_of us k v)) (same-name v w h) (λ e. name-field vs v h (found-behind v w vs j e))

  -- in that interpretation an update means what its name means
  means-name : (v : ValueTree) (e : List ℕ) → IsNamed k v → field_for us (name_of us k v) ≡ the_field (datum v m []) (m.field (name_of us k v)) →
      datum (t.of_field (t.free_field (name_of us k v))) with_updates e ≡ datum v with_updates e
  unfolding the_field is_whole_update value_passes
  means-name (t.of_field (t.update f a w)) e is same = ap a_field (same
      ∙ sym (field_value-agrees (before k) with_updates m with-agree (t.update f a w) [] is.early)
      ∙ field_value-closed (t.update f a w) with_updates 0 [] e (λ j lt. absurd (omega (arith, lt))) is.whole)
  means-name (t.of_field (t.free_field x)) e is same = absurd (true≢false (sym is.whole))
  means-name (t.of_object v) e is same = absurd (true≢false (sym is.whole))
  means-name (t.of_number v) e is same = absurd (true≢false (sym is.whole))
  means-name (t.of_truth v) e is same = absurd (true≢false (sym is.whole))
  means-name (t.of_set v) e is same = absurd (true≢false (sym is.whole))

  pub name-means : (v : ValueTree) (e : List ℕ) → Among v us → datum (t.of_field (t.free_field (name_of us k v))) with_updates e ≡ datum v with_updates e
  name-means v e h = means-name v e (all v h) (name-field us v h h)

  some-is : (v w : ValueTree) (e : List ℕ) (c : Bool) → (c ≡ true → Among v us) → (if c then Some (t.of_field (t.free_field (name_of us k v))) else None) ≡ Some w → datum w with_updates e ≡ datum v with_updates e
  some-is v w e true h same = sym (ap (λ o. datum (value_or o) with_updates e) same) ∙ name-means v e (h refl) where
    value_or : Option ValueTree → ValueTree
    value_or (Some u) = u
    value_or None = v
  some-is v w e false h same = absurd (none-some same) where
    is_some_value : Option ValueTree → Bool
    is_some_value (Some u) = true
    is_some_value None = false

    none-some : {u : ValueTree} → None ≡ Some u → ⊥
    none-some q = true≢false (sym (ap is_some_value q))

  keeps : Keeps unchanged with_updates with_updates (λ d e. e)
  keeps = record {
    last = refl;
    under = λ d e x. refl;
    object = λ x d e h. refl;
    number = λ x d e h. refl;
    truth = λ x d e h. refl;
    set = λ x d e h. refl;
    field = λ x d e h. refl;
    bound = λ j d e h. refl;
  }

  wholes : KeepsWholes (naming us k) with_updates with_updates (λ d e. e)
  wholes = record { whole = λ v w d e h same. some-is v w e (nat_lt (place_in us v) (length us)) (λ q. within-among us v (ltb-true (place_in us v) (length us) q)) same }

  pub named-means : (a : FormulaTree) (e : List ℕ) → truth (named us k a) with_updates e ≡ truth a with_updates e
  unfolding named
  named-means a e = truth-rewritten (naming us k) with_updates with_updates (λ d e. e) keeps wholes a 0 e (omega arith)

  -- a formula that has none of their names means what it did before they had a meaning
  pub named-meant : (a : FormulaTree) → formula_passes a (before k) ≡ true → truth (named us k a) with_updates [] ≡ truth a m []
  named-meant a h = named-means a [] ∙ truth-agrees (before k) with_updates m with-agree a [] h

  -- ---- what the names stand for

  -- the name is the update of what stands for its parts
  pub is-that-field : (f : FieldTree) (a : TermTree) (v : ValueTree) → Among (t.of_field (t.update f a v)) us → (e : List ℕ) →
      field_value (t.free_field (name_of us k (t.of_field (t.update f a v)))) with_updates e
      ≡ updated (field_value (rewritten_field f (naming us k) 0) with_updates e) (term_value (rewritten_term a (naming us k) 0) with_updates e) (datum (rewritten_value v (naming us k) 0) with_updates e)
  unfolding the_field
  is-that-field f a v h e =
      ap (λ d. the_field d (m.field (name_of us k (t.of_field (t.update f a v))))) (name-means (t.of_field (t.update f a v)) e h)
      ∙ sym (λ i. updated (field_value-rewritten (naming us k) with_updates with_updates (λ d e. e) keeps wholes f 0 e (omega arith) i)
      (term_value-rewritten (naming us k) with_updates with_updates (λ d e. e) keeps wholes a 0 e (omega arith) i)
      (datum-rewritten (naming us k) with_updates with_updates (λ d e. e) keeps wholes v 0 e (omega arith) i))

  fact-holds : (v : ValueTree) → Among v us → AllHold with_updates (update_fact us k v)
  unfolding update_fact
  fact-holds (t.of_field (t.update f a v)) h =
      described-hold with_updates (t.free_field (name_of us k (t.of_field (t.update f a v)))) (rewritten_field f (naming us k) 0) (rewritten_term a (naming us k) 0) (rewritten_value v (naming us k) 0)
      (λ x. is-that-field f a v h (x ∷ []))
  fact-holds v h = tt

  facts-hold : (vs : List ValueTree) → ((v : ValueTree) → Among v vs → Among v us) → AllHold with_updates (flat_map (update_fact us k) vs)
  facts-hold [] h = tt
  facts-hold (v ∷ vs) h = hold-both with_updates (update_fact us k v) (flat_map (update_fact us k) vs) (fact-holds v (h v (inl refl))) (facts-hold vs (λ w j. h w (inr j)))

  pub update-facts-hold : AllHold with_updates (update_facts us k)
  update-facts-hold = facts-hold us (λ v h. h)
