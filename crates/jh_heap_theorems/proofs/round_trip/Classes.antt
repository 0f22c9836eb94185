-- The lines of the classes are read.
use Rattle.std.proofs.Common.{◌≡◌, refl, sym, ap, subst, ◌∙◌, arith, ℕ, zero, suc, ◌<◌, ◌==◌, ◌||◌, nat_lt, Bool, true, false, if◌then◌else◌, List, [], ◌∷◌, ◌++◌, length, map, set, Option, Some, None, is_some, append_assoc, append-nil, length-append, take_at, ne_eqb, ltb-false}
use Rattle.std.specs.Prelude.{codes}
use Rattle.std.specs.List.{list_any}
use Rattle.std.specs.Option.{option_map_or}
use Rattle.std.proofs.lemmas.Bool.{or_parts}
use Rattle.std.proofs.lemmas.List.{set_at, length-map}
use Rattle.jh_semantics.specs.Code.{Text}
use Rattle.jh_semantics.specs.Heaps.{Cell, is_in, is_ascending}
use Rattle.jh_heap.specs.lines.Lines.{Line, is_plain}
use Rattle.jh_heap.specs.lines.Lines as l
use Rattle.jh_heap.specs.text.Outlines.{Holder, Outline}
use Rattle.jh_heap.specs.text.Drafts.{Draft, place_of, nothing}
use Rattle.jh_heap.specs.text.Rules.{is_given, is_of_some, is_elsewhere, is_no_object, broken, class_rule, rule_of}
use Rattle.jh_heap.specs.text.Reading.{Reading, taken}
use Rattle.jh_heap.specs.text.Writing.{objects_text, class_text, classes_text}
use Rattle.jh_heap_theorems.specs.round_trip.Names.{IsWord, are_distinct}
use Rattle.jh_heap_theorems.proofs.round_trip.Words.{ends-here, ends-behind, ends-append, get-here, drop-past, shift, one-longer, place-here}
use Rattle.jh_heap_theorems.proofs.round_trip.Numbers.{AllSmall, objects-read, clean-objects}
use Rattle.jh_heap_theorems.proofs.round_trip.Spelled.{class_line, class-is, clean-class}
use Rattle.jh_heap_theorems.proofs.round_trip.Turns.{outline, draft, Reads, reads-text, reads-draft, read-line}

-- what is given of a class: nothing where it has no objects
abbrev pub given_class : List ℕ → Option (List ℕ)
given_class [] = None
given_class (a ∷ xs) = Some (a ∷ xs)

-- the objects of a class: from 1 to n, ascending, and none of a class before it
pub record ClassFits (n : ℕ) (before : List (List ℕ)) (c : Text) (xs : List ℕ) : Type 0 where
  pub word : IsWord c
  pub plain : is_plain c ≡ true
  pub objects : list_any (is_no_object n) xs ≡ false
  pub ascending : is_ascending xs ≡ true
  pub apart : list_any (λ a. list_any (is_in a) before) xs ≡ false

abbrev pub ClassesFit : ℕ → List (List ℕ) → List Text → List (List ℕ) → Type 0
ClassesFit n before [] [] = Unit {0}
ClassesFit n before (c ∷ cs) (xs ∷ rest) = ClassFits n before c xs × ClassesFit n (before ++ (xs ∷ [])) cs rest
ClassesFit n before _ _ = ⊥

small-objects : (n : ℕ) (xs : List ℕ) → n < 256 → list_any (is_no_object n) xs ≡ false → AllSmall xs
small-objects n [] small h = tt
small-objects n (a ∷ xs) small h =
    let parts = or_parts (is_no_object n a) (list_any (is_no_object n) xs) h in
    let within = ltb-false n a (or_parts (a == 0) (nat_lt n a) parts.0).1 in
    (omega (arith, within), small-objects n xs small parts.1)

-- classes that were given
pub some-given : (a : ℕ) (before : List (List ℕ)) → is_of_some (map given_class before) a ≡ list_any (is_in a) before
some-given a [] = refl
some-given a ([] ∷ before) = some-given a before
some-given a ((b ∷ ys) ∷ before) = ap (λ t. is_in a (b ∷ ys) || t) (some-given a before)

none-given : (a k : ℕ) → is_of_some (nothing k) a ≡ false
none-given a zero = refl
none-given a (suc k) = none-given a k

pub or-false : (t : Bool) → (t || false) ≡ t
or-false true = refl
or-false false = refl

-- the draft before a class, and behind it
abbrev lines_before : List (List ℕ) → ℕ → List (Option (List ℕ))
lines_before before k = map given_class before ++ (None ∷ nothing k)

module _ (before : List (List ℕ)) (k : ℕ) where
  elsewhere : (a : ℕ) → is_elsewhere (lines_before before k) (length before) a ≡ list_any (is_in a) before
  elsewhere a =
      let front = take_at (map given_class before) (None ∷ nothing k) (length before) (length-map before given_class) in
      let back = drop-past (map given_class before) None (nothing k) (length before) (length-map before given_class) in
      (λ i. is_of_some (front i) a || is_of_some (back i) a)
      ∙ (λ i. some-given a before i || none-given a k i)
      ∙ or-false (list_any (is_in a) before)

  not-given : is_given (lines_before before k) (length before) ≡ false
  not-given = ap (λ (g : Option (Option (List ℕ))). option_map_or is_some g false) (get-here (map given_class before) None (nothing k) (length before) (length-map before given_class))

  filled : (a : ℕ) (xs : List ℕ) → set (lines_before before k) (length before) (Some (a ∷ xs)) ≡ map given_class (before ++ ((a ∷ xs) ∷ [])) ++ nothing k
  filled a xs =
      set_at (map given_class before) None (nothing k) (Some (a ∷ xs)) (length before) (length-map before given_class)
      ∙ sym (shift given_class before (a ∷ xs) (nothing k))

module _ (cs : List Text) (ss fs : List Holder) (n : ℕ) (small : n < 256) (distinct : are_distinct cs ≡ true) (st : List (Option Cell)) (fi : List (List (Option Cell))) (r : Reading) where
  abbrev the_outline : Outline
  the_outline = outline cs ss fs

  abbrev the_draft : List (Option (List ℕ)) → Draft
  the_draft cl = draft n 1 cl st fi

  -- a class is at its place
  class-place : (done rest : List Text) (c : Text) (before : List (List ℕ)) → cs ≡ done ++ (c ∷ rest) → length done ≡ length before → place_of cs c ≡ length before
  class-place done rest c before split same =
      ap (λ z. place_of z c) split ∙ place-here done rest c (subst (λ z. are_distinct z ≡ true) split distinct) ∙ same

  -- and its line breaks no rule
  class-rule : (done rest : List Text) (c : Text) (before : List (List ℕ)) (k : ℕ) (xs : List ℕ) → cs ≡ done ++ (c ∷ rest) → length done ≡ length before → ClassFits n before c xs →
      rule_of the_outline (the_draft (lines_before before k)) (l.class c xs) ≡ 0
  class-rule done rest c before k xs split same fits =
      let beyond = fits.objects in
      let other : list_any (is_elsewhere (lines_before before k) (length before)) xs ≡ false = (λ i. list_any (λ a. elsewhere before k a i) xs) ∙ fits.apart in
      let known : (length before == length cs) ≡ false = ne_eqb (length before) (length cs) (λ e. omega (arith, e, same, ap length split, length-append done (c ∷ rest))) in
      let new = not-given before k in
      ap (λ i. class_rule the_outline (the_draft (lines_before before k)) i xs) (class-place done rest c before split same)
      ∙ (λ i. if beyond i then 1 else (if other i then 2 else (if known i then 3 else broken (new i) 7)))

  class-ends : (c : Text) (a : ℕ) (xs : List ℕ) (more : List ℕ) → class_text c (a ∷ xs) ++ more ≡ class_line c (objects_text (a ∷ xs)) ++ (10 ∷ more)
  class-ends c a xs more =
      ap (λ t. (if t then [] else codes "class " ++ (c ++ (32 ∷ (objects_text (a ∷ xs) ++ (10 ∷ []))))) ++ more) (ne_eqb (length (a ∷ xs)) 0 (λ e. omega (arith, e)))
      ∙ ends-append (codes "class ") (c ++ (32 ∷ (objects_text (a ∷ xs) ++ (10 ∷ [])))) (c ++ (32 ∷ objects_text (a ∷ xs)))
      (ends-append c (32 ∷ (objects_text (a ∷ xs) ++ (10 ∷ []))) (32 ∷ objects_text (a ∷ xs))
      (ends-behind 32 (objects_text (a ∷ xs) ++ (10 ∷ [])) (objects_text (a ∷ xs)) (ends-here (objects_text (a ∷ xs))))) more

  class-step : (done rest : List Text) (c : Text) (before : List (List ℕ)) (k : ℕ) (xs : List ℕ) (more : List ℕ) → cs ≡ done ++ (c ∷ rest) → length done ≡ length before → ClassFits n before c xs →
      Reads the_outline more (the_draft (map given_class (before ++ (xs ∷ [])) ++ nothing k)) r → Reads the_outline (class_text c xs ++ more) (the_draft (lines_before before k)) r
  class-step done rest c before k [] more split same fits next =
      reads-draft the_outline more (the_draft (lines_before before k)) (the_draft (map given_class (before ++ ([] ∷ [])) ++ nothing k)) r (ap the_draft (sym (shift given_class before [] (nothing k)))) next
  class-step done rest c before k (a ∷ xs) more split same fits next =
      let objects = small-objects n (a ∷ xs) small fits.objects in
      let clean = clean-objects (a ∷ xs) objects in
      let line = clean-class c (objects_text (a ∷ xs)) fits.word clean in
      let place : set (lines_before before k) (place_of cs c) (Some (a ∷ xs)) ≡ map given_class (before ++ ((a ∷ xs) ∷ [])) ++ nothing k =
      ap (λ i. set (lines_before before k) i (Some (a ∷ xs))) (class-place done rest c before split same) ∙ filled before k a xs in
      reads-text the_outline (class_text c (a ∷ xs) ++ more) (class_line c (objects_text (a ∷ xs)) ++ (10 ∷ more)) (the_draft (lines_before before k)) r (class-ends c a xs more)
      (read-line the_outline (class_line c (objects_text (a ∷ xs))) more (l.class c (a ∷ xs)) (the_draft (lines_before before k)) r line.feed
      (class-is c (objects_text (a ∷ xs)) (a ∷ xs) fits.word fits.plain clean (objects-read a xs objects fits.ascending)) refl (class-rule done rest c before k (a ∷ xs) split same fits)
      (reads-draft the_outline more (taken the_outline (the_draft (lines_before before k)) (l.class c (a ∷ xs))) (the_draft (map given_class (before ++ ((a ∷ xs) ∷ [])) ++ nothing k)) r (ap the_draft place) next))

  pub read-classes : (done rest : List Text) (before after : List (List ℕ)) (more : List ℕ) → cs ≡ done ++ rest → length done ≡ length before → ClassesFit n before rest after →
      Reads the_outline more (the_draft (map given_class (before ++ after))) r → Reads the_outline (classes_text rest after ++ more) (the_draft (map given_class before ++ nothing (length rest))) r
  read-classes done [] before [] more split same fits next =
      reads-draft the_outline more (the_draft (map given_class before ++ [])) (the_draft (map given_class (before ++ []))) r
      (ap the_draft (append-nil (map given_class before) ∙ ap (map given_class) (sym (append-nil before)))) next
  read-classes done [] before (xs ∷ after) more split same fits next = absurd fits
  read-classes done (c ∷ rest) before [] more split same fits next = absurd fits
  read-classes done (c ∷ rest) before (xs ∷ after) more split same fits next =
      reads-text the_outline ((class_text c xs ++ classes_text rest after) ++ more) (class_text c xs ++ (classes_text rest after ++ more)) (the_draft (lines_before before (length rest))) r
      (append_assoc (class_text c xs) (classes_text rest after) more)
      (class-step done rest c before (length rest) xs (classes_text rest after ++ more) split same fits.0
      (read-classes (done ++ (c ∷ [])) rest (before ++ (xs ∷ [])) after more (split ∙ sym (append_assoc done (c ∷ []) rest)) (one-longer done c (length before) same ∙ sym (one-longer before xs (length before) refl)) fits.1
      (subst (λ z. Reads the_outline more (the_draft (map given_class z)) r) (sym (append_assoc before (xs ∷ []) after)) next)))
