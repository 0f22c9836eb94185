-- A heap of a program obeys the rules of heap texts.
use Rattle.std.proofs.Common.{◌≡◌, refl, sym, ap, subst, ◌∙◌, inl, inr, arith, ℕ, ℤ, zero, suc, pos, negsuc, ◌+◌, ◌<◌, ◌≤◌, ◌==◌, ◌||◌, not, nat_lt, Bool, true, false, true≢false, List, [], ◌∷◌, ◌++◌, length, map, codes, Option, Some, None, slice_get, append_assoc, eqb-true, eq-eqb, ne_eqb, le-ltb, ltb-true}
use Rattle.std.specs.List.{Contains, AllByRecursion, list_any, list_all}
use Rattle.std.specs.Option.{option_map_or}
use Rattle.std.proofs.lemmas.Bool.{and_parts, or_from, or_left, or_right, false_from_ne_true, true_from_ne_false}
use Rattle.std.proofs.lemmas.List.Folds.{list_any-append}
use Rattle.std.proofs.lemmas.List.Elements.{Contains-append_left}
use Rattle.jh_name.specs.declared.place.Kind.{Kind}
use Rattle.jh_name.specs.declared.place.Kind.TheVariants as k
use Rattle.jh_form.specs.Meaning.{Fields}
use Rattle.jh_rules.specs.declared.types.Ty.{Ty}
use Rattle.jh_rules.specs.declared.types.Ty.TheVariants as ty
use Rattle.jh_rules.specs.Kinds.{kind_of}
use Rattle.jh_semantics.specs.Code.{Text}
use Rattle.jh_semantics.specs.Program.{Program, Member, class_at}
use Rattle.jh_semantics.specs.State.{State, named, alloc_name}
use Rattle.jh_semantics.specs.WellFormed.{all_classes}
use Rattle.jh_semantics.specs.Typed.{AreApart, IsType, NamesFit}
use Rattle.jh_semantics.specs.Heaps.{Cell, object, number, truth_value, set, Heap, IsHeap, AreStatics, AreFields, is_in, is_listing, is_ascending, is_cell, field_value, object_in, number_in, truth_in, set_in, statics_of, fields_of, state_of}
use Rattle.jh_semantics.proofs.Formed.{IsDefault, IsClass, ObjectLies, Formed}
use Rattle.jh_semantics.proofs.Facts.{facts-formed}
use Rattle.jh_heap.specs.lines.Lines.{is_plain}
use Rattle.jh_heap.specs.text.Outlines.{member_holder}
use Rattle.jh_heap.specs.text.Drafts.{Draft, place_of, natural_in}
use Rattle.jh_heap.specs.text.Rules.{is_of, is_of_some, is_no_object, lies_in, strays}
use Rattle.jh_heap.specs.text.Writing.{is_zero, is_default}
use Rattle.jh_heap_theorems.specs.round_trip.Names.{TextsFit, FitsWord, NumbersFit, are_distinct}
use Rattle.jh_heap_theorems.proofs.round_trip.Words.{get-here, one-longer, not-is}
use Rattle.jh_heap_theorems.proofs.round_trip.Numbers.{written_value}
use Rattle.jh_heap_theorems.proofs.round_trip.Classes.{given_class, some-given, or-false, ClassFits, ClassesFit}
use Rattle.jh_heap_theorems.proofs.round_trip.Values.{NameFits, ValuesFit}
use Rattle.jh_heap_theorems.proofs.round_trip.Fields.{CellsFit, FieldsFit}
use Rattle.jh_heap_theorems.proofs.round_trip.Shown.{contains-here, contains-behind, texts, Each, each-of, ClassesShown, IsShown, StaticsShown, FieldsShown, HeapShown, heap-shown}
use Rattle.jh_heap_theorems.proofs.round_trip.Distinct.{in-all, none-of, distinct-of, holder-texts, kept-passes, kept-there, kept-apart, place-there}
use Rattle.jh_heap_theorems.proofs.round_trip.Whole.{HeapFits}

-- the objects of a class by its place
given-has : (xs : List ℕ) (a : ℕ) → is_of (given_class xs ∷ []) 0 a ≡ is_in a xs
given-has [] a = refl
given-has (b ∷ xs) a = refl

shown-at : (s : State) (cs : List Text) (classes : List (List ℕ)) (i a : ℕ) (c : Text) → length classes ≡ length cs → ClassesShown s cs classes → slice_get cs i ≡ Some c → is_of (map given_class classes) i a ≡ s.set (named c) a
shown-at s [] classes i a c size sh e = cc
shown-at s (d ∷ cs) [] i a c size sh e = absurd (omega (arith, size))
shown-at s (d ∷ cs) (xs ∷ classes) zero a c size sh e = let same : d ≡ c = cc in given-has xs a ∙ sym (sh.0 a) ∙ ap (λ z. s.set (named z) a) same
shown-at s (d ∷ cs) (xs ∷ classes) (suc i) a c size sh e = shown-at s cs classes i a c (omega (arith, size)) sh.1 e

pub front-there : (xs ys : List Text) (i : ℕ) (c : Text) → slice_get xs i ≡ Some c → slice_get (xs ++ ys) i ≡ Some c
front-there [] ys i c e = cc
front-there (x ∷ xs) ys zero c e = e
front-there (x ∷ xs) ys (suc i) c e = front-there xs ys i c e

-- a value that is the default of a field is a default
empty-list : (n : ℕ) (xs : List ℕ) → list_all (λ a. nat_lt a (suc n)) xs ≡ true → ((b : ℕ) → b < suc n → is_in b xs ≡ false) → (length xs == 0) ≡ true
empty-list n [] l h = refl
empty-list n (b ∷ xs) l h =
    let parts = and_parts (nat_lt b (suc n)) (list_all (λ a. nat_lt a (suc n)) xs) l in
    absurd (true≢false (sym (or_left (b == b) (is_in b xs) (eq-eqb b b refl)) ∙ h b (ltb-true b (suc n) parts.0)))

default-is : (n : ℕ) (kind : Kind) (all : List Cell) (a : ℕ) (cell : Cell) → slice_get all a ≡ Some cell → is_cell n kind cell ≡ true → IsDefault n kind (field_value all) a → is_default cell ≡ true
default-is n k.Obj all a (object b) at c h = eq-eqb b 0 (sym (ap object_in at) ∙ h)
default-is n k.Int all a (number z) at c h = ap is_zero (sym (ap number_in at) ∙ h)
default-is n k.Bool all a (truth_value b) at c h = ap not (sym (ap truth_in at) ∙ h)
default-is n k.Set all a (set xs) at c h =
    let parts = and_parts (list_all (λ b. nat_lt b (suc n)) xs) (is_ascending xs) c in
    empty-list n xs parts.0 (λ b lt. sym (ap (λ o. set_in o b) at) ∙ h b lt)
default-is n kind all a cell at c h = absurd (true≢false (sym c))

no-object : (z : ℤ) → option_map_or (λ a. false) (natural_in z) false ≡ false
no-object (pos a) = refl
no-object (negsuc a) = refl

module _ (p : Program) (h : Heap) (names : NamesFit p) (words : TextsFit p) (heap : IsHeap p h) where
  abbrev the_state : State
  the_state = state_of p h

  abbrev given_classes : List (Option (List ℕ))
  given_classes = map given_class h.classes

  abbrev is_static : Member → Bool
  is_static x = x.is_static

  abbrev is_field : Member → Bool
  is_field x = not x.is_static

  shown : HeapShown p h
  shown = heap-shown p h names.classes names.dotless names.not_alloc
      (each-of (λ (x : Member). list_any (λ c. c == 46) x.text ≡ true) (statics_of p) (λ x i. names.dots x (kept-there is_static p.members x i)))
      (kept-apart is_static p.members words.once) (kept-apart is_field p.members words.once)

  formed : Formed p the_state
  formed = facts-formed the_state p names heap.is_well_formed

  inside : (a : ℕ) → a < suc h.greatest → a < suc (the_state).last
  inside a lt = let same = shown in let e = same.last in omega (arith, lt, e)

  -- classes
  abbrev Before : List (List ℕ) → List Text → Type 0
  Before before cs = (a : ℕ) → list_any (is_in a) before ≡ true → (d : Text) × (IsClass p d × ((the_state).set (named d) a ≡ true) × ((c : Text) → Contains cs c → c ≡ d → ⊥))

  class-fits : (before : List (List ℕ)) (c : Text) (cs : List Text) (xs : List ℕ) → IsClass p c → ((a : ℕ) → (the_state).set (named c) a ≡ is_in a xs) → is_listing h.greatest xs ≡ true → Before before (c ∷ cs) → ClassFits h.greatest before c xs
  class-fits before c cs xs is there listing others =
      let parts = and_parts (list_all (λ a. nat_lt a (suc h.greatest)) xs) (is_ascending xs) listing in
      let f = formed in
      let within : (a : ℕ) → is_in a xs ≡ true → a < suc h.greatest = λ a i. ltb-true a (suc h.greatest) (in-all (λ b. nat_lt b (suc h.greatest)) xs a parts.0 i) in
      record {
        word = words.class_words c is;
        plain = words.plain c is;
        objects = none-of (is_no_object h.greatest) xs (λ a i. or_from (a == 0) (nat_lt h.greatest a)
            (ne_eqb a 0 (λ e. true≢false (sym (f.in_alloc c is a (inside a (within a i)) (there a ∙ i)) ∙ ap ((the_state).set alloc_name) e ∙ f.no_null)))
            (le-ltb h.greatest a (let lt = within a i in omega (arith, lt))));
        ascending = parts.1;
        apart = none-of (λ a. list_any (is_in a) before) xs (λ a i. false_from_ne_true (list_any (is_in a) before)
            (λ t. (let w = others a t in w.1.2 c (contains-here c cs) (f.apart c w.0 is w.1.0 a (inside a (within a i)) (there a ∙ i) w.1.1))));
      }

  more-before : (before : List (List ℕ)) (c : Text) (cs : List Text) (xs : List ℕ) → IsClass p c → ((y : Text) → Contains cs y → c ≡ y → ⊥) → ((a : ℕ) → (the_state).set (named c) a ≡ is_in a xs) → Before before (c ∷ cs) → Before (before ++ (xs ∷ [])) cs
  more-before before c cs xs is apart there others a t = by (list_any (is_in a) before) refl
    where
      by : (u : Bool) → list_any (is_in a) before ≡ u → (d : Text) × (IsClass p d × ((the_state).set (named d) a ≡ true) × ((c : Text) → Contains cs c → c ≡ d → ⊥))
      by true e = let w = others a e in (w.0, (w.1.0, w.1.1, λ d i. w.1.2 d (contains-behind c cs d i)))
      by false e =
          let here : is_in a xs ≡ true = sym (or-false (is_in a xs)) ∙ sym (ap (λ u. u || (is_in a xs || false)) e) ∙ sym (list_any-append (is_in a) before (xs ∷ [])) ∙ t in
          (c, (is, there a ∙ here, λ d i same. apart d i (sym same)))

  classes-fit : (before : List (List ℕ)) (cs : List Text) (classes : List (List ℕ)) → Each (IsClass p) cs → AreApart cs → ClassesShown the_state cs classes → list_all (is_listing h.greatest) classes ≡ true → length classes ≡ length cs → Before before cs → ClassesFit h.greatest before cs classes
  classes-fit before [] [] each apart sh listing size others = tt
  classes-fit before [] (xs ∷ rest) each apart sh listing size others = absurd (omega (arith, size))
  classes-fit before (c ∷ cs) [] each apart sh listing size others = absurd (omega (arith, size))
  classes-fit before (c ∷ cs) (xs ∷ rest) each apart sh listing size others =
      let parts = and_parts (is_listing h.greatest xs) (list_all (is_listing h.greatest) rest) listing in (
        class-fits before c cs xs each.0 sh.0 parts.0 others,
        classes-fit (before ++ (xs ∷ [])) cs rest each.1 apart.1 sh.1 parts.1 (omega (arith, size)) (more-before before c cs xs each.0 apart.0 sh.0 others),
      )

  all-classes-fit : ClassesFit h.greatest [] (all_classes p.classes) h.classes
  all-classes-fit =
      let s = shown in
      classes-fit [] (all_classes p.classes) h.classes (each-of (IsClass p) (all_classes p.classes) (λ c i. i)) names.classes s.classes heap.objects heap.class_count (λ a t. absurd (true≢false (sym t)))

  -- types
  class-is : (i a : ℕ) (c : Text) → slice_get (all_classes p.classes) i ≡ Some c → is_of given_classes i a ≡ (the_state).set (named c) a
  class-is i a c e = let s = shown in shown-at the_state (all_classes p.classes) h.classes i a c heap.class_count s.classes e

  in-class : (i a : ℕ) → Contains p.classes (class_at p.classes i) → is_of given_classes i a ≡ (the_state).set (named (class_at p.classes i)) a
  in-class i a there = by (slice_get p.classes i) refl
    where
      by : (o : Option Text) → slice_get p.classes i ≡ o → is_of given_classes i a ≡ (the_state).set (named (class_at p.classes i)) a
      by None e = absurd (true≢false (sym (words.plain (class_at p.classes i) (Contains-append_left p.classes (codes "Object" ∷ []) (class_at p.classes i) there)) ∙ ap (λ (o : Option Text). is_plain (option_map_or (λ x. x) o [])) e))
      by (Some c) e = class-is i a c (front-there p.classes (codes "Object" ∷ []) i c e) ∙ ap (λ (o : Option Text). (the_state).set (named (option_map_or (λ x. x) o [])) a) (sym e)

  object-lies : (d : Draft) (type : Ty) (a : ℕ) → d.classes ≡ given_classes → IsType p type → ObjectLies p type the_state a → lies_in d type a ≡ true
  object-lies d (ty.Class i) a same is (inl e) = or_left (a == 0) (is_of d.classes i a) (eq-eqb a 0 e)
  object-lies d (ty.Class i) a same is (inr e) = or_right (a == 0) (is_of d.classes i a) (ap (λ z. is_of z i a) same ∙ in-class i a is ∙ e)
  object-lies d ty.Object a same is (inl e) = or_left (a == 0) (is_of_some d.classes a) (eq-eqb a 0 e)
  object-lies d ty.Object a same is (inr e) = (let s = shown in or_right (a == 0) (is_of_some d.classes a) (ap (λ z. is_of_some z a) same ∙ some-given a h.classes ∙ sym (s.alloc a) ∙ e))
  object-lies d ty.Null a same is e = refl
  object-lies d ty.Int a same is e = refl
  object-lies d ty.Boolean a same is e = refl
  object-lies d ty.Void a same is e = refl

  number-lies : (d : Draft) (kind : Kind) (type : Ty) (z : ℤ) → kind_of type ≡ kind → is_cell h.greatest kind (number z) ≡ true → strays d (Some type) (written_value (number z)) ≡ false
  number-lies d kind (ty.Class i) z e c = absurd (true≢false (sym (ap (λ k. is_cell h.greatest k (number z)) e ∙ c)))
  number-lies d kind ty.Object z e c = absurd (true≢false (sym (ap (λ k. is_cell h.greatest k (number z)) e ∙ c)))
  number-lies d kind ty.Null z e c = absurd (true≢false (sym (ap (λ k. is_cell h.greatest k (number z)) e ∙ c)))
  number-lies d kind ty.Void z e c = absurd (true≢false (sym (ap (λ k. is_cell h.greatest k (number z)) e ∙ c)))
  number-lies d kind ty.Boolean z e c = absurd (true≢false (sym (ap (λ k. is_cell h.greatest k (number z)) e ∙ c)))
  number-lies d kind ty.Int z e c = no-object z

  type-fits : (kind : Kind) (type : Option Ty) (cell : Cell) → is_cell h.greatest kind cell ≡ true → ((t : Ty) → type ≡ Some t → (kind_of t ≡ kind) × IsType p t) →
      ((t : Ty) → type ≡ Some t → (a : ℕ) → cell ≡ object a → ObjectLies p t the_state a) → (d : Draft) → d.classes ≡ given_classes → strays d type (written_value cell) ≡ false
  type-fits kind None cell c is lies d same = refl
  type-fits kind (Some t) (object a) c is lies d same = (let of = is t refl in ap not (object-lies d t a same of.1 (lies t refl a refl)))
  type-fits kind (Some t) (number z) c is lies d same = (let of = is t refl in number-lies d kind t z of.0 c)
  type-fits kind (Some t) (truth_value b) c is lies d same = refl
  type-fits kind (Some t) (set xs) c is lies d same = refl

  name-fits : (x : Member) → Contains p.members x → NameFits (member_holder x)
  name-fits x i = record { word = words.member_words x i; dotted = words.dotted x i }

  -- statics
  statics-fit : (xs : List Member) (cells : List Cell) → Each (λ (x : Member). Contains p.members x × (x.is_static ≡ true)) xs → AreStatics h.greatest xs cells → StaticsShown the_state xs cells → AllByRecursion FitsWord cells →
      ValuesFit h.greatest given_classes (map member_holder xs) cells
  statics-fit [] [] each fit sh word = tt
  statics-fit [] (cell ∷ cells) each fit sh word = absurd fit
  statics-fit (x ∷ xs) [] each fit sh word = absurd fit
  statics-fit (x ∷ xs) (cell ∷ cells) each fit sh word =
      let f = formed in
      let m = each.0 in (
        name-fits x m.0,
        record {
          kind = fit.0;
          word = word.0;
          type = type-fits x.kind x.type cell fit.0 (λ t e. (names.kinds x t m.0 e, names.types x t m.0 e))
              (λ t e a same. subst (ObjectLies p t the_state) (subst (λ z. IsShown the_state x.text z) same sh.0) (f.statics x t m.0 m.1 e));
        },
        statics-fit xs cells each.1 fit.1 sh.1 word.1,
      )

  -- fields
  zero-lies : (t : Ty) → ObjectLies p t the_state 0
  zero-lies (ty.Class i) = inl refl
  zero-lies ty.Object = inl refl
  zero-lies ty.Null = refl
  zero-lies ty.Int = tt
  zero-lies ty.Boolean = tt
  zero-lies ty.Void = tt

  of-class : (x : Member) (all : List Cell) (a : ℕ) (cell : Cell) → Contains p.members x → x.is_static ≡ false → (the_state).field (named x.text) ≡ field_value all → slice_get all a ≡ Some cell → a < suc h.greatest →
      is_cell h.greatest x.kind cell ≡ true → is_default cell ≡ false → (the_state).set (named x.class) a ≡ true
  of-class x all a cell i field sh at lt c other =
      let f = formed in
      let s = shown in
      true_from_ne_false ((the_state).set (named x.class) a)
      (λ e. true≢false (sym (default-is h.greatest x.kind all a cell at c
      (subst (λ v. IsDefault h.greatest x.kind v a) sh (subst (λ m. IsDefault m x.kind ((the_state).field (named x.text)) a) s.last (f.defaults x i field a (inside a lt) e)))) ∙ other))

  field-lies : (x : Member) (all : List Cell) (a : ℕ) (cell : Cell) (t : Ty) (b : ℕ) → Contains p.members x → x.is_static ≡ false → (the_state).field (named x.text) ≡ field_value all → slice_get all a ≡ Some cell → a < suc h.greatest →
      is_cell h.greatest x.kind cell ≡ true → x.type ≡ Some t → cell ≡ object b → ObjectLies p t the_state b
  field-lies x all a cell t b i field sh at lt c is same = by (is_default cell) refl
    where
      by : (u : Bool) → is_default cell ≡ u → ObjectLies p t the_state b
      by true e = subst (ObjectLies p t the_state) (sym (eqb-true b 0 (sym (ap is_default same) ∙ e))) (zero-lies t)
      by false e =
          let f = formed in
          let value : ((the_state).field (named x.text)).objects a ≡ b = ap (λ (v : Fields). v.objects a) sh ∙ ap object_in (at ∙ ap (λ z. Some z) same) in
          subst (ObjectLies p t the_state) value (f.fields x t i field is a (inside a lt) (of-class x all a cell i field sh at lt c e))

  class-there : (x : Member) (a : ℕ) → Contains p.members x → is_of given_classes (place_of (all_classes p.classes) x.class) a ≡ (the_state).set (named x.class) a
  class-there x a i =
      class-is (place_of (all_classes p.classes) x.class) a x.class (place-there (all_classes p.classes) x.class (Contains-append_left p.classes (codes "Object" ∷ []) x.class (names.of_class x i)))

  cells-fit : (x : Member) (all : List Cell) → Contains p.members x → x.is_static ≡ false → (the_state).field (named x.text) ≡ field_value all → (before after : List Cell) (a : ℕ) → all ≡ before ++ after → length before ≡ a → a + length after ≤ suc h.greatest →
      list_all (is_cell h.greatest x.kind) after ≡ true → AllByRecursion FitsWord after → CellsFit h.greatest given_classes (all_classes p.classes) (member_holder x) a after
  cells-fit x all i field sh before [] a split at within fit word = tt
  cells-fit x all i field sh before (cell ∷ after) a split at within fit word =
      let parts = and_parts (is_cell h.greatest x.kind cell) (list_all (is_cell h.greatest x.kind) after) fit in
      let there : slice_get all a ≡ Some cell = ap (λ z. slice_get z a) split ∙ get-here before cell after a at in
      let lt : a < suc h.greatest = omega (arith, within) in (
        record {
          kind = parts.0;
          word = word.0;
          type = type-fits x.kind x.type cell parts.0 (λ t e. (names.kinds x t i e, names.types x t i e)) (λ t e b same. field-lies x all a cell t b i field sh there lt parts.0 e same);
        },
        λ e. class-there x a i ∙ of-class x all a cell i field sh there lt parts.0 e,
        cells-fit x all i field sh (before ++ (cell ∷ [])) after (suc a) (split ∙ sym (append_assoc before (cell ∷ []) after)) (one-longer before cell a at) (omega (arith, within)) parts.1 word.1,
      )

  fields-fit : (xs : List Member) (rows : List (List Cell)) → Each (λ (x : Member). Contains p.members x × (x.is_static ≡ false)) xs → AreFields h.greatest xs rows → FieldsShown the_state xs rows → AllByRecursion (AllByRecursion FitsWord) rows →
      FieldsFit h.greatest given_classes (all_classes p.classes) (map member_holder xs) rows
  fields-fit [] [] each fit sh word = tt
  fields-fit [] (cells ∷ rest) each fit sh word = absurd fit
  fields-fit (x ∷ xs) [] each fit sh word = absurd fit
  fields-fit (x ∷ xs) (cells ∷ rest) each fit sh word =
      let m = each.0 in
      let f = fit.0 in
      let size : length cells ≡ suc h.greatest = f.size in
      (name-fits x m.0, size, cells-fit x cells m.0 m.1 sh.0 [] cells 0 refl refl (omega (arith, size)) f.cells_fit word.0, fields-fit xs rest each.1 fit.1 sh.1 word.1)

  pub heap-fits : h.greatest < 256 → NumbersFit h → HeapFits (all_classes p.classes) (map member_holder (statics_of p)) (map member_holder (fields_of p)) h
  heap-fits small numbers =
      let s = shown in
      record {
        small = small;
        class_names = distinct-of (all_classes p.classes) names.classes;
        static_names = ap are_distinct (holder-texts (statics_of p)) ∙ distinct-of (texts (statics_of p)) (kept-apart is_static p.members words.once);
        field_names = ap are_distinct (holder-texts (fields_of p)) ∙ distinct-of (texts (fields_of p)) (kept-apart is_field p.members words.once);
        classes_fit = all-classes-fit;
        statics_fit = statics-fit (statics_of p) h.statics
            (each-of (λ (x : Member). Contains p.members x × (x.is_static ≡ true)) (statics_of p) (λ x i. (kept-there is_static p.members x i, kept-passes is_static p.members x i))) heap.statics_fit s.statics numbers.statics;
        fields_fit = fields-fit (fields_of p) h.fields
            (each-of (λ (x : Member). Contains p.members x × (x.is_static ≡ false)) (fields_of p) (λ x i. (kept-there is_field p.members x i, not-is x.is_static (kept-passes is_field p.members x i)))) heap.fields_fit s.fields numbers.fields;
      }
