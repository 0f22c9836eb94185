-- Whether a part passes a test: by the list that was collected, and by a simpler test where the formula has local shape.
use Rattle.std.proofs.Common.{◌≡◌, refl, sym, ap, ◌∙◌, ℕ, zero, suc, Bool, true, false, not, ◌&&◌, ◌||◌, if◌then◌else◌, nat_eq, List, [], ◌∷◌, ◌++◌, length, map, Option, Some, slice_get, arith}
use Rattle.std.specs.List.{list_any, filter}
use Rattle.std.proofs.lemmas.Bool.{true≢false, eqb-true}
use Rattle.std.proofs.lemmas.List.Folds.{list_any-append}
use Rattle.indexmap.specs.IndexSet.{insert_key, insert_all}
use Rattle.jh_name.specs.declared.naming.Name.{Name}
use Rattle.jh_form.specs.Tree.{TermTree, IntTree, SetTree, FieldTree, FieldTrees, ValueTree, FormulaTree}
use Rattle.jh_form.specs.Tree as t
use Rattle.jh_form.specs.Passing.{name_equal, field_passes, fields_passes}
use Rattle.jh_form.proofs.ClosedLemmas.{both-left, both-right}
use Rattle.jh_arena.specs.table.Entries.{is_truth, is_field, the_truth, the_value, the_field, are_fields, fields_at}
use Rattle.jh_normal_forms.specs.parts.Collected.{IsCollected}
use Rattle.jh_normal_forms.specs.parts.Standing.{term_parts, int_parts, set_parts, field_parts, value_parts, formula_parts, fields_parts}
use Rattle.jh_normal_forms.specs.declared.parts.order.Order.TheVariants as order
use Rattle.jh_seq.specs.splitting.Local.{is_field_name, are_field_names, is_local_term, is_local_number, is_local_set, has_local_shape}
use Rattle.jh_fca.specs.elimination.Constraints.{other_than, is_name}
use Rattle.jh_fca.specs.elimination.Derived.{goes_along, is_listed}
use Rattle.jh_field_constraints.specs.Reading.{is_among, is_along}

-- ---- whether a list of parts has any

abbrev is_none : {X : Type 0} → List X → Bool
is_none [] = true
is_none (x ∷ xs) = false

more-than-none : (n : ℕ) (b : Bool) → nat_eq (suc n) 0 ≡ b → b ≡ false
more-than-none n true e = absurd (let h : suc n ≡ 0 = eqb-true (suc n) 0 e in omega (arith, h))
more-than-none n false e = refl

none-length : {X : Type 0} (xs : List X) → nat_eq (length xs) 0 ≡ is_none xs
none-length [] = refl
none-length (x ∷ xs) = more-than-none (length xs) (nat_eq (suc (length xs)) 0) refl

any-if : (p : ValueTree → Bool) (c : Bool) (v : ValueTree) (vs : List ValueTree) → list_any p vs ≡ not (is_none (filter p vs)) → (c || list_any p vs) ≡ not (is_none (if c then v ∷ filter p vs else filter p vs))
any-if p true v vs h = refl
any-if p false v vs h = h

any-filter : (p : ValueTree → Bool) (vs : List ValueTree) → list_any p vs ≡ not (is_none (filter p vs))
any-filter p [] = refl
any-filter p (v ∷ vs) = any-if p (p v) v vs (any-filter p vs)

none-map : {X Y : Type 0} (f : X → Y) (xs : List X) → is_none (map f xs) ≡ is_none xs
none-map f [] = refl
none-map f (x ∷ xs) = refl

some-if : (b : Bool) (k : ℕ) (ks : List ℕ) → is_none ks ≡ false → is_none (if b then ks else ks ++ k ∷ []) ≡ false
some-if true k ks h = h
some-if false k [] h = refl
some-if false k (x ∷ ks) h = refl

some-all : (ks ns : List ℕ) → is_none ks ≡ false → is_none (insert_all nat_eq ks ns) ≡ false
some-all ks [] h = h
some-all ks (n ∷ ns) h = some-all (insert_key nat_eq ks n) ns (some-if (list_any (nat_eq n) ks) n ks h)

none-all : (ns : List ℕ) → is_none (insert_all nat_eq [] ns) ≡ is_none ns
none-all [] = refl
none-all (n ∷ ns) = some-all (n ∷ []) ns refl

-- the list to which the parts were added has a node exactly where a part passes
any-collected : (ts : List ValueTree) (p : ValueTree → Bool) (vs : List ValueTree) (none list : List ℕ) → none ≡ [] → IsCollected ts none (filter p vs) list → not (nat_eq (length list) 0) ≡ list_any p vs
any-collected ts p vs none list e h =
    ap not (none-length list ∙ ap is_none (h.added ∙ ap (λ ks. insert_all nat_eq ks h.numbers) e) ∙ none-all h.numbers ∙ sym (none-map (slice_get ts) h.numbers) ∙ ap is_none h.are ∙ none-map (λ v. Some v) (filter p vs))
    ∙ sym (any-filter p vs)

-- the parts of the formula at a node
parts-at : (p : ValueTree → Bool) (o : Option ValueTree) → is_truth o ≡ true → list_any p (value_parts (the_value o) order.InnerFirst) ≡ list_any p (formula_parts (the_truth o) order.InnerFirst)
unfolding is_truth the_truth the_value value_parts
parts-at p (Some (t.of_truth a)) h = refl
parts-at p _ h = absurd (true≢false (sym h))

pub any-held : (ts : List ValueTree) (p : ValueTree → Bool) (o : Option ValueTree) (none list : List ℕ) → is_truth o ≡ true → none ≡ [] → IsCollected ts none (filter p (value_parts (the_value o) order.InnerFirst)) list →
    not (nat_eq (length list) 0) ≡ list_any p (formula_parts (the_truth o) order.InnerFirst)
any-held ts p o none list h e c = any-collected ts p (value_parts (the_value o) order.InnerFirst) none list e c ∙ parts-at p o h

-- ---- what goes along a field, in local shape

module _ (f : Name) where
  abbrev Same : List ValueTree → Type 0
  Same vs = list_any (goes_along f) vs ≡ list_any (is_along f) vs

  two : (vs ws : List ValueTree) → Same vs → Same ws → Same (vs ++ ws)
  two vs ws h k = list_any-append (goes_along f) vs ws ∙ (λ i. h i || k i) ∙ sym (list_any-append (is_along f) vs ws)

  behind : (vs : List ValueTree) (v : ValueTree) → Same vs → goes_along f v ≡ is_along f v → Same (vs ++ v ∷ [])
  behind vs v h k = two vs (v ∷ []) h (λ i. k i || false)

  turned : (c r : Bool) → not (not c && r) ≡ (c || not r)
  turned true r = refl
  turned false r = refl

  listed : (fs : FieldTrees) → are_field_names fs ≡ true → not (fields_passes fs (other_than f)) ≡ is_among f fs
  unfolding fields_passes field_passes other_than is_name
  listed t.none h = refl
  listed (t.more (t.free_field x) fs) h = turned (name_equal x f) (fields_passes fs (other_than f)) ∙ ap (λ b. name_equal x f || b) (listed fs h)
  listed (t.more (t.update a b c) fs) h = absurd (true≢false (sym h))

  terms : (a : TermTree) → is_local_term a ≡ true → Same (term_parts a order.InnerFirst)
  unfolding term_parts field_parts goes_along is_along
  terms (t.bound k) h = refl
  terms (t.free_object x) h = refl
  terms t.null h = refl
  terms (t.read_object (t.free_field x) b) h = behind (term_parts b order.InnerFirst) (t.of_object (t.read_object (t.free_field x) b)) (terms b h) refl
  terms (t.read_object (t.update a b c) d) h = absurd (true≢false (sym h))

  numbers : (a : IntTree) → is_local_number a ≡ true → Same (int_parts a order.InnerFirst)
  unfolding int_parts field_parts goes_along is_along
  numbers (t.const z) h = refl
  numbers (t.free_number x) h = refl
  numbers (t.read_number (t.free_field x) b) h = behind (term_parts b order.InnerFirst) (t.of_number (t.read_number (t.free_field x) b)) (terms b h) refl
  numbers (t.read_number (t.update a b c) d) h = absurd (true≢false (sym h))
  numbers a h = absurd (true≢false (sym h))

  sets : (a : SetTree) → is_local_set a ≡ true → Same (set_parts a order.InnerFirst)
  unfolding set_parts field_parts goes_along is_along
  sets (t.free_set x) h = refl
  sets (t.read_set (t.free_field x) b) h = behind (term_parts b order.InnerFirst) (t.of_set (t.read_set (t.free_field x) b)) (terms b h) refl
  sets (t.read_set (t.update a b c) d) h = absurd (true≢false (sym h))
  sets a h = absurd (true≢false (sym h))

  fields : (fs : FieldTrees) → are_field_names fs ≡ true → Same (fields_parts fs order.InnerFirst)
  unfolding fields_parts field_parts goes_along is_along
  fields t.none h = refl
  fields (t.more (t.free_field x) fs) h = fields fs h
  fields (t.more (t.update a b c) fs) h = absurd (true≢false (sym h))

  formulas : (a : FormulaTree) → has_local_shape a ≡ true → Same (formula_parts a order.InnerFirst)
  unfolding formula_parts field_parts goes_along is_along
  formulas t.true_formula h = refl
  formulas t.false_formula h = refl
  formulas (t.free_truth x) h = refl
  formulas (t.read_truth (t.free_field x) b) h = behind (term_parts b order.InnerFirst) (t.of_truth (t.read_truth (t.free_field x) b)) (terms b h) refl
  formulas (t.read_truth (t.update a b c) d) h = absurd (true≢false (sym h))
  formulas (t.negation a) h = behind (formula_parts a order.InnerFirst) (t.of_truth (t.negation a)) (formulas a h) refl
  formulas (t.and a b) h = behind (formula_parts a order.InnerFirst ++ formula_parts b order.InnerFirst) (t.of_truth (t.and a b)) (two (formula_parts a order.InnerFirst) (formula_parts b order.InnerFirst) (formulas a (both-left (has_local_shape a) (has_local_shape b) h)) (formulas b (both-right (has_local_shape a) (has_local_shape b) h))) refl
  formulas (t.or a b) h = behind (formula_parts a order.InnerFirst ++ formula_parts b order.InnerFirst) (t.of_truth (t.or a b)) (two (formula_parts a order.InnerFirst) (formula_parts b order.InnerFirst) (formulas a (both-left (has_local_shape a) (has_local_shape b) h)) (formulas b (both-right (has_local_shape a) (has_local_shape b) h))) refl
  formulas (t.implies a b) h = behind (formula_parts a order.InnerFirst ++ formula_parts b order.InnerFirst) (t.of_truth (t.implies a b)) (two (formula_parts a order.InnerFirst) (formula_parts b order.InnerFirst) (formulas a (both-left (has_local_shape a) (has_local_shape b) h)) (formulas b (both-right (has_local_shape a) (has_local_shape b) h))) refl
  formulas (t.iff a b) h = behind (formula_parts a order.InnerFirst ++ formula_parts b order.InnerFirst) (t.of_truth (t.iff a b)) (two (formula_parts a order.InnerFirst) (formula_parts b order.InnerFirst) (formulas a (both-left (has_local_shape a) (has_local_shape b) h)) (formulas b (both-right (has_local_shape a) (has_local_shape b) h))) refl
  formulas (t.all a) h = behind (formula_parts a order.InnerFirst) (t.of_truth (t.all a)) (formulas a h) refl
  formulas (t.ex a) h = behind (formula_parts a order.InnerFirst) (t.of_truth (t.ex a)) (formulas a h) refl
  formulas (t.mark m a) h = behind (formula_parts a order.InnerFirst) (t.of_truth (t.mark m a)) (formulas a h) refl
  formulas (t.eq_object a b) h = behind (term_parts a order.InnerFirst ++ term_parts b order.InnerFirst) (t.of_truth (t.eq_object a b)) (two (term_parts a order.InnerFirst) (term_parts b order.InnerFirst) (terms a (both-left (is_local_term a) (is_local_term b) h)) (terms b (both-right (is_local_term a) (is_local_term b) h))) refl
  formulas (t.eq_number a b) h = behind (int_parts a order.InnerFirst ++ int_parts b order.InnerFirst) (t.of_truth (t.eq_number a b)) (two (int_parts a order.InnerFirst) (int_parts b order.InnerFirst) (numbers a (both-left (is_local_number a) (is_local_number b) h)) (numbers b (both-right (is_local_number a) (is_local_number b) h))) refl
  formulas (t.member a b) h = behind (term_parts a order.InnerFirst ++ set_parts b order.InnerFirst) (t.of_truth (t.member a b)) (two (term_parts a order.InnerFirst) (set_parts b order.InnerFirst) (terms a (both-left (is_local_term a) (is_local_set b) h)) (sets b (both-right (is_local_term a) (is_local_set b) h))) refl
  formulas (t.reach fs a b) h =
      let front : (are_field_names fs && is_local_term a) ≡ true = both-left (are_field_names fs && is_local_term a) (is_local_term b) h in
      let names : are_field_names fs ≡ true = both-left (are_field_names fs) (is_local_term a) front in
      behind (fields_parts fs order.InnerFirst ++ (term_parts a order.InnerFirst ++ term_parts b order.InnerFirst)) (t.of_truth (t.reach fs a b))
      (two (fields_parts fs order.InnerFirst) (term_parts a order.InnerFirst ++ term_parts b order.InnerFirst) (fields fs names)
      (two (term_parts a order.InnerFirst) (term_parts b order.InnerFirst) (terms a (both-right (are_field_names fs) (is_local_term a) front)) (terms b (both-right (are_field_names fs && is_local_term a) (is_local_term b) h))))
      (listed fs names)
  formulas (t.tree fs) h = behind (fields_parts fs order.InnerFirst) (t.of_truth (t.tree fs)) (fields fs h) (listed fs h)
  formulas a h = absurd (true≢false (sym h))

-- a formula of local shape goes along the field exactly where a part is along it
pub listed-local : (f : Name) (a : FormulaTree) → has_local_shape a ≡ true → list_any (is_along f) (formula_parts a order.InnerFirst) ≡ is_listed f a
unfolding is_listed
listed-local f a h = sym (formulas f a h)

-- ---- fields of a list

-- a field that is the name, or isn't
pub among-found : (f : Name) (ts : List ValueTree) (n : ℕ) (ns : List ℕ) → is_name f (the_field (slice_get ts n)) ≡ true → true ≡ is_among f (fields_at ts (n ∷ ns))
unfolding fields_at
among-found f ts n ns h = λ i. sym h i || is_among f (fields_at ts ns)

pub among-next : (f : Name) (ts : List ValueTree) (n : ℕ) (ns : List ℕ) → is_name f (the_field (slice_get ts n)) ≡ false → is_among f (fields_at ts ns) ≡ is_among f (fields_at ts (n ∷ ns))
unfolding fields_at
among-next f ts n ns h = λ i. sym h i || is_among f (fields_at ts ns)

pub among-none : (f : Name) (ts : List ValueTree) → false ≡ is_among f (fields_at ts [])
unfolding fields_at
among-none f ts = refl

pub fields-among : (ts : List ValueTree) (ns : List ℕ) (i n : ℕ) → are_fields ts ns ≡ true → slice_get ns i ≡ Some n → is_field (slice_get ts n) ≡ true
unfolding are_fields
fields-among ts [] i n h at = absurd (cc)
fields-among ts (m ∷ ns) zero n h at = let one : m ≡ n = cc in ap (λ k. is_field (slice_get ts k)) (sym one) ∙ both-left (is_field (slice_get ts m)) (are_fields ts ns) h
fields-among ts (m ∷ ns) (suc i) n h at = fields-among ts ns i n (both-right (is_field (slice_get ts m)) (are_fields ts ns) h) at
