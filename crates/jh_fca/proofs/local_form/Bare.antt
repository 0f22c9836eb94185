-- Terms of which no part is without local form have local shape.
use Rattle.std.proofs.Common.{◌≡◌, refl, sym, Bool, true, false, ◌&&◌, ◌||◌, List, [], ◌∷◌, ◌++◌}
use Rattle.std.specs.List.{list_any}
use Rattle.std.proofs.lemmas.Bool.{true≢false}
use Rattle.jh_form.specs.Tree.{TermTree, IntTree, SetTree, FieldTree, FieldTrees, ValueTree, FormulaTree}
use Rattle.jh_form.specs.Tree as t
use Rattle.jh_normal_forms.specs.declared.parts.order.Order.TheVariants as order
use Rattle.jh_normal_forms.specs.parts.Standing.{term_parts, int_parts, set_parts, field_parts, value_parts, fields_parts}
use Rattle.jh_seq.specs.splitting.Local.{is_field_name, are_field_names, is_local_term, is_local_number, is_local_set}
use Rattle.jh_fca.specs.cutting.Cut.{is_simple, is_foreign}

-- ---- of two truths

pub either-left : (p q : Bool) → (p || q) ≡ false → p ≡ false
either-left true q h = h
either-left false q h = refl

pub either-right : (p q : Bool) → (p || q) ≡ false → q ≡ false
either-right true q h = absurd (true≢false h)
either-right false q h = h

pub both-true : (p q : Bool) → p ≡ true → q ≡ true → (p && q) ≡ true
both-true p q h k = λ i. h i && k i

-- ---- lists without what has no local form

-- each value of a list has a local form
abbrev pub HasNone : List ValueTree → Type 0
HasNone vs = list_any is_foreign vs ≡ false

any-first : (p : ValueTree → Bool) (xs ys : List ValueTree) → list_any p (xs ++ ys) ≡ false → list_any p xs ≡ false
any-first p [] ys h = refl
any-first p (x ∷ xs) ys h = (λ i. either-left (p x) (list_any p (xs ++ ys)) h i || any-first p xs ys (either-right (p x) (list_any p (xs ++ ys)) h) i)

any-last : (p : ValueTree → Bool) (xs ys : List ValueTree) → list_any p (xs ++ ys) ≡ false → list_any p ys ≡ false
any-last p [] ys h = h
any-last p (x ∷ xs) ys h = any-last p xs ys (either-right (p x) (list_any p (xs ++ ys)) h)

pub none-first : (xs ys : List ValueTree) → HasNone (xs ++ ys) → HasNone xs
none-first xs ys h = any-first is_foreign xs ys h

pub none-last : (xs ys : List ValueTree) → HasNone (xs ++ ys) → HasNone ys
none-last xs ys h = any-last is_foreign xs ys h

-- ---- terms

pub field-bare : (f : FieldTree) → HasNone (field_parts f order.InnerFirst) → is_field_name f ≡ true
unfolding field_parts is_foreign
field-bare (t.free_field x) h = refl
field-bare (t.update f a v) h = absurd (true≢false (none-last (field_parts f order.InnerFirst ++ (term_parts a order.InnerFirst ++ value_parts v order.InnerFirst)) (t.of_field (t.update f a v) ∷ []) h))

pub term-bare : (a : TermTree) → HasNone (term_parts a order.InnerFirst) → is_local_term a ≡ true
unfolding term_parts
term-bare (t.bound k) h = refl
term-bare (t.free_object x) h = refl
term-bare t.null h = refl
term-bare (t.read_object f a) h =
    let inside : HasNone (field_parts f order.InnerFirst ++ term_parts a order.InnerFirst) = none-first (field_parts f order.InnerFirst ++ term_parts a order.InnerFirst) (t.of_object (t.read_object f a) ∷ []) h in
    both-true (is_field_name f) (is_local_term a) (field-bare f (none-first (field_parts f order.InnerFirst) (term_parts a order.InnerFirst) inside)) (term-bare a (none-last (field_parts f order.InnerFirst) (term_parts a order.InnerFirst) inside))

pub number-bare : (a : IntTree) → is_simple a ≡ true → HasNone (int_parts a order.InnerFirst) → is_local_number a ≡ true
unfolding int_parts is_simple
number-bare (t.const z) s h = refl
number-bare (t.free_number x) s h = refl
number-bare (t.read_number f a) s h =
    let inside : HasNone (field_parts f order.InnerFirst ++ term_parts a order.InnerFirst) = none-first (field_parts f order.InnerFirst ++ term_parts a order.InnerFirst) (t.of_number (t.read_number f a) ∷ []) h in
    both-true (is_field_name f) (is_local_term a) (field-bare f (none-first (field_parts f order.InnerFirst) (term_parts a order.InnerFirst) inside)) (term-bare a (none-last (field_parts f order.InnerFirst) (term_parts a order.InnerFirst) inside))
number-bare a s h = absurd (true≢false (sym s))

-- a name or a read
unfoldable pub is_named_set : SetTree → Bool
is_named_set (t.free_set x) = true
is_named_set (t.read_set f a) = true
is_named_set a = false

pub set-bare : (a : SetTree) → is_named_set a ≡ true → HasNone (set_parts a order.InnerFirst) → is_local_set a ≡ true
unfolding set_parts is_named_set
set-bare (t.free_set x) s h = refl
set-bare (t.read_set f a) s h =
    let inside : HasNone (field_parts f order.InnerFirst ++ term_parts a order.InnerFirst) = none-first (field_parts f order.InnerFirst ++ term_parts a order.InnerFirst) (t.of_set (t.read_set f a) ∷ []) h in
    both-true (is_field_name f) (is_local_term a) (field-bare f (none-first (field_parts f order.InnerFirst) (term_parts a order.InnerFirst) inside)) (term-bare a (none-last (field_parts f order.InnerFirst) (term_parts a order.InnerFirst) inside))
set-bare a s h = absurd (true≢false (sym s))

pub fields-bare : (fs : FieldTrees) → HasNone (fields_parts fs order.InnerFirst) → are_field_names fs ≡ true
unfolding fields_parts
fields-bare t.none h = refl
fields-bare (t.more f fs) h =
    both-true (is_field_name f) (are_field_names fs) (field-bare f (none-first (field_parts f order.InnerFirst) (fields_parts fs order.InnerFirst) h)) (fields-bare fs (none-last (field_parts f order.InnerFirst) (fields_parts fs order.InnerFirst) h))
