-- What is left of a formula that was cut has local shape.
use Rattle.std.proofs.Common.{◌≡◌, refl, sym, Bool, true, false, not, ◌&&◌, ◌||◌, if◌then◌else◌, List, [], ◌∷◌, ◌++◌, ℤ}
use Rattle.std.proofs.lemmas.Bool.{true≢false}
use Rattle.jh_form.specs.declared.mark.Mark.{Mark}
use Rattle.jh_form.specs.Tree.{TermTree, IntTree, SetTree, FieldTree, FieldTrees, ValueTree, FormulaTree}
use Rattle.jh_form.specs.Tree as t
use Rattle.jh_form.proofs.ClosedLemmas.{both-left, both-right}
use Rattle.jh_normal_forms.specs.declared.parts.order.Order.TheVariants as order
use Rattle.jh_normal_forms.specs.parts.Standing.{term_parts, int_parts, set_parts, field_parts, formula_parts, fields_parts}
use Rattle.jh_normal_forms.specs.declared.rebuilding.polarity.Polarity.{Polarity}
use Rattle.jh_normal_forms.specs.declared.rebuilding.polarity.Polarity.TheVariants as pol
use Rattle.jh_normal_forms.specs.rebuilding.Built.{turned, built_term, built_int, built_set, built_field, built_formula, built_fields}
use Rattle.jh_seq.specs.splitting.Local.{is_field_name, are_field_names, is_local_term, is_local_number, is_local_set, has_local_shape}
use Rattle.jh_approx.specs.definition.Shown.{negation_of, and_before, and_of, or_before, or_of, implies_before, implies_of, iff_before, iff_of}
use Rattle.jh_normal_forms.specs.set_opening.SetsOpened.{sets_opened}
use Rattle.jh_fca.specs.cutting.Cut.{is_simple, is_foreign, holds_foreign, iffs_opened, instead_of, all_of, ex_of, mark_of, cut_once, cutting, cut}
use Rattle.jh_fca.proofs.local_form.Bare.{either-left, either-right, both-true, HasNone, none-first, none-last, term-bare, field-bare, number-bare, set-bare, fields-bare, is_named_set}
use Rattle.jh_fca.proofs.local_form.Opens.{is_open, sets-opened-open, is_split, is_even, iffs-opened-even}

-- ---- connectives of formulas of local shape

abbrev IsLocal : FormulaTree → Type 0
IsLocal a = has_local_shape a ≡ true

negation-local : (a : FormulaTree) → IsLocal a → IsLocal (negation_of a)
unfolding negation_of
negation-local t.true_formula h = refl
negation-local t.false_formula h = refl
negation-local a h = h

module _ (a b : FormulaTree) (h : IsLocal a) (k : IsLocal b) where
  both-local : (has_local_shape a && has_local_shape b) ≡ true
  both-local = both-true (has_local_shape a) (has_local_shape b) h k

and-before-local : (a b : FormulaTree) → IsLocal a → IsLocal b → IsLocal (and_before a b)
unfolding and_before
and-before-local a t.true_formula h k = h
and-before-local a t.false_formula h k = refl
and-before-local a b h k = both-local a b h k

and-local : (a b : FormulaTree) → IsLocal a → IsLocal b → IsLocal (and_of a b)
unfolding and_of
and-local t.true_formula b h k = k
and-local t.false_formula b h k = refl
and-local a b h k = and-before-local a b h k

or-before-local : (a b : FormulaTree) → IsLocal a → IsLocal b → IsLocal (or_before a b)
unfolding or_before
or-before-local a t.true_formula h k = refl
or-before-local a t.false_formula h k = h
or-before-local a b h k = both-local a b h k

or-local : (a b : FormulaTree) → IsLocal a → IsLocal b → IsLocal (or_of a b)
unfolding or_of
or-local t.true_formula b h k = refl
or-local t.false_formula b h k = k
or-local a b h k = or-before-local a b h k

implies-before-local : (a b : FormulaTree) → IsLocal a → IsLocal b → IsLocal (implies_before a b)
unfolding implies_before
implies-before-local a t.true_formula h k = refl
implies-before-local a t.false_formula h k = negation-local a h
implies-before-local a b h k = both-local a b h k

implies-local : (a b : FormulaTree) → IsLocal a → IsLocal b → IsLocal (implies_of a b)
unfolding implies_of
implies-local t.true_formula b h k = k
implies-local t.false_formula b h k = refl
implies-local a b h k = implies-before-local a b h k

iff-before-local : (a b : FormulaTree) → IsLocal a → IsLocal b → IsLocal (iff_before a b)
unfolding iff_before
iff-before-local a t.true_formula h k = h
iff-before-local a t.false_formula h k = negation-local a h
iff-before-local a b h k = both-local a b h k

iff-local : (a b : FormulaTree) → IsLocal a → IsLocal b → IsLocal (iff_of a b)
unfolding iff_of
iff-local t.true_formula b h k = k
iff-local t.false_formula b h k = negation-local b k
iff-local a b h k = iff-before-local a b h k

all-local : (a : FormulaTree) → IsLocal a → IsLocal (all_of a)
unfolding all_of
all-local t.true_formula h = refl
all-local t.false_formula h = refl
all-local a h = h

ex-local : (a : FormulaTree) → IsLocal a → IsLocal (ex_of a)
unfolding ex_of
ex-local t.true_formula h = refl
ex-local t.false_formula h = refl
ex-local a h = h

mark-local : (m : Mark) (a : FormulaTree) → IsLocal a → IsLocal (mark_of m a)
unfolding mark_of
mark-local m t.true_formula h = refl
mark-local m t.false_formula h = refl
mark-local m a h = h

-- ---- atoms that aren't cut

module _ (xs ys : List ValueTree) (v : ValueTree) (h : HasNone ((xs ++ ys) ++ (v ∷ []))) where
  part-first : HasNone xs
  part-first = none-first xs ys (none-first (xs ++ ys) (v ∷ []) h)

  part-last : HasNone ys
  part-last = none-last xs ys (none-first (xs ++ ys) (v ∷ []) h)

unfoldable is_atom : FormulaTree → Bool
is_atom (t.negation a) = false
is_atom (t.and a b) = false
is_atom (t.or a b) = false
is_atom (t.implies a b) = false
is_atom (t.iff a b) = false
is_atom (t.all a) = false
is_atom (t.ex a) = false
is_atom (t.mark m a) = false
is_atom a = true

simple-both : (p q r : Bool) → (not (p && q) || r) ≡ false → (p && q) ≡ true
simple-both true true r h = refl
simple-both true false r h = absurd (true≢false h)
simple-both false q r h = absurd (true≢false h)

atom-local : (a : FormulaTree) → is_atom a ≡ true → is_open a ≡ true → holds_foreign a ≡ false → IsLocal a
unfolding is_atom is_open holds_foreign is_foreign formula_parts
atom-local t.true_formula h o c = refl
atom-local t.false_formula h o c = refl
atom-local (t.free_truth x) h o c = refl
atom-local (t.read_truth f a) h o c =
    let v = t.of_truth (t.read_truth f a) in
    both-true (is_field_name f) (is_local_term a) (field-bare f (part-first (field_parts f order.InnerFirst) (term_parts a order.InnerFirst) v c)) (term-bare a (part-last (field_parts f order.InnerFirst) (term_parts a order.InnerFirst) v c))
atom-local (t.eq_object a b) h o c =
    let v = t.of_truth (t.eq_object a b) in
    both-true (is_local_term a) (is_local_term b) (term-bare a (part-first (term_parts a order.InnerFirst) (term_parts b order.InnerFirst) v c)) (term-bare b (part-last (term_parts a order.InnerFirst) (term_parts b order.InnerFirst) v c))
atom-local (t.eq_number a b) h o c =
    let v = t.of_truth (t.eq_number a b) in
    let simple : (is_simple a && is_simple b) ≡ true = simple-both (is_simple a) (is_simple b) false (none-last (int_parts a order.InnerFirst ++ int_parts b order.InnerFirst) (v ∷ []) c) in
    both-true (is_local_number a) (is_local_number b)
    (number-bare a (both-left (is_simple a) (is_simple b) simple) (part-first (int_parts a order.InnerFirst) (int_parts b order.InnerFirst) v c))
    (number-bare b (both-right (is_simple a) (is_simple b) simple) (part-last (int_parts a order.InnerFirst) (int_parts b order.InnerFirst) v c))
atom-local (t.member x a) h o c =
    let v = t.of_truth (t.member x a) in
    both-true (is_local_term x) (is_local_set a) (term-bare x (part-first (term_parts x order.InnerFirst) (set_parts a order.InnerFirst) v c)) (set-bare a o (part-last (term_parts x order.InnerFirst) (set_parts a order.InnerFirst) v c))
atom-local (t.reach fs a b) h o c =
    let v = t.of_truth (t.reach fs a b) in
    let ends : HasNone (term_parts a order.InnerFirst ++ term_parts b order.InnerFirst) = part-last (fields_parts fs order.InnerFirst) (term_parts a order.InnerFirst ++ term_parts b order.InnerFirst) v c in
    both-true (are_field_names fs && is_local_term a) (is_local_term b)
    (both-true (are_field_names fs) (is_local_term a) (fields-bare fs (part-first (fields_parts fs order.InnerFirst) (term_parts a order.InnerFirst ++ term_parts b order.InnerFirst) v c)) (term-bare a (none-first (term_parts a order.InnerFirst) (term_parts b order.InnerFirst) ends)))
    (term-bare b (none-last (term_parts a order.InnerFirst) (term_parts b order.InnerFirst) ends))
atom-local (t.tree fs) h o c = fields-bare fs (none-first (fields_parts fs order.InnerFirst) (t.of_truth (t.tree fs) ∷ []) c)
atom-local (t.less a b) h o c = absurd (true≢false (none-last (int_parts a order.InnerFirst ++ int_parts b order.InnerFirst) (t.of_truth (t.less a b) ∷ []) c))
atom-local (t.less_equal a b) h o c = absurd (true≢false (none-last (int_parts a order.InnerFirst ++ int_parts b order.InnerFirst) (t.of_truth (t.less_equal a b) ∷ []) c))
atom-local (t.divides z a) h o c = absurd (true≢false (none-last (int_parts a order.InnerFirst) (t.of_truth (t.divides z a) ∷ []) c))
atom-local (t.eq_set a b) h o c = absurd (true≢false (sym o))
atom-local (t.subset a b) h o c = absurd (true≢false (sym o))
atom-local a h o c = absurd (true≢false (sym h))

-- ---- what has local shape is cut nowhere inside

field-kept : (f : FieldTree) → is_field_name f ≡ true → is_field_name (built_field f cutting) ≡ true
unfolding built_field
field-kept (t.free_field x) h = refl
field-kept (t.update f a v) h = absurd (true≢false (sym h))

term-kept : (a : TermTree) → is_local_term a ≡ true → is_local_term (built_term a cutting) ≡ true
unfolding built_term
term-kept (t.bound k) h = refl
term-kept (t.free_object x) h = refl
term-kept t.null h = refl
term-kept (t.read_object f a) h = both-true (is_field_name (built_field f cutting)) (is_local_term (built_term a cutting)) (field-kept f (both-left (is_field_name f) (is_local_term a) h)) (term-kept a (both-right (is_field_name f) (is_local_term a) h))

number-kept : (a : IntTree) → is_local_number a ≡ true → is_local_number (built_int a cutting) ≡ true
unfolding built_int
number-kept (t.const z) h = refl
number-kept (t.free_number x) h = refl
number-kept (t.read_number f a) h = both-true (is_field_name (built_field f cutting)) (is_local_term (built_term a cutting)) (field-kept f (both-left (is_field_name f) (is_local_term a) h)) (term-kept a (both-right (is_field_name f) (is_local_term a) h))
number-kept a h = absurd (true≢false (sym h))

set-kept : (a : SetTree) → is_local_set a ≡ true → is_local_set (built_set a cutting) ≡ true
unfolding built_set
set-kept (t.free_set x) h = refl
set-kept (t.read_set f a) h = both-true (is_field_name (built_field f cutting)) (is_local_term (built_term a cutting)) (field-kept f (both-left (is_field_name f) (is_local_term a) h)) (term-kept a (both-right (is_field_name f) (is_local_term a) h))
set-kept a h = absurd (true≢false (sym h))

fields-kept : (fs : FieldTrees) → are_field_names fs ≡ true → are_field_names (built_fields fs cutting) ≡ true
unfolding built_fields
fields-kept t.none h = refl
fields-kept (t.more f fs) h = both-true (is_field_name (built_field f cutting)) (are_field_names (built_fields fs cutting)) (field-kept f (both-left (is_field_name f) (are_field_names fs) h)) (fields-kept fs (both-right (is_field_name f) (are_field_names fs) h))

instead-local : (a : FormulaTree) (s : Polarity) → IsLocal a → IsLocal (instead_of a s)
unfolding instead_of
instead-local a pol.Positive h = refl
instead-local a pol.Negative h = refl
instead-local a pol.Both h = h

either-local : (c : Bool) (a : FormulaTree) (s : Polarity) → IsLocal a → IsLocal (if c then instead_of a s else a)
either-local true a s h = instead-local a s h
either-local false a s h = h

-- orders, Divides and relations of sets are none such
no-local : (a b : IntTree) → holds_foreign (t.less a b) ≡ false → ⊥
unfolding holds_foreign is_foreign formula_parts
no-local a b c = true≢false (none-last (int_parts a order.InnerFirst ++ int_parts b order.InnerFirst) (t.of_truth (t.less a b) ∷ []) c)

none-local : (a b : IntTree) → holds_foreign (t.less_equal a b) ≡ false → ⊥
unfolding holds_foreign is_foreign formula_parts
none-local a b c = true≢false (none-last (int_parts a order.InnerFirst ++ int_parts b order.InnerFirst) (t.of_truth (t.less_equal a b) ∷ []) c)

not-local : (z : ℤ) (a : IntTree) → holds_foreign (t.divides z a) ≡ false → ⊥
unfolding holds_foreign is_foreign formula_parts
not-local z a c = true≢false (none-last (int_parts a order.InnerFirst) (t.of_truth (t.divides z a) ∷ []) c)

set-shut : (a b : SetTree) → is_open (t.eq_set a b) ≡ true → ⊥
unfolding is_open
set-shut a b o = true≢false (sym o)

subset-shut : (a b : SetTree) → is_open (t.subset a b) ≡ true → ⊥
unfolding is_open
subset-shut a b o = true≢false (sym o)

-- an atom that isn't cut, over what its parts become
whole-local : (a : FormulaTree) (s : Polarity) → is_atom a ≡ true → is_open a ≡ true → holds_foreign a ≡ false → IsLocal (built_formula a cutting s)
unfolding built_formula cut_once is_atom
whole-local t.true_formula s h o c = either-local (holds_foreign t.true_formula) t.true_formula s refl
whole-local t.false_formula s h o c = either-local (holds_foreign t.false_formula) t.false_formula s refl
whole-local (t.free_truth x) s h o c = either-local (holds_foreign (t.free_truth x)) (t.free_truth x) s refl
whole-local (t.read_truth f a) s h o c =
    let is : IsLocal (t.read_truth f a) = atom-local (t.read_truth f a) refl o c in
    either-local (holds_foreign (t.read_truth (built_field f cutting) (built_term a cutting))) (t.read_truth (built_field f cutting) (built_term a cutting)) s
    (both-true (is_field_name (built_field f cutting)) (is_local_term (built_term a cutting)) (field-kept f (both-left (is_field_name f) (is_local_term a) is)) (term-kept a (both-right (is_field_name f) (is_local_term a) is)))
whole-local (t.eq_object a b) s h o c =
    let is : IsLocal (t.eq_object a b) = atom-local (t.eq_object a b) refl o c in
    either-local (holds_foreign (t.eq_object (built_term a cutting) (built_term b cutting))) (t.eq_object (built_term a cutting) (built_term b cutting)) s
    (both-true (is_local_term (built_term a cutting)) (is_local_term (built_term b cutting)) (term-kept a (both-left (is_local_term a) (is_local_term b) is)) (term-kept b (both-right (is_local_term a) (is_local_term b) is)))
whole-local (t.eq_number a b) s h o c =
    let is : IsLocal (t.eq_number a b) = atom-local (t.eq_number a b) refl o c in
    either-local (holds_foreign (t.eq_number (built_int a cutting) (built_int b cutting))) (t.eq_number (built_int a cutting) (built_int b cutting)) s
    (both-true (is_local_number (built_int a cutting)) (is_local_number (built_int b cutting)) (number-kept a (both-left (is_local_number a) (is_local_number b) is)) (number-kept b (both-right (is_local_number a) (is_local_number b) is)))
whole-local (t.member x a) s h o c =
    let is : IsLocal (t.member x a) = atom-local (t.member x a) refl o c in
    either-local (holds_foreign (t.member (built_term x cutting) (built_set a cutting))) (t.member (built_term x cutting) (built_set a cutting)) s
    (both-true (is_local_term (built_term x cutting)) (is_local_set (built_set a cutting)) (term-kept x (both-left (is_local_term x) (is_local_set a) is)) (set-kept a (both-right (is_local_term x) (is_local_set a) is)))
whole-local (t.reach fs a b) s h o c =
    let is : IsLocal (t.reach fs a b) = atom-local (t.reach fs a b) refl o c in
    let two : (are_field_names fs && is_local_term a) ≡ true = both-left (are_field_names fs && is_local_term a) (is_local_term b) is in
    either-local (holds_foreign (t.reach (built_fields fs cutting) (built_term a cutting) (built_term b cutting))) (t.reach (built_fields fs cutting) (built_term a cutting) (built_term b cutting)) s
    (both-true (are_field_names (built_fields fs cutting) && is_local_term (built_term a cutting)) (is_local_term (built_term b cutting))
    (both-true (are_field_names (built_fields fs cutting)) (is_local_term (built_term a cutting)) (fields-kept fs (both-left (are_field_names fs) (is_local_term a) two)) (term-kept a (both-right (are_field_names fs) (is_local_term a) two)))
    (term-kept b (both-right (are_field_names fs && is_local_term a) (is_local_term b) is)))
whole-local (t.tree fs) s h o c = either-local (holds_foreign (t.tree (built_fields fs cutting))) (t.tree (built_fields fs cutting)) s (fields-kept fs (atom-local (t.tree fs) refl o c))
whole-local (t.less a b) s h o c = absurd (no-local a b c)
whole-local (t.less_equal a b) s h o c = absurd (none-local a b c)
whole-local (t.divides z a) s h o c = absurd (not-local z a c)
whole-local (t.eq_set a b) s h o c = absurd (set-shut a b o)
whole-local (t.subset a b) s h o c = absurd (subset-shut a b o)
whole-local a s h o c = absurd (true≢false (sym h))

-- where nothing is cut
uncut-local : (a : FormulaTree) (s : Polarity) → is_open a ≡ true → holds_foreign a ≡ false → IsLocal (built_formula a cutting s)
unfolding built_formula cut_once is_open holds_foreign formula_parts is_atom
uncut-local (t.negation a) s o c = negation-local (built_formula a cutting (turned s)) (uncut-local a (turned s) o (none-first (formula_parts a order.InnerFirst) (t.of_truth (t.negation a) ∷ []) c))
uncut-local (t.and a b) s o c =
    and-local (built_formula a cutting s) (built_formula b cutting s) (uncut-local a s (both-left (is_open a) (is_open b) o) (part-first (formula_parts a order.InnerFirst) (formula_parts b order.InnerFirst) (t.of_truth (t.and a b)) c)) (uncut-local b s (both-right (is_open a) (is_open b) o) (part-last (formula_parts a order.InnerFirst) (formula_parts b order.InnerFirst) (t.of_truth (t.and a b)) c))
uncut-local (t.or a b) s o c =
    or-local (built_formula a cutting s) (built_formula b cutting s) (uncut-local a s (both-left (is_open a) (is_open b) o) (part-first (formula_parts a order.InnerFirst) (formula_parts b order.InnerFirst) (t.of_truth (t.or a b)) c)) (uncut-local b s (both-right (is_open a) (is_open b) o) (part-last (formula_parts a order.InnerFirst) (formula_parts b order.InnerFirst) (t.of_truth (t.or a b)) c))
uncut-local (t.implies a b) s o c =
    implies-local (built_formula a cutting (turned s)) (built_formula b cutting s) (uncut-local a (turned s) (both-left (is_open a) (is_open b) o) (part-first (formula_parts a order.InnerFirst) (formula_parts b order.InnerFirst) (t.of_truth (t.implies a b)) c)) (uncut-local b s (both-right (is_open a) (is_open b) o) (part-last (formula_parts a order.InnerFirst) (formula_parts b order.InnerFirst) (t.of_truth (t.implies a b)) c))
uncut-local (t.iff a b) s o c =
    iff-local (built_formula a cutting pol.Both) (built_formula b cutting pol.Both) (uncut-local a pol.Both (both-left (is_open a) (is_open b) o) (part-first (formula_parts a order.InnerFirst) (formula_parts b order.InnerFirst) (t.of_truth (t.iff a b)) c)) (uncut-local b pol.Both (both-right (is_open a) (is_open b) o) (part-last (formula_parts a order.InnerFirst) (formula_parts b order.InnerFirst) (t.of_truth (t.iff a b)) c))
uncut-local (t.all a) s o c = all-local (built_formula a cutting s) (uncut-local a s o (none-first (formula_parts a order.InnerFirst) (t.of_truth (t.all a) ∷ []) c))
uncut-local (t.ex a) s o c = ex-local (built_formula a cutting s) (uncut-local a s o (none-first (formula_parts a order.InnerFirst) (t.of_truth (t.ex a) ∷ []) c))
uncut-local (t.mark m a) s o c = mark-local m (built_formula a cutting s) (uncut-local a s o (none-first (formula_parts a order.InnerFirst) (t.of_truth (t.mark m a) ∷ []) c))
uncut-local t.true_formula s o c = whole-local t.true_formula s refl o c
uncut-local t.false_formula s o c = whole-local t.false_formula s refl o c
uncut-local (t.free_truth x) s o c = whole-local (t.free_truth x) s refl o c
uncut-local (t.read_truth f a) s o c = whole-local (t.read_truth f a) s refl o c
uncut-local (t.eq_object a b) s o c = whole-local (t.eq_object a b) s refl o c
uncut-local (t.eq_number a b) s o c = whole-local (t.eq_number a b) s refl o c
uncut-local (t.eq_set a b) s o c = whole-local (t.eq_set a b) s refl o c
uncut-local (t.less a b) s o c = whole-local (t.less a b) s refl o c
uncut-local (t.less_equal a b) s o c = whole-local (t.less_equal a b) s refl o c
uncut-local (t.divides z a) s o c = whole-local (t.divides z a) s refl o c
uncut-local (t.member x a) s o c = whole-local (t.member x a) s refl o c
uncut-local (t.subset a b) s o c = whole-local (t.subset a b) s refl o c
uncut-local (t.reach fs a b) s o c = whole-local (t.reach fs a b) s refl o c
uncut-local (t.tree fs) s o c = whole-local (t.tree fs) s refl o c

-- ---- where something is

-- it stands positively or negatively
unfoldable pub is_signed : Polarity → Bool
is_signed pol.Positive = true
is_signed pol.Negative = true
is_signed pol.Both = false

signed-turned : (s : Polarity) → is_signed s ≡ true → is_signed (turned s) ≡ true
unfolding is_signed turned
signed-turned pol.Positive h = refl
signed-turned pol.Negative h = refl
signed-turned pol.Both h = h

instead-signed : (a : FormulaTree) (s : Polarity) → is_signed s ≡ true → IsLocal (instead_of a s)
unfolding is_signed instead_of
instead-signed a pol.Positive h = refl
instead-signed a pol.Negative h = refl
instead-signed a pol.Both h = absurd (true≢false (sym h))

cut-local : (c : Bool) (a : FormulaTree) (s : Polarity) → is_signed s ≡ true → (c ≡ false → IsLocal a) → IsLocal (if c then instead_of a s else a)
cut-local true a s h k = instead-signed a s h
cut-local false a s h k = k refl

named-kept : (a : SetTree) → is_named_set a ≡ true → is_named_set (built_set a cutting) ≡ true
unfolding built_set is_named_set
named-kept (t.free_set x) h = refl
named-kept (t.read_set f a) h = refl
named-kept a h = absurd (true≢false (sym h))

not-either : (p : Bool) → not p ≡ true → p ≡ false
not-either true h = absurd (true≢false (sym h))
not-either false h = refl

pub built-local : (a : FormulaTree) (s : Polarity) → is_signed s ≡ true → is_open a ≡ true → is_split a ≡ true → IsLocal (built_formula a cutting s)
unfolding built_formula cut_once is_open is_split is_atom
built-local (t.negation a) s h o p = negation-local (built_formula a cutting (turned s)) (built-local a (turned s) (signed-turned s h) o p)
built-local (t.and a b) s h o p =
    and-local (built_formula a cutting s) (built_formula b cutting s) (built-local a s h (both-left (is_open a) (is_open b) o) (both-left (is_split a) (is_split b) p)) (built-local b s h (both-right (is_open a) (is_open b) o) (both-right (is_split a) (is_split b) p))
built-local (t.or a b) s h o p =
    or-local (built_formula a cutting s) (built_formula b cutting s) (built-local a s h (both-left (is_open a) (is_open b) o) (both-left (is_split a) (is_split b) p)) (built-local b s h (both-right (is_open a) (is_open b) o) (both-right (is_split a) (is_split b) p))
built-local (t.implies a b) s h o p =
    implies-local (built_formula a cutting (turned s)) (built_formula b cutting s) (built-local a (turned s) (signed-turned s h) (both-left (is_open a) (is_open b) o) (both-left (is_split a) (is_split b) p)) (built-local b s h (both-right (is_open a) (is_open b) o) (both-right (is_split a) (is_split b) p))
built-local (t.iff a b) s h o p =
    let none : (holds_foreign a || holds_foreign b) ≡ false = not-either (holds_foreign a || holds_foreign b) p in
    iff-local (built_formula a cutting pol.Both) (built_formula b cutting pol.Both) (uncut-local a pol.Both (both-left (is_open a) (is_open b) o) (either-left (holds_foreign a) (holds_foreign b) none)) (uncut-local b pol.Both (both-right (is_open a) (is_open b) o) (either-right (holds_foreign a) (holds_foreign b) none))
built-local (t.all a) s h o p = all-local (built_formula a cutting s) (built-local a s h o p)
built-local (t.ex a) s h o p = ex-local (built_formula a cutting s) (built-local a s h o p)
built-local (t.mark m a) s h o p = mark-local m (built_formula a cutting s) (built-local a s h o p)
built-local t.true_formula s h o p = cut-local (holds_foreign t.true_formula) t.true_formula s h (λ c. refl)
built-local t.false_formula s h o p = cut-local (holds_foreign t.false_formula) t.false_formula s h (λ c. refl)
built-local (t.free_truth x) s h o p = cut-local (holds_foreign (t.free_truth x)) (t.free_truth x) s h (λ c. refl)
built-local (t.read_truth f a) s h o p = cut-local (holds_foreign (t.read_truth (built_field f cutting) (built_term a cutting))) (t.read_truth (built_field f cutting) (built_term a cutting)) s h (atom-local (t.read_truth (built_field f cutting) (built_term a cutting)) refl refl)
built-local (t.eq_object a b) s h o p = cut-local (holds_foreign (t.eq_object (built_term a cutting) (built_term b cutting))) (t.eq_object (built_term a cutting) (built_term b cutting)) s h (atom-local (t.eq_object (built_term a cutting) (built_term b cutting)) refl refl)
built-local (t.eq_number a b) s h o p = cut-local (holds_foreign (t.eq_number (built_int a cutting) (built_int b cutting))) (t.eq_number (built_int a cutting) (built_int b cutting)) s h (atom-local (t.eq_number (built_int a cutting) (built_int b cutting)) refl refl)
built-local (t.eq_set a b) s h o p = absurd (true≢false (sym o))
built-local (t.less a b) s h o p = cut-local (holds_foreign (t.less (built_int a cutting) (built_int b cutting))) (t.less (built_int a cutting) (built_int b cutting)) s h (atom-local (t.less (built_int a cutting) (built_int b cutting)) refl refl)
built-local (t.less_equal a b) s h o p = cut-local (holds_foreign (t.less_equal (built_int a cutting) (built_int b cutting))) (t.less_equal (built_int a cutting) (built_int b cutting)) s h (atom-local (t.less_equal (built_int a cutting) (built_int b cutting)) refl refl)
built-local (t.divides z a) s h o p = cut-local (holds_foreign (t.divides z (built_int a cutting))) (t.divides z (built_int a cutting)) s h (atom-local (t.divides z (built_int a cutting)) refl refl)
built-local (t.member x a) s h o p = cut-local (holds_foreign (t.member (built_term x cutting) (built_set a cutting))) (t.member (built_term x cutting) (built_set a cutting)) s h (atom-local (t.member (built_term x cutting) (built_set a cutting)) refl (named-kept a o))
built-local (t.subset a b) s h o p = absurd (true≢false (sym o))
built-local (t.reach fs a b) s h o p = cut-local (holds_foreign (t.reach (built_fields fs cutting) (built_term a cutting) (built_term b cutting))) (t.reach (built_fields fs cutting) (built_term a cutting) (built_term b cutting)) s h (atom-local (t.reach (built_fields fs cutting) (built_term a cutting) (built_term b cutting)) refl refl)
built-local (t.tree fs) s h o p = cut-local (holds_foreign (t.tree (built_fields fs cutting))) (t.tree (built_fields fs cutting)) s h (atom-local (t.tree (built_fields fs cutting)) refl refl)

signed-local : (a : FormulaTree) (s : Polarity) → is_signed s ≡ true → IsLocal (cut (sets_opened a) s)
unfolding cut
signed-local a s h =
    let even : is_even (iffs_opened (sets_opened a)) ≡ true = iffs-opened-even (sets_opened a) (sets-opened-open a) in
    built-local (iffs_opened (sets_opened a)) s h (both-left (is_open (iffs_opened (sets_opened a))) (is_split (iffs_opened (sets_opened a))) even) (both-right (is_open (iffs_opened (sets_opened a))) (is_split (iffs_opened (sets_opened a))) even)

pub fact-local : (a : FormulaTree) → has_local_shape (cut (sets_opened a) pol.Negative) ≡ true
unfolding is_signed
fact-local a = signed-local a pol.Negative refl

pub goal-local : (a : FormulaTree) → has_local_shape (cut (sets_opened a) pol.Positive) ≡ true
unfolding is_signed
goal-local a = signed-local a pol.Positive refl
