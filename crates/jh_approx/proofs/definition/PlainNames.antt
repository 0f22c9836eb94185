-- The names of plain formulas are null and free names, and each stands at its own place.
use Rattle.std.proofs.Common.{◌≡◌, refl, ap, ◌∙◌, ℕ, zero, suc, ◌+◌, ◌<◌, Bool, true, false, not, ◌&&◌, if◌then◌else◌, List, [], ◌∷◌, ◌++◌, length, get_or, arith}
use Rattle.std.specs.Prelude.{filter}
use Rattle.std.specs.List.{list_all}
use Rattle.std.proofs.lemmas.Bool.{and_from}
use Rattle.std.proofs.lemmas.List.Folds.{list_all-append}
use Rattle.jh_form.specs.Tree.{TermTree, IntTree, SetTree, ValueTree, FormulaTree, of_object, of_number, of_truth, of_set, of_field}
use Rattle.jh_form.specs.Tree as t
use Rattle.jh_query.specs.queries.Named.{is_divisor}
use Rattle.jh_boxed_operations.specs.comparison.Exchanged.{equal_trees}
use Rattle.jh_boxed_operations.proofs.comparison.Equalities.{equal_trees-same}
use Rattle.jh_approx.specs.definition.Shown.{replacement, negation_of, and_before, and_of, or_before, or_of, implies_before, implies_of, iff_before, iff_of, is_sayable, shown}
use Rattle.jh_approx.specs.definition.Names.{set_names, number_names, names, without_repeats, place_in}
use Rattle.jh_approx.specs.definition.Plain.{is_plain_term, is_plain_set, is_plain_number, is_plain_formula}
use Rattle.jh_approx.proofs.definition.Counts.{first, second, not-true}
use Rattle.jh_approx.proofs.definition.Filters.{all-get, filter-keeps, filter-passes}

-- null, or a free name of any sort
unfoldable pub is_plain_name : ValueTree → Bool
is_plain_name (of_object a) = is_plain_term a
is_plain_name (of_number (t.free_number x)) = true
is_plain_name (of_truth (t.free_truth x)) = true
is_plain_name (of_set (t.free_set x)) = true
is_plain_name v = false

abbrev pub ArePlain : List ValueTree → Type 0
ArePlain vs = list_all is_plain_name vs ≡ true

pub plain-append : (xs ys : List ValueTree) → ArePlain xs → ArePlain ys → ArePlain (xs ++ ys)
plain-append xs ys h k = list_all-append is_plain_name xs ys ∙ and_from (list_all is_plain_name xs) (list_all is_plain_name ys) h k

one : (v : ValueTree) → is_plain_name v ≡ true → ArePlain (v ∷ [])
one v h = and_from (is_plain_name v) true h refl

-- ---- names

set-plain : (a : SetTree) → is_plain_set a ≡ true → ArePlain (set_names a)
unfolding is_plain_set set_names is_plain_name
set-plain (t.free_set x) h = refl
set-plain (t.read_set f b) h = cc
set-plain t.empty h = refl
set-plain t.univ h = refl
set-plain (t.single a) h = one (of_object a) h
set-plain (t.union a b) h = plain-append (set_names a) (set_names b) (set-plain a (first (is_plain_set a) (is_plain_set b) h)) (set-plain b (second (is_plain_set a) (is_plain_set b) h))
set-plain (t.inter a b) h = plain-append (set_names a) (set_names b) (set-plain a (first (is_plain_set a) (is_plain_set b) h)) (set-plain b (second (is_plain_set a) (is_plain_set b) h))
set-plain (t.diff a b) h = plain-append (set_names a) (set_names b) (set-plain a (first (is_plain_set a) (is_plain_set b) h)) (set-plain b (second (is_plain_set a) (is_plain_set b) h))
set-plain (t.compl a) h = set-plain a h
set-plain (t.compr a) h = cc

number-plain : (a : IntTree) → is_plain_number a ≡ true → ArePlain (number_names a)
unfolding is_plain_number number_names is_plain_name
number-plain (t.const z) h = refl
number-plain (t.free_number x) h = refl
number-plain (t.read_number f b) h = cc
number-plain (t.add a b) h = plain-append (number_names a) (number_names b) (number-plain a (first (is_plain_number a) (is_plain_number b) h)) (number-plain b (second (is_plain_number a) (is_plain_number b) h))
number-plain (t.sub a b) h = plain-append (number_names a) (number_names b) (number-plain a (first (is_plain_number a) (is_plain_number b) h)) (number-plain b (second (is_plain_number a) (is_plain_number b) h))
number-plain (t.neg a) h = number-plain a h
number-plain (t.scale z a) h = number-plain a h
number-plain (t.card a) h = set-plain a h

pub names-plain : (a : FormulaTree) → is_plain_formula a ≡ true → ArePlain (names a)
unfolding is_plain_formula names is_plain_name
names-plain t.true_formula h = refl
names-plain t.false_formula h = refl
names-plain (t.free_truth x) h = refl
names-plain (t.read_truth f b) h = cc
names-plain (t.negation a) h = names-plain a h
names-plain (t.and a b) h = plain-append (names a) (names b) (names-plain a (first (is_plain_formula a) (is_plain_formula b) h)) (names-plain b (second (is_plain_formula a) (is_plain_formula b) h))
names-plain (t.or a b) h = plain-append (names a) (names b) (names-plain a (first (is_plain_formula a) (is_plain_formula b) h)) (names-plain b (second (is_plain_formula a) (is_plain_formula b) h))
names-plain (t.implies a b) h = plain-append (names a) (names b) (names-plain a (first (is_plain_formula a) (is_plain_formula b) h)) (names-plain b (second (is_plain_formula a) (is_plain_formula b) h))
names-plain (t.iff a b) h = plain-append (names a) (names b) (names-plain a (first (is_plain_formula a) (is_plain_formula b) h)) (names-plain b (second (is_plain_formula a) (is_plain_formula b) h))
names-plain (t.eq_object a b) h = and_from (is_plain_term a) (is_plain_term b && true) (first (is_plain_term a) (is_plain_term b) h) (and_from (is_plain_term b) true (second (is_plain_term a) (is_plain_term b) h) refl)
names-plain (t.eq_number a b) h = plain-append (number_names a) (number_names b) (number-plain a (first (is_plain_number a) (is_plain_number b) h)) (number-plain b (second (is_plain_number a) (is_plain_number b) h))
names-plain (t.eq_set a b) h = plain-append (set_names a) (set_names b) (set-plain a (first (is_plain_set a) (is_plain_set b) h)) (set-plain b (second (is_plain_set a) (is_plain_set b) h))
names-plain (t.less a b) h = plain-append (number_names a) (number_names b) (number-plain a (first (is_plain_number a) (is_plain_number b) h)) (number-plain b (second (is_plain_number a) (is_plain_number b) h))
names-plain (t.less_equal a b) h = plain-append (number_names a) (number_names b) (number-plain a (first (is_plain_number a) (is_plain_number b) h)) (number-plain b (second (is_plain_number a) (is_plain_number b) h))
names-plain (t.divides z a) h = number-plain a (second (is_divisor z) (is_plain_number a) h)
names-plain (t.member a b) h = and_from (is_plain_term a) (list_all is_plain_name (set_names b)) (first (is_plain_term a) (is_plain_set b) h) (set-plain b (second (is_plain_term a) (is_plain_set b) h))
names-plain (t.subset a b) h = plain-append (set_names a) (set_names b) (set-plain a (first (is_plain_set a) (is_plain_set b) h)) (set-plain b (second (is_plain_set a) (is_plain_set b) h))
names-plain (t.all a) h = cc
names-plain (t.ex a) h = cc
names-plain (t.reach fs a b) h = cc
names-plain (t.tree fs) h = cc
names-plain (t.mark k a) h = refl

-- ---- what is shown of a plain formula is plain

negation-plain : (a : FormulaTree) → is_plain_formula a ≡ true → is_plain_formula (negation_of a) ≡ true
unfolding negation_of is_plain_formula
negation-plain t.true_formula h = refl
negation-plain t.false_formula h = refl
negation-plain a h = h

and-before-plain : (a b : FormulaTree) → is_plain_formula a ≡ true → is_plain_formula b ≡ true → is_plain_formula (and_before a b) ≡ true
unfolding and_before is_plain_formula
and-before-plain a t.true_formula h k = h
and-before-plain a t.false_formula h k = refl
and-before-plain a b h k = and_from (is_plain_formula a) (is_plain_formula b) h k

and-plain : (a b : FormulaTree) → is_plain_formula a ≡ true → is_plain_formula b ≡ true → is_plain_formula (and_of a b) ≡ true
unfolding and_of is_plain_formula
and-plain t.true_formula b h k = k
and-plain t.false_formula b h k = refl
and-plain a b h k = and-before-plain a b h k

or-before-plain : (a b : FormulaTree) → is_plain_formula a ≡ true → is_plain_formula b ≡ true → is_plain_formula (or_before a b) ≡ true
unfolding or_before is_plain_formula
or-before-plain a t.true_formula h k = refl
or-before-plain a t.false_formula h k = h
or-before-plain a b h k = and_from (is_plain_formula a) (is_plain_formula b) h k

or-plain : (a b : FormulaTree) → is_plain_formula a ≡ true → is_plain_formula b ≡ true → is_plain_formula (or_of a b) ≡ true
unfolding or_of is_plain_formula
or-plain t.true_formula b h k = refl
or-plain t.false_formula b h k = k
or-plain a b h k = or-before-plain a b h k

implies-before-plain : (a b : FormulaTree) → is_plain_formula a ≡ true → is_plain_formula b ≡ true → is_plain_formula (implies_before a b) ≡ true
unfolding implies_before is_plain_formula
implies-before-plain a t.true_formula h k = refl
implies-before-plain a t.false_formula h k = negation-plain a h
implies-before-plain a b h k = and_from (is_plain_formula a) (is_plain_formula b) h k

implies-plain : (a b : FormulaTree) → is_plain_formula a ≡ true → is_plain_formula b ≡ true → is_plain_formula (implies_of a b) ≡ true
unfolding implies_of is_plain_formula
implies-plain t.true_formula b h k = k
implies-plain t.false_formula b h k = refl
implies-plain a b h k = implies-before-plain a b h k

iff-before-plain : (a b : FormulaTree) → is_plain_formula a ≡ true → is_plain_formula b ≡ true → is_plain_formula (iff_before a b) ≡ true
unfolding iff_before is_plain_formula
iff-before-plain a t.true_formula h k = h
iff-before-plain a t.false_formula h k = negation-plain a h
iff-before-plain a b h k = and_from (is_plain_formula a) (is_plain_formula b) h k

iff-plain : (a b : FormulaTree) → is_plain_formula a ≡ true → is_plain_formula b ≡ true → is_plain_formula (iff_of a b) ≡ true
unfolding iff_of is_plain_formula
iff-plain t.true_formula b h k = k
iff-plain t.false_formula b h k = negation-plain b k
iff-plain a b h k = iff-before-plain a b h k

-- a query can say all of a plain formula
pub plain-sayable : (a : FormulaTree) → is_plain_formula a ≡ true → is_sayable a ≡ true
unfolding is_plain_formula is_sayable
plain-sayable (t.read_truth f b) h = cc
plain-sayable (t.negation a) h = plain-sayable a h
plain-sayable (t.and a b) h = and_from (is_sayable a) (is_sayable b) (plain-sayable a (first (is_plain_formula a) (is_plain_formula b) h)) (plain-sayable b (second (is_plain_formula a) (is_plain_formula b) h))
plain-sayable (t.or a b) h = and_from (is_sayable a) (is_sayable b) (plain-sayable a (first (is_plain_formula a) (is_plain_formula b) h)) (plain-sayable b (second (is_plain_formula a) (is_plain_formula b) h))
plain-sayable (t.implies a b) h = and_from (is_sayable a) (is_sayable b) (plain-sayable a (first (is_plain_formula a) (is_plain_formula b) h)) (plain-sayable b (second (is_plain_formula a) (is_plain_formula b) h))
plain-sayable (t.iff a b) h = and_from (is_sayable a) (is_sayable b) (plain-sayable a (first (is_plain_formula a) (is_plain_formula b) h)) (plain-sayable b (second (is_plain_formula a) (is_plain_formula b) h))
plain-sayable (t.mark k a) h = plain-sayable a h
plain-sayable (t.all a) h = cc
plain-sayable (t.ex a) h = cc
plain-sayable (t.reach fs a b) h = cc
plain-sayable (t.tree fs) h = cc
plain-sayable (t.divides z a) h = first (is_divisor z) (is_plain_number a) h
plain-sayable t.true_formula h = refl
plain-sayable t.false_formula h = refl
plain-sayable (t.free_truth x) h = refl
plain-sayable (t.eq_object a b) h = refl
plain-sayable (t.eq_number a b) h = refl
plain-sayable (t.eq_set a b) h = refl
plain-sayable (t.less a b) h = refl
plain-sayable (t.less_equal a b) h = refl
plain-sayable (t.member a b) h = refl
plain-sayable (t.subset a b) h = refl

pub shown-plain : (a : FormulaTree) (s : Bool) → is_plain_formula a ≡ true → is_plain_formula (shown a s) ≡ true
unfolding is_plain_formula shown
shown-plain (t.negation a) s h = negation-plain (shown a (not s)) (shown-plain a (not s) h)
shown-plain (t.and a b) s h = and-plain (shown a s) (shown b s) (shown-plain a s (first (is_plain_formula a) (is_plain_formula b) h)) (shown-plain b s (second (is_plain_formula a) (is_plain_formula b) h))
shown-plain (t.or a b) s h = or-plain (shown a s) (shown b s) (shown-plain a s (first (is_plain_formula a) (is_plain_formula b) h)) (shown-plain b s (second (is_plain_formula a) (is_plain_formula b) h))
shown-plain (t.implies a b) s h = implies-plain (shown a (not s)) (shown b s) (shown-plain a (not s) (first (is_plain_formula a) (is_plain_formula b) h)) (shown-plain b s (second (is_plain_formula a) (is_plain_formula b) h))
shown-plain (t.iff a b) s h =
    let left : is_plain_formula a ≡ true = first (is_plain_formula a) (is_plain_formula b) h in
    let right : is_plain_formula b ≡ true = second (is_plain_formula a) (is_plain_formula b) h in
    ap (λ (c : Bool). is_plain_formula (if c then iff_of (shown a s) (shown b s) else and_of (implies_of (shown a (not s)) (shown b s)) (implies_of (shown b (not s)) (shown a s)))) (and_from (is_sayable a) (is_sayable b) (plain-sayable a left) (plain-sayable b right))
    ∙ iff-plain (shown a s) (shown b s) (shown-plain a s left) (shown-plain b s right)
shown-plain (t.mark k a) s h = shown-plain a s h
shown-plain (t.all a) s h = cc
shown-plain (t.ex a) s h = cc
shown-plain (t.reach fs a b) s h = cc
shown-plain (t.tree fs) s h = cc
shown-plain (t.divides z a) s h = ap (λ (c : Bool). is_plain_formula (if c then t.divides z a else replacement s)) (first (is_divisor z) (is_plain_number a) h) ∙ h
shown-plain a s h = h

-- ---- names each once

pub once-plain : (vs : List ValueTree) → ArePlain vs → ArePlain (without_repeats vs)
unfolding without_repeats
once-plain [] h = refl
once-plain (v ∷ vs) h =
    and_from (is_plain_name v) (list_all is_plain_name (filter (λ w. not (equal_trees v w)) (without_repeats vs))) (first (is_plain_name v) (list_all is_plain_name vs) h)
    (filter-keeps (λ w. not (equal_trees v w)) is_plain_name (without_repeats vs) (once-plain vs (second (is_plain_name v) (list_all is_plain_name vs) h)))

-- no name stands twice
abbrev pub Apart : List ValueTree → Type 0
Apart [] = Unit {0}
Apart (v ∷ vs) = (list_all (λ w. not (equal_trees v w)) vs ≡ true) × Apart vs

chosen-apart : (b : Bool) (v : ValueTree) (vs : List ValueTree) → list_all (λ w. not (equal_trees v w)) vs ≡ true → Apart vs → Apart (if b then v ∷ vs else vs)
chosen-apart true v vs h k = (h, k)
chosen-apart false v vs h k = k

filter-apart : (p : ValueTree → Bool) (vs : List ValueTree) → Apart vs → Apart (filter p vs)
filter-apart p [] h = tt
filter-apart p (v ∷ vs) h = chosen-apart (p v) v (filter p vs) (filter-keeps p (λ w. not (equal_trees v w)) vs h.0) (filter-apart p vs h.1)

pub once-apart : (vs : List ValueTree) → Apart (without_repeats vs)
unfolding without_repeats
once-apart [] = tt
once-apart (v ∷ vs) = (filter-passes (λ w. not (equal_trees v w)) (without_repeats vs), filter-apart (λ w. not (equal_trees v w)) (without_repeats vs) (once-apart vs))

-- where a name stands, there is its place
pub name-place : (vs : List ValueTree) (k : ℕ) (d : ValueTree) → Apart vs → k < length vs → place_in vs (get_or vs k d) ≡ k
unfolding place_in
name-place [] k d h lt = absurd (omega (arith, lt))
name-place (v ∷ vs) zero d h lt = ap (λ (b : Bool). if b then 0 else place_in vs v + 1) (equal_trees-same v v refl)
name-place (v ∷ vs) (suc k) d h lt =
    ap (λ (b : Bool). if b then 0 else place_in vs (get_or vs k d) + 1) (not-true (equal_trees v (get_or vs k d)) (all-get (λ w. not (equal_trees v w)) vs k d h.0 (omega (arith, lt))))
    ∙ (let rest : place_in vs (get_or vs k d) ≡ k = name-place vs k d h.1 (omega (arith, lt)) in omega (arith, rest))
