-- How a list of terms grows where the closed terms of formulas are added: by no more than there are new ones.
use Rattle.std.proofs.Common.{◌≡◌, refl, sym, ap, ◌∙◌, subst, ◌+◌, ◌≤◌, arith, length, Bool, true, false, ◌&&◌, if◌then◌else◌, List, [], ◌∷◌, ◌++◌, ◌⊎◌, inl, inr, append_assoc}
use Rattle.std.proofs.lemmas.Bool.{true≢false}
use Rattle.std.proofs.lemmas.List.{append-nil}
use Rattle.jh_form.specs.Tree.{TermTree, IntTree, SetTree, ValueTree, FormulaTree, of_object, of_number, of_truth, of_set, of_field}
use Rattle.jh_form.specs.Tree as t
use Rattle.jh_form.specs.Closed.{is_closed_term, is_closed_field}
use Rattle.jh_form.proofs.ClosedLemmas.{both-left, both-right}
use Rattle.jh_boxed_operations.specs.comparison.Exchanged.{equal_trees}
use Rattle.jh_boxed_operations.proofs.comparison.Equalities.{equal_trees-true, equal_trees-same}
use Rattle.jh_seq.specs.splitting.Local.{is_field_name, are_field_names, is_local_term, is_local_number, is_local_set, has_local_shape}
use Rattle.jh_inst.specs.instances.Terms.{terms_in, number_terms, set_terms, object_terms, closed_terms, is_among, with_term, with_terms, with_terms_of}
use Rattle.jh_inst.proofs.instances.Connectives.{either, or_left, or_right}
use Rattle.jh_inst.proofs.instances.Fronting.{filter-in, in-filter}
use Rattle.jh_inst.proofs.instances.Gathering.{IsClosed}
use Rattle.jh_inst.proofs.instances.Lengths.{length-both, In, in-left, in-right, in-both, Once, AllIn, once-shorter}
use Rattle.jh_inst.proofs.instances.Stages.{IsThere}

term_of : ValueTree → TermTree
term_of (of_object a) = a
term_of _ = t.null

same-term : (a b : TermTree) → of_object a ≡ of_object b → a ≡ b
unfolding term_of
same-term a b e = ap term_of e

among-in : (a : TermTree) (ts : List TermTree) → is_among a ts ≡ true → In a ts
among-in a [] h = absurd (true≢false (sym h))
among-in a (b ∷ ts) h =
    elim (either (equal_trees (of_object a) (of_object b)) (is_among a ts) h) [
      | inl e ↦ inl (same-term a b (equal_trees-true (of_object a) (of_object b) e))
      | inr r ↦ inr (among-in a ts r)
    ]

in-among : (a : TermTree) (ts : List TermTree) → In a ts → is_among a ts ≡ true
in-among a [] h = absurd h
in-among a (b ∷ ts) (inl e) = or_left (equal_trees (of_object a) (of_object b)) (is_among a ts) (equal_trees-same (of_object a) (of_object b) (ap of_object e))
in-among a (b ∷ ts) (inr h) = or_right (equal_trees (of_object a) (of_object b)) (is_among a ts) (in-among a ts h)

-- the list begins with ts, and goes on with some of more, each once
abbrev Grown : List TermTree → List TermTree → List TermTree → Type 0
Grown ts more xs = (new : List TermTree) × (xs ≡ ts ++ new) × Once new × AllIn new more

once-more : (a : TermTree) (new : List TermTree) → Once new → (In a new → ⊥) → Once (new ++ (a ∷ []))
once-more a [] o never = ((λ h. h), tt)
once-more a (b ∷ new) o never = (
  (λ h. elim (in-both b new (a ∷ []) h) [
    | inl l ↦ o.0 l
    | inr r ↦ elim r [
      | inl e ↦ never (inl (sym e))
      | inr z ↦ z
    ]
  ]),
  once-more a new o.1 (λ h. never (inr h)),
)

in-more : (a : TermTree) (new more : List TermTree) → AllIn new more → In a more → AllIn (new ++ (a ∷ [])) more
in-more a [] more all h = (h, tt)
in-more a (b ∷ new) more all h = (all.0, in-more a new more all.1 h)

module _ (ts more : List TermTree) where
  there-or : (xs : List TermTree) (g : Grown ts more xs) (a : TermTree) → In a ts ⊎ In a more → (In a xs → ⊥) → In a more
  there-or xs g a (inl h) never = absurd (never (subst (λ z. In a z) (sym g.1) (in-left a ts g.0 h)))
  there-or xs g a (inr h) never = h

  grown-one : (xs : List TermTree) (a : TermTree) (b : Bool) → is_among a xs ≡ b → In a ts ⊎ In a more → Grown ts more xs → Grown ts more (if b then xs else xs ++ (a ∷ []))
  grown-one xs a true e h g = g
  grown-one xs a false e h g =
      let never : In a xs → ⊥ = λ i. true≢false (sym (in-among a xs i) ∙ e) in (
        g.0 ++ (a ∷ []),
        ap (λ z. z ++ (a ∷ [])) g.1 ∙ append_assoc ts g.0 (a ∷ []),
        once-more a g.0 g.2 (λ i. never (subst (λ z. In a z) (sym g.1) (in-right a ts g.0 i))),
        in-more a g.0 more g.3 (there-or xs g a h never),
      )

  abbrev Known : List TermTree → Type 0
  Known xs = (x : TermTree) → In x xs → In x ts ⊎ In x more

  grown-several : (xs ys : List TermTree) → Known ys → Grown ts more xs → Grown ts more (with_terms xs ys)
  grown-several xs [] k g = g
  grown-several xs (a ∷ ys) k g = grown-several (with_term xs a) ys (λ x h. k x (inr h)) (grown-one xs a (is_among a xs) refl (k a (inl refl)) g)

  -- each closed term of the formulas is known
  abbrev pub Within : List FormulaTree → Type 0
  Within [] = Unit {0}
  Within (a ∷ rest) = Known (closed_terms a) × Within rest

  grown-all : (xs : List TermTree) (fs : List FormulaTree) → Within fs → Grown ts more xs → Grown ts more (with_terms_of xs fs)
  grown-all xs [] w g = g
  grown-all xs (a ∷ rest) w g = grown-all (with_terms xs (closed_terms a)) rest w.1 (grown-several xs (closed_terms a) w.0 g)

  pub grown-length : (fs : List FormulaTree) → Within fs → length (with_terms_of ts fs) ≤ length ts + length more
  grown-length fs w =
      let g = grown-all ts fs w ([], sym (append-nil ts), tt, tt) in
      let few : length g.0 ≤ length more = once-shorter g.0 more g.2 g.3 in
      let long : length (with_terms_of ts fs) ≡ length ts + length g.0 = ap length g.1 ∙ length-both ts g.0 in
      omega (arith, few, long)

-- what is there stays, and what is added is there
stays-one : (x a : TermTree) (xs : List TermTree) (b : Bool) → In x xs → In x (if b then xs else xs ++ (a ∷ []))
stays-one x a xs true h = h
stays-one x a xs false h = in-left x xs (a ∷ []) h

added-one : (a : TermTree) (xs : List TermTree) (b : Bool) → is_among a xs ≡ b → In a (if b then xs else xs ++ (a ∷ []))
added-one a xs true e = among-in a xs e
added-one a xs false e = in-right a xs (a ∷ []) (inl refl)

stays-several : (x : TermTree) (xs ys : List TermTree) → In x xs → In x (with_terms xs ys)
stays-several x xs [] h = h
stays-several x xs (a ∷ ys) h = stays-several x (with_term xs a) ys (stays-one x a xs (is_among a xs) h)

added-several : (x : TermTree) (xs ys : List TermTree) → In x ys → In x (with_terms xs ys)
added-several x xs [] h = absurd h
added-several x xs (a ∷ ys) (inl e) = stays-several x (with_term xs a) ys (subst (λ z. In z (with_term xs a)) (sym e) (added-one a xs (is_among a xs) refl))
added-several x xs (a ∷ ys) (inr h) = added-several x (with_term xs a) ys h

pub stays-all : (x : TermTree) (xs : List TermTree) (fs : List FormulaTree) → In x xs → In x (with_terms_of xs fs)
stays-all x xs [] h = h
stays-all x xs (a ∷ fs) h = stays-all x (with_terms xs (closed_terms a)) fs (stays-several x xs (closed_terms a) h)

-- The closed terms of each formula are there.
abbrev pub Has : List TermTree → List FormulaTree → Type 0
Has ts [] = Unit {0}
Has ts (a ∷ fs) = ((x : TermTree) → In x (closed_terms a) → In x ts) × Has ts fs

pub has-all : (xs : List TermTree) (fs : List FormulaTree) → Has (with_terms_of xs fs) fs
has-all xs [] = tt
has-all xs (a ∷ fs) = ((λ x h. stays-all x (with_terms xs (closed_terms a)) fs (added-several x xs (closed_terms a) h)), has-all (with_terms xs (closed_terms a)) fs)

pub has-stays : (xs : List TermTree) (gs fs : List FormulaTree) → Has xs fs → Has (with_terms_of xs gs) fs
has-stays xs gs [] h = tt
has-stays xs gs (a ∷ fs) h = ((λ x i. stays-all x xs gs (h.0 x i)), has-stays xs gs fs h.1)

-- where they come from
from-one : (x a : TermTree) (xs : List TermTree) (b : Bool) → In x (if b then xs else xs ++ (a ∷ [])) → In x xs ⊎ (x ≡ a)
from-one x a xs true h = inl h
from-one x a xs false h =
    elim (in-both x xs (a ∷ []) h) [
      | inl l ↦ inl l
      | inr r ↦ elim r [
        | inl e ↦ inr e
        | inr z ↦ absurd z
      ]
    ]

from-several : (x : TermTree) (xs ys : List TermTree) → In x (with_terms xs ys) → In x xs ⊎ In x ys
from-several x xs [] h = inl h
from-several x xs (a ∷ ys) h =
    elim (from-several x (with_term xs a) ys h) [
      | inl l ↦ elim (from-one x a xs (is_among a xs) l) [
        | inl i ↦ inl i
        | inr e ↦ inr (inl e)
      ]
      | inr r ↦ inr (inr r)
    ]

-- the terms inside the object terms of a formula are object terms of it, and all are local
inside-term : (x y a : TermTree) → In x (terms_in a) → In y (terms_in x) → In y (terms_in a)
inside-term x y (t.bound k) (inl e) g = subst (λ z. In y (terms_in z)) e g
inside-term x y (t.bound k) (inr h) g = absurd h
inside-term x y (t.free_object z) (inl e) g = subst (λ v. In y (terms_in v)) e g
inside-term x y (t.free_object z) (inr h) g = absurd h
inside-term x y t.null (inl e) g = subst (λ z. In y (terms_in z)) e g
inside-term x y t.null (inr h) g = absurd h
inside-term x y (t.read_object f a) (inl e) g = subst (λ z. In y (terms_in z)) e g
inside-term x y (t.read_object f a) (inr h) g = inr (inside-term x y a h g)

inside-number : (x y : TermTree) (a : IntTree) → In x (number_terms a) → In y (terms_in x) → In y (number_terms a)
inside-number x y (t.read_number f a) h g = inside-term x y a h g
inside-number x y _ h g = absurd h

inside-set : (x y : TermTree) (a : SetTree) → In x (set_terms a) → In y (terms_in x) → In y (set_terms a)
inside-set x y (t.read_set f a) h g = inside-term x y a h g
inside-set x y _ h g = absurd h

inside-both : (x y : TermTree) (vs ws : List TermTree) → (In x vs → In y vs) → (In x ws → In y ws) → In x (vs ++ ws) → In y (vs ++ ws)
inside-both x y vs ws p q h =
    elim (in-both x vs ws h) [
      | inl l ↦ in-left y vs ws (p l)
      | inr r ↦ in-right y vs ws (q r)
    ]

inside-formula : (x y : TermTree) (a : FormulaTree) → In y (terms_in x) → In x (object_terms a) → In y (object_terms a)
inside-formula x y (t.negation a) g h = inside-formula x y a g h
inside-formula x y (t.and a b) g h = inside-both x y (object_terms a) (object_terms b) (inside-formula x y a g) (inside-formula x y b g) h
inside-formula x y (t.or a b) g h = inside-both x y (object_terms a) (object_terms b) (inside-formula x y a g) (inside-formula x y b g) h
inside-formula x y (t.all a) g h = inside-formula x y a g h
inside-formula x y (t.ex a) g h = inside-formula x y a g h
inside-formula x y (t.read_truth f a) g h = inside-term x y a h g
inside-formula x y (t.eq_object a b) g h = inside-both x y (terms_in a) (terms_in b) (λ i. inside-term x y a i g) (λ i. inside-term x y b i g) h
inside-formula x y (t.eq_number a b) g h = inside-both x y (number_terms a) (number_terms b) (λ i. inside-number x y a i g) (λ i. inside-number x y b i g) h
inside-formula x y (t.member a b) g h = inside-both x y (terms_in a) (set_terms b) (λ i. inside-term x y a i g) (λ i. inside-set x y b i g) h
inside-formula x y (t.reach fs a b) g h = inside-both x y (terms_in a) (terms_in b) (λ i. inside-term x y a i g) (λ i. inside-term x y b i g) h
inside-formula x y _ g h = absurd h

inside-closed : (x y : TermTree) → IsClosed x → In y (terms_in x) → IsClosed y
unfolding is_closed_term
inside-closed (t.bound k) y c (inl e) = ap (λ z. is_closed_term z 0) e ∙ c
inside-closed (t.bound k) y c (inr h) = absurd h
inside-closed (t.free_object z) y c (inl e) = ap (λ v. is_closed_term v 0) e
inside-closed (t.free_object z) y c (inr h) = absurd h
inside-closed t.null y c (inl e) = ap (λ v. is_closed_term v 0) e
inside-closed t.null y c (inr h) = absurd h
inside-closed (t.read_object f a) y c (inl e) = ap (λ v. is_closed_term v 0) e ∙ c
inside-closed (t.read_object f a) y c (inr h) = inside-closed a y (both-right (is_closed_field f 0) (is_closed_term a 0) c) h

local-inside : (x a : TermTree) → is_local_term a ≡ true → In x (terms_in a) → is_local_term x ≡ true
local-inside x (t.bound k) l (inl e) = ap is_local_term e ∙ l
local-inside x (t.bound k) l (inr h) = absurd h
local-inside x (t.free_object z) l (inl e) = ap is_local_term e ∙ l
local-inside x (t.free_object z) l (inr h) = absurd h
local-inside x t.null l (inl e) = ap is_local_term e ∙ l
local-inside x t.null l (inr h) = absurd h
local-inside x (t.read_object f a) l (inl e) = ap is_local_term e ∙ l
local-inside x (t.read_object f a) l (inr h) = local-inside x a (both-right (is_field_name f) (is_local_term a) l) h

local-number : (x : TermTree) (a : IntTree) → is_local_number a ≡ true → In x (number_terms a) → is_local_term x ≡ true
local-number x (t.read_number f a) l h = local-inside x a (both-right (is_field_name f) (is_local_term a) l) h
local-number x _ l h = absurd h

local-set : (x : TermTree) (a : SetTree) → is_local_set a ≡ true → In x (set_terms a) → is_local_term x ≡ true
local-set x (t.read_set f a) l h = local-inside x a (both-right (is_field_name f) (is_local_term a) l) h
local-set x _ l h = absurd h

local-both : (x : TermTree) (vs ws : List TermTree) → (In x vs → is_local_term x ≡ true) → (In x ws → is_local_term x ≡ true) → In x (vs ++ ws) → is_local_term x ≡ true
local-both x vs ws p q h =
    elim (in-both x vs ws h) [
      | inl l ↦ p l
      | inr r ↦ q r
    ]

local-formula : (x : TermTree) (a : FormulaTree) → has_local_shape a ≡ true → In x (object_terms a) → is_local_term x ≡ true
local-formula x (t.negation a) l h = local-formula x a l h
local-formula x (t.and a b) l h = local-both x (object_terms a) (object_terms b) (local-formula x a (both-left (has_local_shape a) (has_local_shape b) l)) (local-formula x b (both-right (has_local_shape a) (has_local_shape b) l)) h
local-formula x (t.or a b) l h = local-both x (object_terms a) (object_terms b) (local-formula x a (both-left (has_local_shape a) (has_local_shape b) l)) (local-formula x b (both-right (has_local_shape a) (has_local_shape b) l)) h
local-formula x (t.all a) l h = local-formula x a l h
local-formula x (t.ex a) l h = local-formula x a l h
local-formula x (t.read_truth f a) l h = local-inside x a (both-right (is_field_name f) (is_local_term a) l) h
local-formula x (t.eq_object a b) l h = local-both x (terms_in a) (terms_in b) (local-inside x a (both-left (is_local_term a) (is_local_term b) l)) (local-inside x b (both-right (is_local_term a) (is_local_term b) l)) h
local-formula x (t.eq_number a b) l h = local-both x (number_terms a) (number_terms b) (local-number x a (both-left (is_local_number a) (is_local_number b) l)) (local-number x b (both-right (is_local_number a) (is_local_number b) l)) h
local-formula x (t.member a b) l h = local-both x (terms_in a) (set_terms b) (local-inside x a (both-left (is_local_term a) (is_local_set b) l)) (local-set x b (both-right (is_local_term a) (is_local_set b) l)) h
local-formula x (t.reach fs a b) l h =
    local-both x (terms_in a) (terms_in b)
    (local-inside x a (both-right (are_field_names fs) (is_local_term a) (both-left (are_field_names fs && is_local_term a) (is_local_term b) l)))
    (local-inside x b (both-right (are_field_names fs && is_local_term a) (is_local_term b) l)) h
local-formula x _ l h = absurd h

-- all terms of the list are closed and local, and have the terms inside them there
abbrev pub Whole : List TermTree → Type 0
Whole ts = (w : TermTree) → In w ts → IsThere ts w

there-more : (ts us : List TermTree) (w : TermTree) → ((x : TermTree) → In x ts → In x us) → IsThere ts w → IsThere us w
there-more ts us w f h = (h.0, h.1, f w h.2, λ x i. f x (h.3 x i))

abbrev pub AllLocal : List FormulaTree → Type 0
AllLocal [] = Unit {0}
AllLocal (a ∷ fs) = (has_local_shape a ≡ true) × AllLocal fs

whole-one : (ts : List TermTree) (a : FormulaTree) → has_local_shape a ≡ true → Whole ts → Whole (with_terms ts (closed_terms a))
whole-one ts a l whole w h =
    elim (from-several w ts (closed_terms a) h) [
      | inl old ↦ there-more ts (with_terms ts (closed_terms a)) w (λ x i. stays-several x ts (closed_terms a) i) (whole w old)
      | inr new ↦
          let found = filter-in (λ b. is_closed_term b 0) w (object_terms a) new in (
            found.1,
            local-formula w a l found.0,
            h,
            λ x i. added-several x ts (closed_terms a) (in-filter (λ b. is_closed_term b 0) x (object_terms a) (inside-closed w x found.1 i) (inside-formula w x a i found.0)),
          )
    ]

pub whole-all : (ts : List TermTree) (fs : List FormulaTree) → AllLocal fs → Whole ts → Whole (with_terms_of ts fs)
whole-all ts [] l whole = whole
whole-all ts (a ∷ fs) l whole = whole-all (with_terms ts (closed_terms a)) fs l.1 (whole-one ts a l.0 whole)
