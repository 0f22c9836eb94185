-- The terms that are listed are closed, and those that are added come behind.
use Rattle.std.proofs.Common.{◌≡◌, refl, sym, ap, ◌∙◌, Bool, true, false, ◌&&◌, if◌then◌else◌, append_assoc, List, [], ◌∷◌, ◌++◌, filter}
use Rattle.std.specs.List.{list_all}
use Rattle.std.proofs.lemmas.List.{append-nil}
use Rattle.jh_form.specs.Tree.{TermTree, FormulaTree}
use Rattle.jh_form.specs.Tree as t
use Rattle.jh_form.specs.Closed.{is_closed_term}
use Rattle.jh_inst.specs.instances.Terms.{object_terms, closed_terms, is_among, with_term, with_terms, with_terms_of}

both-true : (a b : Bool) → a ≡ true → b ≡ true → (a && b) ≡ true
both-true true b e f = f
both-true false b e f = e

and-left : (a b : Bool) → (a && b) ≡ true → a ≡ true
and-left true b e = refl
and-left false b e = e

and-right : (a b : Bool) → (a && b) ≡ true → b ≡ true
and-right true b e = e
and-right false true e = refl
and-right false false e = e

-- that a term is closed, and all of a list
abbrev is_closed : TermTree → Bool
is_closed a = is_closed_term a 0

abbrev AllClosed : List TermTree → Type 0
AllClosed ts = list_all (λ w. is_closed_term w 0) ts ≡ true

all-pushed : (xs : List TermTree) (a : TermTree) → AllClosed xs → is_closed a ≡ true → AllClosed (xs ++ (a ∷ []))
all-pushed [] a h e = both-true (is_closed a) true e refl
all-pushed (x ∷ xs) a h e = both-true (is_closed x) (list_all is_closed (xs ++ (a ∷ []))) (and-left (is_closed x) (list_all is_closed xs) h) (all-pushed xs a (and-right (is_closed x) (list_all is_closed xs) h) e)

all-if : (x : TermTree) (ys : List TermTree) (b : Bool) → (b ≡ true → is_closed x ≡ true) → AllClosed ys → AllClosed (if b then x ∷ ys else ys)
all-if x ys true h g = both-true (is_closed x) (list_all is_closed ys) (h refl) g
all-if x ys false h g = g

all-filter : (xs : List TermTree) → AllClosed (filter (λ b. is_closed_term b 0) xs)
all-filter [] = refl
all-filter (x ∷ xs) = all-if x (filter (λ b. is_closed_term b 0) xs) (is_closed x) (λ e. e) (all-filter xs)

maybe-pushed : (b : Bool) (ts : List TermTree) (a : TermTree) → AllClosed ts → is_closed a ≡ true → AllClosed (if b then ts else ts ++ (a ∷ []))
maybe-pushed true ts a h e = h
maybe-pushed false ts a h e = all-pushed ts a h e

closed-with : (ts xs : List TermTree) → AllClosed ts → AllClosed xs → AllClosed (with_terms ts xs)
closed-with ts [] h g = h
closed-with ts (a ∷ xs) h g = closed-with (with_term ts a) xs (maybe-pushed (is_among a ts) ts a h (and-left (is_closed a) (list_all is_closed xs) g)) (and-right (is_closed a) (list_all is_closed xs) g)

pub closed-of : (ts : List TermTree) (fs : List FormulaTree) → list_all (λ w. is_closed_term w 0) ts ≡ true → list_all (λ w. is_closed_term w 0) (with_terms_of ts fs) ≡ true
closed-of ts [] h = h
closed-of ts (a ∷ fs) h = closed-of (with_terms ts (closed_terms a)) fs (closed-with ts (closed_terms a) h (all-filter (object_terms a)))

pub null-closed : list_all (λ w. is_closed_term w 0) (t.null ∷ []) ≡ true
unfolding is_closed_term
null-closed = refl

-- what is added comes behind
abbrev Behind : List TermTree → List TermTree → Type 0
Behind ts us = (more : List TermTree) × (us ≡ ts ++ more)

behind-if : (b : Bool) (ts : List TermTree) (a : TermTree) → Behind ts (if b then ts else ts ++ (a ∷ []))
behind-if true ts a = ([], sym (append-nil ts))
behind-if false ts a = (a ∷ [], refl)

behind-then : (ts us vs : List TermTree) → Behind ts us → Behind us vs → Behind ts vs
behind-then ts us vs h g = (h.0 ++ g.0, g.1 ∙ ap (λ xs. xs ++ g.0) h.1 ∙ append_assoc ts h.0 g.0)

behind-with : (ts xs : List TermTree) → Behind ts (with_terms ts xs)
behind-with ts [] = ([], sym (append-nil ts))
behind-with ts (a ∷ xs) = behind-then ts (with_term ts a) (with_terms (with_term ts a) xs) (behind-if (is_among a ts) ts a) (behind-with (with_term ts a) xs)

pub behind-of : (ts : List TermTree) (fs : List FormulaTree) → (more : List TermTree) × (with_terms_of ts fs ≡ ts ++ more)
behind-of ts [] = ([], sym (append-nil ts))
behind-of ts (a ∷ fs) = behind-then ts (with_terms ts (closed_terms a)) (with_terms_of (with_terms ts (closed_terms a)) fs) (behind-with ts (closed_terms a)) (behind-of (with_terms ts (closed_terms a)) fs)
