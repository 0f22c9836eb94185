-- Where the checks of an expression pass, it has a value, which is that of its term; and where it has one, they pass.
use Rattle.std.proofs.Common.{◌≡◌, refl, sym, ap, ◌∙◌, ℕ, zero, suc, ◌==◌, ℤ, ◌+ℤ◌, ◌-ℤ◌, ◌*ℤ◌, neg_ℤ, int_lt, int_le, Bool, true, false, not, ◌&&◌, ◌||◌, if◌then◌else◌, List, [], ◌∷◌, ◌++◌, subst, arith}
use Rattle.std.specs.Prelude.{map}
use Rattle.std.specs.Ordering.{int_eq}
use Rattle.std.proofs.lemmas.Bool.{true≢false}
use Rattle.std.proofs.lemmas.Bool.Decides.{nat_tests}
use Rattle.jh_name.specs.declared.place.Place.{Place}
use Rattle.jh_form.specs.Tree as t
use Rattle.jh_form.specs.Tree.{FormulaTree}
use Rattle.jh_form.specs.Meaning.{Interp, Datum, agree, truth, term_value, int_value, datum}
use Rattle.jh_form.specs.Meaning as m
use Rattle.jh_semantics.specs.Code as c
use Rattle.jh_semantics.specs.Code.{ObjectCode, NumberCode, TruthCode, AnyCode}
use Rattle.jh_semantics.specs.State.{State, named}
use Rattle.jh_semantics.specs.Values.{Value, value, null_at, then_value, dereferenced, read_at, both_values, object_of, number_of, truth_of, value_of}
use Rattle.jh_guard.specs.Terms.{object_term, number_term, truth_formula, value_term, Check, receiver_checks, object_checks, read_checks, number_checks, truth_checks, value_checks, guarded}
use Rattle.jh_guard.specs.Laws.{AllPass, ChecksAreExact}

-- it is there, and it is x
abbrev pub Has : {X : Type 0} → Value X → X → Type 0
Has (value y) x = y ≡ x
Has (null_at p) x = ⊥

pub has-value : {X : Type 0} (v : Value X) (x : X) → Has v x → v ≡ value x
has-value (value y) x h = ap (λ z. value z) h
has-value (null_at p) x h = absurd h

pub pass-left : (xs ys : List Check) (n : Interp) → AllPass (xs ++ ys) n → AllPass xs n
pass-left [] ys n h = tt
pass-left (x ∷ xs) ys n h = (h.0, pass-left xs ys n h.1)

pub pass-right : (xs ys : List Check) (n : Interp) → AllPass (xs ++ ys) n → AllPass ys n
pass-right [] ys n h = h
pass-right (x ∷ xs) ys n h = pass-right xs ys n h.1

pub pass-both : (xs ys : List Check) (n : Interp) → AllPass xs n → AllPass ys n → AllPass (xs ++ ys) n
pass-both [] ys n h k = k
pass-both (x ∷ xs) ys n h k = (h.0, pass-both xs ys n h.1 k)

implied : (b d : Bool) → b ≡ true → (not b || d) ≡ true → d ≡ true
implied true d e h = h
implied false d e h = absurd (true≢false (sym e))

pass-guarded : (f : FormulaTree) (xs : List Check) (n : Interp) → truth f n [] ≡ true → AllPass (map (guarded f) xs) n → AllPass xs n
pass-guarded f [] n e h = tt
pass-guarded f (x ∷ xs) n e h = (implied (truth f n []) (truth x.fact n []) e h.0, pass-guarded f xs n e h.1)

implies-so : (b d : Bool) → (b ≡ true → d ≡ true) → (not b || d) ≡ true
implies-so true d h = h refl
implies-so false d h = refl

guarded-passes : (f : FormulaTree) (xs : List Check) (n : Interp) → (truth f n [] ≡ true → AllPass xs n) → AllPass (map (guarded f) xs) n
guarded-passes f [] n h = tt
guarded-passes f (x ∷ xs) n h = (implies-so (truth f n []) (truth x.fact n []) (λ e. (h e).0), guarded-passes f xs n (λ e. (h e).1))

has-then : {X Y : Type 0} (v : Value X) (x : X) (next : X → Value Y) (y : Y) → Has v x → Has (next x) y → Has (then_value v next) y
has-then (value z) x next y h k = subst (λ w. Has (next w) y) (sym h) k
has-then (null_at p) x next y h k = absurd h

has-both : {X Y : Type 0} (v w : Value X) (x y : X) (joined : X → X → Y) → Has v x → Has w y → Has (both_values v w joined) (joined x y)
has-both v w x y joined h k = has-then v x (λ a. then_value w (λ b. value (joined a b))) (joined x y) h (has-then w y (λ b. value (joined x b)) (joined x y) k refl)

-- the values of what comes of a value
pub record Parts {X Y : Type 0} (v : Value X) (next : X → Value Y) (y : Y) : Type 0 where
  pub first : X
  pub has : Has v first
  pub then_has : Has (next first) y

then-parts : {X Y : Type 0} (v : Value X) (next : X → Value Y) (y : Y) → Has (then_value v next) y → Parts v next y
then-parts (value z) next y h = record { first = z; has = refl; then_has = h }
then-parts (null_at p) next y h = absurd h

-- two values of one thing are one
pub has-one : {X : Type 0} (v : Value X) (x y : X) → Has v x → Has v y → x ≡ y
has-one (value z) x y h k = sym h ∙ k
has-one (null_at p) x y h k = absurd h

is-successor : (a : ℕ) → not (suc a == 0) ≡ true
is-successor a = grind (arith, nat_tests)

-- at a receiver that isn't null
nonzero : {X : Type 0} (r : ObjectCode) (p : Place) (f : ℕ → X) (a : ℕ) → not (a == 0) ≡ true → Has (then_value (dereferenced r p a) (λ b. value (f b))) (f a)
nonzero c.this p f a h = refl
nonzero c.null p f zero h = absurd (true≢false (sym h))
nonzero c.null p f (suc a) h = refl
nonzero (c.object x) p f zero h = absurd (true≢false (sym h))
nonzero (c.object x) p f (suc a) h = refl
nonzero (c.read_object g r q) p f zero h = absurd (true≢false (sym h))
nonzero (c.read_object g r q) p f (suc a) h = refl

module _ (s : State) where
  -- a receiver whose checks pass is dereferenced, and one that is dereferenced passes its checks
  dereference-has : {X : Type 0} (r : ObjectCode) (p : Place) (f : ℕ → X) → AllPass (receiver_checks r p) s → Has (then_value (dereferenced r p (term_value (object_term r) s [])) (λ b. value (f b))) (f (term_value (object_term r) s []))
  dereference-has c.this p f h = refl
  dereference-has c.null p f h = nonzero c.null p f 0 h.0
  dereference-has (c.object x) p f h = nonzero (c.object x) p f (s.object (named x)) h.0
  dereference-has (c.read_object g r q) p f h = nonzero (c.read_object g r q) p f (term_value (object_term (c.read_object g r q)) s []) h.0

  is-nonzero : {X : Type 0} (p : Place) (f : ℕ → X) (a : ℕ) (y : X) → Has (then_value (dereferenced c.null p a) (λ b. value (f b))) y → not (a == 0) ≡ true
  is-nonzero p f zero y h = absurd h
  is-nonzero p f (suc a) y h = is-successor a

  dereference-passes : {X : Type 0} (r : ObjectCode) (p : Place) (f : ℕ → X) (y : X) → Has (then_value (dereferenced r p (term_value (object_term r) s [])) (λ b. value (f b))) y → AllPass (receiver_checks r p) s
  dereference-passes c.this p f y h = tt
  dereference-passes c.null p f y h = (is-nonzero p f 0 y h, tt)
  dereference-passes (c.object x) p f y h = (named-nonzero (s.object (named x)) h, tt)
    where
      named-nonzero : (a : ℕ) → Has (then_value (dereferenced (c.object x) p a) (λ b. value (f b))) y → not (a == 0) ≡ true
      named-nonzero zero h = absurd h
      named-nonzero (suc a) h = is-successor a
  dereference-passes (c.read_object g r q) p f y h = (read-nonzero (term_value (object_term (c.read_object g r q)) s []) h, tt)
    where
      read-nonzero : (a : ℕ) → Has (then_value (dereferenced (c.read_object g r q) p a) (λ b. value (f b))) y → not (a == 0) ≡ true
      read-nonzero zero h = absurd h
      read-nonzero (suc a) h = is-successor a

  read-has : {X : Type 0} (r : ObjectCode) (p : Place) (f : ℕ → X) → Has (object_of r s) (term_value (object_term r) s []) → AllPass (receiver_checks r p) s → Has (read_at r p (object_of r s) f) (f (term_value (object_term r) s []))
  read-has r p f h k = has-then (object_of r s) (term_value (object_term r) s []) (λ a. then_value (dereferenced r p a) (λ b. value (f b))) (f (term_value (object_term r) s [])) h (dereference-has r p f k)

  pub object-has : (e : ObjectCode) → AllPass (object_checks e) s → Has (object_of e s) (term_value (object_term e) s [])
  object-has c.null h = refl
  object-has c.this h = refl
  object-has (c.object x) h = refl
  object-has (c.read_object f r p) h = read-has r p (s.field (named f)).objects (object-has r (pass-left (object_checks r) (receiver_checks r p) s h)) (pass-right (object_checks r) (receiver_checks r p) s h)

  -- a read that has a value passes its checks, where its receiver does
  receiver-passes : {X : Type 0} (r : ObjectCode) (p : Place) (f : ℕ → X) (y : X) → ((z : ℕ) → Has (object_of r s) z → AllPass (object_checks r) s) → Has (read_at r p (object_of r s) f) y → AllPass (read_checks r p) s
  receiver-passes r p f y passes h =
      let parts = then-parts (object_of r s) (λ a. then_value (dereferenced r p a) (λ b. value (f b))) y h in
      let inner : AllPass (object_checks r) s = passes parts.first parts.has in
      let same : parts.first ≡ term_value (object_term r) s [] = has-one (object_of r s) parts.first (term_value (object_term r) s []) parts.has (object-has r inner) in
      pass-both (object_checks r) (receiver_checks r p) s inner
      (dereference-passes r p f y (subst (λ (a : ℕ). Has (then_value (dereferenced r p a) (λ b. value (f b))) y) same parts.then_has))

  pub object-passes : (e : ObjectCode) (y : ℕ) → Has (object_of e s) y → AllPass (object_checks e) s
  object-passes c.null y h = tt
  object-passes c.this y h = tt
  object-passes (c.object x) y h = tt
  object-passes (c.read_object f r p) y h = receiver-passes r p (s.field (named f)).objects y (object-passes r) h

  read-passes : {X : Type 0} (r : ObjectCode) (p : Place) (f : ℕ → X) (y : X) → Has (read_at r p (object_of r s) f) y → AllPass (read_checks r p) s
  read-passes r p f y h = receiver-passes r p f y (object-passes r) h

  whole-read : {X : Type 0} (r : ObjectCode) (p : Place) (f : ℕ → X) → AllPass (read_checks r p) s → Has (read_at r p (object_of r s) f) (f (term_value (object_term r) s []))
  whole-read r p f h = read-has r p f (object-has r (pass-left (object_checks r) (receiver_checks r p) s h)) (pass-right (object_checks r) (receiver_checks r p) s h)

  -- both operands
  both-have : {X Y : Type 0} (xs ys : List Check) (v w : Value X) (x y : X) (joined : X → X → Y) → (AllPass xs s → Has v x) → (AllPass ys s → Has w y) → AllPass (xs ++ ys) s → Has (both_values v w joined) (joined x y)
  both-have xs ys v w x y joined one two h = has-both v w x y joined (one (pass-left xs ys s h)) (two (pass-right xs ys s h))

  both-pass : {X Y : Type 0} (xs ys : List Check) (v w : Value X) (joined : X → X → Y) (y : Y) → ((z : X) → Has v z → AllPass xs s) → ((z : X) → Has w z → AllPass ys s) → Has (both_values v w joined) y → AllPass (xs ++ ys) s
  both-pass xs ys v w joined y one two h =
      let parts = then-parts v (λ a. then_value w (λ b. value (joined a b))) y h in
      let right = then-parts w (λ b. value (joined parts.first b)) y parts.then_has in
      pass-both xs ys s (one parts.first parts.has) (two right.first right.has)

  pub number-has : (e : NumberCode) → AllPass (number_checks e) s → Has (number_of e s) (int_value (number_term e) s [])
  number-has (c.const z) h = refl
  number-has (c.number x) h = refl
  number-has (c.read_number f r p) h = whole-read r p (s.field (named f)).numbers h
  number-has (c.add q a b) h = both-have (number_checks a) (number_checks b) (number_of a s) (number_of b s) (int_value (number_term a) s []) (int_value (number_term b) s []) (λ x y. x +ℤ y) (number-has a) (number-has b) h
  number-has (c.sub q a b) h = both-have (number_checks a) (number_checks b) (number_of a s) (number_of b s) (int_value (number_term a) s []) (int_value (number_term b) s []) (λ x y. x -ℤ y) (number-has a) (number-has b) h
  number-has (c.minus q a) h = has-then (number_of a s) (int_value (number_term a) s []) (λ x. value (neg_ℤ x)) _ (number-has a h) refl
  number-has (c.times q z a) h = has-then (number_of a s) (int_value (number_term a) s []) (λ x. value (z *ℤ x)) _ (number-has a h) refl

  pub number-passes : (e : NumberCode) (y : ℤ) → Has (number_of e s) y → AllPass (number_checks e) s
  number-passes (c.const z) y h = tt
  number-passes (c.number x) y h = tt
  number-passes (c.read_number f r p) y h = read-passes r p (s.field (named f)).numbers y h
  number-passes (c.add q a b) y h = both-pass (number_checks a) (number_checks b) (number_of a s) (number_of b s) (λ x y. x +ℤ y) y (number-passes a) (number-passes b) h
  number-passes (c.sub q a b) y h = both-pass (number_checks a) (number_checks b) (number_of a s) (number_of b s) (λ x y. x -ℤ y) y (number-passes a) (number-passes b) h
  number-passes (c.minus q a) y h = let parts = then-parts (number_of a s) (λ x. value (neg_ℤ x)) y h in number-passes a parts.first parts.has
  number-passes (c.times q z a) y h = let parts = then-parts (number_of a s) (λ x. value (z *ℤ x)) y h in number-passes a parts.first parts.has

  -- the right side is taken where the left is true, or where it is false
  and-has : (v w : Value Bool) (x y : Bool) → Has v x → (x ≡ true → Has w y) → Has (then_value v (λ z. if z then w else value false)) (x && y)
  and-has v w x y h k = has-then v x (λ z. if z then w else value false) (x && y) h (chosen x k)
    where
      chosen : (x : Bool) → (x ≡ true → Has w y) → Has (if x then w else value false) (x && y)
      chosen true k = k refl
      chosen false k = refl

  or-has : (v w : Value Bool) (x y : Bool) → Has v x → (not x ≡ true → Has w y) → Has (then_value v (λ z. if z then value true else w)) (x || y)
  or-has v w x y h k = has-then v x (λ z. if z then value true else w) (x || y) h (chosen x k)
    where
      chosen : (x : Bool) → (not x ≡ true → Has w y) → Has (if x then value true else w) (x || y)
      chosen true k = refl
      chosen false k = k refl

  if-true : (w : Value Bool) (x y : Bool) → x ≡ true → Has (if x then w else value false) y → Has w y
  if-true w true y e h = h
  if-true w false y e h = absurd (true≢false (sym e))

  if-false : (w : Value Bool) (x y : Bool) → not x ≡ true → Has (if x then value true else w) y → Has w y
  if-false w true y e h = absurd (true≢false (sym e))
  if-false w false y e h = h

  literal-has : (b : Bool) → Has (truth_of (c.literal b) s) (truth (truth_formula (c.literal b)) s [])
  literal-has true = refl
  literal-has false = refl

  abbrev truth_at : TruthCode → Bool
  truth_at e = truth (truth_formula e) s []

  pub truth-has : (e : TruthCode) → AllPass (truth_checks e) s → Has (truth_of e s) (truth (truth_formula e) s [])
  truth-has (c.literal b) h = literal-has b
  truth-has (c.truth x) h = refl
  truth-has (c.read_truth f r p) h = whole-read r p (s.field (named f)).truths h
  truth-has (c.negation a) h = has-then (truth_of a s) (truth_at a) (λ x. value (not x)) _ (truth-has a h) refl
  truth-has (c.both a b) h =
      and-has (truth_of a s) (truth_of b s) (truth_at a) (truth_at b)
      (truth-has a (pass-left (truth_checks a) (map (guarded (truth_formula a)) (truth_checks b)) s h))
      (λ e. truth-has b (pass-guarded (truth_formula a) (truth_checks b) s e (pass-right (truth_checks a) (map (guarded (truth_formula a)) (truth_checks b)) s h)))
  truth-has (c.either a b) h =
      or-has (truth_of a s) (truth_of b s) (truth_at a) (truth_at b)
      (truth-has a (pass-left (truth_checks a) (map (guarded (t.negation (truth_formula a))) (truth_checks b)) s h))
      (λ e. truth-has b (pass-guarded (t.negation (truth_formula a)) (truth_checks b) s e (pass-right (truth_checks a) (map (guarded (t.negation (truth_formula a))) (truth_checks b)) s h)))
  truth-has (c.same_object a b) h = both-have (object_checks a) (object_checks b) (object_of a s) (object_of b s) (term_value (object_term a) s []) (term_value (object_term b) s []) (λ x y. x == y) (object-has a) (object-has b) h
  truth-has (c.same_number a b) h = both-have (number_checks a) (number_checks b) (number_of a s) (number_of b s) (int_value (number_term a) s []) (int_value (number_term b) s []) (λ x y. int_eq x y) (number-has a) (number-has b) h
  truth-has (c.same_truth a b) h = both-have (truth_checks a) (truth_checks b) (truth_of a s) (truth_of b s) (truth_at a) (truth_at b) (λ x y. agree x y) (truth-has a) (truth-has b) h
  truth-has (c.less a b) h = both-have (number_checks a) (number_checks b) (number_of a s) (number_of b s) (int_value (number_term a) s []) (int_value (number_term b) s []) (λ x y. int_lt x y) (number-has a) (number-has b) h
  truth-has (c.less_equal a b) h = both-have (number_checks a) (number_checks b) (number_of a s) (number_of b s) (int_value (number_term a) s []) (int_value (number_term b) s []) (λ x y. int_le x y) (number-has a) (number-has b) h
  truth-has (c.greater a b) h = both-have (number_checks a) (number_checks b) (number_of a s) (number_of b s) (int_value (number_term a) s []) (int_value (number_term b) s []) (λ x y. int_lt y x) (number-has a) (number-has b) h
  truth-has (c.greater_equal a b) h = both-have (number_checks a) (number_checks b) (number_of a s) (number_of b s) (int_value (number_term a) s []) (int_value (number_term b) s []) (λ x y. int_le y x) (number-has a) (number-has b) h

  pub truth-passes : (e : TruthCode) (y : Bool) → Has (truth_of e s) y → AllPass (truth_checks e) s
  truth-passes (c.literal b) y h = tt
  truth-passes (c.truth x) y h = tt
  truth-passes (c.read_truth f r p) y h = read-passes r p (s.field (named f)).truths y h
  truth-passes (c.negation a) y h = let parts = then-parts (truth_of a s) (λ x. value (not x)) y h in truth-passes a parts.first parts.has
  truth-passes (c.both a b) y h =
      let parts = then-parts (truth_of a s) (λ z. if z then truth_of b s else value false) y h in
      let left : AllPass (truth_checks a) s = truth-passes a parts.first parts.has in
      let same : parts.first ≡ truth_at a = has-one (truth_of a s) parts.first (truth_at a) parts.has (truth-has a left) in
      pass-both (truth_checks a) (map (guarded (truth_formula a)) (truth_checks b)) s left
      (guarded-passes (truth_formula a) (truth_checks b) s (λ e. truth-passes b y (if-true (truth_of b s) parts.first y (same ∙ e) parts.then_has)))
  truth-passes (c.either a b) y h =
      let parts = then-parts (truth_of a s) (λ z. if z then value true else truth_of b s) y h in
      let left : AllPass (truth_checks a) s = truth-passes a parts.first parts.has in
      let same : parts.first ≡ truth_at a = has-one (truth_of a s) parts.first (truth_at a) parts.has (truth-has a left) in
      pass-both (truth_checks a) (map (guarded (t.negation (truth_formula a))) (truth_checks b)) s left
      (guarded-passes (t.negation (truth_formula a)) (truth_checks b) s (λ e. truth-passes b y (if-false (truth_of b s) parts.first y (ap not same ∙ e) parts.then_has)))
  truth-passes (c.same_object a b) y h = both-pass (object_checks a) (object_checks b) (object_of a s) (object_of b s) (λ x y. x == y) y (object-passes a) (object-passes b) h
  truth-passes (c.same_number a b) y h = both-pass (number_checks a) (number_checks b) (number_of a s) (number_of b s) (λ x y. int_eq x y) y (number-passes a) (number-passes b) h
  truth-passes (c.same_truth a b) y h = both-pass (truth_checks a) (truth_checks b) (truth_of a s) (truth_of b s) (λ x y. agree x y) y (truth-passes a) (truth-passes b) h
  truth-passes (c.less a b) y h = both-pass (number_checks a) (number_checks b) (number_of a s) (number_of b s) (λ x y. int_lt x y) y (number-passes a) (number-passes b) h
  truth-passes (c.less_equal a b) y h = both-pass (number_checks a) (number_checks b) (number_of a s) (number_of b s) (λ x y. int_le x y) y (number-passes a) (number-passes b) h
  truth-passes (c.greater a b) y h = both-pass (number_checks a) (number_checks b) (number_of a s) (number_of b s) (λ x y. int_lt y x) y (number-passes a) (number-passes b) h
  truth-passes (c.greater_equal a b) y h = both-pass (number_checks a) (number_checks b) (number_of a s) (number_of b s) (λ x y. int_le y x) y (number-passes a) (number-passes b) h

  pub value-has : (e : AnyCode) → AllPass (value_checks e) s → Has (value_of e s) (datum (value_term e) s [])
  value-has (c.an_object a) h = has-then (object_of a s) (term_value (object_term a) s []) (λ x. value (m.an_object x)) _ (object-has a h) refl
  value-has (c.a_number a) h = has-then (number_of a s) (int_value (number_term a) s []) (λ x. value (m.a_number x)) _ (number-has a h) refl
  value-has (c.a_truth a) h = has-then (truth_of a s) (truth_at a) (λ x. value (m.a_truth x)) _ (truth-has a h) refl

  pub value-passes : (e : AnyCode) (d : Datum) → Has (value_of e s) d → AllPass (value_checks e) s
  value-passes (c.an_object a) d h = let parts = then-parts (object_of a s) (λ x. value (m.an_object x)) d h in object-passes a parts.first parts.has
  value-passes (c.a_number a) d h = let parts = then-parts (number_of a s) (λ x. value (m.a_number x)) d h in number-passes a parts.first parts.has
  value-passes (c.a_truth a) d h = let parts = then-parts (truth_of a s) (λ x. value (m.a_truth x)) d h in truth-passes a parts.first parts.has

value-is : {X : Type 0} (v : Value X) (x : X) → v ≡ value x → Has v x
value-is {X = X} v x e = subst (λ (w : Value X). Has w x) (sym e) refl

pub checks-are-exact : ChecksAreExact
checks-are-exact e s = record {
  passed = λ h. has-value (value_of e s) (datum (value_term e) s []) (value-has s e h);
  needed = λ d h. value-passes s e d (value-is (value_of e s) d h);
}
