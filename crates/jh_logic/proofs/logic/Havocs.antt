-- Copies and havocs of names by their texts. Locals of one text, in blocks of their own, may have different sorts, and only the first of
-- them is listed; a havoc gives a name other values at every sort, so no sorts are asked for here.
use Rattle.std.proofs.Common.{◌≡◌, refl, sym, ap, ◌∙◌, subst, ℕ, suc, ◌<◌, ◌≤◌, ◌||◌, ◌&&◌, not, nat_eq, arith, Bool, true, false, if◌then◌else◌, List, [], ◌∷◌, ◌++◌, map, filter}
use Rattle.std.specs.Cmp.Lexicographic.{bytes_decides}
use Rattle.std.proofs.lemmas.Bool.{true≢false}
use Rattle.std.proofs.lemmas.Bool.Decides.{nat_tests}
use Rattle.jh_name.specs.declared.naming.Name.{Name}
use Rattle.jh_name.specs.declared.place.Sort.{Sort}
use Rattle.jh_name.specs.declared.place.Sort.TheVariants as sort
use Rattle.jh_form.specs.Passing.{name_equal}
use Rattle.jh_form.specs.Sorts.{same_sort}
use Rattle.jh_form.proofs.Names.{name_equal-true}
use Rattle.jh_form.specs.Meaning.{Interp}
use Rattle.jh_rules.specs.Words.{same_text}
use Rattle.jh_vars.specs.Resolved.{own}
use Rattle.jh_semantics.specs.Code.{Text, Local}
use Rattle.jh_semantics.specs.State.{State, named}
use Rattle.jh_guard.specs.Items.{Sorted, sorted_local}
use Rattle.jh_guard.specs.Writes.{first_ones}
use Rattle.jh_guard.specs.Steps.{fresh, copies, havocs, after_havocs, changed, after_changed}
use Rattle.jh_logic.specs.logic.Histories.{viewed, Gives, Below, Inner, Holds}
use Rattle.jh_logic.specs.logic.Reached.{After}
use Rattle.jh_logic.proofs.logic.Reaching.{after-append}
use Rattle.jh_logic.proofs.logic.Views.{taking}
use Rattle.jh_logic.proofs.logic.Lists.{no-place}
use Rattle.jh_logic.proofs.logic.Histories.{gives-then, below-refl, below-trans, noting, noting-below, noting-inner, holds-havoc, is_named, Outside, viewed-same, Led, LedWith, snapshot, holds-copies}

pub either-right : (a b : Bool) → a ≡ false → b ≡ false → (a || b) ≡ false
either-right true b e f = e
either-right false b e f = f

left-false : (a b : Bool) → (a || b) ≡ false → a ≡ false
left-false true b e = e
left-false false b e = refl

right-false : (a b : Bool) → (a || b) ≡ false → b ≡ false
right-false true b e = absurd (true≢false e)
right-false false b e = e

-- a name is at turn 0 one of these texts
abbrev pub is_text : Name → List Sorted → Bool
is_text z [] = false
is_text z (x ∷ xs) = name_equal z (named x.text) || is_text z xs

pub text-front : (z : Name) (xs ys : List Sorted) → is_text z (xs ++ ys) ≡ false → is_text z xs ≡ false
text-front z [] ys h = refl
text-front z (x ∷ xs) ys h =
    either-right (name_equal z (named x.text)) (is_text z xs) (left-false (name_equal z (named x.text)) (is_text z (xs ++ ys)) h) (text-front z xs ys (right-false (name_equal z (named x.text)) (is_text z (xs ++ ys)) h))

pub text-back : (z : Name) (xs ys : List Sorted) → is_text z (xs ++ ys) ≡ false → is_text z ys ≡ false
text-back z [] ys h = h
text-back z (x ∷ xs) ys h = text-back z xs ys (right-false (name_equal z (named x.text)) (is_text z (xs ++ ys)) h)

pub both-texts : (z : Name) (xs ys : List Sorted) → is_text z xs ≡ false → is_text z ys ≡ false → is_text z (xs ++ ys) ≡ false
both-texts z [] ys h k = k
both-texts z (x ∷ xs) ys h k = either-right (name_equal z (named x.text)) (is_text z (xs ++ ys)) (left-false (name_equal z (named x.text)) (is_text z xs) h) (both-texts z xs ys (right-false (name_equal z (named x.text)) (is_text z xs) h) k)

-- what isn't one of the texts isn't one at any sort
pub not-named : (z : Name) (a : Sort) (xs : List Sorted) → is_text z xs ≡ false → is_named z a xs ≡ false
not-named z a [] h = refl
not-named z a (x ∷ xs) h =
    either-right (name_equal z (named x.text) && same_sort a x.sort) (is_named z a xs) (neither (name_equal z (named x.text)) (same_sort a x.sort) (left-false (name_equal z (named x.text)) (is_text z xs) h))
    (not-named z a xs (right-false (name_equal z (named x.text)) (is_text z xs) h))
  where
    neither : (a b : Bool) → a ≡ false → (a && b) ≡ false
    neither true b e = absurd (true≢false e)
    neither false b e = refl

-- the first ones have all the texts
kept-texts : (z : Name) (x : Local) (ys : List Local) → name_equal z (named x.text) ≡ false → is_text z (map sorted_local (filter (λ (y : Local). not (same_text y.text x.text)) ys)) ≡ false → is_text z (map sorted_local ys) ≡ false
kept-texts z x [] e h = refl
kept-texts z x (y ∷ ys) e h = from (same_text y.text x.text) refl h (λ g. kept-texts z x ys e g)
  where
    rest : List Local
    rest = filter (λ (w : Local). not (same_text w.text x.text)) ys

    from : (b : Bool) → same_text y.text x.text ≡ b → is_text z (map sorted_local (if not b then y ∷ rest else rest)) ≡ false → (is_text z (map sorted_local rest) ≡ false → is_text z (map sorted_local ys) ≡ false) →
        is_text z (map sorted_local (y ∷ ys)) ≡ false
    from true same g more = either-right (name_equal z (named y.text)) (is_text z (map sorted_local ys)) (ap (λ (w : Text). name_equal z (named w)) ((bytes_decides y.text x.text).0 same) ∙ e) (more g)
    from false same g more =
        either-right (name_equal z (named y.text)) (is_text z (map sorted_local ys)) (left-false (name_equal z (named y.text)) (is_text z (map sorted_local rest)) g)
        (more (right-false (name_equal z (named y.text)) (is_text z (map sorted_local rest)) g))

pub first-texts : (z : Name) (xs : List Local) → is_text z (map sorted_local (first_ones xs)) ≡ false → is_text z (map sorted_local xs) ≡ false
first-texts z [] h = refl
first-texts z (x ∷ xs) h =
    let rest : Bool = is_text z (map sorted_local (filter (λ (y : Local). not (same_text y.text x.text)) (first_ones xs))) in
    let here : name_equal z (named x.text) ≡ false = left-false (name_equal z (named x.text)) rest h in
    either-right (name_equal z (named x.text)) (is_text z (map sorted_local xs)) here (first-texts z xs (kept-texts z x (first_ones xs) here (right-false (name_equal z (named x.text)) rest h)))

-- outside these texts two states are one
pub record Apart (xs : List Sorted) (s r : State) : Type 0 where
  pub last : s.last ≡ r.last
  pub names : (z : Name) → z.turn ≡ 0 → is_text z xs ≡ false → Gives s z r z

-- where names at their sorts are outside some, and the texts of those are among others
pub outside-apart : (xs ys : List Sorted) (s r : State) → ((z : Name) → is_text z ys ≡ false → is_text z xs ≡ false) → Outside xs s r → Apart ys s r
outside-apart xs ys s r f h = record {
  last = h.last;
  names = λ z e out. record {
    object = h.object z e (not-named z sort.Obj xs (f z out));
    number = h.number z e (not-named z sort.Int xs (f z out));
    truth = h.truth z e (not-named z sort.Bool xs (f z out));
    set = h.set z e (not-named z sort.Set xs (f z out));
    field = h.field z e (not-named z sort.Field xs (f z out));
  };
}

took_at : {X : Type 0} (s r : Name → X) (x : Text) (z : Name) (b : Bool) → name_equal z (named x) ≡ b → (b ≡ false → s z ≡ r z) → (if b then r (named x) else s z) ≡ r z
took_at s r x z true e same = ap r (sym (name_equal-true z (named x) e))
took_at s r x z false e same = same refl

apart-step : (x : Sorted) (xs : List Sorted) (s r : State) → Apart (x ∷ xs) s r → Apart xs (taking s x.text r) r
apart-step x xs s r h = record {
  last = h.last;
  names = λ z e out. record {
    object = took_at s.object r.object x.text z (name_equal z (named x.text)) refl (λ f. (there z e out f).object);
    number = took_at s.number r.number x.text z (name_equal z (named x.text)) refl (λ f. (there z e out f).number);
    truth = took_at s.truth r.truth x.text z (name_equal z (named x.text)) refl (λ f. (there z e out f).truth);
    set = took_at s.set r.set x.text z (name_equal z (named x.text)) refl (λ f. (there z e out f).set);
    field = took_at s.field r.field x.text z (name_equal z (named x.text)) refl (λ f. (there z e out f).field);
  };
}
  where
    there : (z : Name) → z.turn ≡ 0 → is_text z xs ≡ false → name_equal z (named x.text) ≡ false → Gives s z r z
    there z e out f = h.names z e (either-right (name_equal z (named x.text)) (is_text z xs) f out)

-- All havocs: whatever state they lead to, there is a history that leads there.
pub holds-all-havocs : (R : Interp → Type 0) (n : ℕ) (xs : List Sorted) (k : ℕ) (h : Interp) (s r o : State) (P : Interp → Type 0) → 2 ≤ k → Inner n h → Inner n r → Apart xs s r →
    Holds n k h s o (λ m. After R (havocs xs k) P m) → Led n k (after_havocs xs k) h r o P
holds-all-havocs R n [] k h s r o P le inner whole out H =
    let same : Outside [] s r = record { last = out.last; object = λ z e f. (out.names z e refl).object; number = λ z e f. (out.names z e refl).number; truth = λ z e f. (out.names z e refl).truth; set = λ z e f. (out.names z e refl).set; field = λ z e f. (out.names z e refl).field } in
    record {
      history = h;
      inner = inner;
      below = below-refl k h;
      holds = λ m i b. subst (λ (v : Interp). P v) (viewed-same s r o m same) (H m i (λ z lt. b z (omega (arith, lt))));
    }
holds-all-havocs R n (x ∷ xs) k h s r o P le inner whole out H =
    let y : Name = fresh x.text k in
    let j : Interp = noting h y r (named x.text) in
    let at : Led n (suc k) (after_havocs xs (suc k)) j r o P =
    holds-all-havocs R n xs (suc k) j (taking s x.text r) r o P (omega (arith, le)) (noting-inner n h y r (named x.text) inner (whole.object (named x.text)) (whole.field (named x.text))) whole
    (apart-step x xs s r out) (holds-havoc n k h s o x.text r (λ m. After R (havocs xs (suc k)) P m) le H) in
    let turns : after_havocs xs (suc k) ≡ after_havocs (x ∷ xs) k = omega arith in
    record {
      history = at.history;
      inner = at.inner;
      below = below-trans k (suc k) h j at.history (omega arith) (noting-below h y r (named x.text)) at.below;
      holds = subst (λ (u : ℕ). Holds n u at.history r o P) turns at.holds;
    }

-- What a snapshot says. These three are what Histories shows of it and keeps for itself.
chosen-object : (n : ℕ) (v w : ℕ) (b : Bool) → v < suc n → w < suc n → (if b then v else w) < suc n
chosen-object n v w true a c = a
chosen-object n v w false a c = c

snapshot-inner : (n k : ℕ) (h : Interp) (s : State) → Inner n h → Inner n s → Inner n (snapshot k h s)
snapshot-inner n k h s inner whole = record {
  object = λ z. chosen-object n (s.object (own z.text 0)) (h.object z) (nat_eq z.turn k) (whole.object (own z.text 0)) (inner.object z);
  field = λ z a lt. snapped-field (nat_eq z.turn k) z a lt;
}
  where
    snapped-field : (b : Bool) (z : Name) (a : ℕ) → a < suc n → (if b then s.field (own z.text 0) else h.field z).objects a < suc n
    snapped-field true z a lt = whole.field (own z.text 0) a lt
    snapped-field false z a lt = inner.field z a lt

unlike : (a k : ℕ) → a < k → nat_eq a k ≡ false
unlike a k e = grind (arith, nat_tests)

alike : (k : ℕ) → nat_eq k k ≡ true
alike k = grind (arith, nat_tests)

otherwise : {X : Type 0} (h s : X) (b : Bool) → b ≡ false → (if b then s else h) ≡ h
otherwise h s true e = absurd (true≢false e)
otherwise h s false e = refl

chosen : {X : Type 0} (h s : X) (b : Bool) → b ≡ true → (if b then s else h) ≡ s
chosen h s true e = refl
chosen h s false e = absurd (true≢false (sym e))

snapshot-below : (k : ℕ) (h : Interp) (s : State) → Below k h (snapshot k h s)
snapshot-below k h s z lt =
    let e : nat_eq z.turn k ≡ false = unlike z.turn k lt in
    record {
      object = otherwise (h.object z) (s.object (own z.text 0)) (nat_eq z.turn k) e;
      number = otherwise (h.number z) (s.number (own z.text 0)) (nat_eq z.turn k) e;
      truth = otherwise (h.truth z) (s.truth (own z.text 0)) (nat_eq z.turn k) e;
      set = otherwise (h.set z) (s.set (own z.text 0)) (nat_eq z.turn k) e;
      field = otherwise (h.field z) (s.field (own z.text 0)) (nat_eq z.turn k) e;
    }

snapshot-gives : (k : ℕ) (h : Interp) (s : State) (x : Text) → Gives (snapshot k h s) (fresh x k) s (named x)
snapshot-gives k h s x = record {
  object = chosen (h.object (fresh x k)) (s.object (named x)) (nat_eq k k) (alike k);
  number = chosen (h.number (fresh x k)) (s.number (named x)) (nat_eq k k) (alike k);
  truth = chosen (h.truth (fresh x k)) (s.truth (named x)) (nat_eq k k) (alike k);
  set = chosen (h.set (fresh x k)) (s.set (named x)) (nat_eq k k) (alike k);
  field = chosen (h.field (fresh x k)) (s.field (named x)) (nat_eq k k) (alike k);
}

-- copies, and then havocs
pub holds-all-changed : (R : Interp → Type 0) (n : ℕ) (xs : List Sorted) (k : ℕ) (h : Interp) (s r o : State) (P : Interp → Type 0) → 2 ≤ k → Inner n h → Inner n s → Inner n r → Apart xs s r →
    Holds n k h s o (λ m. After R (changed xs k) P m) → LedWith n k (after_changed xs k) k h xs s r o P
holds-all-changed R n [] k h s r o P le inner now whole out H = record { led = holds-all-havocs R n [] k h s r o P le inner whole out H; copied = λ x i. absurd (no-place i.0 i.1) }
holds-all-changed R n (x ∷ xs) k h s r o P le inner now whole out H =
    let all : List Sorted = x ∷ xs in
    let j : Interp = snapshot k h s in
    let at : Led n (suc k) (after_havocs all (suc k)) j r o P =
    holds-all-havocs R n all (suc k) j s r o P (omega (arith, le)) (snapshot-inner n k h s inner now) whole out
    (holds-copies R n all k h s o (λ m. After R (havocs all (suc k)) P m) le
    (λ m i b. after-append R (copies all k) (havocs all (suc k)) P (viewed s o m) (H m i b))) in
    record {
      led = record { history = at.history; inner = at.inner; below = below-trans k (suc k) h j at.history (omega arith) (snapshot-below k h s) at.below; holds = at.holds };
      copied = λ y i. gives-then at.history j s (fresh y.text k) (fresh y.text k) (named y.text) (at.below (fresh y.text k) (omega arith)) (snapshot-gives k h s y.text);
    }
