-- Histories: fresh names with values of their own, and what holds along copies and havocs.
use Rattle.std.proofs.Common.{◌≡◌, refl, sym, ap, ◌∙◌, ℕ, zero, suc, ◌<◌, ◌≤◌, ◌||◌, ◌&&◌, nat_eq, arith, Bool, true, false, if◌then◌else◌, List, [], ◌∷◌, subst}
use Rattle.std.proofs.lemmas.Bool.{true≢false}
use Rattle.std.proofs.lemmas.Bool.Decides.{nat_tests}
use Rattle.std.specs.List.{Contains}
use Rattle.jh_name.specs.declared.naming.Name.{Name}
use Rattle.jh_name.specs.declared.place.Sort.{Sort}
use Rattle.jh_name.specs.declared.place.Sort.TheVariants as sort
use Rattle.jh_form.specs.Passing.{name_equal}
use Rattle.jh_form.specs.Sorts.{same_sort}
use Rattle.jh_form.proofs.Names.{name_equal-same, name_equal-true}
use Rattle.jh_form.specs.Meaning.{Interp, datum}
use Rattle.jh_vars.specs.Resolved.{own}
use Rattle.jh_wp.specs.Renamed.{copied}
use Rattle.jh_semantics.specs.Code.{Text}
use Rattle.jh_semantics.specs.State.{State, named}
use Rattle.jh_guard.specs.Items.{Sorted, free_of}
use Rattle.jh_guard.specs.Steps.{fresh, copies, havocs, after_havocs, changed, after_changed}
use Rattle.jh_logic.specs.logic.Histories.{by_turns, viewed, Gives, Below, Inner, Holds}
use Rattle.jh_logic.specs.logic.Reached.{After}
use Rattle.jh_logic.proofs.logic.Reaching.{after-append}
use Rattle.jh_logic.proofs.logic.Views.{taking, viewed-copied, viewed-known, HasValue}

pub gives-itself : (m : Interp) (x : Name) → Gives m x m x
gives-itself m x = record { object = refl; number = refl; truth = refl; set = refl; field = refl }

pub gives-then : (m r u : Interp) (x y z : Name) → Gives m x r y → Gives r y u z → Gives m x u z
gives-then m r u x y z a b = record { object = a.object ∙ b.object; number = a.number ∙ b.number; truth = a.truth ∙ b.truth; set = a.set ∙ b.set; field = a.field ∙ b.field }

pub gives-back : (m r : Interp) (x y : Name) → Gives m x r y → Gives r y m x
gives-back m r x y a = record { object = sym a.object; number = sym a.number; truth = sym a.truth; set = sym a.set; field = sym a.field }

pub below-refl : (t : ℕ) (h : Interp) → Below t h h
below-refl t h z lt = gives-itself h z

pub below-trans : (t u : ℕ) (h j m : Interp) → t ≤ u → Below t h j → Below u j m → Below t h m
below-trans t u h j m le a b z lt = gives-then m j h z z z (b z (omega arith)) (a z lt)

pub holds-later : (n t u : ℕ) (h j : Interp) (s o : State) (P : Interp → Type 0) → t ≤ u → Below t h j → Holds n t h s o P → Holds n u j s o P
holds-later n t u h j s o P le b holds m inner below = holds m inner (below-trans t u h j m le b below)

pub holds-weaker : (n t : ℕ) (h : Interp) (s o : State) (P Q : Interp → Type 0) → ((m : Interp) → P m → Q m) → Holds n t h s o P → Holds n t h s o Q
holds-weaker n t h s o P Q f holds m inner below = f (viewed s o m) (holds m inner below)

-- a history in which a fresh name has the values that an interpretation gives another name
abbrev pub noted : {X : Type 0} → (Name → X) → Name → X → Name → X
noted h y v = λ z. if name_equal z y then v else h z

abbrev pub noting : Interp → Name → Interp → Name → Interp
noting h y r x = record {
  last = h.last;
  object = noted h.object y (r.object x);
  number = noted h.number y (r.number x);
  truth = noted h.truth y (r.truth x);
  set = noted h.set y (r.set x);
  field = noted h.field y (r.field x);
}

noted_other : {X : Type 0} (h : Name → X) (y : Name) (v : X) (z : Name) (b : Bool) → name_equal z y ≡ b → z.turn < y.turn → (if b then v else h z) ≡ h z
noted_other h y v z true e lt = absurd (before z.turn y.turn (ap (λ w. w.turn) (name_equal-true z y e)) lt)
  where
    before : (n k : ℕ) → n ≡ k → n < k → ⊥
    before n k e lt = omega arith
noted_other h y v z false e lt = refl

noted_here : {X : Type 0} (h : Name → X) (y : Name) (v : X) → noted h y v y ≡ v
noted_here h y v = ap (λ b. if b then v else h y) (name_equal-same y y refl)

pub noting-below : (h : Interp) (y : Name) (r : Interp) (x : Name) → Below y.turn h (noting h y r x)
noting-below h y r x z lt = record {
  object = noted_other h.object y (r.object x) z (name_equal z y) refl lt;
  number = noted_other h.number y (r.number x) z (name_equal z y) refl lt;
  truth = noted_other h.truth y (r.truth x) z (name_equal z y) refl lt;
  set = noted_other h.set y (r.set x) z (name_equal z y) refl lt;
  field = noted_other h.field y (r.field x) z (name_equal z y) refl lt;
}

pub noting-gives : (h : Interp) (y : Name) (r : Interp) (x : Name) → Gives (noting h y r x) y r x
noting-gives h y r x = record {
  object = noted_here h.object y (r.object x);
  number = noted_here h.number y (r.number x);
  truth = noted_here h.truth y (r.truth x);
  set = noted_here h.set y (r.set x);
  field = noted_here h.field y (r.field x);
}

noted-object : (n : ℕ) (v w : ℕ) (b : Bool) → v < suc n → w < suc n → (if b then v else w) < suc n
noted-object n v w true a c = a
noted-object n v w false a c = c

pub noting-inner : (n : ℕ) (h : Interp) (y : Name) (r : Interp) (x : Name) → Inner n h → r.object x < suc n → ((a : ℕ) → a < suc n → (r.field x).objects a < suc n) → Inner n (noting h y r x)
noting-inner n h y r x inner o f = record {
  object = λ z. noted-object n (r.object x) (h.object z) (name_equal z y) o (inner.object z);
  field = λ z a lt. noted-field z (name_equal z y) a lt;
}
  where
    noted-field : (z : Name) (b : Bool) (a : ℕ) → a < suc n → (if b then r.field x else h.field z).objects a < suc n
    noted-field z true a lt = f a lt
    noted-field z false a lt = inner.field z a lt

-- the objects of a state are those from 0 to n
abbrev pub OfUniverse : ℕ → State → Type 0
OfUniverse n s = Inner n s

-- One havoc: the history is chosen so that the fresh name has the value that another state gives.
pub holds-havoc : (n k : ℕ) (h : Interp) (s o : State) (x : Text) (r : State) (Q : Interp → Type 0) → 2 ≤ k →
    Holds n k h s o (λ m. Q (copied m (named x) (fresh x k))) → Holds n (suc k) (noting h (fresh x k) r (named x)) (taking s x r) o Q
holds-havoc n k h s o x r Q le holds m inner below =
    let y : Name = fresh x k in
    let given : Gives m y r (named x) = gives-then m (noting h y r (named x)) r y y (named x) (below y (omega arith)) (noting-gives h y r (named x)) in
    subst (λ (v : Interp). Q v) (viewed-copied s o m x y r le given)
    (holds m inner (below-trans k (suc k) h (noting h y r (named x)) m (omega arith) (noting-below h y r (named x)) below))

-- a name is one of some names at turn 0, at its sort
abbrev pub is_named : Name → Sort → List Sorted → Bool
is_named z a [] = false
is_named z a (x ∷ xs) = (name_equal z (named x.text) && same_sort a x.sort) || is_named z a xs

-- outside these names two states are one
pub record Outside (xs : List Sorted) (s r : State) : Type 0 where
  pub last : s.last ≡ r.last
  pub object : (z : Name) → z.turn ≡ 0 → is_named z sort.Obj xs ≡ false → s.object z ≡ r.object z
  pub number : (z : Name) → z.turn ≡ 0 → is_named z sort.Int xs ≡ false → s.number z ≡ r.number z
  pub truth : (z : Name) → z.turn ≡ 0 → is_named z sort.Bool xs ≡ false → s.truth z ≡ r.truth z
  pub set : (z : Name) → z.turn ≡ 0 → is_named z sort.Set xs ≡ false → s.set z ≡ r.set z
  pub field : (z : Name) → z.turn ≡ 0 → is_named z sort.Field xs ≡ false → s.field z ≡ r.field z

pub outside-refl : (xs : List Sorted) (s : State) → Outside xs s s
outside-refl xs s = record { last = refl; object = λ z e out. refl; number = λ z e out. refl; truth = λ z e out. refl; set = λ z e out. refl; field = λ z e out. refl }

pub outside-trans : (xs : List Sorted) (s r u : State) → Outside xs s r → Outside xs r u → Outside xs s u
outside-trans xs s r u h k = record {
  last = h.last ∙ k.last;
  object = λ z e out. h.object z e out ∙ k.object z e out;
  number = λ z e out. h.number z e out ∙ k.number z e out;
  truth = λ z e out. h.truth z e out ∙ k.truth z e out;
  set = λ z e out. h.set z e out ∙ k.set z e out;
  field = λ z e out. h.field z e out ∙ k.field z e out;
}

either-right : (a b : Bool) → a ≡ false → b ≡ false → (a || b) ≡ false
either-right true b e f = e
either-right false b e f = f

both-false : (a b : Bool) → a ≡ false → (a && b) ≡ false
both-false true b e = absurd (true≢false e)
both-false false b e = refl

took_at : {X : Type 0} (s r : Name → X) (x : Text) (z : Name) (b : Bool) → name_equal z (named x) ≡ b → (b ≡ false → s z ≡ r z) → (if b then r (named x) else s z) ≡ r z
took_at s r x z true e same = ap r (sym (name_equal-true z (named x) e))
took_at s r x z false e same = same refl

outside-step : (x : Sorted) (xs : List Sorted) (s r : State) → Outside (x ∷ xs) s r → Outside xs (taking s x.text r) r
outside-step x xs s r h = record {
  last = h.last;
  object = λ z e out. took_at s.object r.object x.text z (name_equal z (named x.text)) refl (λ f. h.object z e (apart z sort.Obj f out));
  number = λ z e out. took_at s.number r.number x.text z (name_equal z (named x.text)) refl (λ f. h.number z e (apart z sort.Int f out));
  truth = λ z e out. took_at s.truth r.truth x.text z (name_equal z (named x.text)) refl (λ f. h.truth z e (apart z sort.Bool f out));
  set = λ z e out. took_at s.set r.set x.text z (name_equal z (named x.text)) refl (λ f. h.set z e (apart z sort.Set f out));
  field = λ z e out. took_at s.field r.field x.text z (name_equal z (named x.text)) refl (λ f. h.field z e (apart z sort.Field f out));
}
  where
    apart : (z : Name) (a : Sort) → name_equal z (named x.text) ≡ false → is_named z a xs ≡ false → is_named z a (x ∷ xs) ≡ false
    apart z a f out = either-right (name_equal z (named x.text) && same_sort a x.sort) (is_named z a xs) (both-false (name_equal z (named x.text)) (same_sort a x.sort) f) out

now_at : {X : Type 0} (n : ℕ) (a b o g : X) → (n ≡ 0 → a ≡ b) → by_turns n a o g ≡ by_turns n b o g
now_at zero a b o g e = e refl
now_at (suc zero) a b o g e = refl
now_at (suc (suc n)) a b o g e = refl

pub viewed-same : (s r o g : State) → Outside [] s r → viewed s o g ≡ viewed r o g
viewed-same s r o g h = λ i. record {
  last = h.last i;
  object = λ z. now_at z.turn (s.object z) (r.object z) (o.object (own z.text 0)) (g.object z) (λ e. h.object z e refl) i;
  number = λ z. now_at z.turn (s.number z) (r.number z) (o.number (own z.text 0)) (g.number z) (λ e. h.number z e refl) i;
  truth = λ z. now_at z.turn (s.truth z) (r.truth z) (o.truth (own z.text 0)) (g.truth z) (λ e. h.truth z e refl) i;
  set = λ z. now_at z.turn (s.set z) (r.set z) (o.set (own z.text 0)) (g.set z) (λ e. h.set z e refl) i;
  field = λ z. now_at z.turn (s.field z) (r.field z) (o.field (own z.text 0)) (g.field z) (λ e. h.field z e refl) i;
}

-- where a history leads
pub record Led (n t u : ℕ) (h : Interp) (s o : State) (P : Interp → Type 0) : Type 0 where
  pub history : Interp
  pub inner : Inner n history
  pub below : Below t h history
  pub holds : Holds n u history s o P

-- All havocs: whatever state they lead to, there is a history that leads there.
pub holds-havocs : (R : Interp → Type 0) (n : ℕ) (xs : List Sorted) (k : ℕ) (h : Interp) (s r o : State) (P : Interp → Type 0) → 2 ≤ k → Inner n h → Inner n r → Outside xs s r →
    Holds n k h s o (λ m. After R (havocs xs k) P m) → Led n k (after_havocs xs k) h r o P
holds-havocs R n [] k h s r o P le inner whole out H = record {
  history = h;
  inner = inner;
  below = below-refl k h;
  holds = λ m i b. subst (λ (v : Interp). P v) (viewed-same s r o m out) (H m i (λ z lt. b z (omega (arith, lt))));
}
holds-havocs R n (x ∷ xs) k h s r o P le inner whole out H =
    let y : Name = fresh x.text k in
    let j : Interp = noting h y r (named x.text) in
    let at : Led n (suc k) (after_havocs xs (suc k)) j r o P =
    holds-havocs R n xs (suc k) j (taking s x.text r) r o P (omega (arith, le)) (noting-inner n h y r (named x.text) inner (whole.object (named x.text)) (whole.field (named x.text))) whole
    (outside-step x xs s r out) (holds-havoc n k h s o x.text r (λ m. After R (havocs xs (suc k)) P m) le H) in
    let turns : after_havocs xs (suc k) ≡ after_havocs (x ∷ xs) k = omega arith in
    record {
      history = at.history;
      inner = at.inner;
      below = below-trans k (suc k) h j at.history (omega arith) (noting-below h y r (named x.text)) at.below;
      holds = subst (λ (u : ℕ). Holds n u at.history r o P) turns at.holds;
    }

-- the history in which each name at turn k has the value that it has in the state
abbrev pub snapped : {X : Type 0} → ℕ → (Name → X) → (Name → X) → Name → X
snapped k h s = λ z. if nat_eq z.turn k then s (own z.text 0) else h z

abbrev pub snapshot : ℕ → Interp → State → Interp
snapshot k h s = record {
  last = h.last;
  object = snapped k h.object s.object;
  number = snapped k h.number s.number;
  truth = snapped k h.truth s.truth;
  set = snapped k h.set s.set;
  field = snapped k h.field s.field;
}

snapshot-inner : (n k : ℕ) (h : Interp) (s : State) → Inner n h → Inner n s → Inner n (snapshot k h s)
snapshot-inner n k h s inner whole = record {
  object = λ z. noted-object n (s.object (own z.text 0)) (h.object z) (nat_eq z.turn k) (whole.object (own z.text 0)) (inner.object z);
  field = λ z a lt. snapped-field (nat_eq z.turn k) z a lt;
}
  where
    snapped-field : (b : Bool) (z : Name) (a : ℕ) → a < suc n → (if b then s.field (own z.text 0) else h.field z).objects a < suc n
    snapped-field true z a lt = whole.field (own z.text 0) a lt
    snapped-field false z a lt = inner.field z a lt

unlike : (a k : ℕ) → a < k → nat_eq a k ≡ false
unlike a k e = grind (arith, nat_tests)

alike : (k : ℕ) → nat_eq k k ≡ true
alike k = grind (arith, nat_tests)

otherwise : {X : Type 0} (h s : X) (b : Bool) → b ≡ false → (if b then s else h) ≡ h
otherwise h s true e = absurd (true≢false e)
otherwise h s false e = refl

chosen : {X : Type 0} (h s : X) (b : Bool) → b ≡ true → (if b then s else h) ≡ s
chosen h s true e = refl
chosen h s false e = absurd (true≢false (sym e))

snapshot-below : (k : ℕ) (h : Interp) (s : State) → Below k h (snapshot k h s)
snapshot-below k h s z lt =
    let e : nat_eq z.turn k ≡ false = unlike z.turn k lt in
    record {
      object = otherwise (h.object z) (s.object (own z.text 0)) (nat_eq z.turn k) e;
      number = otherwise (h.number z) (s.number (own z.text 0)) (nat_eq z.turn k) e;
      truth = otherwise (h.truth z) (s.truth (own z.text 0)) (nat_eq z.turn k) e;
      set = otherwise (h.set z) (s.set (own z.text 0)) (nat_eq z.turn k) e;
      field = otherwise (h.field z) (s.field (own z.text 0)) (nat_eq z.turn k) e;
    }

snapshot-gives : (k : ℕ) (h : Interp) (s : State) (x : Text) → Gives (snapshot k h s) (fresh x k) s (named x)
snapshot-gives k h s x = record {
  object = chosen (h.object (fresh x k)) (s.object (named x)) (nat_eq k k) (alike k);
  number = chosen (h.number (fresh x k)) (s.number (named x)) (nat_eq k k) (alike k);
  truth = chosen (h.truth (fresh x k)) (s.truth (named x)) (nat_eq k k) (alike k);
  set = chosen (h.set (fresh x k)) (s.set (named x)) (nat_eq k k) (alike k);
  field = chosen (h.field (fresh x k)) (s.field (named x)) (nat_eq k k) (alike k);
}

-- a name with the values of a name of the state has its value at each sort
known-value : (sort : Sort) (s o m : Interp) (y : Name) (x : Text) → Gives m y s (named x) → HasValue m y (datum (free_of sort (named x)) (viewed s o m) [])
known-value sort.Obj s o m y x g = g.object
known-value sort.Int s o m y x g = g.number
known-value sort.Bool s o m y x g = g.truth
known-value sort.Set s o m y x g = g.set
known-value sort.Field s o m y x g = g.field

-- copies that are known change nothing
copies-known : (R : Interp → Type 0) (xs : List Sorted) (k : ℕ) (s o m : Interp) (P : Interp → Type 0) → 2 ≤ k → ((x : Text) → Gives m (fresh x k) s (named x)) → After R (copies xs k) P (viewed s o m) → P (viewed s o m)
copies-known R [] k s o m P le known h = h
copies-known R (x ∷ xs) k s o m P le known h =
    copies-known R xs k s o m P le known
    (subst (λ (v : Interp). After R (copies xs k) P v) (viewed-known s o m (fresh x.text k) (datum (free_of x.sort (named x.text)) (viewed s o m) []) le (known-value x.sort s o m (fresh x.text k) x.text (known x.text))) h)

pub holds-copies : (R : Interp → Type 0) (n : ℕ) (xs : List Sorted) (k : ℕ) (h : Interp) (s o : State) (P : Interp → Type 0) → 2 ≤ k →
    Holds n k h s o (λ m. After R (copies xs k) P m) → Holds n (suc k) (snapshot k h s) s o P
holds-copies R n xs k h s o P le H m inner below =
    copies-known R xs k s o m P le
    (λ x. gives-then m (snapshot k h s) s (fresh x k) (fresh x k) (named x) (below (fresh x k) (omega arith)) (snapshot-gives k h s x))
    (H m inner (below-trans k (suc k) h (snapshot k h s) m (omega arith) (snapshot-below k h s) below))

-- Copies and then havocs: where they lead, and what the copies have.
pub record LedWith (n t u k : ℕ) (h : Interp) (xs : List Sorted) (s r o : State) (P : Interp → Type 0) : Type 0 where
  pub led : Led n t u h r o P
  pub copied : (x : Sorted) → Contains xs x → Gives led.history (fresh x.text k) s (named x.text)

no-place : (i : ℕ) → i < 0 → ⊥
no-place i lt = omega arith

pub holds-changed : (R : Interp → Type 0) (n : ℕ) (xs : List Sorted) (k : ℕ) (h : Interp) (s r o : State) (P : Interp → Type 0) → 2 ≤ k → Inner n h → Inner n s → Inner n r → Outside xs s r →
    Holds n k h s o (λ m. After R (changed xs k) P m) → LedWith n k (after_changed xs k) k h xs s r o P
holds-changed R n [] k h s r o P le inner now whole out H = record { led = holds-havocs R n [] k h s r o P le inner whole out H; copied = λ x i. absurd (no-place i.0 i.1) }
holds-changed R n (x ∷ xs) k h s r o P le inner now whole out H =
    let all : List Sorted = x ∷ xs in
    let j : Interp = snapshot k h s in
    let at : Led n (suc k) (after_havocs all (suc k)) j r o P =
    holds-havocs R n all (suc k) j s r o P (omega (arith, le)) (snapshot-inner n k h s inner now) whole out
    (holds-copies R n all k h s o (λ m. After R (havocs all (suc k)) P m) le
    (λ m i b. after-append R (copies all k) (havocs all (suc k)) P (viewed s o m) (H m i b))) in
    record {
      led = record { history = at.history; inner = at.inner; below = below-trans k (suc k) h j at.history (omega arith) (snapshot-below k h s) at.below; holds = at.holds };
      copied = λ y i. gives-then at.history j s (fresh y.text k) (fresh y.text k) (named y.text) (at.below (fresh y.text k) (omega arith)) (snapshot-gives k h s y.text);
    }
