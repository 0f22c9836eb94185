-- What comes of a universal that is put, with constants and quantifiers in front, came of the universal.
use Rattle.std.proofs.Common.{◌≡◌, refl, sym, ap, ◌∙◌, subst, ℕ, zero, suc, ◌+◌, ◌-◌, ◌<◌, ◌≤◌, ◌==◌, nat_lt, arith, length, Bool, true, false, if◌then◌else◌, List, [], ◌∷◌, ◌++◌, ◌⊎◌, inl, inr}
use Rattle.std.proofs.lemmas.Bool.{ltb-true, ltb-false, eqb-true, eqb-false}
use Rattle.jh_name.specs.declared.naming.Name.{Name}
use Rattle.jh_form.specs.Tree.{TermTree, IntTree, SetTree, FieldTree, FormulaTree}
use Rattle.jh_form.specs.Tree as t
use Rattle.jh_form.specs.Closed.{is_closed_term, is_closed_field}
use Rattle.jh_form.proofs.ClosedLemmas.{both-left, both-right}
use Rattle.jh_boxed.specs.Mapped.{mapped_formula}
use Rattle.jh_boxed_operations.specs.substitution.Opened.{opened}
use Rattle.jh_seq.specs.splitting.Local.{is_field_name, is_local_term, has_local_shape}
use Rattle.jh_seq.specs.splitting.Split.{constant, constant_at, closed_by}
use Rattle.jh_inst.specs.instances.Witnesses.{witnesses, witnessed}
use Rattle.jh_inst.specs.instances.Prenex.{in_front}
use Rattle.jh_inst.specs.instances.Terms.{terms_in}
use Rattle.jh_inst.specs.instances.Rounds.{put_at}
use Rattle.jh_inst.proofs.instances.Gathering.{Fills, fill_at, read_each, itself, all_of, gather_under, gather_top, gather_front, IsClosed}
use Rattle.jh_inst.proofs.instances.Lengths.{In, in-left, in-right, in-both}
use Rattle.jh_inst.proofs.instances.Mapping.{under-comes, front-comes}
use Rattle.jh_inst.proofs.instances.Shaped.{exchanging, opened-shaped}

-- fills before others
pub fill-below : (k : ℕ) (gs us vs : Fills) → k < length gs → fill_at (gs ++ us) k ≡ fill_at (gs ++ vs) k
fill-below k [] us vs h = absurd (omega (arith, h))
fill-below zero (g ∷ gs) us vs h = refl
fill-below (suc k) (g ∷ gs) us vs h = fill-below k gs us vs (omega (arith, h))

pub fill-beyond : (k j : ℕ) (gs us : Fills) → k ≡ length gs + j → fill_at (gs ++ us) k ≡ fill_at us j
fill-beyond k j [] us e = let same : k ≡ j = omega (arith, e) in ap (fill_at us) same
fill-beyond zero j (g ∷ gs) us e = absurd (omega (arith, e))
fill-beyond (suc k) j (g ∷ gs) us e = fill-beyond k j gs us (omega (arith, e))

pub moved : (x : TermTree) (xs ys : List TermTree) → xs ≡ ys → In x xs → In x ys
moved x xs ys e h = subst (λ z. In x z) e h

-- a closed term is what it becomes
pub itself-same : (fs : Fills) (a : TermTree) → is_local_term a ≡ true → IsClosed a → itself fs a ≡ a ∷ []
unfolding is_closed_term
itself-same fs (t.bound k) l c = absurd (let lt : k < 0 = ltb-true k 0 c in omega (arith, lt))
itself-same fs (t.free_object y) l c = refl
itself-same fs t.null l c = refl
itself-same fs (t.read_object f a) l c = ap (read_each f) (itself-same fs a (both-right (is_field_name f) (is_local_term a) l) (both-right (is_closed_field f 0) (is_closed_term a 0) c))

all-same : (fs : Fills) (a : TermTree) → is_local_term a ≡ true → IsClosed a → all_of fs a ≡ terms_in a
unfolding is_closed_term
all-same fs (t.bound k) l c = absurd (let lt : k < 0 = ltb-true k 0 c in omega (arith, lt))
all-same fs (t.free_object y) l c = refl
all-same fs t.null l c = refl
all-same fs (t.read_object f a) l c = λ i.
    read_each f (itself-same fs a (both-right (is_field_name f) (is_local_term a) l) (both-right (is_closed_field f 0) (is_closed_term a 0) c) i)
    ++ all-same fs a (both-right (is_field_name f) (is_local_term a) l) (both-right (is_closed_field f 0) (is_closed_term a 0) c) i

cases-of : (b : Bool) → (b ≡ true) ⊎ (b ≡ false)
cases-of true = inl refl
cases-of false = inr refl

apart : (k d : ℕ) → d ≤ suc k → (suc k ≡ d → ⊥) → d ≤ k
apart k d le differs =
    elim (cases-of (nat_lt k d)) [
      | inl less ↦ absurd (differs (let lt : k < d = ltb-true k d less in omega (arith, le, lt)))
      | inr more ↦ ltb-false k d more
    ]

of-one : (x w : TermTree) (ts : List TermTree) → In w ts → In x (w ∷ []) → In x ts
of-one x w ts h (inl g) = subst (λ z. In z ts) (sym g) h
of-one x w ts h (inr g) = absurd g

-- opened at a term of a list that has the terms inside it too
abbrev pub IsThere : List TermTree → TermTree → Type 0
IsThere ts w = IsClosed w × (is_local_term w ≡ true) × In w ts × ((x : TermTree) → In x (terms_in w) → In x ts)

module _ (ts : List TermTree) (w : TermTree) (there : IsThere ts w) (fs : Fills) where
  open-self : (k d : ℕ) (gs : Fills) (below here : Bool) → length gs ≡ d → nat_lt k d ≡ below → (k == d) ≡ here → (x : TermTree) →
      In x (itself (gs ++ fs) (if below then t.bound k else (if here then w else t.bound (k - 1)))) → In x (fill_at (gs ++ (ts ∷ fs)) k)
  open-self k d gs true here e p q x h = let lt : k < d = ltb-true k d p in moved x (fill_at (gs ++ fs) k) (fill_at (gs ++ (ts ∷ fs)) k) (fill-below k gs fs (ts ∷ fs) (omega (arith, e, lt))) h
  open-self k d gs false true e p q x h =
      let same : k ≡ d = eqb-true k d q in
      moved x ts (fill_at (gs ++ (ts ∷ fs)) k) (sym (fill-beyond k 0 gs (ts ∷ fs) (omega (arith, e, same))))
      (of-one x w ts there.2 (moved x (itself (gs ++ fs) w) (w ∷ []) (itself-same (gs ++ fs) w there.1 there.0) h))
  open-self zero d gs false false e p q x h = absurd (let le : d ≤ zero = ltb-false zero d p in let differs : zero ≡ d → ⊥ = eqb-false zero d q in differs (omega (arith, le)))
  open-self (suc k) d gs false false e p q x h =
      let more : d ≤ k = apart k d (ltb-false (suc k) d p) (eqb-false (suc k) d q) in
      let less : suc k - 1 ≡ k = omega arith in
      moved x (fill_at (gs ++ fs) (suc k - 1)) (fill_at (gs ++ (ts ∷ fs)) (suc k))
      (ap (fill_at (gs ++ fs)) less ∙ fill-beyond k (k - d) gs fs (omega (arith, e, more)) ∙ sym (fill-beyond (suc k) (suc (k - d)) gs (ts ∷ fs) (omega (arith, e, more)))) h

  open-inside : (k d : ℕ) (gs : Fills) (below here : Bool) → length gs ≡ d → nat_lt k d ≡ below → (k == d) ≡ here → (x : TermTree) →
      In x (all_of (gs ++ fs) (if below then t.bound k else (if here then w else t.bound (k - 1)))) → In x ts ⊎ In x (fill_at (gs ++ (ts ∷ fs)) k)
  open-inside k d gs true here e p q x h = inr (open-self k d gs true here e p q x h)
  open-inside k d gs false true e p q x h = inl (there.3 x (moved x (all_of (gs ++ fs) w) (terms_in w) (all-same (gs ++ fs) w there.1 there.0) h))
  open-inside k d gs false false e p q x h = inr (open-self k d gs false false e p q x h)

  pub opened-comes : (cs : ℕ → List TermTree) (a : FormulaTree) → has_local_shape a ≡ true → (x : TermTree) → In x (gather_front all_of cs ts (opened a w) fs) → In x ts ⊎ In x (gather_front all_of cs ts a (ts ∷ fs))
  opened-comes cs a l x h =
      front-comes (λ y. In y ts) (λ k d. if nat_lt k d then t.bound k else (if k == d then w else t.bound (k - 1))) (ts ∷ fs) fs
      (λ k d gs e y g. open-self k d gs (nat_lt k d) (k == d) e refl refl y g)
      (λ k d gs e y g. open-inside k d gs (nat_lt k d) (k == d) e refl refl y g)
      cs ts a 0 [] refl l x h

-- a universal put at such terms
abbrev pub AllThere : List TermTree → List TermTree → Type 0
AllThere ts [] = Unit {0}
AllThere ts (w ∷ ws) = IsThere ts w × AllThere ts ws

pub put-comes : (ts : List TermTree) (cs : ℕ → List TermTree) (c : List TermTree) (a : FormulaTree) → AllThere ts c → has_local_shape a ≡ true → (x : TermTree) →
    In x (gather_front all_of cs ts (put_at a c) []) → In x ts ⊎ In x (gather_front all_of cs ts a [])
put-comes ts cs [] a there l x h = inr h
put-comes ts cs (w ∷ ws) (t.all a) there l x h =
    elim (put-comes ts cs ws (opened a w) there.1 (opened-shaped a w there.0.1 l) x h) [
      | inl g ↦ inl g
      | inr g ↦ opened-comes ts w there.0 [] cs a l x g
    ]
put-comes ts cs (w ∷ ws) a there l x h = inr h

pub put-shaped : (ts : List TermTree) (c : List TermTree) (a : FormulaTree) → AllThere ts c → has_local_shape a ≡ true → has_local_shape (put_at a c) ≡ true
put-shaped ts [] a there l = l
put-shaped ts (w ∷ ws) (t.all a) there l = put-shaped ts ws (opened a w) there.1 (opened-shaped a w there.0.1 l)
put-shaped ts (w ∷ ws) a there l = l

-- with a term for each variable none is left in front
pub front-mapped : (b : ℕ → ℕ → TermTree) (a : FormulaTree) (d : ℕ) → in_front (mapped_formula a (exchanging b) d) ≡ in_front a
unfolding mapped_formula
front-mapped b (t.all a) d = ap suc (front-mapped b a (d + 1))
front-mapped b _ d = refl

pub front-opened : (a : FormulaTree) (w : TermTree) → in_front (opened a w) ≡ in_front a
front-opened a w = front-mapped (λ k d. if nat_lt k d then t.bound k else (if k == d then w else t.bound (k - 1))) a 0

pub put-front : (c : List TermTree) (a : FormulaTree) → length c ≡ in_front a → in_front (put_at a c) ≡ 0
put-front [] a e = sym e
put-front (w ∷ ws) (t.all a) e = let same : in_front (opened a w) ≡ in_front a = front-opened a w in put-front ws (opened a w) (omega (arith, e, same))
put-front (w ∷ ws) a e = absurd (omega (arith, e))

pub front-none : (g : Fills → TermTree → List TermTree) (cs : ℕ → List TermTree) (ts : List TermTree) (a : FormulaTree) → in_front a ≡ 0 → gather_top g cs a [] 0 ≡ gather_front g cs ts a []
front-none g cs ts (t.all a) e = absurd (omega (arith, e))
front-none g cs ts _ e = refl

-- with constants
abbrev pub Matches : List Name → Fills → Type 0
Matches [] [] = Unit {0}
Matches [] (x ∷ xs) = ⊥
Matches (w ∷ ws) [] = ⊥
Matches (w ∷ ws) (x ∷ xs) = In (t.free_object w) x × Matches ws xs

match-at : (ws : List Name) (fs : Fills) (i : ℕ) → Matches ws fs → In (constant_at ws i) (fill_at fs i)
match-at [] [] i m = inl refl
match-at [] (x ∷ xs) i m = absurd m
match-at (w ∷ ws) [] i m = absurd m
match-at (w ∷ ws) (x ∷ xs) zero m = m.0
match-at (w ∷ ws) (x ∷ xs) (suc i) m = match-at ws xs i m.1

constant-itself : (fs : Fills) (ws : List Name) (i : ℕ) → itself fs (constant_at ws i) ≡ constant_at ws i ∷ []
constant-itself fs [] i = refl
constant-itself fs (w ∷ ws) zero = refl
constant-itself fs (w ∷ ws) (suc i) = constant-itself fs ws i

constant-all : (fs : Fills) (ws : List Name) (i : ℕ) → all_of fs (constant_at ws i) ≡ constant_at ws i ∷ []
constant-all fs [] i = refl
constant-all fs (w ∷ ws) zero = refl
constant-all fs (w ∷ ws) (suc i) = constant-all fs ws i

module _ (ws : List Name) (fs : Fills) (m : Matches ws fs) where
  close-self : (k d : ℕ) (gs : Fills) (below : Bool) → length gs ≡ d → nat_lt k d ≡ below → (x : TermTree) → In x (itself (gs ++ []) (if below then t.bound k else constant_at ws (k - d))) → In x (fill_at (gs ++ fs) k)
  close-self k d gs true e p x h = let lt : k < d = ltb-true k d p in moved x (fill_at (gs ++ []) k) (fill_at (gs ++ fs) k) (fill-below k gs [] fs (omega (arith, e, lt))) h
  close-self k d gs false e p x h =
      let le : d ≤ k = ltb-false k d p in
      moved x (fill_at fs (k - d)) (fill_at (gs ++ fs) k) (sym (fill-beyond k (k - d) gs fs (omega (arith, e, le))))
      (of-one x (constant_at ws (k - d)) (fill_at fs (k - d)) (match-at ws fs (k - d) m) (moved x (itself (gs ++ []) (constant_at ws (k - d))) (constant_at ws (k - d) ∷ []) (constant-itself (gs ++ []) ws (k - d)) h))

  close-inside : (k d : ℕ) (gs : Fills) (below : Bool) → length gs ≡ d → nat_lt k d ≡ below → (x : TermTree) → In x (all_of (gs ++ []) (if below then t.bound k else constant_at ws (k - d))) → ⊥ ⊎ In x (fill_at (gs ++ fs) k)
  close-inside k d gs true e p x h = inr (close-self k d gs true e p x h)
  close-inside k d gs false e p x h =
      let le : d ≤ k = ltb-false k d p in
      inr (moved x (fill_at fs (k - d)) (fill_at (gs ++ fs) k) (sym (fill-beyond k (k - d) gs fs (omega (arith, e, le))))
      (of-one x (constant_at ws (k - d)) (fill_at fs (k - d)) (match-at ws fs (k - d) m) (moved x (all_of (gs ++ []) (constant_at ws (k - d))) (constant_at ws (k - d) ∷ []) (constant-all (gs ++ []) ws (k - d)) h)))

  closed-comes : (a : FormulaTree) → has_local_shape a ≡ true → (x : TermTree) → In x (gather_under all_of (closed_by a ws) []) → In x (gather_under all_of a fs)
  closed-comes a l x h =
      elim (under-comes (λ y. ⊥) (λ k d. if nat_lt k d then t.bound k else constant_at ws (k - d)) fs []
      (λ k d gs e y g. close-self k d gs (nat_lt k d) e refl y g) (λ k d gs e y g. close-inside k d gs (nat_lt k d) e refl y g) a 0 [] refl l x h) [
        | inl never ↦ absurd never
        | inr g ↦ g
      ]

pub witnessed-comes : (cs : ℕ → List TermTree) (start : ℕ) → ((j : ℕ) → In (t.free_object (constant (start + j))) (cs j)) →
    (a : FormulaTree) (ws : List Name) (fs : Fills) (k j : ℕ) → k ≡ start + j → Matches ws fs → has_local_shape a ≡ true → (x : TermTree) →
    In x (gather_under all_of (witnessed a ws k) []) → In x (gather_top all_of cs a fs j)
witnessed-comes cs start made (t.and a b) ws fs k j e m l x h =
    elim (in-both x (gather_under all_of (witnessed a ws k) []) (gather_under all_of (witnessed b ws (k + witnesses a)) []) h) [
      | inl g ↦ in-left x (gather_top all_of cs a fs j) (gather_top all_of cs b fs (j + witnesses a)) (witnessed-comes cs start made a ws fs k j e m (both-left (has_local_shape a) (has_local_shape b) l) x g)
      | inr g ↦ in-right x (gather_top all_of cs a fs j) (gather_top all_of cs b fs (j + witnesses a)) (witnessed-comes cs start made b ws fs (k + witnesses a) (j + witnesses a) (omega (arith, e)) m (both-right (has_local_shape a) (has_local_shape b) l) x g)
    ]
witnessed-comes cs start made (t.or a b) ws fs k j e m l x h =
    elim (in-both x (gather_under all_of (witnessed a ws k) []) (gather_under all_of (witnessed b ws (k + witnesses a)) []) h) [
      | inl g ↦ in-left x (gather_top all_of cs a fs j) (gather_top all_of cs b fs (j + witnesses a)) (witnessed-comes cs start made a ws fs k j e m (both-left (has_local_shape a) (has_local_shape b) l) x g)
      | inr g ↦ in-right x (gather_top all_of cs a fs j) (gather_top all_of cs b fs (j + witnesses a)) (witnessed-comes cs start made b ws fs (k + witnesses a) (j + witnesses a) (omega (arith, e)) m (both-right (has_local_shape a) (has_local_shape b) l) x g)
    ]
witnessed-comes cs start made (t.ex a) ws fs k j e m l x h =
    witnessed-comes cs start made a (constant k ∷ ws) (cs j ∷ fs) (suc k) (suc j) (omega (arith, e)) (subst (λ z. In (t.free_object (constant z)) (cs j)) (sym e) (made j), m) l x h
witnessed-comes cs start made a ws fs k j e m l x h = closed-comes ws fs m a l x h
