-- Walks along listed fields find what is reached.
use Rattle.std.proofs.Common.{◌≡◌, refl, sym, ap, subst, ◌∙◌, ◌⊎◌, inl, inr, ℕ, zero, suc, ◌+◌, ◌<◌, ◌≤◌, ◌==◌, Bool, true, false, ◌||◌, List, [], ◌∷◌, ◌++◌, map, length, get_or, slice_get, slice_set, slice_index, replicate, Some, arith}
use Rattle.std.specs.List.{list_any}
use Rattle.std.proofs.lemmas.Bool.{or_cases, or_left, or_right, eqb-true, eq-eqb}
use Rattle.std.proofs.lemmas.Option.{slice_get_within, slice_get-get_or}
use Rattle.jh_form.specs.Meaning.{Fields, leads, reaches, edge}
use Rattle.jh_containers.proofs.transitive_closure.Places.{set-here, set-other, same-or-not, before-or-at}
use Rattle.jh_sem.specs.Graphs.{listed_field, listed_fields, IsRow, AreRows, unmarked, IsWalk}
use Rattle.jh_sem.proofs.Below.{any-below, below-any, not-so, is-false, pushed-old, pushed-new, pushed-is}

pub some-one : {X : Type 0} (a b : X) → Some a ≡ Some b → a ≡ b
some-one a b e = cc

pub edge-listed : (rows : List (List ℕ)) (i : ℕ) (row : List ℕ) (a : ℕ) → slice_get rows i ≡ Some row → edge (listed_fields rows) i a ≡ slice_index row a
edge-listed [] i row a h = absurd (cc)
edge-listed (r ∷ rows) zero row a h = ap (λ xs. slice_index xs a) (some-one r row h)
edge-listed (r ∷ rows) (suc i) row a h = edge-listed rows i row a h

pub listed-length : (rows : List (List ℕ)) → length (listed_fields rows) ≡ length rows
listed-length [] = refl
listed-length (r ∷ rows) = ap suc (listed-length rows)

pub row-inside : (last : ℕ) (rows : List (List ℕ)) (i : ℕ) (row : List ℕ) (a : ℕ) → AreRows last rows → slice_get rows i ≡ Some row → a < suc last → slice_index row a < suc last
row-inside last rows i row a are at lt =
    let whole = are i row at in
    whole.inside a (slice_index row a) (slice_get-get_or row a 0 (rw whole.counted lt))

pub edge-inside : (last : ℕ) (rows : List (List ℕ)) (i a : ℕ) → AreRows last rows → i < length rows → a < suc last → edge (listed_fields rows) i a < suc last
edge-inside last rows i a are lt inside =
    let at = slice_get-get_or rows i [] lt in
    rw (edge-listed rows i (get_or rows i []) a at) (row-inside last rows i (get_or rows i []) a are at inside)

-- a test that some field of a list passes, by the objects to which they lead
pub any-edge : (fs : List Fields) (q : ℕ → Bool) (a : ℕ) → list_any (λ f. q (f.objects a)) fs ≡ true → (i : ℕ) × (i < length fs) × (q (edge fs i a) ≡ true)
any-edge [] q a h = absurd (cc)
any-edge (f ∷ fs) q a h =
    elim (or_cases (q (f.objects a)) (list_any (λ g. q (g.objects a)) fs) h) [
      | inl e ↦ (0, omega arith, e)
      | inr e ↦ let r = any-edge fs q a e in let lt = r.1 in (suc r.0, omega arith, r.2)
    ]

pub edge-any : (fs : List Fields) (q : ℕ → Bool) (a i : ℕ) → i < length fs → q (edge fs i a) ≡ true → list_any (λ f. q (f.objects a)) fs ≡ true
edge-any [] q a i lt h = absurd (omega arith)
edge-any (f ∷ fs) q a zero lt h = or_left (q (f.objects a)) (list_any (λ g. q (g.objects a)) fs) h
edge-any (f ∷ fs) q a (suc i) lt h = or_right (q (f.objects a)) (list_any (λ g. q (g.objects a)) fs) (edge-any fs q a i (omega arith) h)

module _ (fs : List Fields) where
  -- one more step at the end
  leads-on : (k a x i : ℕ) → i < length fs → leads fs k a x ≡ true → leads fs (suc k) a (edge fs i x) ≡ true
  leads-on zero a x i lt h = edge-any fs (λ c. leads fs 0 c (edge fs i x)) a i lt (eq-eqb (edge fs i a) (edge fs i x) (ap (edge fs i) (eqb-true a x h)))
  leads-on (suc k) a x i lt h =
      let r = any-edge fs (λ c. leads fs k c x) a h in
      edge-any fs (λ c. leads fs (suc k) c (edge fs i x)) a r.0 r.1 (leads-on k (edge fs r.0 a) x i lt r.2)

  pub reaches-start : (n a : ℕ) → reaches n fs a a ≡ true
  reaches-start n a = below-any (suc n) 0 (λ k. leads fs k a a) (omega arith) (eq-eqb a a refl)

  pub reaches-on : (n m a x i : ℕ) → n < m → i < length fs → reaches n fs a x ≡ true → reaches m fs a (edge fs i x) ≡ true
  reaches-on n m a x i less lt h =
      let r = any-below (suc n) (λ k. leads fs k a x) h in
      let few = r.1 in
      below-any (suc m) (suc r.0) (λ k. leads fs k a (edge fs i x)) (omega arith) (leads-on r.0 a x i lt r.2)

  reaches-more : (n m a x : ℕ) → n ≤ m → reaches n fs a x ≡ true → reaches m fs a x ≡ true
  reaches-more n m a x le h =
      let r = any-below (suc n) (λ k. leads fs k a x) h in
      let few = r.1 in
      below-any (suc m) r.0 (λ k. leads fs k a x) (omega arith) r.2

  -- where all objects to which marked ones lead are marked, all that is reached is
  closed : (marks : List Bool) → ((x i : ℕ) → slice_get marks x ≡ Some true → i < length fs → slice_get marks (edge fs i x) ≡ Some true) → (k a b : ℕ) → slice_get marks a ≡ Some true → leads fs k a b ≡ true → slice_get marks b ≡ Some true
  closed marks shut zero a b at h = subst (λ (z : ℕ). slice_get marks z ≡ Some true) (eqb-true a b h) at
  closed marks shut (suc k) a b at h =
      let r = any-edge fs (λ c. leads fs k c b) a h in
      closed marks shut k (edge fs r.0 a) b (shut a r.0 at r.1) r.2

unmarked-set : (marks : List Bool) (x : ℕ) → slice_get marks x ≡ Some false → suc (unmarked (slice_set marks x true)) ≡ unmarked marks
unfolding unmarked
unmarked-set [] x h = absurd (cc)
unmarked-set (false ∷ marks) zero h = refl
unmarked-set (true ∷ marks) zero h = absurd (cc)
unmarked-set (true ∷ marks) (suc x) h = unmarked-set marks x h
unmarked-set (false ∷ marks) (suc x) h = ap suc (unmarked-set marks x h)

pub set-length : {X : Type 0} (xs : List X) (i : ℕ) (v : X) → length (slice_set xs i v) ≡ length xs
set-length [] zero v = refl
set-length [] (suc i) v = refl
set-length (x ∷ xs) zero v = refl
set-length (x ∷ xs) (suc i) v = ap suc (set-length xs i v)

pub pushed-length : {X : Type 0} (xs : List X) (y : X) → length (xs ++ y ∷ []) ≡ suc (length xs)
pushed-length [] y = refl
pushed-length (x ∷ xs) y = ap suc (pushed-length xs y)

pub set-kept : (marks : List Bool) (o x : ℕ) → o < length marks → slice_get marks x ≡ Some true → slice_get (slice_set marks o true) x ≡ Some true
set-kept marks o x lt h = by (same-or-not x o)
  where
    by : (x ≡ o) ⊎ (x ≡ o → ⊥) → slice_get (slice_set marks o true) x ≡ Some true
    by (inl e) = ap (slice_get (slice_set marks o true)) e ∙ set-here marks o true lt
    by (inr ne) = set-other marks o true x ne ∙ h

pub seen-length : (marks : List Bool) (n : ℕ) → length marks ≡ n → (x : ℕ) → slice_get marks x ≡ Some true → x < n
seen-length marks n e x h = let lt = slice_get_within marks x true h in omega arith

pub walk-more : (last : ℕ) (fs : List Fields) (start : ℕ) (marks : List Bool) (found : List ℕ) (o : ℕ) → slice_get marks o ≡ Some false → IsWalk last fs start marks found → reaches (length found) fs start o ≡ true → IsWalk last fs start (slice_set marks o true) (found ++ o ∷ [])
walk-more last fs start marks found o un walk near = record {
  sized = set-length marks o true ∙ walk.sized;
  counted = let one = unmarked-set marks o un in let two = pushed-length found o in let three = walk.counted in omega arith;
  inside = λ j x h. inside_one j x (pushed-is found o j x h);
  near = λ j x h. near_one j x (pushed-is found o j x h);
  known = λ x h. known_one x h (same-or-not x o);
}
  where
    lt : o < length marks
    lt = slice_get_within marks o false un

    inside_one : (j x : ℕ) → (slice_get found j ≡ Some x) ⊎ ((j ≡ length found) × (x ≡ o)) → x < suc last
    inside_one j x (inl e) = walk.inside j x e
    inside_one j x (inr e) = let same = e.1 in let le = lt in let size = walk.sized in omega arith

    near_one : (j x : ℕ) → (slice_get found j ≡ Some x) ⊎ ((j ≡ length found) × (x ≡ o)) → reaches j fs start x ≡ true
    near_one j x (inl e) = walk.near j x e
    near_one j x (inr e) = ap (λ (n : ℕ). reaches n fs start x) e.0 ∙ ap (reaches (length found) fs start) e.1 ∙ near

    known_one : (x : ℕ) → slice_get (slice_set marks o true) x ≡ Some true → (x ≡ o) ⊎ (x ≡ o → ⊥) → (j : ℕ) × (slice_get (found ++ o ∷ []) j ≡ Some x)
    known_one x h (inl e) = (length found, pushed-new found o ∙ ap Some (sym e))
    known_one x h (inr ne) = let r = walk.known x (sym (set-other marks o true x ne) ∙ h) in (r.0, pushed-old found o r.0 x r.1)

unmarked-none : unmarked [] ≡ 0
unfolding unmarked
unmarked-none = refl

unmarked-false : (marks : List Bool) → unmarked (false ∷ marks) ≡ suc (unmarked marks)
unfolding unmarked
unmarked-false marks = refl

empty-none : {X : Type 0} (j : ℕ) (x : X) → slice_get [] j ≡ Some x → ⊥
empty-none j x h = cc

all-sized : (k : ℕ) → length (replicate k false) ≡ k
all-sized zero = refl
all-sized (suc k) = ap suc (all-sized k)

all-unmarked : (k : ℕ) → unmarked (replicate k false) ≡ k
all-unmarked zero = unmarked-none
all-unmarked (suc k) = unmarked-false (replicate k false) ∙ ap suc (all-unmarked k)

pub none-true : (k x : ℕ) → slice_get (replicate k false) x ≡ Some true → ⊥
none-true zero x h = cc
none-true (suc k) zero h = cc
none-true (suc k) (suc x) h = none-true k x h

none-and : (k n : ℕ) (xs : List ℕ) → xs ≡ [] → k ≡ n → length xs + k ≡ n
none-and k n [] e h = let z : 0 + k ≡ k = omega arith in z ∙ h
none-and k n (x ∷ xs) e h = absurd (cc)

-- a walk that has found nothing yet
pub walk-none : (last : ℕ) (fs : List Fields) (start : ℕ) (marks : List Bool) (found : List ℕ) → marks ≡ replicate (suc last) false → found ≡ [] → IsWalk last fs start marks found
walk-none last fs start marks found e n = record {
  sized = ap length e ∙ all-sized (suc last);
  counted = none-and (unmarked marks) (suc last) found n (ap unmarked e ∙ all-unmarked (suc last));
  inside = λ j x h. absurd (empty-none j x (ap (λ xs. slice_get xs j) (sym n) ∙ h));
  near = λ j x h. absurd (empty-none j x (ap (λ xs. slice_get xs j) (sym n) ∙ h));
  known = λ x h. absurd (none-true (suc last) x (ap (λ ms. slice_get ms x) (sym e) ∙ h));
}

-- the objects to which the first ones of those that were found lead have marks
abbrev pub IsDone : List Fields → List Bool → List ℕ → ℕ → Type 0
IsDone fs marks found at = (j x i : ℕ) → j < at → slice_get found j ≡ Some x → i < length fs → slice_get marks (edge fs i x) ≡ Some true

pub done-more : (fs : List Fields) (old new : List Bool) (found more : List ℕ) (at o : ℕ) → slice_get found at ≡ Some o → ((j x : ℕ) → slice_get found j ≡ Some x → slice_get more j ≡ Some x) → ((x : ℕ) → slice_get old x ≡ Some true → slice_get new x ≡ Some true) → ((i : ℕ) → i < length fs → slice_get new (edge fs i o) ≡ Some true) → IsDone fs old found at → IsDone fs new more (at + 1)
done-more fs old new found more at o here keeps kept targets done = λ j x i lt h less. by j x i h less (before-or-at j at lt)
  where
    back : (j x : ℕ) → j < length found → slice_get more j ≡ Some x → slice_get found j ≡ Some x
    back j x lt h =
        let r = slice_get-get_or found j 0 lt in
        r ∙ sym (keeps j (get_or found j 0) r) ∙ h

    by : (j x i : ℕ) → slice_get more j ≡ Some x → i < length fs → (j < at) ⊎ (j ≡ at) → slice_get new (edge fs i x) ≡ Some true
    by j x i h less (inl lt) =
        let inside = slice_get_within found at o here in
        kept (edge fs i x) (done j x i lt (back j x (omega arith) h) less)
    by j x i h less (inr e) =
        let same : x ≡ o = some-one x o (sym h ∙ ap (slice_get more) e ∙ keeps at o here) in
        ap (λ z. slice_get new (edge fs i z)) same ∙ targets i less

module _ (last : ℕ) (fs : List Fields) (start : ℕ) (marks : List Bool) (found : List ℕ) (walk : IsWalk last fs start marks found) where
  -- what has a mark is reached
  pub marked-reached : (b : ℕ) → slice_get marks b ≡ Some true → reaches last fs start b ≡ true
  marked-reached b h =
      let r = walk.known b h in
      let lt = slice_get_within found r.0 b r.1 in
      let all = walk.counted in
      reaches-more fs r.0 last start b (omega arith) (walk.near r.0 b r.1)

  -- what is reached has a mark, where nothing is left to look at
  pub reached-marked : (at b : ℕ) → length found ≤ at → IsDone fs marks found at → slice_get marks start ≡ Some true → reaches last fs start b ≡ true → slice_get marks b ≡ Some true
  reached-marked at b le done begun h =
      let r = any-below (suc last) (λ k. leads fs k start b) h in
      closed fs marks (λ x i m lt. shut x i m lt (walk.known x m)) r.0 start b begun r.2
    where
      shut : (x i : ℕ) → slice_get marks x ≡ Some true → i < length fs → (j : ℕ) × (slice_get found j ≡ Some x) → slice_get marks (edge fs i x) ≡ Some true
      shut x i m lt r = let inside = slice_get_within found r.0 x r.1 in done r.0 x i (omega arith) r.1 lt

  pub not-reached : (at b : ℕ) → length found ≤ at → IsDone fs marks found at → slice_get marks start ≡ Some true → (slice_get marks b ≡ Some true → ⊥) → false ≡ reaches last fs start b
  not-reached at b le done begun without = sym (not-so (reaches last fs start b) (λ h. without (reached-marked at b le done begun h)))

-- an object to which one that was found leads is reached by one more step
pub target-found : (last : ℕ) (fs : List Fields) (start : ℕ) (marks : List Bool) (found : List ℕ) (j x i : ℕ) → IsWalk last fs start marks found → slice_get found j ≡ Some x → i < length fs → reaches (length found) fs start (edge fs i x) ≡ true
target-found last fs start marks found j x i walk here lt = reaches-on fs j (length found) start x i (slice_get_within found j x here) lt (walk.near j x here)
