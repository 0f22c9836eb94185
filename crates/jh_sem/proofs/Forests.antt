-- When listed fields are the edges of a forest.
use Rattle.std.proofs.Common.{◌≡◌, refl, sym, ap, subst, ◌∙◌, ◌⊎◌, inl, inr, ℕ, zero, suc, ◌+◌, ◌<◌, ◌≤◌, ◌==◌, Bool, true, false, not, ◌&&◌, ◌||◌, List, [], ◌∷◌, length, slice_get, slice_set, replicate, Some, arith}
use Rattle.std.specs.List.{list_any, list_all}
use Rattle.std.proofs.lemmas.Bool.{or_cases, or_left, or_right, eqb-true, eq-eqb, true≢false}
use Rattle.std.proofs.lemmas.Option.{slice_get_within}
use Rattle.jh_form.specs.Meaning.{Fields, reaches, edge, no_sharing, no_cycle, is_forest, all_below, every}
use Rattle.jh_form.proofs.ClosedLemmas.{both-left, both-right}
use Rattle.jh_containers.proofs.transitive_closure.Places.{set-here, set-other, same-or-not, before-or-at}
use Rattle.jh_sem.specs.Graphs.{is_free, IsBefore, IsNoted, IsShared}
use Rattle.jh_sem.proofs.Below.{all-below, below-all, not-so, is-false}
use Rattle.jh_sem.proofs.Walks.{set-kept, none-true}

pub all-edges : (fs : List Fields) (q : ℕ → Bool) (a : ℕ) → ((i : ℕ) → i < length fs → q (edge fs i a) ≡ true) → list_all (λ f. q (f.objects a)) fs ≡ true
all-edges [] q a h = refl
all-edges (f ∷ fs) q a h = λ i. h 0 (omega arith) i && all-edges fs q a (λ j lt. h (suc j) (omega arith)) i

pub edge-of-all : (fs : List Fields) (q : ℕ → Bool) (a i : ℕ) → i < length fs → list_all (λ f. q (f.objects a)) fs ≡ true → q (edge fs i a) ≡ true
edge-of-all [] q a i lt h = absurd (omega arith)
edge-of-all (f ∷ fs) q a zero lt h = both-left (q (f.objects a)) (list_all (λ g. q (g.objects a)) fs) h
edge-of-all (f ∷ fs) q a (suc i) lt h = edge-of-all fs q a i (omega arith) (both-right (q (f.objects a)) (list_all (λ g. q (g.objects a)) fs) h)

pub free-true : (last : ℕ) (fs : List Fields) (a : ℕ) → ((i : ℕ) → i < length fs → false ≡ reaches last fs (edge fs i a) a) → true ≡ is_free last fs a
free-true last fs a h = sym (all-edges fs (λ c. not (reaches last fs c a)) a (λ i lt. ap not (sym (h i lt))))

pub free-false : (last : ℕ) (fs : List Fields) (a i : ℕ) → i < length fs → true ≡ reaches last fs (edge fs i a) a → false ≡ is_free last fs a
free-false last fs a i lt h = sym (not-so (is_free last fs a) (λ k. is-false (not (reaches last fs (edge fs i a) a)) (ap not (sym h)) (edge-of-all fs (λ c. not (reaches last fs c a)) a i lt k)))

-- what is asked of each object for there to be no cycle
abbrev pub is_off : ℕ → List Fields → ℕ → Bool
is_off last fs a = a == 0 || is_free last fs a

pub off-more : (last : ℕ) (fs : List Fields) (at : ℕ) → all_below at (is_off last fs) ≡ true → is_off last fs at ≡ true → all_below (suc at) (is_off last fs) ≡ true
off-more last fs at h k = λ i. h i && k i

pub off-null : (last : ℕ) (fs : List Fields) (a : ℕ) → a ≡ 0 → is_off last fs a ≡ true
off-null last fs a e = or_left (a == 0) (is_free last fs a) (eq-eqb a 0 e)

pub off-free : (last : ℕ) (fs : List Fields) (a : ℕ) → true ≡ is_free last fs a → is_off last fs a ≡ true
off-free last fs a e = or_right (a == 0) (is_free last fs a) (sym e)

pub cycle-there : (last : ℕ) (fs : List Fields) (a : ℕ) → a < suc last → (a ≡ 0 → ⊥) → false ≡ is_free last fs a → false ≡ no_cycle last fs
cycle-there last fs a lt ne h = sym (not-so (no_cycle last fs) (λ k. by (or_cases (a == 0) (is_free last fs a) (all-below (suc last) a (is_off last fs) k lt))))
  where
    by : ((a == 0) ≡ true) ⊎ (is_free last fs a ≡ true) → ⊥
    by (inl e) = ne (eqb-true a 0 e)
    by (inr e) = is-false (is_free last fs a) (sym h) e

-- one more pair of an object and a field
before-next : (x i y j : ℕ) → IsBefore x (i + 1) y j → IsBefore x i y j ⊎ ((y ≡ x) × (j ≡ i))
before-next x i y j (inl lt) = inl (inl lt)
before-next x i y j (inr h) = by (before-or-at j i h.1)
  where
    by : (j < i) ⊎ (j ≡ i) → IsBefore x i y j ⊎ ((y ≡ x) × (j ≡ i))
    by (inl lt) = inl (inr (h.0, lt))
    by (inr e) = inr (h.0, e)

before-on : (x i y j : ℕ) → IsBefore x i y j → IsBefore x (i + 1) y j
before-on x i y j (inl lt) = inl lt
before-on x i y j (inr h) = let lt = h.1 in inr (h.0, omega arith)

not-before : (x i : ℕ) → IsBefore x i x i → ⊥
not-before x i (inl lt) = absurd (omega arith)
not-before x i (inr h) = let lt = h.1 in absurd (omega arith)

-- all fields of an object are behind it
before-object : (n x y j : ℕ) → j < n → IsBefore (suc x) 0 y j → IsBefore x n y j
before-object n x y j lt (inl l) = by (before-or-at y x (omega arith))
  where
    by : (y < x) ⊎ (y ≡ x) → IsBefore x n y j
    by (inl k) = inl k
    by (inr e) = inr (e, lt)
before-object n x y j lt (inr h) = let none = h.1 in absurd (omega arith)

object-before : (n x y j : ℕ) → IsBefore x n y j → IsBefore (suc x) 0 y j
object-before n x y j (inl lt) = inl (omega arith)
object-before n x y j (inr h) = let e = h.0 in inl (omega arith)

-- the last field of an object, and then the next object
pub noted-object : (fs : List Fields) (x n : ℕ) (seen : List Bool) → length fs ≤ n → n ≤ length fs → IsNoted fs x n seen → IsNoted fs (suc x) 0 seen
noted-object fs x n seen le ge h = record {
  noted = λ y j lt b ne. h.noted y j lt (before-object n x y j (omega arith) b) ne;
  only = λ z m. let r = h.only z m in (r.0, r.1, r.2, object-before n x r.0 r.1 r.3, r.4);
  apart = λ y j w k lj lk a b e ne. h.apart y j w k lj lk (before-object n x y j (omega arith) a) (before-object n x w k (omega arith) b) e ne;
}

-- a field that has null
pub noted-null : (fs : List Fields) (x i : ℕ) (seen : List Bool) → edge fs i x ≡ 0 → IsNoted fs x i seen → IsNoted fs x (i + 1) seen
noted-null fs x i seen null h = record {
  noted = λ y j lt b ne. noted-one y j lt ne (before-next x i y j b);
  only = λ z m. let r = h.only z m in (r.0, r.1, r.2, before-on x i r.0 r.1 r.3, r.4);
  apart = λ y j w k lj lk a b e ne. apart-one y j w k lj lk e ne (before-next x i y j a) (before-next x i w k b);
}
  where
    here : (y j : ℕ) → (y ≡ x) × (j ≡ i) → edge fs j y ≡ 0
    here y j p = (λ t. edge fs (p.1 t) (p.0 t)) ∙ null

    noted-one : (y j : ℕ) → j < length fs → (edge fs j y ≡ 0 → ⊥) → IsBefore x i y j ⊎ ((y ≡ x) × (j ≡ i)) → slice_get seen (edge fs j y) ≡ Some true
    noted-one y j lt ne (inl b) = h.noted y j lt b ne
    noted-one y j lt ne (inr p) = absurd (ne (here y j p))

    apart-one : (y j w k : ℕ) → j < length fs → k < length fs → edge fs j y ≡ edge fs k w → (edge fs j y ≡ 0 → ⊥) → IsBefore x i y j ⊎ ((y ≡ x) × (j ≡ i)) → IsBefore x i w k ⊎ ((w ≡ x) × (k ≡ i)) → (y ≡ w) × (j ≡ k)
    apart-one y j w k lj lk e ne (inl a) (inl b) = h.apart y j w k lj lk a b e ne
    apart-one y j w k lj lk e ne (inr p) b = absurd (ne (here y j p))
    apart-one y j w k lj lk e ne (inl a) (inr q) = absurd (ne (e ∙ here w k q))

-- a field that has an object that none had before
pub noted-new : (fs : List Fields) (x i : ℕ) (seen : List Bool) (o : ℕ) → o ≡ edge fs i x → i < length fs → slice_get seen o ≡ Some false → IsNoted fs x i seen → IsNoted fs x (i + 1) (slice_set seen o true)
noted-new fs x i seen o is li un h = record {
  noted = λ y j lt b ne. noted-one y j lt ne (before-next x i y j b);
  only = λ z m. only-one z m (same-or-not z o);
  apart = λ y j w k lj lk a b e ne. apart-one y j w k lj lk e ne (before-next x i y j a) (before-next x i w k b);
}
  where
    lt-o : o < length seen
    lt-o = slice_get_within seen o false un

    here : (y j : ℕ) → (y ≡ x) × (j ≡ i) → edge fs j y ≡ o
    here y j p = (λ t. edge fs (p.1 t) (p.0 t)) ∙ sym is

    noted-one : (y j : ℕ) → j < length fs → (edge fs j y ≡ 0 → ⊥) → IsBefore x i y j ⊎ ((y ≡ x) × (j ≡ i)) → slice_get (slice_set seen o true) (edge fs j y) ≡ Some true
    noted-one y j lt ne (inl b) = set-kept seen o (edge fs j y) lt-o (h.noted y j lt b ne)
    noted-one y j lt ne (inr p) = ap (slice_get (slice_set seen o true)) (here y j p) ∙ set-here seen o true lt-o

    only-one : (z : ℕ) → slice_get (slice_set seen o true) z ≡ Some true → (z ≡ o) ⊎ (z ≡ o → ⊥) → (y : ℕ) × (j : ℕ) × (j < length fs) × IsBefore x (i + 1) y j × (edge fs j y ≡ z)
    only-one z m (inl e) = (x, i, li, inr (refl, omega arith), sym is ∙ sym e)
    only-one z m (inr ne) = let r = h.only z (sym (set-other seen o true z ne) ∙ m) in (r.0, r.1, r.2, before-on x i r.0 r.1 r.3, r.4)

    fresh : (y j : ℕ) → j < length fs → IsBefore x i y j → (edge fs j y ≡ 0 → ⊥) → edge fs j y ≡ o → ⊥
    fresh y j lt b ne e = let m = h.noted y j lt b ne in absurd (cc)

    apart-one : (y j w k : ℕ) → j < length fs → k < length fs → edge fs j y ≡ edge fs k w → (edge fs j y ≡ 0 → ⊥) → IsBefore x i y j ⊎ ((y ≡ x) × (j ≡ i)) → IsBefore x i w k ⊎ ((w ≡ x) × (k ≡ i)) → (y ≡ w) × (j ≡ k)
    apart-one y j w k lj lk e ne (inl a) (inl b) = h.apart y j w k lj lk a b e ne
    apart-one y j w k lj lk e ne (inr p) (inr q) = (p.0 ∙ sym q.0, p.1 ∙ sym q.1)
    apart-one y j w k lj lk e ne (inr p) (inl b) = absurd (fresh w k lk b (λ z. ne (e ∙ z)) (sym e ∙ here y j p))
    apart-one y j w k lj lk e ne (inl a) (inr q) = absurd (fresh y j lj a ne (e ∙ here w k q))

-- a field that has an object that something before has
pub noted-shared : (last : ℕ) (fs : List Fields) (x i : ℕ) (seen : List Bool) (o : ℕ) → o ≡ edge fs i x → x < suc last → i < length fs → slice_get seen o ≡ Some true → (o ≡ 0 → ⊥) → IsNoted fs x i seen → IsShared last fs
noted-shared last fs x i seen o is lx li m ne h =
    let r = h.only o m in
    record {
      one = x;
      by_one = i;
      other = r.0;
      by_other = r.1;
      one_inside = lx;
      other_inside = inside r.0 r.1 r.3;
      by_one_inside = li;
      by_other_inside = r.2;
      same = sym is ∙ sym r.4;
      not_null = λ z. ne (is ∙ z);
      differ = λ p. not-before x i (subst (λ (y : ℕ). IsBefore x i y i) (sym p.0) (subst (λ (j : ℕ). IsBefore x i r.0 j) (sym p.1) r.3));
    }
  where
    inside : (y j : ℕ) → IsBefore x i y j → y < suc last
    inside y j (inl lt) = omega arith
    inside y j (inr p) = let e = p.0 in omega arith

pub noted-none : (fs : List Fields) (n : ℕ) (seen : List Bool) → seen ≡ replicate n false → IsNoted fs 0 0 seen
noted-none fs n seen e = record {
  noted = λ y j lt b ne. absurd (none y j b);
  only = λ z m. absurd (none-true n z (ap (λ ms. slice_get ms z) (sym e) ∙ m));
  apart = λ y j w k lj lk a b s ne. absurd (none y j a);
}
  where
    none : (y j : ℕ) → IsBefore 0 0 y j → ⊥
    none y j (inl lt) = absurd (omega arith)
    none y j (inr p) = let lt = p.1 in absurd (omega arith)

apart-true : (x y i j p q : ℕ) → (p ≡ q → (p ≡ 0 → ⊥) → (x ≡ y) × (i ≡ j)) → ((x == y && i == j) || not (p == q) || p == 0) ≡ true
apart-true x y i j p q h = by (same-or-not p 0) (same-or-not p q)
  where
    first : Bool
    first = x == y && i == j

    by : (p ≡ 0) ⊎ (p ≡ 0 → ⊥) → (p ≡ q) ⊎ (p ≡ q → ⊥) → ((x == y && i == j) || not (p == q) || p == 0) ≡ true
    by (inl z) e = or_right ((x == y && i == j) || not (p == q)) (p == 0) (eq-eqb p 0 z)
    by (inr ne) (inr d) = or_left ((x == y && i == j) || not (p == q)) (p == 0) (or_right (x == y && i == j) (not (p == q)) (ap not (not-so (p == q) (λ k. d (eqb-true p q k)))))
    by (inr ne) (inl e) = let s = h e ne in or_left ((x == y && i == j) || not (p == q)) (p == 0) (or_left (x == y && i == j) (not (p == q)) (λ t. eq-eqb x y s.0 t && eq-eqb i j s.1 t))

shared-not : (x y i j p q : ℕ) → p ≡ q → (p ≡ 0 → ⊥) → ((x ≡ y) × (i ≡ j) → ⊥) → ((x == y && i == j) || not (p == q) || p == 0) ≡ true → ⊥
shared-not x y i j p q e ne d h = by (or_cases ((x == y && i == j) || not (p == q)) (p == 0) h)
  where
    inner : ((x == y && i == j) ≡ true) ⊎ (not (p == q) ≡ true) → ⊥
    inner (inl k) = d (eqb-true x y (both-left (x == y) (i == j) k), eqb-true i j (both-right (x == y) (i == j) k))
    inner (inr k) = is-false (not (p == q)) (ap not (eq-eqb p q e)) k

    by : (((x == y && i == j) || not (p == q)) ≡ true) ⊎ ((p == 0) ≡ true) → ⊥
    by (inl k) = inner (or_cases (x == y && i == j) (not (p == q)) k)
    by (inr k) = ne (eqb-true p 0 k)

pub sharing-none : (last : ℕ) (fs : List Fields) (x : ℕ) (seen : List Bool) → suc last ≤ x → IsNoted fs x 0 seen → true ≡ no_sharing last fs
sharing-none last fs x seen le h =
    sym (below-all (suc last) _ (λ y ly.
    below-all (suc last) _ (λ w lw.
    below-all (length fs) _ (λ j lj.
    below-all (length fs) _ (λ k lk.
    apart-true y w j k (edge fs j y) (edge fs k w) (h.apart y j w k lj lk (inl (omega arith)) (inl (omega arith))))))))

pub sharing-some : (last : ℕ) (fs : List Fields) → IsShared last fs → false ≡ no_sharing last fs
sharing-some last fs s =
    sym (not-so (no_sharing last fs) (λ h.
    shared-not s.one s.other s.by_one s.by_other (edge fs s.by_one s.one) (edge fs s.by_other s.other) s.same s.not_null s.differ
    (all-below (length fs) s.by_other _ (all-below (length fs) s.by_one _ (all-below (suc last) s.other _ (all-below (suc last) s.one _ h s.one_inside) s.other_inside) s.by_one_inside) s.by_other_inside)))

pub noted-at : (fs : List Fields) (x y : ℕ) (seen : List Bool) → x ≡ y → IsNoted fs x 0 seen → IsNoted fs y 0 seen
noted-at fs x y seen e h = subst (λ (z : ℕ). IsNoted fs z 0 seen) e h

pub sharing-is : (last : ℕ) (fs : List Fields) (seen : List Bool) (b : Bool) → (b ≡ true → IsNoted fs (suc last) 0 seen) → (b ≡ false → IsShared last fs) → b ≡ no_sharing last fs
sharing-is last fs seen true h k = sharing-none last fs (suc last) seen (omega arith) (h refl)
sharing-is last fs seen false h k = sharing-some last fs (k refl)
