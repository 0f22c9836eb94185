-- Paths along a list of fields, as steps that are taken one by one: joining them, cutting off the last step, what stays in
-- the universe, and that null leads nowhere else where each field has null at null.
use Rattle.std.proofs.Common.{◌≡◌, refl, sym, subst, ℕ, zero, suc, ◌<◌, ◌≢◌, Bool, true, List, [], ◌∷◌, length, inl, inr, arith}
use Rattle.std.specs.List.{list_any, list_all}
use Rattle.std.proofs.lemmas.Bool.{or_cases, or_left, or_right, eqb-true, eq-eqb}
use Rattle.jh_form.specs.Meaning.{Fields, leads, edge}
use Rattle.jh_form.proofs.ClosedLemmas.{both-left, both-right}

-- k steps, each along a field of the list, lead from a to b
abbrev pub Path : List Fields → ℕ → ℕ → ℕ → Type 0
Path fs zero a b = a ≡ b
Path fs (suc k) a b = (i : ℕ) × (i < length fs) × Path fs k (edge fs i a) b

-- some number of steps leads from a to b
abbrev pub Reaches : List Fields → ℕ → ℕ → Type 0
Reaches fs a b = (k : ℕ) × Path fs k a b

-- the fields lead from objects of the universe to objects of it
abbrev pub StayInside : ℕ → List Fields → Type 0
StayInside n fs = (i x : ℕ) → i < length fs → x < suc n → edge fs i x < suc n

-- null leads to null alone
abbrev pub EndAtNull : List Fields → Type 0
EndAtNull fs = (i : ℕ) → i < length fs → edge fs i 0 ≡ 0

-- a test that some field of a list passes, or that all pass, by the objects to which they lead
pub any-edge : (fs : List Fields) (q : ℕ → Bool) (a : ℕ) → list_any (λ f. q (f.objects a)) fs ≡ true → (i : ℕ) × (i < length fs) × (q (edge fs i a) ≡ true)
any-edge [] q a h = absurd (cc)
any-edge (f ∷ fs) q a h =
    elim (or_cases (q (f.objects a)) (list_any (λ g. q (g.objects a)) fs) h) [
      | inl e ↦ (0, omega arith, e)
      | inr e ↦ let r = any-edge fs q a e in let lt = r.1 in (suc r.0, omega arith, r.2)
    ]

pub edge-any : (fs : List Fields) (q : ℕ → Bool) (a i : ℕ) → i < length fs → q (edge fs i a) ≡ true → list_any (λ f. q (f.objects a)) fs ≡ true
edge-any [] q a i lt h = absurd (omega arith)
edge-any (f ∷ fs) q a zero lt h = or_left (q (f.objects a)) (list_any (λ g. q (g.objects a)) fs) h
edge-any (f ∷ fs) q a (suc i) lt h = or_right (q (f.objects a)) (list_any (λ g. q (g.objects a)) fs) (edge-any fs q a i (omega arith) h)

pub all-edge : (fs : List Fields) (q : ℕ → Bool) (a i : ℕ) → i < length fs → list_all (λ f. q (f.objects a)) fs ≡ true → q (edge fs i a) ≡ true
all-edge [] q a i lt h = absurd (omega arith)
all-edge (f ∷ fs) q a zero lt h = both-left (q (f.objects a)) (list_all (λ g. q (g.objects a)) fs) h
all-edge (f ∷ fs) q a (suc i) lt h = all-edge fs q a i (omega arith) (both-right (q (f.objects a)) (list_all (λ g. q (g.objects a)) fs) h)

module _ (fs : List Fields) where
  -- paths are what the definition of reaching tests
  pub path-leads : (k a b : ℕ) → Path fs k a b → leads fs k a b ≡ true
  path-leads zero a b p = eq-eqb a b p
  path-leads (suc k) a b p = edge-any fs (λ c. leads fs k c b) a p.0 p.1 (path-leads k (edge fs p.0 a) b p.2)

  pub leads-path : (k a b : ℕ) → leads fs k a b ≡ true → Path fs k a b
  leads-path zero a b h = eqb-true a b h
  leads-path (suc k) a b h = let r = any-edge fs (λ c. leads fs k c b) a h in (r.0, r.1, leads-path k (edge fs r.0 a) b r.2)

  -- an object reaches itself, and what a step leads to
  pub reach-self : (a : ℕ) → Reaches fs a a
  reach-self a = (0, refl)

  pub reach-same : (a b : ℕ) → a ≡ b → Reaches fs a b
  reach-same a b e = (0, e)

  pub reach-step : (i a b : ℕ) → i < length fs → Reaches fs (edge fs i a) b → Reaches fs a b
  reach-step i a b lt r = (suc r.0, (i, lt, r.1))

  pub reach-edge : (i a : ℕ) → i < length fs → Reaches fs a (edge fs i a)
  reach-edge i a lt = (1, (i, lt, refl))

  -- joining
  pub path-joined : (k a b c : ℕ) → Path fs k a b → Reaches fs b c → Reaches fs a c
  path-joined zero a b c p r = subst (λ (z : ℕ). Reaches fs z c) (sym p) r
  path-joined (suc k) a b c p r = reach-step p.0 a c p.1 (path-joined k (edge fs p.0 a) b c p.2 r)

  pub reach-joined : (a b c : ℕ) → Reaches fs a b → Reaches fs b c → Reaches fs a c
  reach-joined a b c p r = path-joined p.0 a b c p.1 r

  -- cutting off the last step
  pub path-last : (k a b : ℕ) → Path fs (suc k) a b → (w : ℕ) × (i : ℕ) × (i < length fs) × Path fs k a w × (edge fs i w ≡ b)
  path-last zero a b p = (a, p.0, p.1, refl, p.2)
  path-last (suc k) a b p = let r = path-last k (edge fs p.0 a) b p.2 in (r.0, r.1, r.2, (p.0, p.1, r.3), r.4)

  pub path-inside : (n k a b : ℕ) → StayInside n fs → a < suc n → Path fs k a b → b < suc n
  path-inside n zero a b stay lt p = subst (λ (z : ℕ). z < suc n) p lt
  path-inside n (suc k) a b stay lt p = path-inside n k (edge fs p.0 a) b stay (stay p.0 a p.1 lt) p.2

  -- from null
  pub path-null : (k b : ℕ) → EndAtNull fs → Path fs k 0 b → b ≡ 0
  path-null zero b null p = sym p
  path-null (suc k) b null p = path-null k b null (subst (λ (z : ℕ). Path fs k z b) (null p.0 p.1) p.2)

  pub not-null : (a b : ℕ) → EndAtNull fs → b ≢ 0 → Reaches fs a b → a ≢ 0
  not-null a b null ne r e = ne (path-null r.0 b null (subst (λ (z : ℕ). Path fs r.0 z b) e r.1))
