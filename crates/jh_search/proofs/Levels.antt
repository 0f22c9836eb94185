-- Decisions of a path as places of the trail.
use Rattle.std.proofs.Common.{◌≡◌, refl, sym, ◌∙◌, subst, ℕ, zero, suc, ◌<◌, ◌≤◌, arith, List, [], ◌∷◌, ◌++◌, length, take, take-take, drop, Some, slice_get, ◌⊎◌, inl, inr}
use Rattle.std.proofs.lemmas.List.{length-take-le}
use Rattle.std.proofs.lemmas.Option.{slice_get_within}
use Rattle.jh_arena.specs.table.Nodes.{nodes}
use Rattle.jh_arena.proofs.table.Listed.{slice_get-append, slice_get-last}
use Rattle.jh_closure.specs.congruence_closure.Cores.{Begins}
use Rattle.jh_models.specs.ground_models.GroundModel.{IsMet}
use Rattle.jh_propagation.specs.declared.trail.decided.Decided.{Decided}
use Rattle.jh_propagation.specs.trail.Saying.{literals_at}
use Rattle.jh_propagation.specs.declared.propagation.problem.Problem.{Problem}
use Rattle.jh_propagation.specs.declared.propagation.branch.Reason.{Reason}
use Rattle.jh_propagation.specs.propagation.Branches.{Parts, AreParts}
use Rattle.jh_propagation.specs.propagation.Levels.{IsLevel, cut_to}
use Rattle.jh_propagation.proofs.propagation.Levels.{level-here, level-alike, level-longer}
use Rattle.jh_search.specs.declared.turn.Turn.{Turn}
use Rattle.jh_search.specs.Levels.{AreLevels, IsTurnedFrom}
use Rattle.jh_search.proofs.Lists.{slice-pushed}

-- what stands at a place of the first ones of a list
pub first-at : {X : Type 0} (xs : List X) (n k : ℕ) (x : X) → slice_get (take n xs) k ≡ Some x → (k < n) × (slice_get xs k ≡ Some x)
first-at xs zero k x e = absurd (let l : k < 0 = slice_get_within [] k x e in omega (arith, l))
first-at [] (suc n) k x e = absurd (let l : k < 0 = slice_get_within [] k x e in omega (arith, l))
first-at (y ∷ xs) (suc n) zero x e = (omega arith, e)
first-at (y ∷ xs) (suc n) (suc k) x e = let r = first-at xs n k x e in (let l = r.0 in omega (arith, l), r.1)

pub at-first : {X : Type 0} (xs : List X) (n k : ℕ) (x : X) → k < n → slice_get xs k ≡ Some x → slice_get (take n xs) k ≡ Some x
at-first xs zero k x l e = absurd (omega (arith, l))
at-first [] (suc n) k x l e = e
at-first (y ∷ xs) (suc n) zero x l e = e
at-first (y ∷ xs) (suc n) (suc k) x l e = at-first xs n k x (omega (arith, l)) e

pub no-levels : (p : Problem) (b : Parts) (path : List Turn) → path ≡ [] → AreLevels p b path
no-levels p b path none = record {
  each = λ n t e. absurd (nothing n t e);
  here = λ n t e. absurd (nothing n t e);
  rising = λ m n t u l e f. absurd (nothing m t e);
}
  where
    nothing : (n : ℕ) (t : Turn) → slice_get path n ≡ Some t → ⊥
    nothing n t e = let l : n < 0 = slice_get_within [] n t (subst (λ (xs : List Turn). slice_get xs n ≡ Some t) none e) in omega (arith, l)

-- they are those of a branch that goes on
pub levels-longer : (p : Problem) (a b : Parts) (path : List Turn) → b.classes.table ≡ a.classes.table → Begins a.decisions b.decisions → Begins a.trail b.trail → Begins a.reasons b.reasons → AreLevels p a path → AreLevels p b path
levels-longer p a b path table ds ts rs h = record {
  each = λ n t e. level-longer p a b n t.at table ds ts rs (h.each n t e);
  here = λ n t e. subst (λ (xs : List Decided). slice_get xs t.at ≡ Some t.literal) (sym ts.1) (slice_get-append a.trail ts.0 t.at t.literal (h.here n t e));
  rising = h.rising;
}

-- with one more decision
module _ (p : Problem) (b new : Parts) (path : List Turn) (t : Turn) (r : Reason) (parts : AreParts p [] b) (over : drop b.head b.waiting ≡ []) (met : IsMet (literals_at (nodes p.table) b.trail)) (many : length b.decisions ≡ length path) (at : t.at ≡ length b.trail) (table : new.classes.table ≡ b.classes.table) (ds : new.decisions ≡ b.decisions ++ t.literal ∷ []) (ts : new.trail ≡ b.trail ++ t.literal ∷ []) (rs : new.reasons ≡ b.reasons ++ r ∷ []) (h : AreLevels p b path) where
  before : AreLevels p new path
  before = levels-longer p b new path table (t.literal ∷ [], ds) (t.literal ∷ [], ts) (r ∷ [], rs) h

  newest : IsLevel p new (length path) t.at
  newest = subst (λ n. IsLevel p new n t.at) many (subst (IsLevel p new (length b.decisions)) (sym at) (level-longer p b new (length b.decisions) (length b.trail) table (t.literal ∷ [], ds) (t.literal ∷ [], ts) (r ∷ [], rs) (level-here p b parts over met)))

  stands : slice_get new.trail t.at ≡ Some t.literal
  stands = (λ i. slice_get (ts i) (at i)) ∙ slice_get-last b.trail t.literal

  behind : (n : ℕ) (u : Turn) → slice_get path n ≡ Some u → u.at < t.at
  behind n u e = let l : u.at < length b.trail = slice_get_within b.trail u.at u.literal (h.here n u e) in omega (arith, l, at)

  pub levels-more : AreLevels p new (path ++ t ∷ [])
  levels-more = record {
    each = λ n u e. elim (slice-pushed path t u n e) [ inl old ↦ before.each n u old | inr last ↦ subst (λ (z : Turn). IsLevel p new n z.at) last.1 (subst (λ k. IsLevel p new k t.at) (sym last.0) newest) ];
    here = λ n u e. elim (slice-pushed path t u n e) [ inl old ↦ before.here n u old | inr last ↦ subst (λ (z : Turn). slice_get new.trail z.at ≡ Some z.literal) last.1 stands ];
    rising = λ m n u v l e f. chosen m n u v l (slice-pushed path t u m e) (slice-pushed path t v n f);
  }
    where
      chosen : (m n : ℕ) (u v : Turn) → m < n → (slice_get path m ≡ Some u) ⊎ ((m ≡ length path) × (t ≡ u)) → (slice_get path n ≡ Some v) ⊎ ((n ≡ length path) × (t ≡ v)) → u.at < v.at
      chosen m n u v l (inl e) (inl f) = h.rising m n u v l e f
      chosen m n u v l (inl e) (inr f) = subst (λ (z : Turn). u.at < z.at) f.1 (behind m u e)
      chosen m n u v l (inr e) (inl f) = absurd (let k : n < length path = slice_get_within path n v f in let same = e.0 in omega (arith, l, k, same))
      chosen m n u v l (inr e) (inr f) = absurd (let one = e.0 in let two = f.0 in omega (arith, l, one, two))

-- with the last decisions taken back, and one turned round
module _ (p : Problem) (b new : Parts) (old path : List Turn) (r : Reason) (f : IsTurnedFrom old path) (h : AreLevels p b old) (table : new.classes.table ≡ b.classes.table) (ds : new.decisions ≡ take f.count b.decisions ++ f.after.literal ∷ []) (ts : new.trail ≡ take f.after.at b.trail ++ f.after.literal ∷ []) (rs : new.reasons ≡ take f.after.at b.reasons ++ r ∷ []) where
  abbrev at : ℕ
  at = f.after.at

  abbrev rest : Parts
  rest = cut_to b b.classes f.count at

  here-level : IsLevel p b f.count at
  here-level = subst (IsLevel p b f.count) (sym f.place) (h.each f.count f.before f.here)

  many-decisions : length (take f.count b.decisions) ≡ f.count
  many-decisions = length-take-le f.count b.decisions here-level.counted

  many-literals : length (take at b.trail) ≡ at
  many-literals = length-take-le at b.trail here-level.inside

  many-reasons : length (take at b.reasons) ≡ at
  many-reasons = length-take-le at b.reasons here-level.reasoned

  -- a level that isn't behind it stays
  level-stays : (n k : ℕ) → n ≤ f.count → k ≤ at → IsLevel p b n k → IsLevel p new n k
  level-stays n k less below g =
      level-longer p rest new n k table (f.after.literal ∷ [], ds) (f.after.literal ∷ [], ts) (r ∷ [], rs)
      (level-alike p b rest n k refl (take-take n f.count b.decisions less) (take-take k at b.trail below) (take-take k at b.reasons below)
      (let long = many-decisions in omega (arith, less, long)) (let long = many-literals in omega (arith, below, long)) (let long = many-reasons in omega (arith, below, long)) g)

  long-path : f.count < length old
  long-path = slice_get_within old f.count f.before f.here

  many-turns : length (take f.count old) ≡ f.count
  many-turns = length-take-le f.count old (let l = long-path in omega (arith, l))

  earlier : (n : ℕ) (u : Turn) → n < f.count → slice_get old n ≡ Some u → u.at < at
  earlier n u l e = subst (λ k. u.at < k) (sym f.place) (h.rising n f.count u f.before l e f.here)

  -- a turn of the path stood there before, or is the one that was turned round
  abbrev Found : ℕ → Turn → Type 0
  Found n u = ((n < f.count) × (slice_get old n ≡ Some u)) ⊎ ((n ≡ f.count) × (f.after ≡ u))

  find : (n : ℕ) (u : Turn) → slice_get path n ≡ Some u → Found n u
  find n u e = elim (slice-pushed (take f.count old) f.after u n (subst (λ (xs : List Turn). slice_get xs n ≡ Some u) f.path e)) [
    | inl old-one ↦ inl (first-at old f.count n u old-one)
    | inr last ↦ inr (last.0 ∙ many-turns, last.1)
  ]

  pub levels-turned : AreLevels p new path
  levels-turned = record {
    each = λ n u e. elim (find n u e) [
      | inl old ↦ let l = old.0 in let k = earlier n u old.0 old.1 in level-stays n u.at (omega (arith, l)) (omega (arith, k)) (h.each n u old.1)
      | inr last ↦ subst (λ (z : Turn). IsLevel p new n z.at) last.1 (subst (λ k. IsLevel p new k at) (sym last.0) (level-stays f.count at (omega arith) (omega arith) here-level))
    ];
    here = λ n u e. elim (find n u e) [
      | inl old ↦ subst (λ (xs : List Decided). slice_get xs u.at ≡ Some u.literal) (sym ts) (slice_get-append (take at b.trail) (f.after.literal ∷ []) u.at u.literal (at-first b.trail at u.at u.literal (earlier n u old.0 old.1) (h.here n u old.1)))
      | inr last ↦ subst (λ (z : Turn). slice_get new.trail z.at ≡ Some z.literal) last.1 stands
    ];
    rising = λ m n u v l e g. chosen m n u v l (find m u e) (find n v g);
  }
    where
      stands : slice_get new.trail at ≡ Some f.after.literal
      stands = (λ i. slice_get (ts i) (sym many-literals i)) ∙ slice_get-last (take at b.trail) f.after.literal

      chosen : (m n : ℕ) (u v : Turn) → m < n → Found m u → Found n v → u.at < v.at
      chosen m n u v l (inl e) (inl g) = h.rising m n u v l e.1 g.1
      chosen m n u v l (inl e) (inr g) = subst (λ (z : Turn). u.at < z.at) g.1 (earlier m u e.0 e.1)
      chosen m n u v l (inr e) (inl g) = absurd (let one = e.0 in let two = g.0 in omega (arith, l, one, two))
      chosen m n u v l (inr e) (inr g) = absurd (let one = e.0 in let two = g.0 in omega (arith, l, one, two))
