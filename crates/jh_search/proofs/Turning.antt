-- A decision that is turned round, and the branch that is taken back to it.
use Rattle.std.proofs.Common.{◌≡◌, refl, sym, ap, ◌∙◌, subst, ℕ, zero, suc, ◌-◌, ◌<◌, arith, List, [], ◌∷◌, ◌++◌, length, take, Some, slice_get, inl, inr}
use Rattle.std.proofs.lemmas.List.{append_assoc, map-append, take-map}
use Rattle.jh_arena.proofs.table.Listed.{slice_get-append, slice_get-last}
use Rattle.jh_closure.specs.congruence_closure.Nodes.{Has}
use Rattle.jh_closure.proofs.congruence_closure.Having.{has-at}
use Rattle.jh_cong.proofs.classes.Meeting.{has-mapped}
use Rattle.jh_propagation.specs.declared.trail.decided.Decided.{Decided}
use Rattle.jh_propagation.specs.trail.Listing.{DecideOnce, IsUndecided, decided}
use Rattle.jh_propagation.specs.declared.propagation.problem.Problem.{Problem}
use Rattle.jh_propagation.specs.declared.propagation.branch.Branch.{Branch}
use Rattle.jh_propagation.specs.declared.propagation.branch.Reason.{Reason}
use Rattle.jh_propagation.specs.propagation.Branches.{IsBranch, parts_of}
use Rattle.jh_propagation.specs.propagation.Levels.{IsLevel}
use Rattle.jh_search.specs.declared.turn.Turn.{Turn}
use Rattle.jh_search.specs.declared.turn.Searching.{Searching}
use Rattle.jh_search.specs.Levels.{IsTurnedFrom}
use Rattle.jh_search.specs.Paths.{decisions_of}
use Rattle.jh_search.specs.Searches.{IsBehind, IsSearching}
use Rattle.jh_search.proofs.Levels.{levels-turned}
use Rattle.jh_search.proofs.Moves.{turned-count, turned-last}

front : (xs ys : List Turn) → take (length xs) (xs ++ ys) ≡ xs
front [] ys = refl
front (x ∷ xs) ys = ap (λ zs. x ∷ zs) (front xs ys)

-- The last decision of the front of a path is turned round, and those behind it are gone.
pub turned-from : (old before now new rest : List Turn) (t after : Turn) → old ≡ before ++ rest → before ≡ now ++ t ∷ [] → new ≡ now ++ after ∷ [] → after.literal.atom ≡ t.literal.atom → after.at ≡ t.at → IsTurnedFrom old new
turned-from old before now new rest t after split newest made atom place = record {
  count = length now;
  before = t;
  after = after;
  here = ap (λ (xs : List Turn). slice_get xs (length now)) whole ∙ slice_get-append (now ++ t ∷ []) rest (length now) t (slice_get-last now t);
  path = made ∙ ap (λ (xs : List Turn). xs ++ after ∷ []) (sym cut);
  atom = atom;
  place = place;
}
  where
    whole : old ≡ (now ++ t ∷ []) ++ rest
    whole = split ∙ ap (λ (xs : List Turn). xs ++ rest) newest

    cut : take (length now) old ≡ now
    cut = ap (take (length now)) (whole ∙ append_assoc now (t ∷ []) rest) ∙ front now (t ∷ rest)

-- a decision that comes after others of which none is on its atom
not-before : (ds : List Decided) (n : ℕ) (d : Decided) → DecideOnce ds → slice_get ds n ≡ Some d → IsUndecided (take n ds) d.atom
not-before ds n d once here b h =
    let there = taken-at ds n (decided d.atom b) h in
    let same : there.0 ≡ n = once there.0 n (decided d.atom b) d there.1.1 here refl in
    let lt = there.1.0 in
    omega (arith, same, lt)
  where
    taken-at : (xs : List Decided) (n : ℕ) (x : Decided) → Has (take n xs) x → (m : ℕ) × ((m < n) × (slice_get xs m ≡ Some x))
    taken-at xs zero x g = absurd g
    taken-at [] (suc n) x g = absurd g
    taken-at (y ∷ xs) (suc n) x (inl e) = (zero, (omega arith, ap Some e))
    taken-at (y ∷ xs) (suc n) x (inr g) = let r = taken-at xs n x g in let lt = r.1.0 in (suc r.0, (omega (arith, lt), r.1.1))

-- the newest decision of a path, as the slice of it has it
pub newest-at : {path xs : List Turn} {t : Turn} → xs ≡ path → slice_get xs (length xs - 1) ≡ Some t → slice_get path (length path - 1) ≡ Some t
newest-at {t} same = subst (λ (ys : List Turn). slice_get ys (length ys - 1) ≡ Some t) same

module _ (p : Problem) (s : Searching) (h : IsBehind p s) (t : Turn) (newest : slice_get s.path.items (length s.path.items - 1) ≡ Some t) where
  last : h.from.after ≡ t
  last = turned-last p s.branch h.path s.path.items h.from h.levels t newest

  count : length s.path.items - 1 ≡ h.from.count
  count = turned-count p s.branch h.path s.path.items h.from h.levels

  place : h.from.before.at ≡ t.at
  place = sym h.from.place ∙ ap (λ (z : Turn). z.at) last

  atom : h.from.before.literal.atom ≡ t.literal.atom
  atom = sym h.from.atom ∙ ap (λ (z : Turn). z.literal.atom) last

  pub level-behind : IsLevel p (parts_of s.branch) (length s.path.items - 1) t.at
  level-behind = subst (λ n. IsLevel p (parts_of s.branch) n t.at) (sym count) (subst (IsLevel p (parts_of s.branch) h.from.count) place (h.levels.each h.from.count h.from.before h.from.here))

  pub undecided-there : DecideOnce s.branch.trail → IsUndecided (take t.at s.branch.trail) t.literal.atom
  undecided-there once =
      subst (IsUndecided (take t.at s.branch.trail)) atom
      (subst (λ k. IsUndecided (take k s.branch.trail) h.from.before.literal.atom) place
      (not-before s.branch.trail h.from.before.at h.from.before.literal once (h.levels.here h.from.count h.from.before h.from.here)))

  pub over-atoms : Has p.ground.atoms t.literal.atom
  over-atoms = h.turned.decisions.over_atoms t.literal (has-mapped (λ (z : Turn). z.literal) s.path.items t (has-at s.path.items (length s.path.items - 1) t newest))

  module _ (new : Branch) (r : Reason) (branch : IsBranch p [] new) (table : new.classes.table ≡ s.branch.classes.table) (ds : new.decisions.items ≡ take (length s.path.items - 1) s.branch.decisions.items ++ t.literal ∷ []) (ts : new.trail ≡ take t.at s.branch.trail ++ t.literal ∷ []) (rs : new.reasons.items ≡ take t.at s.branch.reasons.items ++ r ∷ []) where
    decided-there : new.decisions.items ≡ take h.from.count s.branch.decisions.items ++ h.from.after.literal ∷ []
    decided-there = ds ∙ (λ i. take (count i) s.branch.decisions.items ++ (sym last i).literal ∷ [])

    said-there : new.trail ≡ take h.from.after.at s.branch.trail ++ h.from.after.literal ∷ []
    said-there = ts ∙ (λ i. take (sym last i).at s.branch.trail ++ (sym last i).literal ∷ [])

    reasons-there : new.reasons.items ≡ take h.from.after.at s.branch.reasons.items ++ r ∷ []
    reasons-there = rs ∙ (λ i. take (sym last i).at s.branch.reasons.items ++ r ∷ [])

    decisions-path : decisions_of s.path.items ≡ take h.from.count s.branch.decisions.items ++ h.from.after.literal ∷ []
    decisions-path =
        ap decisions_of h.from.path
        ∙ (map-append (λ (z : Turn). z.literal) (take h.from.count h.path) (h.from.after ∷ [])
        ∙ ap (λ (xs : List Decided). xs ++ h.from.after.literal ∷ []) (sym (take-map (λ (z : Turn). z.literal) h.from.count h.path) ∙ ap (take h.from.count) (sym h.same)))

    pub resumed : IsSearching p record { branch = new; path = s.path; closed = s.closed; weights = s.weights }
    resumed = record {
      branch = branch;
      path = decided-there ∙ sym decisions-path;
      decisions = h.turned.decisions;
      levels = levels-turned p (parts_of s.branch) (parts_of new) h.path s.path.items r h.from h.levels table decided-there said-there reasons-there;
      search = h.turned.search;
    }
