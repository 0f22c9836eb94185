-- A search whose branch moved on, or was taken back.
use Rattle.std.proofs.Common.{◌≡◌, sym, ap, ◌∙◌, subst, ℕ, ◌+◌, ◌<◌, ◌-◌, arith, List, [], ◌∷◌, length, length-append, take, append-nil, Some, slice_get}
use Rattle.std.proofs.lemmas.List.{length-take-le}
use Rattle.std.proofs.lemmas.Option.{slice_get_within, same_Some}
use Rattle.jh_arena.specs.table.Nodes.{nodes}
use Rattle.jh_arena.proofs.table.Listed.{slice_get-last}
use Rattle.jh_closure.proofs.congruence_closure.Growing.{begins-same}
use Rattle.jh_models.specs.backjumping.Paths as paths
use Rattle.jh_propagation.specs.declared.propagation.problem.Problem.{Problem}
use Rattle.jh_propagation.specs.declared.propagation.branch.Branch.{Branch}
use Rattle.jh_propagation.specs.declared.propagation.branch.Cause.{Cause}
use Rattle.jh_propagation.specs.propagation.Problems.{instances_in}
use Rattle.jh_propagation.specs.propagation.Branches.{IsBranch, IsLonger, parts_of}
use Rattle.jh_propagation.specs.propagation.Closings.{IsCause}
use Rattle.jh_search.specs.declared.turn.Turn.{Turn}
use Rattle.jh_search.specs.declared.turn.Searching.{Searching}
use Rattle.jh_search.specs.Levels.{AreLevels, IsTurnedFrom}
use Rattle.jh_search.specs.Paths.{path_at, decisions_of, all_closed}
use Rattle.jh_search.specs.Searches.{AreDecisions, IsAtLeaf, IsKept, IsSearching}
use Rattle.jh_search.proofs.Levels.{levels-longer}

-- The branch goes on, and all else is as before.
module _ (p : Problem) (old new : Searching) (table : new.branch.classes.table ≡ old.branch.classes.table) (made : new.branch.decisions.items ≡ old.branch.decisions.items) (longer : IsLonger old.branch new.branch) (path : new.path.items ≡ old.path.items) (closed : new.closed.items ≡ old.closed.items) (h : IsSearching p old) where
  same-path : new.branch.decisions.items ≡ decisions_of new.path.items
  same-path = made ∙ (h.path ∙ ap decisions_of (sym path))

  levels-there : AreLevels p (parts_of new.branch) new.path.items
  levels-there = subst (AreLevels p (parts_of new.branch)) (sym path) (levels-longer p (parts_of old.branch) (parts_of new.branch) old.path.items table ([], made ∙ sym (append-nil old.branch.decisions.items)) longer.trail longer.reasons h.levels)

  search-there : paths.IsSearch (instances_in (nodes p.table) p) (all_closed (nodes p.table) new.closed.items) (path_at (nodes p.table) new.path.items)
  search-there = subst (λ X. X) (λ i. paths.IsSearch (instances_in (nodes p.table) p) (all_closed (nodes p.table) (sym closed i)) (path_at (nodes p.table) (sym path i))) h.search

  pub goes-on-searching : IsBranch p [] new.branch → IsSearching p new
  goes-on-searching branch = record { branch = branch; path = same-path; decisions = subst (AreDecisions p) (sym path) h.decisions; levels = levels-there; search = search-there }

  pub ends-at-leaf : (c : Cause) (busy : List ℕ) → IsBranch p busy new.branch → IsCause (nodes p.table) p new.branch.trail c → IsAtLeaf p new c
  ends-at-leaf c busy branch cause = record { busy = busy; branch = branch; cause = cause; path = same-path; decisions = subst (AreDecisions p) (sym path) h.decisions; levels = levels-there; search = search-there }

-- its classes know less
pub levels-kept : (p : Problem) (a b : Branch) (path : List Turn) → IsKept a b → AreLevels p (parts_of a) path → AreLevels p (parts_of b) path
levels-kept p a b path k h = levels-longer p (parts_of a) (parts_of b) path k.table (begins-same a.decisions.items b.decisions.items k.decisions) (begins-same a.trail b.trail k.trail) (begins-same a.reasons.items b.reasons.items k.reasons) h

-- The decision that was turned round is the last of the path.
module _ (p : Problem) (b : Branch) (old path : List Turn) (f : IsTurnedFrom old path) (h : AreLevels p (parts_of b) old) where
  before-it : length (take f.count old) ≡ f.count
  before-it = length-take-le f.count old (let l : f.count < length old = slice_get_within old f.count f.before f.here in omega (arith, l))

  pub turned-count : length path - 1 ≡ f.count
  turned-count = let long : length path ≡ length (take f.count old) + 1 = ap length f.path ∙ length-append (take f.count old) (f.after ∷ []) in let same = before-it in omega (arith, long, same)

  pub some-turned : 0 < length path
  some-turned = let long : length path ≡ length (take f.count old) + 1 = ap length f.path ∙ length-append (take f.count old) (f.after ∷ []) in omega (arith, long)

  pub turned-last : (t : Turn) → slice_get path (length path - 1) ≡ Some t → f.after ≡ t
  turned-last t e = same_Some f.after t (sym (slice_get-last (take f.count old) f.after) ∙ ((λ i. slice_get (sym f.path i) (before-it i)) ∙ ((λ i. slice_get path (sym turned-count i)) ∙ e)))
