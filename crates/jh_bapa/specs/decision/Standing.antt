-- What is still open of a query whose elements all stand.
use Rattle.std.specs.Prelude.{◌≡◌, ℕ, zero, suc, ◌<◌, nat_lt, Bool, true, false, ◌&&◌, List, [], ◌∷◌, ◌++◌, length, is_some}
use Rattle.jh_query.specs.declared.queries.sizes.Spot.{Spot}
use Rattle.jh_query.specs.queries.Tree.{CondTree, QueryTree}
use Rattle.jh_query.specs.queries.Truth.{is_first, spot_of}
use Rattle.jh_query.specs.queries.Tree as t
use Rattle.jh_query.specs.declared.partial_truth.casing.Atom.{Atom}
use Rattle.jh_query.specs.partial_truth.Judged.{names_below, told}
use Rattle.jh_query_branching.specs.Branches.{new_spot}
use Rattle.jh_bapa.specs.decision.Cases.{conds_of}
use Rattle.jh_bapa.specs.decision.Searching.{NoneLeft, is_covered, is_open}

-- an atom at a place has no case yet
abbrev pub opens_at : List Atom → ℕ → Bool
opens_at [] i = false
opens_at (a ∷ rest) zero = is_open a.case
opens_at (a ∷ rest) (suc i) = opens_at rest i

-- the elements that a condition's atoms on elements name are below n
abbrev pub stands : ℕ → CondTree → Bool
stands n (t.same_element i j) = nat_lt i n && nat_lt j n
stands n (t.member i s) = nat_lt i n && names_below n s
stands n (t.negation a) = stands n a
stands n (t.and a b) = stands n a && stands n b
stands n (t.or a b) = stands n a && stands n b
stands n (t.implies a b) = stands n a && stands n b
stands n (t.iff a b) = stands n a && stands n b
stands n c = true

-- Where the first elements stand, none of the sizes refutes the query in which the next element is one of the first n
-- of them, or an object of its own in one of the first n regions.
abbrev pub OldTried : QueryTree → List Spot → List Atom → ℕ → Type 0
OldTried q spots atoms n = (e : ℕ) → e < n → is_first spots e ≡ true → NoneLeft q (spots ++ spot_of spots e ∷ []) atoms

abbrev pub NewTried : QueryTree → List Spot → List Atom → ℕ → Type 0
NewTried q spots atoms n = (r : ℕ) → r < n → NoneLeft q (spots ++ new_spot spots r ∷ []) atoms

-- where its atoms are in the list and all that it names stands, the truth of a condition is told
abbrev pub KnownWhole : List Spot → List Atom → CondTree → Type 0
KnownWhole s atoms c = is_covered (conds_of atoms) c ≡ true → stands (length s) c ≡ true → is_some (told s atoms c) ≡ true
