-- What the search for sizes that refute a query knows.
use Rattle.std.specs.Prelude.{◌≡◌, ℕ, zero, suc, ◌<◌, ◌≤◌, ◌^◌, Bool, true, false, not, ◌&&◌, ◌||◌, if◌then◌else◌, List, [], ◌∷◌, ◌++◌, length, slice_index_or}
use Rattle.std.specs.List.{list_all, list_any}
use Rattle.jh_query.specs.declared.queries.sizes.Spot.{Spot}
use Rattle.jh_query.specs.queries.Tree.{CondTree, QueryTree}
use Rattle.jh_query.specs.queries.Tree as t
use Rattle.jh_query.specs.queries.Bare.{cond_tree}
use Rattle.jh_query.specs.queries.Same.{same_atom}
use Rattle.jh_query.specs.queries.Size.{atoms_of}
use Rattle.jh_query.specs.queries.Sizing.{Sizing}
use Rattle.jh_query.specs.queries.Truth.{Fits, query_true, spot_of}
use Rattle.jh_query.specs.declared.partial_truth.casing.Atom.{Atom}
use Rattle.jh_query.specs.declared.partial_truth.casing.Case.{Case}
use Rattle.jh_query.specs.declared.partial_truth.casing.Case.TheVariants.{Open, True, False, Greater, Remainder}
use Rattle.jh_bapa.specs.decision.Cases.{Met, is_loose}

-- whether an atom stands in a list
abbrev pub is_among : List CondTree → CondTree → Bool
is_among cs c = list_any (λ d. same_atom d c) cs

-- the list, with an atom that isn't in it yet, and with those of a condition, but for atoms on elements
abbrev pub added_to : List CondTree → CondTree → List CondTree
added_to cs c = if is_among cs c then cs else cs ++ c ∷ []

abbrev pub gathered : List CondTree → CondTree → List CondTree
gathered cs (t.flag f) = added_to cs (t.flag f)
gathered cs (t.equal_set a b) = added_to cs (t.equal_set a b)
gathered cs (t.within a b) = added_to cs (t.within a b)
gathered cs (t.equal_num a b) = added_to cs (t.equal_num a b)
gathered cs (t.less_num a b) = added_to cs (t.less_num a b)
gathered cs (t.divides k a) = added_to cs (t.divides k a)
gathered cs (t.negation a) = gathered cs a
gathered cs (t.and a b) = gathered (gathered cs a) b
gathered cs (t.or a b) = gathered (gathered cs a) b
gathered cs (t.implies a b) = gathered (gathered cs a) b
gathered cs (t.iff a b) = gathered (gathered cs a) b
gathered cs c = cs

abbrev pub gathered_all : List CondTree → List CondTree → List CondTree
gathered_all cs [] = cs
gathered_all cs (d ∷ ds) = gathered_all (gathered cs d) ds

-- the atoms of a condition that aren't on elements are in a list
abbrev pub is_covered : List CondTree → CondTree → Bool
is_covered cs (t.flag f) = is_among cs (t.flag f)
is_covered cs (t.equal_set a b) = is_among cs (t.equal_set a b)
is_covered cs (t.within a b) = is_among cs (t.within a b)
is_covered cs (t.equal_num a b) = is_among cs (t.equal_num a b)
is_covered cs (t.less_num a b) = is_among cs (t.less_num a b)
is_covered cs (t.divides k a) = is_among cs (t.divides k a)
is_covered cs (t.negation a) = is_covered cs a
is_covered cs (t.and a b) = is_covered cs a && is_covered cs b
is_covered cs (t.or a b) = is_covered cs a && is_covered cs b
is_covered cs (t.implies a b) = is_covered cs a && is_covered cs b
is_covered cs (t.iff a b) = is_covered cs a && is_covered cs b
is_covered cs c = true

-- no two atoms of a list are the same
abbrev pub are_apart : List CondTree → Bool
are_apart [] = true
are_apart (c ∷ cs) = not (list_any (same_atom c) cs) && are_apart cs

-- a list has the atoms of a query that aren't on elements, each once, and no others
pub record IsCasing (q : QueryTree) (cs : List CondTree) : Type 0 where
  pub hyps : list_all (is_covered cs) q.hyps ≡ true
  pub goal : is_covered cs q.goal ≡ true
  pub apart : are_apart cs ≡ true
  pub loose : list_all is_loose cs ≡ true
  pub known : list_all (λ c. list_any (same_atom c) (atoms_of q)) cs ≡ true

abbrev pub is_open : Case → Bool
is_open Open = true
is_open k = false

abbrev pub are_open : List Atom → Bool
are_open atoms = list_all (λ a. is_open a.case) atoms

-- how many atoms have no case yet
abbrev pub open_count : List Atom → ℕ
open_count [] = 0
open_count (a ∷ rest) = if is_open a.case then suc (open_count rest) else open_count rest

-- the list with another case of an atom
abbrev pub with_case : List Atom → ℕ → Case → List Atom
with_case [] i k = []
with_case (a ∷ rest) zero k = record { cond = a.cond; case = k } ∷ rest
with_case (a ∷ rest) (suc i) k = a ∷ with_case rest i k

-- The class of an element is the number of its first element, so it stands where that one stands; and in a region of
-- the sets.
pub record IsPlacement (sets : ℕ) (s : List Spot) : Type 0 where
  pub first : (i : ℕ) → i < length s → (spot_of s i).class ≤ i
  pub same : (i : ℕ) → i < length s → spot_of s (spot_of s i).class ≡ spot_of s i
  pub regions : (i : ℕ) → i < length s → (spot_of s i).region < 2 ^ sets

-- each atom is met in its case
abbrev pub AllMet : Sizing → List Atom → Type 0
AllMet z [] = Unit {0}
AllMet z (a ∷ rest) = Met z (cond_tree a.cond.now) a.case × AllMet z rest

-- sizes that fit a query, in which the first elements stand where they are placed, the others anywhere in a
-- placement, and each atom is met in its case
pub record IsLeft (q : QueryTree) (spots : List Spot) (atoms : List Atom) (z : Sizing) : Type 0 where
  pub fits : Fits q z
  pub placement : IsPlacement q.sets z.spots
  pub placed : (i : ℕ) → i < length spots → spot_of z.spots i ≡ spot_of spots i
  pub met : AllMet z atoms

-- none of these refutes the query
abbrev pub NoneLeft : QueryTree → List Spot → List Atom → Type 0
NoneLeft q spots atoms = (z : Sizing) → IsLeft q spots atoms z → query_true q z ≡ true

pub record Refutes (q : QueryTree) (z : Sizing) : Type 0 where
  pub fits : Fits q z
  pub untrue : query_true q z ≡ false
