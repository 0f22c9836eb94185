-- The cases of an atom, and which sizes meet it in its case.
use Rattle.std.specs.Prelude.{◌≡◌, ℕ, ◌==◌, nat_lt, Bool, true, false, not, ◌&&◌, ◌||◌, if◌then◌else◌, List, [], ◌∷◌, length, map, slice_index_or, Option, Some, None, ℤ, pos, negsuc, ◌+ℤ◌, neg_ℤ, unsigned_abs}
use Rattle.std.specs.List.{list_any}
use Rattle.jh_form.specs.Meaning.{agree, any_below}
use Rattle.jh_query.specs.declared.queries.sizes.Spot.{Spot}
use Rattle.jh_query.specs.queries.Tree.{NumTree, CondTree}
use Rattle.jh_query.specs.queries.Tree as t
use Rattle.jh_query.specs.queries.Bare.{cond_tree}
use Rattle.jh_query.specs.queries.Sizing.{Sizing}
use Rattle.jh_query.specs.queries.Truth.{class_lies, holds, implied, number_value, rest_lies}
use Rattle.jh_query.specs.declared.partial_truth.casing.Atom.{Atom}
use Rattle.jh_query.specs.declared.partial_truth.casing.Case.{Case}
use Rattle.jh_query.specs.declared.partial_truth.casing.Case.TheVariants.{Open, True, False, Greater, Remainder}
use Rattle.jh_query.specs.partial_truth.Judged.{case_truth}
pub use Rattle.jh_query_branching.specs.Branches.{case_count, truth_case, case_at}
use Rattle.jh_bapa.specs.decision.Lists.{dot}

abbrev pub conds_of : List Atom → List CondTree
conds_of atoms = map (λ a. cond_tree a.cond.now) atoms

-- which cases an atom may have
abbrev pub is_case_of : CondTree → Case → Bool
is_case_of c Open = true
is_case_of (t.divides k a) (Remainder j) = nat_lt j (unsigned_abs k)
is_case_of (t.divides k a) True = false
is_case_of (t.divides k a) False = false
is_case_of (t.divides k a) Greater = false
is_case_of (t.equal_num a b) (Remainder j) = false
is_case_of (t.equal_num a b) Greater = true
is_case_of c True = true
is_case_of c False = true
is_case_of c Greater = false
is_case_of c (Remainder j) = false

-- A number atom in its case is an equation: a number, with the factors of what it lacks, comes to what is added.
pub record LineTree : Type 0 where
  pub side : NumTree
  pub slacks : List ℤ
  pub added : ℤ

abbrev pub line_of : CondTree → Case → Option LineTree
line_of (t.equal_num a b) True = Some (record { side = t.sub a b; slacks = pos 0 ∷ []; added = pos 0 })
line_of (t.equal_num a b) False = Some (record { side = t.sub a b; slacks = pos 1 ∷ []; added = negsuc 0 })
line_of (t.equal_num a b) Greater = Some (record { side = t.sub a b; slacks = negsuc 0 ∷ []; added = pos 1 })
line_of (t.less_num a b) True = Some (record { side = t.sub a b; slacks = pos 1 ∷ []; added = negsuc 0 })
line_of (t.less_num a b) False = Some (record { side = t.sub a b; slacks = negsuc 0 ∷ []; added = pos 0 })
line_of (t.divides k a) (Remainder j) = Some (record { side = a; slacks = neg_ℤ k ∷ k ∷ []; added = pos j })
line_of c k = None

-- the natural numbers from place k on, for what it lacks, make the equation true
abbrev pub LineMet : Sizing → Option LineTree → (ℕ → ℕ) → ℕ → Type 0
LineMet z None x k = Unit {0}
LineMet z (Some l) x k = number_value z l.side +ℤ dot l.slacks x k ≡ l.added

-- sizes meet an atom in its case: it may have the case, and has its truth, and its equation is true
pub record Met (z : Sizing) (c : CondTree) (k : Case) : Type 0 where
  pub suits : is_case_of c k ≡ true
  pub truth : (x : Bool) → case_truth k ≡ Some x → holds z c ≡ x
  pub line : (x : ℕ → ℕ) × LineMet z (line_of c k) x 0

-- a set atom is kept from being true by an object of region r that is no element, and by the class of an element
abbrev pub rest_differs : ℕ → CondTree → Bool
rest_differs r (t.equal_set a b) = not (agree (rest_lies r a) (rest_lies r b))
rest_differs r (t.within a b) = not (implied (rest_lies r a) (rest_lies r b))
rest_differs r c = false

abbrev pub class_differs : List Spot → ℕ → CondTree → Bool
class_differs spots i (t.equal_set a b) = not (agree (class_lies spots i a) (class_lies spots i b))
class_differs spots i (t.within a b) = not (implied (class_lies spots i a) (class_lies spots i b))
class_differs spots i c = false

abbrev pub classes_differ : List Spot → CondTree → Bool
classes_differ spots c = any_below (length spots) (λ i. class_differs spots i c)

-- a flag is chosen to be true
abbrev pub is_chosen_flag : ℕ → CondTree → Case → Bool
is_chosen_flag f (t.flag g) True = g == f
is_chosen_flag f c k = false

abbrev pub flag_chosen : List Atom → ℕ → Bool
flag_chosen atoms f = list_any (λ a. is_chosen_flag f (cond_tree a.cond.now) a.case) atoms

-- what no sizes with these places can meet: a case that the atom doesn't have, a set atom that a class keeps from being
-- true, and a flag that is false and was chosen to be true
abbrev pub is_contrary : List Atom → CondTree → Bool
is_contrary atoms (t.flag f) = flag_chosen atoms f
is_contrary atoms c = false

abbrev pub is_against : List Atom → List Spot → CondTree → Case → Bool
is_against atoms spots c True = classes_differ spots c
is_against atoms spots c False = is_contrary atoms c
is_against atoms spots c k = false

abbrev pub is_hopeless : List Atom → List Spot → CondTree → Case → Bool
is_hopeless atoms spots c k = not (is_case_of c k) || is_against atoms spots c k

-- an atom that isn't on elements
abbrev pub is_loose : CondTree → Bool
is_loose (t.flag f) = true
is_loose (t.equal_set a b) = true
is_loose (t.within a b) = true
is_loose (t.equal_num a b) = true
is_loose (t.less_num a b) = true
is_loose (t.divides k a) = true
is_loose c = false
