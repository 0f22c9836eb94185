-- What is known of a condition where some elements stand and some cases are chosen.
use Rattle.std.specs.Prelude.{◌≡◌, ℕ, ◌<◌, ◌==◌, nat_lt, Bool, true, false, not, ◌&&◌, if◌then◌else◌, List, [], ◌∷◌, length, slice_index_or, Option, Some, None, IfSome}
use Rattle.std.specs.List.{list_all}
use Rattle.jh_query.specs.declared.queries.sizes.Spot.{Spot}
use Rattle.jh_query.specs.queries.Tree.{SetExprTree, CondTree, QueryTree}
use Rattle.jh_query.specs.queries.Tree as t
use Rattle.jh_query.specs.queries.Bare.{cond_tree}
use Rattle.jh_query.specs.queries.Sizing.{Sizing}
use Rattle.jh_query.specs.queries.Same.{same_atom}
use Rattle.jh_query.specs.queries.Truth.{class_lies, holds, query_true, spot_of}
use Rattle.jh_query.specs.declared.partial_truth.casing.Atom.{Atom}
use Rattle.jh_query.specs.declared.partial_truth.casing.Case.{Case}
use Rattle.jh_query.specs.declared.partial_truth.casing.Case.TheVariants.{Open, True, False, Greater, Remainder}

-- the truth of an atom in its case, where it is chosen
abbrev pub case_truth : Case → Option Bool
case_truth Open = None
case_truth True = Some true
case_truth False = Some false
case_truth Greater = Some false
case_truth (Remainder k) = Some (k == 0)

-- sizes in which the first elements stand where they are placed, and the atoms have the truths of their cases
pub record Agrees (z : Sizing) (spots : List Spot) (atoms : List Atom) : Type 0 where
  pub placed : (i : ℕ) → i < length spots → spot_of z.spots i ≡ spot_of spots i
  pub chosen : (i : ℕ) (a : Atom) (truth : Bool) → i < length atoms → a ≡ slice_index_or atoms i a → case_truth a.case ≡ Some truth → holds z (cond_tree a.cond.now) ≡ truth

-- a truth that is told is that under all sizes that agree
abbrev pub Tells : Option Bool → List Spot → List Atom → CondTree → Type 0
Tells r spots atoms c = IfSome r (λ truth. (z : Sizing) → Agrees z spots atoms → holds z c ≡ truth)

-- a set names elements below n alone
abbrev pub names_below : ℕ → SetExprTree → Bool
names_below n (t.var k) = true
names_below n t.empty = true
names_below n t.all = true
names_below n (t.one i) = nat_lt i n
names_below n (t.union a b) = names_below n a && names_below n b
names_below n (t.inter a b) = names_below n a && names_below n b
names_below n (t.diff a b) = names_below n a && names_below n b
names_below n (t.compl a) = names_below n a

-- what is told of both, of one, of the other of two, of that they agree
abbrev pub both_told : Option Bool → Option Bool → Option Bool
both_told (Some true) b = b
both_told (Some false) b = Some false
both_told None (Some false) = Some false
both_told None _ = None

abbrev pub one_told : Option Bool → Option Bool → Option Bool
one_told (Some true) b = Some true
one_told (Some false) b = b
one_told None (Some true) = Some true
one_told None _ = None

abbrev pub other_told : Option Bool → Option Bool
other_told None = None
other_told (Some p) = Some (not p)

abbrev pub agree_told : Option Bool → Option Bool → Option Bool
agree_told None b = None
agree_told (Some p) None = None
agree_told (Some true) (Some q) = Some q
agree_told (Some false) (Some q) = Some (not q)

-- the truth of the first atom that is this one, where it is chosen
abbrev pub chosen : List Atom → CondTree → Option Bool
chosen [] c = None
chosen (a ∷ rest) c = if same_atom (cond_tree a.cond.now) c then case_truth a.case else chosen rest c

-- What is told of a condition: of elements where all that it names stand, of other atoms as they are chosen, and of
-- the rest by the three-valued truth tables.
abbrev pub told : List Spot → List Atom → CondTree → Option Bool
told s atoms t.yes = Some true
told s atoms t.no = Some false
told s atoms (t.flag f) = chosen atoms (t.flag f)
told s atoms (t.same_element i j) = if nat_lt i (length s) && nat_lt j (length s) then Some ((spot_of s i).class == (spot_of s j).class) else None
told s atoms (t.member i a) = if nat_lt i (length s) && names_below (length s) a then Some (class_lies s i a) else None
told s atoms (t.equal_set a b) = chosen atoms (t.equal_set a b)
told s atoms (t.within a b) = chosen atoms (t.within a b)
told s atoms (t.equal_num a b) = chosen atoms (t.equal_num a b)
told s atoms (t.less_num a b) = chosen atoms (t.less_num a b)
told s atoms (t.divides k a) = chosen atoms (t.divides k a)
told s atoms (t.negation a) = other_told (told s atoms a)
told s atoms (t.and a b) = both_told (told s atoms a) (told s atoms b)
told s atoms (t.or a b) = one_told (told s atoms a) (told s atoms b)
told s atoms (t.implies a b) = one_told (other_told (told s atoms a)) (told s atoms b)
told s atoms (t.iff a b) = agree_told (told s atoms a) (told s atoms b)

-- what is told of several conditions behind others, of which this is told, and of a query
abbrev pub all_told : List Spot → List Atom → Option Bool → List CondTree → Option Bool
all_told s atoms before [] = before
all_told s atoms before (c ∷ cs) = all_told s atoms (both_told before (told s atoms c)) cs

abbrev pub query_told : List Spot → List Atom → QueryTree → Option Bool
query_told s atoms q = one_told (other_told (all_told s atoms (Some true) q.hyps)) (told s atoms q.goal)

-- the same of several conditions, and of a query
abbrev pub TellsAll : Option Bool → List Spot → List Atom → List CondTree → Type 0
TellsAll r spots atoms cs = IfSome r (λ truth. (z : Sizing) → Agrees z spots atoms → list_all (holds z) cs ≡ truth)

abbrev pub TellsQuery : Option Bool → List Spot → List Atom → QueryTree → Type 0
TellsQuery r spots atoms q = IfSome r (λ truth. (z : Sizing) → Agrees z spots atoms → query_true q z ≡ truth)
