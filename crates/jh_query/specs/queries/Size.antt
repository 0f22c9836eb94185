-- The size of a query: what bounds the work of deciding it. It is the number of places of the elements, times the
-- cases of the atoms, times the nodes that a digit system of the query has at most.
use Rattle.std.specs.Prelude.{ℕ, zero, suc, ◌+◌, ◌*◌, ◌-◌, ◌^◌, nat_lt, max, Bool, true, false, not, ◌&&◌, ◌||◌, if◌then◌else◌, List, [], ◌∷◌, ◌++◌, unsigned_abs, is_some}
use Rattle.std.specs.List.{list_all, list_any, flat_map, sum_by}
use Rattle.jh_form.specs.Meaning.{all_below}
pub use Rattle.jh_containers.specs.capped_counts.Capped.{capped, count_max}
use Rattle.jh_query.specs.declared.queries.demands.Demand.{Demand}
use Rattle.jh_query.specs.declared.queries.demands.Demand.TheVariants.{True, False, Loose}
use Rattle.jh_query.specs.queries.Tree.{SetExprTree, NumTree, CondTree, QueryTree}
use Rattle.jh_query.specs.queries.Tree as t
use Rattle.jh_query.specs.queries.Truth.{Reading, read_number, sum_below}
use Rattle.jh_query.specs.queries.Fitting.{checked_number}
use Rattle.jh_query.specs.queries.Linear.{rest_factor, number_factor, constant_part}
use Rattle.jh_query.specs.queries.Same.{same_atom}

-- the atoms of a condition, from the left
abbrev pub atoms : CondTree → List CondTree
atoms t.yes = []
atoms t.no = []
atoms (t.flag f) = t.flag f ∷ []
atoms (t.same_element i j) = t.same_element i j ∷ []
atoms (t.member i s) = t.member i s ∷ []
atoms (t.equal_set a b) = t.equal_set a b ∷ []
atoms (t.within a b) = t.within a b ∷ []
atoms (t.equal_num a b) = t.equal_num a b ∷ []
atoms (t.less_num a b) = t.less_num a b ∷ []
atoms (t.divides k a) = t.divides k a ∷ []
atoms (t.negation a) = atoms a
atoms (t.and a b) = atoms a ++ atoms b
atoms (t.or a b) = atoms a ++ atoms b
atoms (t.implies a b) = atoms a ++ atoms b
atoms (t.iff a b) = atoms a ++ atoms b

abbrev pub atoms_of : QueryTree → List CondTree
atoms_of q = flat_map atoms q.hyps ++ atoms q.goal

-- equal atoms count once: each where it stands last
abbrev pub distinct : List CondTree → List CondTree
distinct [] = []
distinct (a ∷ rest) = if list_any (same_atom a) rest then distinct rest else a ∷ distinct rest

-- a condition that is an atom, or its negation, says that the atom is true, or false
abbrev pub says : Bool → CondTree → CondTree → Bool
says true a c = same_atom a c
says false a (t.negation c) = same_atom a c
says false a _ = false

-- a conjunction says what its parts say
abbrev pub asserts : Bool → CondTree → CondTree → Bool
asserts truth a (t.and b c) = asserts truth a b || asserts truth a c
asserts truth a c = says truth a c

-- what the query wants of an atom: hypotheses are to be true and the goal false. What is wanted both ways is wanted
-- true.
abbrev pub demanded : QueryTree → CondTree → Demand
demanded q a =
    if list_any (asserts true a) q.hyps || says false a q.goal then True
    else (if list_any (asserts false a) q.hyps || says true a q.goal then False else Loose)

-- of how many cases an atom has three, two, or one for each remainder, by what is wanted of it
abbrev pub three_cases : Demand → ℕ
three_cases True = 1
three_cases False = 2
three_cases Loose = 3

abbrev pub two_cases : Demand → ℕ
two_cases True = 1
two_cases False = 1
two_cases Loose = 2

abbrev pub remainder_cases : Demand → ℕ → ℕ
remainder_cases True k = 1
remainder_cases False k = max (k - 1) 1
remainder_cases Loose k = max k 2

-- How many cases an atom has. A set atom is true or false, and false it is a need besides; a number is equal, less or
-- greater; a number that is divided leaves a rest. The truths of elements are fixed by their places.
abbrev pub cases : Demand → CondTree → ℕ
cases x (t.flag f) = two_cases x
cases x (t.equal_set a b) = three_cases x
cases x (t.within a b) = three_cases x
cases x (t.equal_num a b) = three_cases x
cases x (t.less_num a b) = two_cases x
cases x (t.divides k a) = remainder_cases x (unsigned_abs k)
cases x _ = 1

-- how many columns an atom adds: what a side lacks, or a quotient as plus and minus
abbrev pub slacks : CondTree → ℕ
slacks (t.equal_num a b) = 1
slacks (t.less_num a b) = 1
slacks (t.divides k a) = 2
slacks _ = 0

-- the sum of the absolute values of the numbers by which sizes of sets are multiplied
abbrev pub card_weight : NumTree → ℕ
card_weight (t.const c) = 0
card_weight (t.number l) = 0
card_weight (t.add a b) = card_weight a + card_weight b
card_weight (t.sub a b) = card_weight a + card_weight b
card_weight (t.neg a) = card_weight a
card_weight (t.scale k a) = unsigned_abs k * card_weight a
card_weight (t.card s) = 1

-- neither the factor of part i of a number nor that of an operand leaves `i128`
abbrev pub fits_at : (ℕ → Reading) → NumTree → ℕ → Bool
fits_at m a i = is_some (checked_number (m i) a)

-- the absolute value of the factor of part i
abbrev pub weight_at : (ℕ → Reading) → NumTree → ℕ → ℕ
weight_at m a i = unsigned_abs (read_number (m i) a)

-- no part of a number has a factor or a constant that leaves `i128`
abbrev pub is_small : QueryTree → NumTree → Bool
is_small q a =
    all_below (2 ^ q.sets) (fits_at rest_factor a)
    && (all_below q.numbers (fits_at number_factor a)
    && is_some (checked_number constant_part a))

-- the sums of the absolute values of its factors
abbrev pub rest_weight : ℕ → NumTree → ℕ
rest_weight sets a = sum_below (2 ^ sets) (weight_at rest_factor a)

abbrev pub number_weight : ℕ → NumTree → ℕ
number_weight numbers a = sum_below numbers (weight_at number_factor a)

-- How many remainders the row of a number has at most, where h is what its case adds: twice the most that its right
-- side and twice its factors come to, and one.
abbrev pub row_bound : QueryTree → ℕ → NumTree → ℕ
row_bound q h a =
    2 * ((unsigned_abs (read_number constant_part a) + q.elements * card_weight a + h) + 2 * (rest_weight q.sets a + 2 * number_weight q.numbers a + h)) + 1

-- a number atom brought to one side is small, and has a row; other atoms have none
abbrev pub is_small_atom : QueryTree → CondTree → Bool
is_small_atom q (t.equal_num a b) = is_small q (t.sub a b)
is_small_atom q (t.less_num a b) = is_small q (t.sub a b)
is_small_atom q (t.divides k a) = is_small q a
is_small_atom q _ = true

abbrev pub atom_bound : QueryTree → CondTree → ℕ
atom_bound q (t.equal_num a b) = row_bound q 1 (t.sub a b)
atom_bound q (t.less_num a b) = row_bound q 1 (t.sub a b)
atom_bound q (t.divides k a) = row_bound q (2 * unsigned_abs k) a
atom_bound q _ = 1

abbrev pub atom_weight : QueryTree → CondTree → ℕ
atom_weight q a = cases (demanded q a) a * atom_bound q a

abbrev pub product_by : (CondTree → ℕ) → List CondTree → ℕ
product_by f [] = 1
product_by f (a ∷ rest) = f a * product_by f rest

-- the places of the first n elements: each opens a class in one of the regions, or joins that of one before it
abbrev pub places : ℕ → ℕ → ℕ
places sets zero = 1
places sets (suc n) = places sets n * (2 ^ sets + n)

-- a column for the rest of each region, two for each number, and those that atoms add
abbrev pub column_count : QueryTree → ℕ
column_count q = 2 ^ q.sets + (2 * q.numbers + sum_by slacks (distinct (atoms_of q)))

abbrev pub full_size : QueryTree → ℕ
full_size q = places q.sets q.elements * product_by (atom_weight q) (distinct (atoms_of q)) * (column_count q + 1)

abbrev pub is_countable : QueryTree → Bool
is_countable q = not (nat_lt 16 q.sets) && list_all (is_small_atom q) (distinct (atoms_of q))

abbrev pub query_size : QueryTree → ℕ
query_size q = if is_countable q then capped (full_size q) else count_max
