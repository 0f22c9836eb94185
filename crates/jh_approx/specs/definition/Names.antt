-- What a query has names for: sets, elements, numbers and flags. Each is known by its place among those of its sort, in the order
-- in which they first stand in the query. What stands inside a read or a comprehension alone has no name.
use Rattle.std.specs.Prelude.{ℕ, Bool, true, false, not, if◌then◌else◌, ◌+◌, List, [], ◌∷◌, ◌++◌, filter}
use Rattle.jh_form.specs.Tree.{TermTree, IntTree, SetTree, ValueTree, FormulaTree, of_object, of_number, of_truth, of_set, of_field}
use Rattle.jh_form.specs.Tree as t
use Rattle.jh_boxed_operations.specs.comparison.Exchanged.{equal_trees}

-- the names of a set: free sets, sets that are read and comprehensions, and objects that are taken as sets
unfoldable pub set_names : SetTree → List ValueTree
set_names t.empty = []
set_names t.univ = []
set_names (t.single a) = of_object a ∷ []
set_names (t.union a b) = set_names a ++ set_names b
set_names (t.inter a b) = set_names a ++ set_names b
set_names (t.diff a b) = set_names a ++ set_names b
set_names (t.compl a) = set_names a
set_names a = of_set a ∷ []

-- the names of a number: free numbers and numbers that are read, and those of the sets that are counted
unfoldable pub number_names : IntTree → List ValueTree
number_names (t.const z) = []
number_names (t.add a b) = number_names a ++ number_names b
number_names (t.sub a b) = number_names a ++ number_names b
number_names (t.neg a) = number_names a
number_names (t.scale z a) = number_names a
number_names (t.card a) = set_names a
number_names a = of_number a ∷ []

-- the names of a formula that a query can say, in the order in which they stand, each as often as it does
unfoldable pub names : FormulaTree → List ValueTree
names (t.free_truth x) = of_truth (t.free_truth x) ∷ []
names (t.read_truth f a) = of_truth (t.read_truth f a) ∷ []
names (t.negation a) = names a
names (t.and a b) = names a ++ names b
names (t.or a b) = names a ++ names b
names (t.implies a b) = names a ++ names b
names (t.iff a b) = names a ++ names b
names (t.eq_object a b) = of_object a ∷ of_object b ∷ []
names (t.eq_number a b) = number_names a ++ number_names b
names (t.eq_set a b) = set_names a ++ set_names b
names (t.less a b) = number_names a ++ number_names b
names (t.less_equal a b) = number_names a ++ number_names b
names (t.divides z a) = number_names a
names (t.member a b) = of_object a ∷ set_names b
names (t.subset a b) = set_names a ++ set_names b
names a = []

-- each once, where it stands first
unfoldable pub without_repeats : List ValueTree → List ValueTree
without_repeats [] = []
without_repeats (v ∷ vs) = v ∷ filter (λ w. not (equal_trees v w)) (without_repeats vs)

-- the place of a name in a list; how many there are, where it isn't there
unfoldable pub place_in : List ValueTree → ValueTree → ℕ
place_in [] v = 0
place_in (w ∷ ws) v = if equal_trees w v then 0 else place_in ws v + 1

unfoldable pub is_set_name : ValueTree → Bool
is_set_name (of_set a) = true
is_set_name v = false

unfoldable pub is_element : ValueTree → Bool
is_element (of_object a) = true
is_element v = false

unfoldable pub is_number_name : ValueTree → Bool
is_number_name (of_number a) = true
is_number_name v = false

unfoldable pub is_flag : ValueTree → Bool
is_flag (of_truth a) = true
is_flag v = false

-- the names of a query by their sorts, in their order
pub record NameLists : Type 0 where
  pub sets : List ValueTree
  pub elements : List ValueTree
  pub numbers : List ValueTree
  pub flags : List ValueTree

-- null is element 0
unfoldable pub listed : List ValueTree → NameLists
listed vs = record {
  sets = without_repeats (filter is_set_name vs);
  elements = without_repeats (of_object t.null ∷ filter is_element vs);
  numbers = without_repeats (filter is_number_name vs);
  flags = without_repeats (filter is_flag vs);
}
