-- When a query is true. Only sizes matter: how many objects of each region there are, and where the elements stand.
use Rattle.std.specs.Prelude.{◌≡◌, ℕ, zero, suc, ◌+◌, ◌/◌, ◌%◌, ◌^◌, ◌<◌, ◌==◌, Bool, true, false, not, ◌&&◌, ◌||◌, if◌then◌else◌, List, length, slice_index_or, Option, Some, None, ℤ, pos, ◌+ℤ◌, ◌-ℤ◌, ◌*ℤ◌, neg_ℤ, int_lt}
use Rattle.std.specs.List.{list_all}
use Rattle.std.specs.Ordering.{int_eq}
use Rattle.jh_form.specs.Meaning.{all_below, any_below, count_below, agree, divides_number}
use Rattle.jh_query.specs.declared.queries.sizes.Spot.{Spot}
use Rattle.jh_query.specs.queries.Tree.{SetExprTree, NumTree, CondTree, QueryTree}
use Rattle.jh_query.specs.queries.Tree as t
use Rattle.jh_query.specs.queries.Sizing.{Sizing}

-- region r lies in set k: bit k of r is 1
abbrev pub is_in : ℕ → ℕ → Bool
is_in r k = r / 2 ^ k % 2 == 1

-- An object that is in region r lies inside a set by the truth tables of the operations; `is_one` says which
-- elements it is.
abbrev pub lies : (ℕ → Bool) → ℕ → SetExprTree → Bool
lies is_one r (t.var k) = is_in r k
lies is_one r t.empty = false
lies is_one r t.all = true
lies is_one r (t.one i) = is_one i
lies is_one r (t.union a b) = lies is_one r a || lies is_one r b
lies is_one r (t.inter a b) = lies is_one r a && lies is_one r b
lies is_one r (t.diff a b) = lies is_one r a && not (lies is_one r b)
lies is_one r (t.compl a) = not (lies is_one r a)

-- where there is no such element
abbrev pub nowhere : Spot
nowhere = record { class = 0; region = 0 }

abbrev pub spot_of : List Spot → ℕ → Spot
spot_of spots i = slice_index_or spots i nowhere

-- which elements are of a class; what is no element is of none
abbrev pub is_of : List Spot → Option ℕ → ℕ → Bool
is_of spots None i = false
is_of spots (Some class) i = (spot_of spots i).class == class

-- the class of element i lies inside a set
abbrev pub class_lies : List Spot → ℕ → SetExprTree → Bool
class_lies spots i s = lies (is_of spots (Some (spot_of spots i).class)) (spot_of spots i).region s

-- the objects of region r that are no element lie inside a set
abbrev pub rest_lies : ℕ → SetExprTree → Bool
rest_lies r s = lies (λ i. false) r s

-- no element before element i is of its class
abbrev pub is_first : List Spot → ℕ → Bool
is_first spots i = not (any_below i (λ j. (spot_of spots j).class == (spot_of spots i).class))

-- how many objects of region r are no element
abbrev pub rest_of : Sizing → ℕ → ℕ
rest_of z r = slice_index_or z.rest r 0

-- the sum of f over the numbers below n
abbrev pub sum_below : ℕ → (ℕ → ℕ) → ℕ
sum_below zero f = 0
sum_below (suc n) f = sum_below n f + f n

-- how many classes lie inside a set
abbrev pub classes_in : List Spot → SetExprTree → ℕ
classes_in spots s = count_below (length spots) (λ i. is_first spots i && class_lies spots i s)

-- how many objects are in a set: the sum of the rests inside it, and the number of the classes inside it
abbrev pub set_size : Sizing → SetExprTree → ℕ
set_size z s =
    sum_below (length z.rest) (λ r. if rest_lies r s then rest_of z r else 0)
    + classes_in z.spots s

-- each class and each rest with an object passes a test of whether it lies inside one set and inside the other
abbrev pub compares : Sizing → (Bool → Bool → Bool) → SetExprTree → SetExprTree → Bool
compares z test a b =
    all_below (length z.spots) (λ i. test (class_lies z.spots i a) (class_lies z.spots i b))
    && all_below (length z.rest) (λ r. rest_of z r == 0 || test (rest_lies r a) (rest_lies r b))

-- the second holds where the first does
abbrev pub implied : Bool → Bool → Bool
implied p q = not p || q

-- What stands for the parts of a number that are no sum.
pub record Reading : Type 0 where
  pub card : SetExprTree → ℤ
  pub number : ℕ → ℤ
  pub constant : ℤ → ℤ

-- what a number comes to, of what stands for its parts
abbrev pub read_number : Reading → NumTree → ℤ
read_number m (t.const c) = m.constant c
read_number m (t.number l) = m.number l
read_number m (t.add a b) = read_number m a +ℤ read_number m b
read_number m (t.sub a b) = read_number m a -ℤ read_number m b
read_number m (t.neg a) = neg_ℤ (read_number m a)
read_number m (t.scale k a) = k *ℤ read_number m a
read_number m (t.card s) = m.card s

-- numbers under sizes
abbrev pub under : Sizing → Reading
under z = record { card = λ s. pos (set_size z s); number = λ l. slice_index_or z.numbers l (pos 0); constant = λ c. c }

abbrev pub number_value : Sizing → NumTree → ℤ
number_value z a = read_number (under z) a

-- the truth of a condition under sizes
abbrev pub holds : Sizing → CondTree → Bool
holds z t.yes = true
holds z t.no = false
holds z (t.flag f) = slice_index_or z.flags f false
holds z (t.same_element i j) = (spot_of z.spots i).class == (spot_of z.spots j).class
holds z (t.member i s) = class_lies z.spots i s
holds z (t.equal_set a b) = compares z agree a b
holds z (t.within a b) = compares z implied a b
holds z (t.equal_num a b) = int_eq (number_value z a) (number_value z b)
holds z (t.less_num a b) = int_lt (number_value z a) (number_value z b)
holds z (t.divides k a) = divides_number k (number_value z a)
holds z (t.negation a) = not (holds z a)
holds z (t.and a b) = holds z a && holds z b
holds z (t.or a b) = holds z a || holds z b
holds z (t.implies a b) = implied (holds z a) (holds z b)
holds z (t.iff a b) = agree (holds z a) (holds z b)

-- some hypothesis is false or the goal is true
abbrev pub query_true : QueryTree → Sizing → Bool
query_true q z = not (list_all (holds z) q.hyps) || holds z q.goal

-- Sizes fit a query: the lists have its lengths, the regions are regions of its sets, and elements of one class
-- have one region.
pub record Fits (q : QueryTree) (z : Sizing) : Type 0 where
  pub rest : length z.rest ≡ 2 ^ q.sets
  pub spots : length z.spots ≡ q.elements
  pub numbers : length z.numbers ≡ q.numbers
  pub flags : length z.flags ≡ q.flags
  pub regions : (i : ℕ) → i < q.elements → (spot_of z.spots i).region < 2 ^ q.sets
  pub classes : (i j : ℕ) → i < q.elements → j < q.elements → (spot_of z.spots i).class ≡ (spot_of z.spots j).class → (spot_of z.spots i).region ≡ (spot_of z.spots j).region

-- a query is true where it is under all sizes that fit it
abbrev pub IsTrueQuery : QueryTree → Type 0
IsTrueQuery q = (z : Sizing) → Fits q z → query_true q z ≡ true
