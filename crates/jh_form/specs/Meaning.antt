-- What a formula means: its truth in an interpretation, under a list of objects for the bound
-- variables, the innermost binder's first. The code substitutes; this definition evaluates.
use Rattle.std.specs.Prelude.{ℕ, zero, suc, ◌+◌, ◌%◌, ◌<◌, ◌==◌, Bool, true, false, not, ◌&&◌, ◌||◌, if◌then◌else◌, List, [], ◌∷◌, length, slice_index, ℤ, pos, ◌+ℤ◌, ◌-ℤ◌, ◌*ℤ◌, neg_ℤ, int_lt, int_le, unsigned_abs}
use Rattle.std.specs.List.{list_all, list_any}
use Rattle.std.specs.Ordering.{int_eq}
use Rattle.jh_name.specs.declared.naming.Name.{Name}
use Rattle.jh_form.specs.Tree.{TermTree, IntTree, SetTree, FieldTree, ValueTree, FormulaTree, FieldTrees}
use Rattle.jh_form.specs.Tree as t

-- The value of a field: what it gives at each object, at each of the four kinds.
pub record Fields : Type 0 where
  pub objects : ℕ → ℕ
  pub numbers : ℕ → ℤ
  pub truths : ℕ → Bool
  pub sets : ℕ → ℕ → Bool

-- The value of a term of any sort. A set is the test of its members.
pub data Datum : Type 0 where
  an_object : ℕ → Datum
  a_number : ℤ → Datum
  a_truth : Bool → Datum
  a_set : (ℕ → Bool) → Datum
  a_field : Fields → Datum

-- An interpretation: the universe is the objects 0 to `last`, null is 0, and each free name has a
-- value at each sort.
pub record Interp : Type 0 where
  pub last : ℕ
  pub object : Name → ℕ
  pub number : Name → ℤ
  pub truth : Name → Bool
  pub set : Name → ℕ → Bool
  pub field : Name → Fields

-- The values of an interpretation that are objects lie in its universe.
pub record InUniverse (m : Interp) : Type 0 where
  pub object : (x : Name) → m.object x < suc m.last
  pub field : (x : Name) (a : ℕ) → a < suc m.last → (m.field x).objects a < suc m.last

-- whether all numbers below n pass a test, whether some does, and how many do
abbrev pub all_below : ℕ → (ℕ → Bool) → Bool
all_below zero p = true
all_below (suc n) p = all_below n p && p n

abbrev pub any_below : ℕ → (ℕ → Bool) → Bool
any_below zero p = false
any_below (suc n) p = any_below n p || p n

abbrev pub count_below : ℕ → (ℕ → Bool) → ℕ
count_below zero p = 0
count_below (suc n) p = count_below n p + (if p n then 1 else 0)

-- over the objects 0 to n
abbrev pub every : ℕ → (ℕ → Bool) → Bool
every n p = all_below (suc n) p

abbrev pub some : ℕ → (ℕ → Bool) → Bool
some n p = any_below (suc n) p

-- both truths are the same
abbrev pub agree : Bool → Bool → Bool
agree p q = if p then q else not q

-- k times some whole number is z
abbrev pub divides_number : ℤ → ℤ → Bool
divides_number k z = unsigned_abs z % unsigned_abs k == 0

-- A field with another value at one object: at the kind of the value alone. A whole field as the
-- value changes nothing.
abbrev pub updated : Fields → ℕ → Datum → Fields
updated f a (an_object v) = record { objects = λ x. if x == a then v else f.objects x; numbers = f.numbers; truths = f.truths; sets = f.sets }
updated f a (a_number v) = record { objects = f.objects; numbers = λ x. if x == a then v else f.numbers x; truths = f.truths; sets = f.sets }
updated f a (a_truth v) = record { objects = f.objects; numbers = f.numbers; truths = λ x. if x == a then v else f.truths x; sets = f.sets }
updated f a (a_set v) = record { objects = f.objects; numbers = f.numbers; truths = f.truths; sets = λ x. if x == a then v else f.sets x }
updated f a (a_field v) = f

-- whether k steps, each along one of the fields, lead from a to b
abbrev pub leads : List Fields → ℕ → ℕ → ℕ → Bool
leads fs zero a b = a == b
leads fs (suc k) a b = list_any (λ f. leads fs k (f.objects a) b) fs

-- b is reached from a by k steps, for some k from 0 to n
abbrev pub reaches : ℕ → List Fields → ℕ → ℕ → Bool
reaches n fs a b = some n (λ k. leads fs k a b)

-- no object but null is reached from its value at one of the fields
abbrev pub no_cycle : ℕ → List Fields → Bool
no_cycle n fs = every n (λ x. x == 0 || list_all (λ f. not (reaches n fs (f.objects x) x)) fs)

-- the object at x by the field at place i of the list
abbrev pub edge : List Fields → ℕ → ℕ → ℕ
edge [] i x = 0
edge (f ∷ fs) zero x = f.objects x
edge (f ∷ fs) (suc i) x = edge fs i x

-- no two different pairs of an object and a place in the list have the same value that is not null
abbrev pub no_sharing : ℕ → List Fields → Bool
no_sharing n fs =
    every n (λ x. every n (λ y. all_below (length fs) (λ i. all_below (length fs) (λ j.
    (x == y && i == j) || not (edge fs i x == edge fs j y) || edge fs i x == 0))))

-- the fields are the edges of a forest
abbrev pub is_forest : ℕ → List Fields → Bool
is_forest n fs = no_cycle n fs && no_sharing n fs

abbrev mutual
  pub term_value : TermTree → Interp → List ℕ → ℕ
  term_value (t.bound k) m env = slice_index env k
  term_value (t.free_object x) m env = m.object x
  term_value t.null m env = 0
  term_value (t.read_object f a) m env = (field_value f m env).objects (term_value a m env)

  pub int_value : IntTree → Interp → List ℕ → ℤ
  int_value (t.const z) m env = z
  int_value (t.free_number x) m env = m.number x
  int_value (t.read_number f a) m env = (field_value f m env).numbers (term_value a m env)
  int_value (t.add a b) m env = int_value a m env +ℤ int_value b m env
  int_value (t.sub a b) m env = int_value a m env -ℤ int_value b m env
  int_value (t.neg a) m env = neg_ℤ (int_value a m env)
  int_value (t.scale z a) m env = z *ℤ int_value a m env
  int_value (t.card a) m env = pos (count_below (suc m.last) (set_value a m env))

  pub set_value : SetTree → Interp → List ℕ → ℕ → Bool
  set_value (t.free_set x) m env = m.set x
  set_value (t.read_set f a) m env = (field_value f m env).sets (term_value a m env)
  set_value t.empty m env = λ x. false
  set_value t.univ m env = λ x. true
  set_value (t.single a) m env = λ x. x == term_value a m env
  set_value (t.union a b) m env = λ x. set_value a m env x || set_value b m env x
  set_value (t.inter a b) m env = λ x. set_value a m env x && set_value b m env x
  set_value (t.diff a b) m env = λ x. set_value a m env x && not (set_value b m env x)
  set_value (t.compl a) m env = λ x. not (set_value a m env x)
  set_value (t.compr a) m env = λ x. truth a m (x ∷ env)

  pub field_value : FieldTree → Interp → List ℕ → Fields
  field_value (t.free_field x) m env = m.field x
  field_value (t.update f a v) m env = updated (field_value f m env) (term_value a m env) (datum v m env)

  pub datum : ValueTree → Interp → List ℕ → Datum
  datum (t.of_object a) m env = an_object (term_value a m env)
  datum (t.of_number a) m env = a_number (int_value a m env)
  datum (t.of_truth a) m env = a_truth (truth a m env)
  datum (t.of_set a) m env = a_set (set_value a m env)
  datum (t.of_field a) m env = a_field (field_value a m env)

  pub truth : FormulaTree → Interp → List ℕ → Bool
  truth t.true_formula m env = true
  truth t.false_formula m env = false
  truth (t.free_truth x) m env = m.truth x
  truth (t.read_truth f a) m env = (field_value f m env).truths (term_value a m env)
  truth (t.negation a) m env = not (truth a m env)
  truth (t.and a b) m env = truth a m env && truth b m env
  truth (t.or a b) m env = truth a m env || truth b m env
  truth (t.implies a b) m env = not (truth a m env) || truth b m env
  truth (t.iff a b) m env = agree (truth a m env) (truth b m env)
  truth (t.all a) m env = every m.last (λ x. truth a m (x ∷ env))
  truth (t.ex a) m env = some m.last (λ x. truth a m (x ∷ env))
  truth (t.eq_object a b) m env = term_value a m env == term_value b m env
  truth (t.eq_number a b) m env = int_eq (int_value a m env) (int_value b m env)
  truth (t.eq_set a b) m env = every m.last (λ x. agree (set_value a m env x) (set_value b m env x))
  truth (t.less a b) m env = int_lt (int_value a m env) (int_value b m env)
  truth (t.less_equal a b) m env = int_le (int_value a m env) (int_value b m env)
  truth (t.divides z a) m env = divides_number z (int_value a m env)
  truth (t.member a b) m env = set_value b m env (term_value a m env)
  truth (t.subset a b) m env = every m.last (λ x. not (set_value a m env x) || set_value b m env x)
  truth (t.reach fs a b) m env = reaches m.last (fields_value fs m env) (term_value a m env) (term_value b m env)
  truth (t.tree fs) m env = is_forest m.last (fields_value fs m env)
  truth (t.mark k a) m env = truth a m env

  pub fields_value : FieldTrees → Interp → List ℕ → List Fields
  fields_value t.none m env = []
  fields_value (t.more f fs) m env = field_value f m env ∷ fields_value fs m env
