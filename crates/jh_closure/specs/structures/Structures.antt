-- Structures: what terms and formulas mean where nothing is known of the operations but that they are functions.
use Rattle.std.specs.Prelude.{◌≡◌, ℕ, ℤ, List, [], ◌∷◌}
use Rattle.jh_name.specs.declared.naming.Name.{Name}
use Rattle.jh_form.specs.Tree.{TermTree, IntTree, SetTree, FieldTree, ValueTree, FormulaTree, FieldTrees}
use Rattle.jh_form.specs.Tree as t

-- the values of the five sorts in one type, as operations take them
pub data Any (O N T S F : Type 0) : Type 0 where
  object_any : O → Any O N T S F
  number_any : N → Any O N T S F
  truth_any : T → Any O N T S F
  set_any : S → Any O N T S F
  field_any : F → Any O N T S F

-- A structure gives each sort any values, and each name, constant and operation a value or a function of the values of
-- its arguments. Different integer constants have different values, and so have True and False; it keeps no other law. A
-- bound variable and a binder are operations like any other here, so that each tree has a value; what is said of trees
-- that have one is said by chance.
pub record Structure (O N T S F : Type 0) : Type 0 where
  pub bound : ℕ → O
  pub free_object : Name → O
  pub null : O
  pub read_object : F → O → O
  pub const : ℤ → N
  pub free_number : Name → N
  pub read_number : F → O → N
  pub add : N → N → N
  pub sub : N → N → N
  pub neg : N → N
  pub scale : ℤ → N → N
  pub card : S → N
  pub free_set : Name → S
  pub read_set : F → O → S
  pub empty : S
  pub univ : S
  pub single : O → S
  pub union : S → S → S
  pub inter : S → S → S
  pub diff : S → S → S
  pub compl : S → S
  pub compr : T → S
  pub free_field : Name → F
  pub update : F → O → Any O N T S F → F
  pub true_value : T
  pub false_value : T
  pub free_truth : Name → T
  pub read_truth : F → O → T
  pub negation : T → T
  pub and : T → T → T
  pub or : T → T → T
  pub implies : T → T → T
  pub iff : T → T → T
  pub all : T → T
  pub ex : T → T
  pub eq_object : O → O → T
  pub eq_number : N → N → T
  pub eq_set : S → S → T
  pub less : N → N → T
  pub less_equal : N → N → T
  pub divides : ℤ → N → T
  pub member : O → S → T
  pub subset : S → S → T
  pub reach : List F → O → O → T
  pub tree : List F → T
  pub constants_differ : (y z : ℤ) → const y ≡ const z → y ≡ z
  pub truths_differ : true_value ≡ false_value → ⊥

module _ {O N T S F : Type 0} (s : Structure O N T S F) where
  -- the value of a tree
  abbrev mutual
    pub object_in : TermTree → O
    object_in (t.bound k) = s.bound k
    object_in (t.free_object x) = s.free_object x
    object_in t.null = s.null
    object_in (t.read_object f a) = s.read_object (field_in f) (object_in a)

    pub number_in : IntTree → N
    number_in (t.const z) = s.const z
    number_in (t.free_number x) = s.free_number x
    number_in (t.read_number f a) = s.read_number (field_in f) (object_in a)
    number_in (t.add a b) = s.add (number_in a) (number_in b)
    number_in (t.sub a b) = s.sub (number_in a) (number_in b)
    number_in (t.neg a) = s.neg (number_in a)
    number_in (t.scale z a) = s.scale z (number_in a)
    number_in (t.card a) = s.card (set_in a)

    pub set_in : SetTree → S
    set_in (t.free_set x) = s.free_set x
    set_in (t.read_set f a) = s.read_set (field_in f) (object_in a)
    set_in t.empty = s.empty
    set_in t.univ = s.univ
    set_in (t.single a) = s.single (object_in a)
    set_in (t.union a b) = s.union (set_in a) (set_in b)
    set_in (t.inter a b) = s.inter (set_in a) (set_in b)
    set_in (t.diff a b) = s.diff (set_in a) (set_in b)
    set_in (t.compl a) = s.compl (set_in a)
    set_in (t.compr a) = s.compr (truth_in a)

    pub field_in : FieldTree → F
    field_in (t.free_field x) = s.free_field x
    field_in (t.update f a v) = s.update (field_in f) (object_in a) (any_in v)

    pub any_in : ValueTree → Any O N T S F
    any_in (t.of_object a) = object_any (object_in a)
    any_in (t.of_number a) = number_any (number_in a)
    any_in (t.of_truth a) = truth_any (truth_in a)
    any_in (t.of_set a) = set_any (set_in a)
    any_in (t.of_field a) = field_any (field_in a)

    pub truth_in : FormulaTree → T
    truth_in t.true_formula = s.true_value
    truth_in t.false_formula = s.false_value
    truth_in (t.free_truth x) = s.free_truth x
    truth_in (t.read_truth f a) = s.read_truth (field_in f) (object_in a)
    truth_in (t.negation a) = s.negation (truth_in a)
    truth_in (t.and a b) = s.and (truth_in a) (truth_in b)
    truth_in (t.or a b) = s.or (truth_in a) (truth_in b)
    truth_in (t.implies a b) = s.implies (truth_in a) (truth_in b)
    truth_in (t.iff a b) = s.iff (truth_in a) (truth_in b)
    truth_in (t.all a) = s.all (truth_in a)
    truth_in (t.ex a) = s.ex (truth_in a)
    truth_in (t.eq_object a b) = s.eq_object (object_in a) (object_in b)
    truth_in (t.eq_number a b) = s.eq_number (number_in a) (number_in b)
    truth_in (t.eq_set a b) = s.eq_set (set_in a) (set_in b)
    truth_in (t.less a b) = s.less (number_in a) (number_in b)
    truth_in (t.less_equal a b) = s.less_equal (number_in a) (number_in b)
    truth_in (t.divides z a) = s.divides z (number_in a)
    truth_in (t.member a b) = s.member (object_in a) (set_in b)
    truth_in (t.subset a b) = s.subset (set_in a) (set_in b)
    truth_in (t.reach fs a b) = s.reach (fields_in fs) (object_in a) (object_in b)
    truth_in (t.tree fs) = s.tree (fields_in fs)
    truth_in (t.mark k a) = truth_in a

    pub fields_in : FieldTrees → List F
    fields_in t.none = []
    fields_in (t.more f fs) = field_in f ∷ fields_in fs
