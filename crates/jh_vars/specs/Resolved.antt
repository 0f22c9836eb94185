-- The value of a formula of a source: its names resolved, and what is defined put for each defined variable.
use Rattle.std.specs.Prelude.{ℕ, ℤ, zero, suc, pos, neg_ℤ, ◌+◌, ◌==◌, nat_lt, Bool, List, [], ◌∷◌, ◌++◌, map, length, Option, Some, None, option_map, codes, if◌then◌else◌}
use Rattle.std.specs.List.{list_any}
use Rattle.std.specs.Option.{option_map_or}
use Rattle.jh_name.specs.declared.naming.Name.{Name}
use Rattle.jh_name.specs.declared.place.Kind.{Kind}
use Rattle.jh_name.specs.declared.place.Kind.TheVariants as k
use Rattle.jh_name.specs.declared.place.Sort as place
use Rattle.jh_name.specs.declared.place.Sort.TheVariants as Sort
use Rattle.jh_boxed.specs.jh_form.Tree.{TermTree, IntTree, SetTree, FieldTree, ValueTree, FormulaTree, FieldTrees}
use Rattle.jh_boxed.specs.jh_form.Tree as t
use Rattle.jh_boxed.specs.jh_form.Sorts.{tree_sort, same_sort}
use Rattle.jh_boxed.specs.Mapped.{LeafMap, unchanged, mapped_value, mapped_term}
use Rattle.jh_ast.specs.declared.word.Word.{Word}
use Rattle.jh_ast.specs.declared.spec.SpecOp.{SpecOp}
use Rattle.jh_ast.specs.declared.spec.SpecOp.TheVariants as op
use Rattle.jh_ast.specs.Forms.{FormTree, FormTrees}
use Rattle.jh_ast.specs.Forms as f
use Rattle.jh_rules.specs.Words.{same_text, is_one_of, text_of}
use Rattle.jh_rules.specs.Names.{Declared}
use Rattle.jh_vars.specs.States.{State, state_spelled, state_named}
use Rattle.jh_rules.specs.declared.entries.LocalEntry.{LocalEntry}
use Rattle.jh_rules.specs.Kinds.{kind_of}
use Rattle.jh_rules.specs.Formulas.{equations}

-- a value of a sort where it has that sort, and else anything
abbrev pub as_object : ValueTree → TermTree
as_object (t.of_object a) = a
as_object _ = t.null

abbrev pub as_number : ValueTree → IntTree
as_number (t.of_number a) = a
as_number _ = t.const (pos 0)

abbrev pub as_set : ValueTree → SetTree
as_set (t.of_set a) = a
as_set _ = t.empty

abbrev pub as_truth : ValueTree → FormulaTree
as_truth (t.of_truth a) = a
as_truth _ = t.true_formula

abbrev pub own : List ℕ → ℕ → Name
own text turn = record { text = text; turn = turn }

-- a free name, and the read of a field, at a kind
abbrev pub free : Kind → Name → ValueTree
free k.Obj x = t.of_object (t.free_object x)
free k.Int x = t.of_number (t.free_number x)
free k.Bool x = t.of_truth (t.free_truth x)
free k.Set x = t.of_set (t.free_set x)

abbrev pub read : Kind → Name → TermTree → ValueTree
read k.Obj x a = t.of_object (t.read_object (t.free_field x) a)
read k.Int x a = t.of_number (t.read_number (t.free_field x) a)
read k.Bool x a = t.of_truth (t.read_truth (t.free_field x) a)
read k.Set x a = t.of_set (t.read_set (t.free_field x) a)

-- A term under d more binders: the numbers of its loose bound variables rise by d.
abbrev pub shifting : ℕ → LeafMap
shifting n = record unchanged { bound_at = λ i d. if nat_lt i d then t.bound i else t.bound (i + n) }

abbrev pub shifted : ℕ → TermTree → TermTree
shifted n a = mapped_term a (shifting n) 0

-- A receiver for the one loose variable of a definition's value.
abbrev pub receiving : TermTree → LeafMap
receiving w = record unchanged { bound_at = λ i d. if nat_lt i d then t.bound i else shifted d w }

-- State at the method's entry: names with a dot, sets and fields are state.
abbrev pub turned : Name → Name
turned x = if list_any (λ c. c == 46) x.text then own x.text 1 else x

abbrev pub at_entry : LeafMap
at_entry = record unchanged {
  object_at = λ x d. t.free_object (turned x);
  number_at = λ x d. t.free_number (turned x);
  truth_at = λ x d. t.free_truth (turned x);
  set_at = λ x d. t.free_set (own x.text 1);
  field_at = λ x d. t.free_field (own x.text 1);
}

-- Where a formula stands: the class, the parameters and locals in scope, the kind of `result`, the bound
-- names, the outermost first, and whether `this` is the variable of a binder round the whole.
pub record Spot : Type 0 where
  pub class : ℕ
  pub local : List ℕ → Option LocalEntry
  pub result : Kind
  pub bound : List (List ℕ)
  pub this_bound : Bool

abbrev pub under : Spot → List Word → Spot
under at ws = record { class = at.class; local = at.local; result = at.result; bound = at.bound ++ map text_of ws; this_bound = at.this_bound }

abbrev pub this_at : Spot → TermTree
this_at at = if at.this_bound then t.bound (length at.bound) else t.free_object (own (codes "this") 0)

-- the number of names bound inside the last one of a text
unfoldable pub bound_as : List ℕ → List (List ℕ) → Option ℕ
bound_as x [] = None
bound_as x (y ∷ ys) = option_map_or (λ i. Some i) (bound_as x ys) (if same_text y x then Some (length ys) else None)

-- equality at a sort
abbrev pub equal_at : place.Sort → ValueTree → ValueTree → FormulaTree
equal_at Sort.Obj a b = t.eq_object (as_object a) (as_object b)
equal_at Sort.Int a b = t.eq_number (as_number a) (as_number b)
equal_at Sort.Set a b = t.eq_set (as_set a) (as_set b)
equal_at Sort.Bool a b = t.iff (as_truth a) (as_truth b)
equal_at Sort.Field a b = t.true_formula

-- equality, at the sort of its left side
abbrev pub equal : ValueTree → ValueTree → FormulaTree
equal a b = equal_at (tree_sort a) a b

abbrev pub is_of_sets : ValueTree → Bool
is_of_sets a = same_sort Sort.Set (tree_sort a)

abbrev pub at_most : ValueTree → ValueTree → FormulaTree
at_most a b = if is_of_sets a then t.subset (as_set a) (as_set b) else t.less_equal (as_number a) (as_number b)

abbrev pub difference : ValueTree → ValueTree → ValueTree
difference a b = if is_of_sets a then t.of_set (t.diff (as_set a) (as_set b)) else t.of_number (t.sub (as_number a) (as_number b))

abbrev pub opposite : ValueTree → ValueTree
opposite a = if is_of_sets a then t.of_set (t.compl (as_set a)) else t.of_number (t.neg (as_number a))

-- the number of a literal, plain or negated
unfoldable pub plain_literal : FormTree → Option ℤ
plain_literal (f.number q z) = Some z
plain_literal _ = None

unfoldable pub literal : FormTree → Option ℤ
literal (f.number q z) = Some z
literal (f.minus q a) = option_map neg_ℤ (plain_literal a)
literal _ = None

-- a number so many times, or the number itself where no factor is known
abbrev pub multiple : Option ℤ → ValueTree → ValueTree
multiple (Some z) a = t.of_number (t.scale z (as_number a))
multiple None a = t.of_number (as_number a)

-- a product, whose factor is the literal; of two the left one
abbrev pub scaled : Option ℤ → Option ℤ → ValueTree → ValueTree → ValueTree
scaled (Some z) y a b = multiple (Some z) b
scaled None y a b = multiple y a

-- two values with an operator between them, each with the number that it is as a literal
abbrev pub binary : SpecOp → Option ℤ → ValueTree → Option ℤ → ValueTree → ValueTree
binary op.Implies y a z b = t.of_truth (t.implies (as_truth a) (as_truth b))
binary op.Or y a z b = t.of_truth (t.or (as_truth a) (as_truth b))
binary op.And y a z b = t.of_truth (t.and (as_truth a) (as_truth b))
binary op.Equal y a z b = t.of_truth (equal a b)
binary op.NotEqual y a z b = t.of_truth (t.negation (equal a b))
binary op.Elem y a z b = t.of_truth (t.member (as_object a) (as_set b))
binary op.NotElem y a z b = t.of_truth (t.negation (t.member (as_object a) (as_set b)))
binary op.Less y a z b = t.of_truth (t.less (as_number a) (as_number b))
binary op.Greater y a z b = t.of_truth (t.less (as_number b) (as_number a))
binary op.LessEq y a z b = t.of_truth (at_most a b)
binary op.GreaterEq y a z b = t.of_truth (at_most b a)
binary op.Union y a z b = t.of_set (t.union (as_set a) (as_set b))
binary op.Inter y a z b = t.of_set (t.inter (as_set a) (as_set b))
binary op.Add y a z b = t.of_number (t.add (as_number a) (as_number b))
binary op.Sub y a z b = difference a b
binary op.Mul y a z b = scaled y z a b

-- a union with one more single, where there is one
abbrev pub with_single : Option SetTree → TermTree → SetTree
with_single None a = t.single a
with_single (Some made) a = t.union made (t.single a)

-- under so many quantifiers
unfoldable pub quantified : (FormulaTree → FormulaTree) → ℕ → FormulaTree → FormulaTree
quantified q zero a = a
quantified q (suc n) a = q (quantified q n a)

abbrev pub kind_of_local : LocalEntry → Kind
kind_of_local x = option_map_or kind_of x.ty k.Obj

abbrev pub kind_known : State → Kind
kind_known x = option_map_or (λ u. u) x.entry.kind k.Obj

-- the state name of a field, static or variable, by the texts of the classes
abbrev pub state_name : (ℕ → List ℕ) → State → Name
state_name spelled x = own (spelled x.entry.class ++ codes "." ++ x.name) 0

-- over what is declared, and the texts of the classes by their numbers
module _ (l : Declared) (spelled : ℕ → List ℕ) where
  abbrev pub field_name : Spot → Word → Name
  field_name at w = option_map_or (state_name spelled) (state_named l at.class (text_of w)) (own [] 0)

  unfoldable pub field_list : Spot → List Word → FieldTrees
  field_list at [] = t.none
  field_list at (w ∷ ws) = t.more (t.free_field (field_name at w)) (field_list at ws)

  abbrev pub path_fields : Spot → Word → Word → FormTree → FieldTrees
  path_fields at x y body = option_map_or (field_list at) (equations (text_of x) (text_of y) body) t.none

-- and over what defined variables stand for
module _ (l : Declared) (spelled : ℕ → List ℕ) (meaning : ℕ → List ℕ → ValueTree) where
  -- a static, or a defined static variable
  abbrev pub static_value : State → ValueTree
  static_value x = if x.entry.is_defined then meaning x.entry.class x.name else free (kind_known x) (state_name spelled x)

  -- a member of an object, or what is defined for it
  abbrev pub member_value : State → TermTree → ValueTree
  member_value x a = if x.entry.is_defined then mapped_value (meaning x.entry.class x.name) (receiving a) 0 else read (kind_known x) (state_name spelled x) a

  abbrev pub state_value : Spot → State → ValueTree
  state_value at x = if x.entry.fixed then static_value x else member_value x (this_at at)

  -- a field, static or variable, or else the set of the objects of a class
  abbrev pub state_or_class : Spot → Word → ValueTree
  state_or_class at w = option_map_or (state_value at) (state_spelled l at.class (text_of w)) (t.of_set (t.free_set (own (text_of w) 0)))

  abbrev pub outer_value : Spot → Word → ValueTree
  outer_value at w =
      if same_text (text_of w) (codes "this") then t.of_object (this_at at) else
      if same_text (text_of w) (codes "result") then free at.result (own (codes "result") 0) else
      if is_one_of (text_of w) (codes "alloc" ∷ codes "Object" ∷ codes "Object.alloc" ∷ []) then t.of_set (t.free_set (own (codes "alloc") 0)) else
      state_or_class at w

  -- a parameter or local, or else what is found outside the method
  abbrev pub local_value : Spot → Word → ValueTree
  local_value at w = option_map_or (λ (l : LocalEntry). free (kind_of_local l) (own (text_of w) 0)) (at.local (text_of w)) (outer_value at w)

  abbrev pub name_value : Spot → Word → ValueTree
  name_value at w = option_map_or (λ i. t.of_object (t.bound i)) (bound_as (text_of w) at.bound) (local_value at w)

  abbrev pub after_dots : Spot → TermTree → Word → ValueTree
  after_dots at a w = option_map_or (λ x. member_value x a) (state_named l at.class (text_of w)) (t.of_object a)

  unfoldable mutual
    pub resolved : FormTree → Spot → ValueTree
    resolved (f.null q) at = t.of_object t.null
    resolved (f.yes q) at = t.of_truth t.true_formula
    resolved (f.no q) at = t.of_truth t.false_formula
    resolved (f.univ q) at = t.of_set t.univ
    resolved (f.number q z) at = t.of_number (t.const z)
    resolved (f.name q w) at = name_value at w
    resolved (f.member q a w) at = after_dots at (as_object (resolved a at)) w
    resolved (f.negation q a) at = t.of_truth (t.negation (as_truth (resolved a at)))
    resolved (f.minus q a) at = opposite (resolved a at)
    resolved (f.old q a) at = mapped_value (resolved a at) at_entry 0
    resolved (f.card q a) at = t.of_number (t.card (as_set (resolved a at)))
    resolved (f.binary q o a b) at = binary o (literal a) (resolved a at) (literal b) (resolved b at)
    resolved (f.dvd q z a) at = t.of_truth (t.divides z (as_number (resolved a at)))
    resolved (f.all q ws a) at = t.of_truth (quantified t.all (length ws) (as_truth (resolved a (under at ws))))
    resolved (f.ex q ws a) at = t.of_truth (quantified t.ex (length ws) (as_truth (resolved a (under at ws))))
    resolved (f.tree q ws) at = t.of_truth (t.tree (field_list l spelled at ws))
    resolved (f.rtrancl q x y body a b) at = t.of_truth (t.reach (path_fields l spelled at x y body) (as_object (resolved a at)) (as_object (resolved b at)))
    resolved (f.braces q fs) at = t.of_set (union_of fs at None)
    resolved (f.compr q w a) at = t.of_set (t.compr (as_truth (resolved a (under at (w ∷ [])))))

    -- a union of singles, grouped to the left, with what is made of those before
    pub union_of : FormTrees → Spot → Option SetTree → SetTree
    union_of f.none at made = option_map_or (λ s. s) made t.empty
    union_of (f.more a fs) at made = union_of fs at (Some (with_single made (as_object (resolved a at))))
