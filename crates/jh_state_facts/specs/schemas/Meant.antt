-- The formula that a schema is, with names in its slots.
use Rattle.std.specs.Prelude.{pos}
use Rattle.jh_name.specs.declared.naming.Name.{Name}
use Rattle.jh_form.specs.Tree.{TermTree, IntTree, SetTree, FormulaTree}
use Rattle.jh_form.specs.Tree as t
use Rattle.jh_state_facts.specs.declared.schemas.schema.Slot.{Slot}
use Rattle.jh_state_facts.specs.declared.schemas.schema.Slot.TheVariants as slot
use Rattle.jh_state_facts.specs.declared.schemas.schema.Named.{Named}
use Rattle.jh_state_facts.specs.declared.schemas.schema.Slots.{Slots}
use Rattle.jh_state_facts.specs.declared.schemas.schema.ObjectSchema.{ObjectSchema}
use Rattle.jh_state_facts.specs.declared.schemas.schema.ObjectSchema.TheVariants as o
use Rattle.jh_state_facts.specs.declared.schemas.schema.NumberSchema.{NumberSchema}
use Rattle.jh_state_facts.specs.declared.schemas.schema.NumberSchema.TheVariants as n
use Rattle.jh_state_facts.specs.declared.schemas.schema.SetSchema.{SetSchema}
use Rattle.jh_state_facts.specs.declared.schemas.schema.SetSchema.TheVariants as s
use Rattle.jh_state_facts.specs.declared.schemas.schema.Schema.{Schema}
use Rattle.jh_state_facts.specs.declared.schemas.schema.Schema.TheVariants as f

-- the names of the three slots
pub record Names : Type 0 where
  pub first : Name
  pub second : Name
  pub third : Name

abbrev pub name_in : Named → Name
name_in x = record { text = x.text.now; turn = x.turn }

abbrev pub names_in : Slots → Names
names_in x = record { first = name_in x.first; second = name_in x.second; third = name_in x.third }

abbrev pub name_of : Names → Slot → Name
name_of x slot.First = x.first
name_of x slot.Second = x.second
name_of x slot.Third = x.third

module _ (x : Names) where
  -- the variable of the binder is the innermost one
  abbrev pub object_of : ObjectSchema → TermTree
  object_of o.Variable = t.bound 0
  object_of o.Null = t.null
  object_of (o.Name k) = t.free_object (name_of x k)
  object_of (o.Read k) = t.read_object (t.free_field (name_of x k)) (t.bound 0)

  abbrev pub number_of : NumberSchema → IntTree
  number_of n.Zero = t.const (pos 0)
  number_of (n.Name k) = t.free_number (name_of x k)
  number_of (n.Read k) = t.read_number (t.free_field (name_of x k)) (t.bound 0)

  abbrev pub set_of : SetSchema → SetTree
  set_of s.Empty = t.empty
  set_of (s.Name k) = t.free_set (name_of x k)
  set_of (s.Read k) = t.read_set (t.free_field (name_of x k)) (t.bound 0)
  set_of (s.Both k l) = t.inter (t.free_set (name_of x k)) (t.free_set (name_of x l))

  abbrev pub formula_of : Schema → FormulaTree
  formula_of (f.Name k) = t.free_truth (name_of x k)
  formula_of (f.Read k) = t.read_truth (t.free_field (name_of x k)) (t.bound 0)
  formula_of (f.Not' i a) = t.negation (formula_of a)
  formula_of (f.And' i a j b) = t.and (formula_of a) (formula_of b)
  formula_of (f.Or' i a j b) = t.or (formula_of a) (formula_of b)
  formula_of (f.Implies' i a j b) = t.implies (formula_of a) (formula_of b)
  formula_of (f.Iff' i a j b) = t.iff (formula_of a) (formula_of b)
  formula_of (f.All' i a) = t.all (formula_of a)
  formula_of (f.SameObject a b) = t.eq_object (object_of a) (object_of b)
  formula_of (f.SameNumber a b) = t.eq_number (number_of a) (number_of b)
  formula_of (f.SameSet a b) = t.eq_set (set_of a) (set_of b)
  formula_of (f.Member a b) = t.member (object_of a) (set_of b)
  formula_of (f.Subset a b) = t.subset (set_of a) (set_of b)
