-- What a table holds, and what stands at a number of it: a default, which no contract looks at, where
-- nothing of the sort does.
use Rattle.std.specs.Prelude.{ℕ, pos, Bool, true, false, ◌&&◌, List, [], ◌∷◌, Option, Some, None, slice_get}
use Rattle.jh_boxed.specs.jh_name.declared.naming.Name.{Name}
use Rattle.jh_form.specs.declared.mark.Mark.{Mark}
use Rattle.jh_form.specs.declared.mark.MarkKind.TheVariants as kind
use Rattle.jh_form.specs.Tree.{TermTree, IntTree, SetTree, FieldTree, ValueTree, FormulaTree, FieldTrees, of_object, of_number, of_truth, of_set, of_field, none, more}
use Rattle.jh_form.specs.Tree as t
use Rattle.jh_arena.specs.declared.table.shapes.Shape.{Shape}

-- The names, labels and lists of fields that nodes speak of by number. A list of fields is a list of
-- nodes.
pub record Pools : Type 0 where
  pub names : List Name
  pub marks : List Mark
  pub lists : List (List ℕ)

-- the pools of a table, and its nodes
pub record Listing : Type 0 where
  pub pools : Pools
  pub shapes : List Shape

abbrev no_name : Name
no_name = record { text = []; turn = 0 }

unfoldable pub the_name : Option Name → Name
the_name (Some x) = x
the_name None = no_name

unfoldable pub the_mark : Option Mark → Mark
the_mark (Some k) = k
the_mark None = record { kind = kind.Null; place = record { line = 0; column = 0 }; name = None; from = [] }

unfoldable pub the_list : Option (List ℕ) → List ℕ
the_list (Some ns) = ns
the_list None = []

unfoldable pub is_object : Option ValueTree → Bool
is_object (Some (of_object a)) = true
is_object _ = false

unfoldable pub is_number : Option ValueTree → Bool
is_number (Some (of_number a)) = true
is_number _ = false

unfoldable pub is_truth : Option ValueTree → Bool
is_truth (Some (of_truth a)) = true
is_truth _ = false

unfoldable pub is_set : Option ValueTree → Bool
is_set (Some (of_set a)) = true
is_set _ = false

unfoldable pub is_field : Option ValueTree → Bool
is_field (Some (of_field a)) = true
is_field _ = false

unfoldable pub the_object : Option ValueTree → TermTree
the_object (Some (of_object a)) = a
the_object _ = t.null

unfoldable pub the_number : Option ValueTree → IntTree
the_number (Some (of_number a)) = a
the_number _ = t.const (pos 0)

unfoldable pub the_truth : Option ValueTree → FormulaTree
the_truth (Some (of_truth a)) = a
the_truth _ = t.true_formula

unfoldable pub the_set : Option ValueTree → SetTree
the_set (Some (of_set a)) = a
the_set _ = t.empty

unfoldable pub the_field : Option ValueTree → FieldTree
the_field (Some (of_field a)) = a
the_field _ = t.free_field no_name

unfoldable pub the_value : Option ValueTree → ValueTree
the_value (Some v) = v
the_value None = of_object t.null

-- whether each of these nodes is a field
unfoldable pub are_fields : List ValueTree → List ℕ → Bool
are_fields ts [] = true
are_fields ts (n ∷ ns) = is_field (slice_get ts n) && are_fields ts ns

-- the fields at these nodes
unfoldable pub fields_at : List ValueTree → List ℕ → FieldTrees
fields_at ts [] = none
fields_at ts (n ∷ ns) = more (the_field (slice_get ts n)) (fields_at ts ns)
