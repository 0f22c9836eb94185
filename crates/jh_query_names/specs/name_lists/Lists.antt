-- The names of a query at nodes, by their sorts.
use Rattle.std.specs.Prelude.{ℕ, List, length, nat_eq}
use Rattle.std.specs.List.{IsDistinct}
use Rattle.jh_form.specs.Tree.{ValueTree}
use Rattle.jh_approx.specs.definition.Names.{NameLists}
use Rattle.jh_query_names.specs.query_names.Finding.{values_at, AreBelow}
use Rattle.jh_query_names.specs.declared.name_lists.listed.Listed.{Listed}

-- the names at the nodes of each list
abbrev pub lists_of : List ValueTree → Listed → NameLists
lists_of ts l = record {
  sets = values_at ts l.sets.keys;
  elements = values_at ts l.elements.keys;
  numbers = values_at ts l.numbers.keys;
  flags = values_at ts l.flags.keys;
}

-- The nodes stand in the table, each once in its list.
pub record AreNodes (ts : List ValueTree) (ns : List ℕ) : Type 0 where
  pub inside : AreBelow (length ts) ns
  pub once : IsDistinct nat_eq ns

-- the nodes of each list
pub record AreListed (ts : List ValueTree) (l : Listed) : Type 0 where
  pub sets : AreNodes ts l.sets.keys
  pub elements : AreNodes ts l.elements.keys
  pub numbers : AreNodes ts l.numbers.keys
  pub flags : AreNodes ts l.flags.keys
