-- What stands for the parts of formulas at nodes, by the places of names.
use Rattle.std.specs.Prelude.{ℕ, List, slice_get}
use Rattle.jh_form.specs.Tree.{ValueTree, of_object, of_number, of_truth, of_set}
use Rattle.jh_arena.specs.table.Entries.{the_object, the_number, the_set, the_truth}
use Rattle.jh_query.specs.queries.Tree.{SetExprTree, NumTree, CondTree}
use Rattle.jh_approx.specs.definition.Names.{place_in}
use Rattle.jh_approx.specs.definition.Told.{told_set, told_number, told}
use Rattle.jh_query_names.specs.declared.name_lists.listed.Listed.{Listed}
use Rattle.jh_query_names.specs.name_lists.Lists.{lists_of}

module _ (ts : List ValueTree) (names : Listed) (n : ℕ) where
  -- the places of the names at a node
  abbrev pub element_place : ℕ
  element_place = place_in (lists_of ts names).elements (of_object (the_object (slice_get ts n)))

  abbrev pub set_place : ℕ
  set_place = place_in (lists_of ts names).sets (of_set (the_set (slice_get ts n)))

  abbrev pub number_place : ℕ
  number_place = place_in (lists_of ts names).numbers (of_number (the_number (slice_get ts n)))

  abbrev pub flag_place : ℕ
  flag_place = place_in (lists_of ts names).flags (of_truth (the_truth (slice_get ts n)))

  -- what stands for the set, the number and the formula at a node
  abbrev pub set_at : SetExprTree
  set_at = told_set (lists_of ts names) (the_set (slice_get ts n))

  abbrev pub number_at : NumTree
  number_at = told_number (lists_of ts names) (the_number (slice_get ts n))

  abbrev pub cond_at : CondTree
  cond_at = told (lists_of ts names) (the_truth (slice_get ts n))
