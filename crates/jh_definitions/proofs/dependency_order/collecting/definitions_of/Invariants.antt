use Rattle.std.proofs.Common.{◌≡◌, ◌≤◌, ◌<◌, ◌+◌, ℕ, List, None, map, drop, length}
use Rattle.std.specs.List.{sum_by}
use Rattle.jh_ast.specs.Bare.{class_part}
use Rattle.jh_rules.specs.Names.{def_of}
use Rattle.jh_symbols.specs.member_numbers.Numbering.{number_in}
use Rattle.jh_vars.specs.Opened.{all_definitions}
use Rattle.jh_definitions.specs.expansion.Opening.{source_of, AreDefinitions}
use Rattle.jh_definitions.specs.dependency_order.Defining.{AreNumbered}
use Rattle.jh_definitions.proofs.dependency_order.Collected.{defs_long}
use Rattle.jh_definitions.proofs.dependency_order.collecting.definitions_of.Given as goal

abbrev pub invariant-loop-class : goal.invariant-loop-class
invariant-loop-class l = record {
  numbered : AreNumbered l.made.numbers l.made.list.items;
  sound : AreDefinitions (source_of l.classes) l.made.list.items;
  all : (e : ℕ) (x : List ℕ) → e < l.class → number_in l.made.numbers e x ≡ None → def_of (source_of l.classes) e x ≡ None;
  classes : length l.made.numbers.maps.items ≡ length l.classes;
  few : length l.made.list.items + sum_by defs_long (drop l.class (map class_part l.classes)) ≤ all_definitions (source_of l.classes);
}
