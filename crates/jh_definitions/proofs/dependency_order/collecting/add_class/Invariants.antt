use Rattle.std.proofs.Common.{◌≡◌, ◌⊎◌, ◌≤◌, ◌<◌, ◌+◌, ℕ, List, None, map, take, length}
use Rattle.jh_ast.specs.Bare.{def_part}
use Rattle.jh_ast.specs.Programs.{ProgramTree}
use Rattle.jh_rules.specs.Names.{declared_in, def_in, def_of}
use Rattle.jh_symbols.specs.scopes.Lookings.{declared_by}
use Rattle.jh_symbols.specs.member_numbers.Numbering.{number_in}
use Rattle.jh_definitions.specs.expansion.Opening.{AreDefinitions}
use Rattle.jh_definitions.specs.dependency_order.Defining.{AreNumbered}
use Rattle.jh_definitions.proofs.dependency_order.collecting.add_class.Given as goal

abbrev pub invariant-loop-def : goal.invariant-loop-def
invariant-loop-def l = record {
  numbered : AreNumbered l.made.numbers l.made.list.items;
  sound : (p : ProgramTree) → declared_by l.lookups ≡ declared_in p → l.class < length p.classes → ((x : List ℕ) → def_of p l.class x ≡ def_in x (map def_part l.defs)) → AreDefinitions p l.initial.made.list.items → AreDefinitions p l.made.list.items;
  all : (x : List ℕ) → number_in l.made.numbers l.class x ≡ None → def_in x (map def_part (take l.def-index l.defs)) ≡ None;
  others : (c : ℕ) (x : List ℕ) → (c ≡ l.class) ⊎ (number_in l.made.numbers c x ≡ number_in l.initial.made.numbers c x);
  classes : length l.made.numbers.maps.items ≡ length l.initial.made.numbers.maps.items;
  few : length l.made.list.items ≤ length l.initial.made.list.items + l.def-index;
}
