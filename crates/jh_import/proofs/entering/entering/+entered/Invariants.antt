use Rattle.std.proofs.Common.{drop}
use Rattle.jh_form.specs.Bare.{list_tree}
use Rattle.jh_arena.specs.table.Growth.{Extends}
use Rattle.jh_import.specs.entering.Entered.{AddsFields}
use Rattle.jh_import.proofs.entering.Fields.{Entering}
use Rattle.jh_import.proofs.entering.entering.+entered.Given as goal

abbrev pub invariant-enter_fields-loop-field : goal.invariant-enter_fields-loop-field
invariant-enter_fields-loop-field l = record {
  grows : Extends l.fn.table l.table;
  entering : Entering l.table l.made.items (list_tree (drop l.field-index l.fields)) (list_tree l.fields);
  only : AddsFields l.fn.table l.table (list_tree l.fields);
}
