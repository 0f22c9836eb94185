use Rattle.std.proofs.Common.{◌≡◌, ◌++◌, drop, map}
use Rattle.jh_semantics.specs.typed_code.Statements.{local_in}
use Rattle.jh_heap.specs.text.Held.{holders_in}
use Rattle.jh_heap.specs.text.Outlines.{parameter_holder}
use Rattle.jh_heap_layout.proofs.layout.members.params.Given as goal

abbrev pub invariant-loop-param : goal.invariant-loop-param
invariant-loop-param l = holders_in l.made.items ++ map parameter_holder (map local_in (drop l.param-index l.fn.params)) ≡ map parameter_holder (map local_in l.fn.params)
