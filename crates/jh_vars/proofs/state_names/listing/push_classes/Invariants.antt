use Rattle.std.proofs.Common.{◌≡◌, ◌++◌, map, drop}
use Rattle.jh_ast.specs.Bare.{class_part}
use Rattle.jh_vars.specs.state_names.States.{members}
use Rattle.jh_vars.proofs.state_names.listing.push_classes.Given as goal

abbrev pub invariant-loop-number : goal.invariant-loop-number
invariant-loop-number l = l.list.items ++ members l.number (map class_part (drop l.number l.classes)) ≡ l.initial.list.items ++ members 0 (map class_part l.classes)
