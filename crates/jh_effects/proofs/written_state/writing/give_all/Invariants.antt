use Rattle.std.proofs.Common.{◌≡◌, ◌++◌, drop}
use Rattle.jh_ast.specs.Bare.{program_tree}
use Rattle.jh_effects.specs.direct_effects.Effects.{writes_in}
use Rattle.jh_effects.specs.written_state.Methods.{given_to}
use Rattle.jh_effects.proofs.written_state.writing.give_all.Given as goal

abbrev pub invariant-loop-write : goal.invariant-loop-write
invariant-loop-write l = record {
  given : l.flow.given.items ++ given_to (program_tree l.program) l.of (writes_in (drop l.write-index l.writes)) ≡ l.initial.flow.given.items ++ given_to (program_tree l.program) l.of (writes_in l.writes);
  links : l.flow.links.items ≡ l.initial.flow.links.items;
}
