use Rattle.std.proofs.Common.{◌≡◌, ◌++◌, string_bytes}
use Rattle.jh_gen.specs.Generated as spec
use Rattle.jh_gen.proofs.text.add_methods.Given as goal

abbrev pub invariant-loop-done : goal.invariant-loop-done
invariant-loop-done l = string_bytes l.text ≡ string_bytes l.initial.text ++ spec.text_of (spec.method_lines l.seed l.done)
