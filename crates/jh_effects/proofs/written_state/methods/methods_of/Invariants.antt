use Rattle.std.proofs.Common.{◌≡◌, ◌<◌, ℕ, List, None, length}
use Rattle.jh_ast.specs.Bare.{program_tree}
use Rattle.jh_symbols.specs.member_numbers.Numbering.{number_in}
use Rattle.jh_vars.specs.Written.{part_of}
use Rattle.jh_effects.specs.written_state.Methods.{callee, AreMethods, AreNumbered}
use Rattle.jh_effects.proofs.written_state.methods.methods_of.Given as goal

abbrev pub invariant-loop-class : goal.invariant-loop-class
invariant-loop-class l = record {
  numbered : AreNumbered l.made.numbers l.made.list.items;
  sound : AreMethods (program_tree l.program) l.made.list.items;
  all : (e : ℕ) (x : List ℕ) → e < l.class → number_in l.made.numbers e x ≡ None → part_of (program_tree l.program) (callee e x) ≡ None;
  classes : length l.made.numbers.maps.items ≡ length l.classes;
}
