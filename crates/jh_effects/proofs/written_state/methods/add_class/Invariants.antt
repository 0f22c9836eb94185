use Rattle.std.proofs.Common.{◌≡◌, ◌⊎◌, ℕ, List, None, map, take, length}
use Rattle.jh_ast.specs.Bare.{method_part}
use Rattle.jh_ast.specs.Programs.{ProgramTree}
use Rattle.jh_symbols.specs.member_numbers.Numbering.{number_in}
use Rattle.jh_vars.specs.Written.{part_of, method_in}
use Rattle.jh_effects.specs.written_state.Methods.{callee, AreMethods, AreNumbered}
use Rattle.jh_effects.proofs.written_state.methods.add_class.Given as goal

abbrev pub invariant-loop-method : goal.invariant-loop-method
invariant-loop-method l = record {
  numbered : AreNumbered l.made.numbers l.made.list.items;
  sound : (p : ProgramTree) → ((x : List ℕ) → part_of p (callee l.class x) ≡ method_in x (map method_part l.methods)) → AreMethods p l.initial.made.list.items → AreMethods p l.made.list.items;
  all : (x : List ℕ) → number_in l.made.numbers l.class x ≡ None → method_in x (map method_part (take l.method-index l.methods)) ≡ None;
  others : (c : ℕ) (x : List ℕ) → (c ≡ l.class) ⊎ (number_in l.made.numbers c x ≡ number_in l.initial.made.numbers c x);
  classes : length l.made.numbers.maps.items ≡ length l.initial.made.numbers.maps.items;
}
