use Rattle.std.proofs.Common.{◌≡◌, sym, ap, subst, ◌∙◌, ℕ, List, None, Some, map, length, get_or, slice_get, arith}
use Rattle.jh_ast.specs.declared.program.Class.{Class}
use Rattle.jh_ast.specs.declared.program.Method.{Method}
use Rattle.jh_ast.specs.Bare.{method_part, program_tree}
use Rattle.jh_symbols.specs.member_numbers.Numbering.{number_in}
use Rattle.jh_containers.proofs.transitive_closure.Places.{item-get}
use Rattle.jh_vars.specs.Written.{method_in}
use Rattle.jh_effects.proofs.written_state.Collecting.{part-of-class, all-below, all-end}
use Rattle.jh_effects.proofs.written_state.methods.methods_of.Goals as goal

-- src/methods.rt
pub loop-class-preserved : goal.loop-class-preserved
loop-class-preserved c =
    let p = c.args.program.now in
    let cs = c.items-classes.result.now in
    let n = c.loop-class.class in
    let class = get_or cs n c.index-classes-class.result in
    let old = c.loop-class.made in
    let new = c.add_class.new.made in
    let at : slice_get cs n ≡ Some class = item-get cs n c.index-classes-class.result c.loop-class-test.true in
    let here : slice_get p.classes n ≡ Some class = ap (λ (ks : List Class). slice_get ks n) (sym c.items-classes.ensures) ∙ at in
    record {
      numbered = c.in_ok-add_class.ensures.numbered;
      sound = c.in_ok-add_class.ensures.sound (program_tree p) (λ x. part-of-class p n class here x ∙ ap (λ (ms : List Method). method_in x (map method_part ms)) (sym c.items.ensures)) c.loop-class.invariant.sound;
      all = all-below p old.numbers new.numbers n class here (subst (λ (ms : List Method). (x : List ℕ) → number_in new.numbers n x ≡ None → method_in x (map method_part ms) ≡ None) c.items.ensures c.in_ok-add_class.ensures.all) c.in_ok-add_class.ensures.others c.loop-class.invariant.all;
      classes = c.in_ok-add_class.ensures.classes ∙ c.loop-class.invariant.classes;
    }

-- src/methods.rt
pub returns-clause-all : goal.returns-clause-all
returns-clause-all c =
    let long : length c.args.program.now.classes ≡ length c.items-classes.result.now = ap length (sym c.items-classes.ensures) in
    all-end c.args.program.now c.loop-class.made.numbers c.loop-class.class (omega arith) c.loop-class.invariant.all
