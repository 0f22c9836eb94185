use Rattle.std.proofs.Common.{◌∙◌, refl, subst, arith}
use Rattle.jh_ast.specs.Bare.{class_part}
use Rattle.jh_vars.specs.Opened.{in_class}
use Rattle.jh_unfolding.specs.unfolder.Adding.{program_of, Adds}
use Rattle.jh_unfolding.proofs.unfolder.Addings.{adds-class, adds-classes-end}
use Rattle.jh_unfolding.proofs.unfolder.classes.add_classes.Goals as goal

pub loop-number-init : goal.loop-number-init
loop-number-init c = record { ready = c.requires.ready; context = refl; adds = λ new rest. rest }

pub loop-number-preserved : goal.loop-number-preserved
loop-number-preserved c =
    let p = program_of c.args.visitor.now.context in
    let a = c.loop-number.visitor.gathered in
    let b = c.add_class.new.visitor.gathered in
    let one = subst (λ y. Adds (program_of y) a b (in_class (program_of y) c.loop-number.number (class_part c.index-classes-number.result))) c.loop-number.invariant.context c.in_ok-add_class.ensures.adds in
    record {
      ready = c.in_ok-add_class.ensures.ready;
      context = c.in_ok-add_class.ensures.context ∙ c.loop-number.invariant.context;
      adds = λ new rest. c.loop-number.invariant.adds new (adds-class p c.args.classes.now a b c.loop-number.number c.index-classes-number.result c.loop-number-test.true c.index-classes-number.is one new rest);
    }

pub returns : goal.returns
returns c = record { adds = c.loop-number.invariant.adds c.loop-number.visitor.gathered (adds-classes-end (program_of c.args.visitor.now.context) c.args.classes.now c.loop-number.visitor.gathered c.loop-number.number (omega arith)) }
