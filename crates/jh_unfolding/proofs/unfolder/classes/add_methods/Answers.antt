use Rattle.std.proofs.Common.{◌∙◌, refl, subst}
use Rattle.jh_ast.specs.Bare.{method_part}
use Rattle.jh_vars.specs.Opened.{in_method}
use Rattle.jh_unfolding.specs.unfolder.Adding.{program_of, Adds}
use Rattle.jh_unfolding.proofs.unfolder.Addings.{adds-next, adds-end}
use Rattle.jh_unfolding.proofs.unfolder.classes.add_methods.Goals as goal

pub loop-next-init : goal.loop-next-init
loop-next-init c = record { ready = c.requires; context = refl; adds = λ new rest. rest }

pub loop-next-preserved : goal.loop-next-preserved
loop-next-preserved c =
    let p = program_of c.args.visitor.now.context in
    let a = c.loop-next.visitor.gathered in
    let b = c.add_method.new.visitor.gathered in
    let one = subst (λ y. Adds (program_of y) a b (in_method (program_of y) c.args.class (method_part c.next-item.result))) c.loop-next.invariant.context c.in_ok-add_method.ensures.adds in
    record {
      ready = c.in_ok-add_method.ensures.ready;
      context = c.in_ok-add_method.ensures.context ∙ c.loop-next.invariant.context;
      adds = λ new rest. c.loop-next.invariant.adds new (adds-next p method_part (in_method p c.args.class) c.args.methods.now a b c.loop-next.next-index c.next-item.result c.loop-next-test.true c.next-item.is one new rest);
    }

pub returns-clause-ready : goal.returns-clause-ready
returns-clause-ready c = c.loop-next.invariant.ready

pub returns-clause-context : goal.returns-clause-context
returns-clause-context c = c.loop-next.invariant.context

pub returns-clause-adds : goal.returns-clause-adds
returns-clause-adds c = c.loop-next.invariant.adds c.loop-next.visitor.gathered (adds-end (program_of c.args.visitor.now.context) method_part (in_method (program_of c.args.visitor.now.context) c.args.class) c.args.methods.now c.loop-next.visitor.gathered c.loop-next.next-index c.loop-next-test.false)
