use Rattle.std.proofs.Common.{◌++◌, ap, ◌∙◌, sym, map, arith}
use Rattle.jh_ast.specs.Bare.{class_part, method_part}
use Rattle.jh_lowering.specs.Lowering.{source_of}
use Rattle.jh_outline.specs.declarations.Methods.{known_in, known_of, methods_from}
use Rattle.jh_outline.proofs.declarations.Findings.{methods-step, methods-end}
use Rattle.jh_outline.proofs.declarations.listing.methods_in.Goals as goal

pub loop-class-preserved : goal.loop-class-preserved
loop-class-preserved c =
    let p = source_of c.args.context.now in
    methods-step p c.args.classes.now c.loop-class.class (map (known_in p) c.loop-class.made.items) (methods_from p 0 (map class_part c.args.classes.now)) (map (known_in p) c.push_methods.new.made.items) c.index-classes-class.result c.loop-class-test.true c.index-classes-class.is
    (c.in_ok-push_methods.ensures ∙ ap (λ ms. map (known_in p) c.loop-class.made.items ++ map (known_of p c.loop-class.class) (map method_part ms)) (c.items.ensures ∙ ap (λ k. k.methods) (sym c.index-classes-class.is))) c.loop-class.invariant

pub returns : goal.returns
returns c =
    let p = source_of c.args.context.now in
    methods-end p c.args.classes.now c.loop-class.class (map (known_in p) c.loop-class.made.items) (methods_from p 0 (map class_part c.args.classes.now)) (omega arith) c.loop-class.invariant
