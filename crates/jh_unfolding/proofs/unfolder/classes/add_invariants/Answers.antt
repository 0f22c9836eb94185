use Rattle.std.proofs.Common.{◌∷◌, [], sym, subst}
use Rattle.jh_ast.specs.Forms.{LabelledPart}
use Rattle.jh_ast.specs.Bare.{labelled_part, class_part, form_tree}
use Rattle.jh_arena.specs.table.Entries.{Listing}
use Rattle.jh_vars.specs.Opened.{invariant_value}
use Rattle.jh_unfolding.specs.unfolder.Adding.{program_of, IsReady}
use Rattle.jh_unfolding.proofs.unfolder.Addings.{adds-one, adds-next, adds-end}
use Rattle.jh_unfolding.proofs.unfolder.classes.add_invariants.Goals as goal

pub loop-next-init : goal.loop-next-init
loop-next-init c = record { ready = c.requires.ready; adds = λ new rest. rest }

pub loop-next-preserved : goal.loop-next-preserved
loop-next-preserved c =
    let p = program_of c.args.context.now in
    let a = c.loop-next.gathered in
    let b = c.add_node.new.gathered in
    let v = invariant_value p c.args.number (class_part c.args.class.now) (form_tree c.next-item.result.body.body) in
    let one = adds-one p a b c.invariant_node.new.table c.next-item.result.body.number v c.in_ok-node.ensures.grows (c.in_ok-add_node.ensures.adds p v c.in_ok-node.ensures.node) in
    record {
      ready = subst (λ (l : Listing). IsReady l c.args.context.now) (sym c.add_node.ensures.table) c.in_ok-node.ensures.ready;
      adds = λ new rest. c.loop-next.invariant.adds new (adds-next p labelled_part (λ (u : LabelledPart). (u.spec.number, invariant_value (program_of c.args.context.now) c.args.number (class_part c.args.class.now) u.spec.form) ∷ []) c.args.invariants.now a b c.loop-next.next-index c.next-item.result c.loop-next-test.true c.next-item.is one new rest);
    }

pub returns-clause-ready : goal.returns-clause-ready
returns-clause-ready c = c.loop-next.invariant.ready

pub returns-clause-adds : goal.returns-clause-adds
returns-clause-adds c = c.loop-next.invariant.adds c.loop-next.gathered (adds-end (program_of c.args.context.now) labelled_part (λ (u : LabelledPart). (u.spec.number, invariant_value (program_of c.args.context.now) c.args.number (class_part c.args.class.now) u.spec.form) ∷ []) c.args.invariants.now c.loop-next.gathered c.loop-next.next-index c.loop-next-test.false)
