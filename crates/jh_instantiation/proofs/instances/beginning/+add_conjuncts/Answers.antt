use Rattle.std.proofs.Common.{sym, subst, arith, List, ◌++◌, map, slice_get, OnOk}
use Rattle.std.proofs.lemmas.Result.{on_ok_weaker}
use Rattle.jh_form.specs.Tree.{FormulaTree}
use Rattle.jh_form.specs.Tree as tree
use Rattle.jh_arena.specs.table.Nodes.{nodes}
use Rattle.jh_arena.specs.declared.table.shapes.Shape.TheVariants as s
use Rattle.jh_inst.specs.instances.Entries.{Entry, part_of, conjuncts}
use Rattle.jh_inst.specs.instances.Witnesses.{constants_from}
use Rattle.jh_instantiation.proofs.skolem_constants.Shapes.{truth-inside, truth-grows, formula-grows, formula-there, formula-same, shaped, and-parts, not-and}
use Rattle.jh_instantiation.specs.instances.Standing.{IsMade}
use Rattle.jh_instantiation.proofs.instances.Parts.{conjuncts-else, parts-both}
use Rattle.jh_instantiation.proofs.instances.beginning.+add_conjuncts.Goals as goal

pub add_conjuncts-shape-requires : goal.add_conjuncts-shape-requires
add_conjuncts-shape-requires t c = truth-inside (nodes c.args.table.now) c.args.node c.requires.there

pub add_conjuncts-add_both-requires : goal.add_conjuncts-add_both-requires
add_conjuncts-add_both-requires t c =
    let u = c.args.table.now in
    let p = and-parts u c.args.node c.in-And.a c.in-And.b (shaped u c.args.node c.shape.result (s.And c.in-And.a c.in-And.b) c.shape.ensures.tree c.shape.ensures.fits c.shape.ensures.below c.in-And.is) in
    (omega (arith, c.decreases, p.first, p.second), (formula-there (nodes u) c.in-And.a p.a p.left, (formula-there (nodes u) c.in-And.b p.b p.right, (p.first, p.second))))

pub add_conjuncts-returns-in-And-clause-made : goal.add_conjuncts-returns-in-And-clause-made
add_conjuncts-returns-in-And-clause-made t c = λ es a hm e.
    let u = c.args.table.now in
    let v = c.add_both.new.table in
    let p = and-parts u c.args.node c.in-And.a c.in-And.b (shaped u c.args.node c.shape.result (s.And c.in-And.a c.in-And.b) c.shape.ensures.tree c.shape.ensures.fits c.shape.ensures.below c.in-And.is) in
    let part = part_of c.args.fact.number (constants_from c.args.fact.first c.args.fact.fresh) in
    subst (λ (z : FormulaTree). OnOk c.add_both.result (IsMade v c.add_both.new.entries (es ++ map part (conjuncts z)))) (formula-same (slice_get (nodes u) c.args.node) (tree.and p.a p.b) a p.whole e)
    (on_ok_weaker c.add_both.result (subst (λ (fs : List Entry). IsMade v c.add_both.new.entries fs) (parts-both part es (conjuncts p.a) (conjuncts p.b)))
    (c.add_both.ensures.made es p.a p.b hm p.left p.right))

pub add_conjuncts-returns-in_default-clause-made : goal.add_conjuncts-returns-in_default-clause-made
add_conjuncts-returns-in_default-clause-made t c = λ es a hm e.
    let u = c.args.table.now in
    let v = c.add_part.new.table in
    let part = part_of c.args.fact.number (constants_from c.args.fact.first c.args.fact.fresh) in
    let same = conjuncts-else a (not-and u c.args.node c.shape.result a c.shape.ensures.tree e c.in_default.not-And) in
    subst (λ (zs : List FormulaTree). OnOk c.add_part.result (IsMade v c.add_part.new.entries (es ++ map part zs))) (sym same) (c.add_part.ensures.made es a hm e)

pub add_both-add_conjuncts-requires-2 : goal.add_both-add_conjuncts-requires-2
add_both-add_conjuncts-requires-2 t c = (omega (arith, c.decreases, c.requires.below.1), truth-grows c.args.table.now c.add_conjuncts.new.table c.args.b c.add_conjuncts.ensures.grows c.requires.second)

pub add_both-returns-clause-made : goal.add_both-returns-clause-made
add_both-returns-clause-made t c = λ es p q hm hp hq.
    let part = part_of c.args.fact.number (constants_from c.args.fact.first c.args.fact.fresh) in
    c.add_conjuncts-2.ensures.made (es ++ map part (conjuncts p)) q (c.in_ok-add_conjuncts.ensures.made es p hm hp) (formula-grows c.args.table.now c.add_conjuncts.new.table c.args.b q c.add_conjuncts.ensures.grows hq)
