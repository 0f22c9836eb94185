use Rattle.std.proofs.Common.{refl, sym, ap, ◌∙◌, slice_get, arith}
use Rattle.jh_form.specs.Tree as tree
use Rattle.jh_arena.specs.table.Entries.{the_mark}
use Rattle.jh_arena.specs.table.Nodes.{nodes}
use Rattle.jh_arena.specs.declared.table.shapes.Shape.TheVariants as s
use Rattle.jh_inst.specs.instances.Instances.{is_ground}
use Rattle.jh_instantiation.proofs.skolem_constants.Plains.{IsPlain, ground-plain}
use Rattle.jh_instantiation.proofs.skolem_constants.Shapes.{truth-inside, formula-same, formula-there, shaped, tree-is, negation-part, mark-part, and-parts, or-parts, implies-parts, iff-parts, all-part, ex-part}
use Rattle.jh_instantiation.proofs.skolem_constants.grounds.+is_ground.Goals as goal

pub is_ground-shape-requires : goal.is_ground-shape-requires
is_ground-shape-requires t c = truth-inside (nodes c.args.table.now) c.args.node c.requires.there

pub is_ground-is_ground-requires : goal.is_ground-is_ground-requires
is_ground-is_ground-requires t c =
    let u = c.args.table.now in
    let p = negation-part u c.args.node c.in-Negation.a (shaped u c.args.node c.shape.result (s.Negation c.in-Negation.a) c.shape.ensures.tree c.shape.ensures.fits c.shape.ensures.below c.in-Negation.is) in
    (omega (arith, c.decreases, p.first), formula-there (nodes u) c.in-Negation.a p.a p.left)

pub is_ground-returns-in-Negation : goal.is_ground-returns-in-Negation
is_ground-returns-in-Negation t c = λ a e.
    let u = c.args.table.now in
    let p = negation-part u c.args.node c.in-Negation.a (shaped u c.args.node c.shape.result (s.Negation c.in-Negation.a) c.shape.ensures.tree c.shape.ensures.fits c.shape.ensures.below c.in-Negation.is) in
    c.is_ground.ensures p.a p.left ∙ ap is_ground (formula-same (slice_get (nodes u) c.args.node) (tree.negation p.a) a p.whole e)

pub is_ground-is_ground-requires-in-Mark : goal.is_ground-is_ground-requires-in-Mark
is_ground-is_ground-requires-in-Mark t c =
    let u = c.args.table.now in
    let p = mark-part u c.args.node c.in-Mark.a c.in-Mark.field-0 (shaped u c.args.node c.shape.result (s.Mark c.in-Mark.field-0 c.in-Mark.a) c.shape.ensures.tree c.shape.ensures.fits c.shape.ensures.below c.in-Mark.is) in
    (omega (arith, c.decreases, p.first), formula-there (nodes u) c.in-Mark.a p.a p.left)

pub is_ground-returns-in-Mark : goal.is_ground-returns-in-Mark
is_ground-returns-in-Mark t c = λ a e.
    let u = c.args.table.now in
    let p = mark-part u c.args.node c.in-Mark.a c.in-Mark.field-0 (shaped u c.args.node c.shape.result (s.Mark c.in-Mark.field-0 c.in-Mark.a) c.shape.ensures.tree c.shape.ensures.fits c.shape.ensures.below c.in-Mark.is) in
    c.is_ground-in-Mark.ensures p.a p.left ∙ ap is_ground (formula-same (slice_get (nodes u) c.args.node) (tree.mark (the_mark (slice_get u.pools.marks c.in-Mark.field-0)) p.a) a p.whole e)

pub is_ground-are_ground-requires : goal.is_ground-are_ground-requires
is_ground-are_ground-requires t c =
    let u = c.args.table.now in
    let p = and-parts u c.args.node c.in-And.a c.in-And.b (shaped u c.args.node c.shape.result (s.And c.in-And.a c.in-And.b) c.shape.ensures.tree c.shape.ensures.fits c.shape.ensures.below c.in-And.is) in
    (omega (arith, c.decreases, p.first, p.second), (formula-there (nodes u) c.in-And.a p.a p.left, (formula-there (nodes u) c.in-And.b p.b p.right, (p.first, p.second))))

pub is_ground-returns-in-And : goal.is_ground-returns-in-And
is_ground-returns-in-And t c = λ a e.
    let u = c.args.table.now in
    let p = and-parts u c.args.node c.in-And.a c.in-And.b (shaped u c.args.node c.shape.result (s.And c.in-And.a c.in-And.b) c.shape.ensures.tree c.shape.ensures.fits c.shape.ensures.below c.in-And.is) in
    c.are_ground.ensures p.a p.b p.left p.right ∙ ap is_ground (formula-same (slice_get (nodes u) c.args.node) (tree.and p.a p.b) a p.whole e)

pub is_ground-are_ground-requires-in-Or : goal.is_ground-are_ground-requires-in-Or
is_ground-are_ground-requires-in-Or t c =
    let u = c.args.table.now in
    let p = or-parts u c.args.node c.in-Or.a c.in-Or.b (shaped u c.args.node c.shape.result (s.Or c.in-Or.a c.in-Or.b) c.shape.ensures.tree c.shape.ensures.fits c.shape.ensures.below c.in-Or.is) in
    (omega (arith, c.decreases, p.first, p.second), (formula-there (nodes u) c.in-Or.a p.a p.left, (formula-there (nodes u) c.in-Or.b p.b p.right, (p.first, p.second))))

pub is_ground-returns-in-Or : goal.is_ground-returns-in-Or
is_ground-returns-in-Or t c = λ a e.
    let u = c.args.table.now in
    let p = or-parts u c.args.node c.in-Or.a c.in-Or.b (shaped u c.args.node c.shape.result (s.Or c.in-Or.a c.in-Or.b) c.shape.ensures.tree c.shape.ensures.fits c.shape.ensures.below c.in-Or.is) in
    c.are_ground-in-Or.ensures p.a p.b p.left p.right ∙ ap is_ground (formula-same (slice_get (nodes u) c.args.node) (tree.or p.a p.b) a p.whole e)

pub is_ground-are_ground-requires-in-Implies : goal.is_ground-are_ground-requires-in-Implies
is_ground-are_ground-requires-in-Implies t c =
    let u = c.args.table.now in
    let p = implies-parts u c.args.node c.in-Implies.a c.in-Implies.b (shaped u c.args.node c.shape.result (s.Implies c.in-Implies.a c.in-Implies.b) c.shape.ensures.tree c.shape.ensures.fits c.shape.ensures.below c.in-Implies.is) in
    (omega (arith, c.decreases, p.first, p.second), (formula-there (nodes u) c.in-Implies.a p.a p.left, (formula-there (nodes u) c.in-Implies.b p.b p.right, (p.first, p.second))))

pub is_ground-returns-in-Implies : goal.is_ground-returns-in-Implies
is_ground-returns-in-Implies t c = λ a e.
    let u = c.args.table.now in
    let p = implies-parts u c.args.node c.in-Implies.a c.in-Implies.b (shaped u c.args.node c.shape.result (s.Implies c.in-Implies.a c.in-Implies.b) c.shape.ensures.tree c.shape.ensures.fits c.shape.ensures.below c.in-Implies.is) in
    c.are_ground-in-Implies.ensures p.a p.b p.left p.right ∙ ap is_ground (formula-same (slice_get (nodes u) c.args.node) (tree.implies p.a p.b) a p.whole e)

pub is_ground-are_ground-requires-in-Iff : goal.is_ground-are_ground-requires-in-Iff
is_ground-are_ground-requires-in-Iff t c =
    let u = c.args.table.now in
    let p = iff-parts u c.args.node c.in-Iff.a c.in-Iff.b (shaped u c.args.node c.shape.result (s.Iff c.in-Iff.a c.in-Iff.b) c.shape.ensures.tree c.shape.ensures.fits c.shape.ensures.below c.in-Iff.is) in
    (omega (arith, c.decreases, p.first, p.second), (formula-there (nodes u) c.in-Iff.a p.a p.left, (formula-there (nodes u) c.in-Iff.b p.b p.right, (p.first, p.second))))

pub is_ground-returns-in-Iff : goal.is_ground-returns-in-Iff
is_ground-returns-in-Iff t c = λ a e.
    let u = c.args.table.now in
    let p = iff-parts u c.args.node c.in-Iff.a c.in-Iff.b (shaped u c.args.node c.shape.result (s.Iff c.in-Iff.a c.in-Iff.b) c.shape.ensures.tree c.shape.ensures.fits c.shape.ensures.below c.in-Iff.is) in
    c.are_ground-in-Iff.ensures p.a p.b p.left p.right ∙ ap is_ground (formula-same (slice_get (nodes u) c.args.node) (tree.iff p.a p.b) a p.whole e)

pub is_ground-returns-in-All : goal.is_ground-returns-in-All
is_ground-returns-in-All t c = λ a e.
    let u = c.args.table.now in
    let p = all-part u c.args.node c.in-All.field-0 (shaped u c.args.node c.shape.result (s.All c.in-All.field-0) c.shape.ensures.tree c.shape.ensures.fits c.shape.ensures.below c.in-All.is) in
    refl ∙ ap is_ground (formula-same (slice_get (nodes u) c.args.node) (tree.all p.a) a p.whole e)

pub is_ground-returns-in-Ex : goal.is_ground-returns-in-Ex
is_ground-returns-in-Ex t c = λ a e.
    let u = c.args.table.now in
    let p = ex-part u c.args.node c.in-Ex.field-0 (shaped u c.args.node c.shape.result (s.Ex c.in-Ex.field-0) c.shape.ensures.tree c.shape.ensures.fits c.shape.ensures.below c.in-Ex.is) in
    refl ∙ ap is_ground (formula-same (slice_get (nodes u) c.args.node) (tree.ex p.a) a p.whole e)

pub is_ground-returns-in_default : goal.is_ground-returns-in_default
is_ground-returns-in_default t c = λ a e.
    let u = c.args.table.now in
    let plain : IsPlain c.shape.result = record {
      negation = c.in_default.not-Negation;
      label = c.in_default.not-Mark;
      both = c.in_default.not-And;
      either = c.in_default.not-Or;
      implies = c.in_default.not-Implies;
      iff = c.in_default.not-Iff;
      each = c.in_default.not-All;
      some = c.in_default.not-Ex;
    } in
    sym (ground-plain u.pools (nodes u) c.shape.result a plain (tree-is u c.args.node c.shape.result a c.shape.ensures.tree e))
