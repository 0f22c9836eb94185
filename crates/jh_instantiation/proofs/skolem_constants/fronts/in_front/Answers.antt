use Rattle.std.proofs.Common.{◌≡◌, ap, suc, slice_get, arith}
use Rattle.jh_form.specs.Tree.{of_truth}
use Rattle.jh_form.specs.Tree as t
use Rattle.jh_arena.specs.table.Nodes.{nodes}
use Rattle.jh_arena.specs.declared.table.shapes.Shape.TheVariants as s
use Rattle.jh_inst.specs.instances.Prenex.{in_front}
use Rattle.jh_instantiation.proofs.skolem_constants.Elses.{in_front-else}
use Rattle.jh_instantiation.proofs.skolem_constants.Shapes.{truth-inside, formula-same, formula-there, shaped, all-part, not-all}
use Rattle.jh_instantiation.proofs.skolem_constants.fronts.in_front.Goals as goal

pub shape-requires : goal.shape-requires
shape-requires c = truth-inside (nodes c.args.table.now) c.loop-passed.at c.loop-passed.invariant.there

pub loop-passed-init : goal.loop-passed-init
loop-passed-init c = record { there = c.requires.there; counted = λ a e. (a, e, omega arith) }

pub loop-passed-preserved : goal.loop-passed-preserved
loop-passed-preserved c =
    let u = c.args.table.now in
    let p = all-part u c.loop-passed.at c.in-All.a (shaped u c.loop-passed.at c.shape.result (s.All c.in-All.a) c.shape.ensures.tree c.shape.ensures.fits c.shape.ensures.below c.in-All.is) in
    record {
      there = formula-there (nodes u) c.in-All.a p.a p.left;
      counted = λ a e.
          let h = c.loop-passed.invariant.counted a e in
          let same : in_front h.0 ≡ suc (in_front p.a) = ap in_front (formula-same (slice_get (nodes u) c.loop-passed.at) h.0 (t.all p.a) h.1 p.whole) in
          (p.a, p.left, omega (arith, h.2, same));
    }

pub returns-in_default : goal.returns-in_default
returns-in_default c = λ a e.
    let u = c.args.table.now in
    let h = c.loop-passed.invariant.counted a e in
    let none : in_front h.0 ≡ 0 = in_front-else h.0 (not-all u c.loop-passed.at c.shape.result h.0 c.shape.ensures.tree h.1 c.in_default.not-All) in
    omega (arith, h.2, none)
