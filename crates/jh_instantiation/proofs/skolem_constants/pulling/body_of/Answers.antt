use Rattle.std.proofs.Common.{◌≡◌, ap, subst, ◌∙◌, ℕ, ◌+◌, ◌-◌, suc, slice_get, Some, arith}
use Rattle.jh_form.specs.Tree.{of_truth}
use Rattle.jh_form.specs.Tree as tree
use Rattle.jh_arena.specs.table.Nodes.{nodes}
use Rattle.jh_arena.specs.declared.table.shapes.Shape.TheVariants as s
use Rattle.jh_inst.specs.instances.Prenex.{behind}
use Rattle.jh_instantiation.specs.skolem_constants.Standing.{IsFormula}
use Rattle.jh_instantiation.proofs.skolem_constants.Lifts.{inner-of}
use Rattle.jh_instantiation.proofs.skolem_constants.Shapes.{truth-inside, formula-same, formula-there, shaped, all-part}
use Rattle.jh_instantiation.proofs.skolem_constants.pulling.body_of.Goals as goal

pub loop-turn-init : goal.loop-turn-init
loop-turn-init c = record {
  there = c.requires.there;
  body = λ a e. let same : c.args.variables ≡ c.args.variables - 0 = omega arith in subst (λ (n : ℕ). IsFormula c.args.table.now c.args.node (behind n a)) same e;
}

pub shape-requires : goal.shape-requires
shape-requires c = truth-inside (nodes c.args.table.now) c.loop-turn.at c.loop-turn.invariant.there

pub loop-turn-preserved : goal.loop-turn-preserved
loop-turn-preserved c =
    let u = c.args.table.now in
    let p = all-part u c.loop-turn.at c.in-All.a (shaped u c.loop-turn.at c.shape.result (s.All c.in-All.a) c.shape.ensures.tree c.shape.ensures.fits c.shape.ensures.below c.in-All.is) in
    record {
      there = formula-there (nodes u) c.in-All.a p.a p.left;
      body = λ a e.
          let left = c.args.variables - (c.loop-turn._turn + 1) in
          let more : c.args.variables - c.loop-turn._turn ≡ suc left = search arith in
          let whole = subst (λ (n : ℕ). IsFormula u c.loop-turn.at (behind n a)) more (c.loop-turn.invariant.body a e) in
          p.left ∙ ap (λ z. Some (of_truth z)) (inner-of p.a (behind left a) (formula-same (slice_get (nodes u) c.loop-turn.at) (tree.all p.a) (tree.all (behind left a)) p.whole whole));
    }

pub returns : goal.returns
returns c = λ a e.
    let end : c.args.variables - c.loop-turn._turn ≡ 0 = search arith in
    subst (λ (n : ℕ). IsFormula c.args.table.now c.loop-turn.at (behind n a)) end (c.loop-turn.invariant.body a e)
