use Rattle.std.proofs.Common.{◌≡◌, ap, subst, ◌∙◌, ℕ, slice_get, Some, arith, add-one}
use Rattle.jh_form.specs.Tree.{of_truth}
use Rattle.jh_form.specs.Tree as tree
use Rattle.jh_arena.specs.table.Nodes.{nodes}
use Rattle.jh_arena.proofs.table.Listed.{extends-refl, extends-trans}
use Rattle.jh_inst.specs.instances.Prenex.{behind}
use Rattle.jh_instantiation.specs.skolem_constants.Standing.{IsFormula}
use Rattle.jh_instantiation.proofs.skolem_constants.Shapes.{formula-there, truth-at}
use Rattle.jh_instantiation.proofs.skolem_constants.pulling.behind.Goals as goal

pub loop-turn-init : goal.loop-turn-init
loop-turn-init c = record { grows = extends-refl c.args.table.now; there = c.requires.there; made = λ a e. e }

pub loop-turn-preserved : goal.loop-turn-preserved
loop-turn-preserved c =
    let old = c.loop-turn.table in
    let new = c.for_all.new.table in
    record {
      grows = extends-trans c.args.table.now old new c.loop-turn.invariant.grows c.for_all.ensures.grows;
      there = formula-there (nodes new) c.in_ok-made.made _ c.in_ok-made.ensures.node;
      made = λ a e.
          let same = truth-at (slice_get (nodes old) c.loop-turn.made) (behind c.loop-turn._turn a) (c.loop-turn.invariant.made a e) in
          rw (add-one c.loop-turn._turn) (c.in_ok-made.ensures.node ∙ ap (λ z. Some (of_truth (tree.all z))) same);
    }

pub returns-clause-node : goal.returns-clause-node
returns-clause-node c = λ a e.
    let end : c.loop-turn._turn ≡ c.args.variables = search arith in
    subst (λ (n : ℕ). IsFormula c.loop-turn.table c.loop-turn.made (behind n a)) end (c.loop-turn.invariant.made a e)
