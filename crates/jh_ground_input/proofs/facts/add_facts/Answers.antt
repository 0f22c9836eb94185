use Rattle.std.proofs.Common.{subst, List}
use Rattle.jh_form.specs.Tree.{FormulaTree}
use Rattle.jh_arena.specs.table.Nodes.{nodes}
use Rattle.jh_ground_input.specs.Standing.{IsApart, bare_at}
use Rattle.jh_ground_input.proofs.Sequents.{facts-next}
use Rattle.jh_ground_input.proofs.facts.add_facts.Goals as goal

pub loop-place-preserved : goal.loop-place-preserved
loop-place-preserved c = λ fs h.
    subst (λ (gs : List FormulaTree). IsApart c.add_fact.new.apart gs)
    (facts-next (bare_at (nodes c.args.from.now)) fs c.args.facts.now c.loop-place.place c.node_at.result c.node_at.ensures)
    (c.in_ok-add_fact.ensures _ (c.loop-place.invariant fs h))
