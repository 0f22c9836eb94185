use Rattle.std.proofs.Common.{◌∙◌, ◌+◌, Some}
use Rattle.jh_form.specs.Tree.{of_truth}
use Rattle.jh_arena.specs.table.Nodes.{nodes}
use Rattle.jh_inst.specs.instances.Prenex.{under_more}
use Rattle.jh_instantiation.specs.skolem_constants.Standing.{joined}
use Rattle.jh_instantiation.proofs.skolem_constants.Shapes.{truth-grows, formula-at, formula-grows, formula-there}
use Rattle.jh_instantiation.proofs.skolem_constants.pulling.pulled_together.Goals as goal

pub under_more-requires-2 : goal.under_more-requires-2
under_more-requires-2 c = record { there = truth-grows c.args.table.now c.under_more.new.table c.args.second.body c.under_more.ensures.grows c.requires.second }

pub join-requires-clause-first : goal.join-requires-clause-first
join-requires-clause-first c =
    let there = c.in_ok-left.ensures.node _ (formula-at (nodes c.args.table.now) c.args.first.body c.requires.first) in
    formula-there (nodes c.under_more-2.new.table) c.in_ok-left.left _ (formula-grows c.under_more.new.table c.under_more-2.new.table c.in_ok-left.left _ c.under_more-2.ensures.grows there)

pub join-requires-clause-second : goal.join-requires-clause-second
join-requires-clause-second c =
    let v = c.under_more.new.table in
    let there = c.in_ok-right.ensures.node _ (formula-at (nodes v) c.args.second.body (truth-grows c.args.table.now v c.args.second.body c.under_more.ensures.grows c.requires.second)) in
    formula-there (nodes c.under_more-2.new.table) c.in_ok-right.right _ there

pub returns-clause-node : goal.returns-clause-node
returns-clause-node c = λ p q hp hq.
    let v = c.under_more.new.table in
    let x = c.under_more-2.new.table in
    let left = c.in_ok-left.ensures.node p.body hp.body in
    let right = c.in_ok-right.ensures.node q.body (formula-grows c.args.table.now v c.args.second.body q.body c.under_more.ensures.grows hq.body) in
    record {
      variables = c.in_ok-variables.ensures ∙ (λ i. hp.variables i + hq.variables i);
      body = c.in_ok-body.ensures.node _ _ (formula-grows v x c.in_ok-left.left _ c.under_more-2.ensures.grows left) right
          ∙ (λ i. Some (of_truth (joined c.args.conjoined (under_more p.body 0 (hq.variables i)) (under_more q.body (hq.variables i) (hp.variables i)))));
    }
