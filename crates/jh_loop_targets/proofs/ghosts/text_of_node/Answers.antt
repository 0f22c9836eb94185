use Rattle.std.proofs.Common.{sym, ap, ◌∙◌, ◌<◌, ◌≤◌, length, arith}
use Rattle.jh_form.specs.Tree as t
use Rattle.jh_arena.specs.table.Nodes.{nodes}
use Rattle.jh_loop_targets.specs.Telling.{ghost_text, value_at}
use Rattle.jh_loop_targets.proofs.Ghosted.{value-inside, value-outside}
use Rattle.jh_loop_targets.proofs.ghosts.text_of_node.Goals as goal

pub returns-then-node-len : goal.returns-then-node-len
returns-then-node-len c =
    let lt : c.in-Some.node < length (nodes c.args.table.now) = omega arith in
    c.text_at.ensures ∙ ap ghost_text (value-inside (nodes c.args.table.now) c.in-Some.node (t.of_truth t.true_formula) lt) ∙ sym (ap (λ o. ghost_text (value_at c.args.table.now o)) c.in-Some.is)

pub returns-else-node-len : goal.returns-else-node-len
returns-else-node-len c =
    let le : length (nodes c.args.table.now) ≤ c.in-Some.node = omega arith in
    sym (ap (λ o. ghost_text (value_at c.args.table.now o)) c.in-Some.is ∙ ap ghost_text (value-outside (nodes c.args.table.now) c.in-Some.node (t.of_truth t.true_formula) le))
