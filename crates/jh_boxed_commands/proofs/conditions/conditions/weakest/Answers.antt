use Rattle.std.proofs.Common.{◌≡◌, ◌∙◌, slice_get}
use Rattle.std.proofs.lemmas.Result.{IfOk-weaker}
use Rattle.jh_form.specs.Bare.{formula_tree}
use Rattle.jh_arena.specs.table.Entries.{the_truth}
use Rattle.jh_arena.specs.table.Nodes.{nodes}
use Rattle.jh_wp.specs.Wp.{wp}
use Rattle.jh_command_terms.specs.command.Code.{command_in, truth_at}
use Rattle.jh_command_terms.proofs.command.CodeSteps.{listed-truth, listed-is_truth}
use Rattle.jh_boxed_commands.proofs.conditions.EnteredSteps.{wp-entered}
use Rattle.jh_boxed_commands.proofs.conditions.conditions.weakest.Goals as goal

pub wp_in-requires-clause-fits : goal.wp_in-requires-clause-fits
wp_in-requires-clause-fits c = c.requires.command

pub wp_in-requires-clause-normal : goal.wp_in-requires-clause-normal
wp_in-requires-clause-normal c = c.requires.normal

pub wp_in-requires-clause-returned : goal.wp_in-requires-clause-returned
wp_in-requires-clause-returned c = c.requires.returned

pub boxed_formula-requires : goal.boxed_formula-requires
boxed_formula-requires c =
    let t = c.args.table.now in
    let e = c.args.entered.now in
    listed-is_truth c.wp_in.new.table c.in_ok-node.node (wp (command_in t e.command) (truth_at t e.normal) (truth_at t e.returned)) c.in_ok-node.ensures.node

pub returns : goal.returns
returns c = λ command q r h.
    let t = c.args.table.now in
    let e = c.args.entered.now in
    IfOk-weaker c.boxed_formula.result (λ made. formula_tree made ≡ the_truth (slice_get (nodes c.wp_in.new.table) c.in_ok-node.node)) (λ made. formula_tree made ≡ wp command q r)
    (λ made x. x ∙ listed-truth c.wp_in.new.table c.in_ok-node.node (wp (command_in t e.command) (truth_at t e.normal) (truth_at t e.returned)) c.in_ok-node.ensures.node ∙ wp-entered t command q r e h)
    c.boxed_formula.ensures.tree
