use Rattle.std.proofs.Common.{sym, ap, ◌∙◌, map}
use Rattle.jh_seq.specs.sequent.Sequents.{hyp_tree, sequent_tree}
use Rattle.jh_boxed_commands.proofs.conditions.SequentSteps.{formula-there, formula-is}
use Rattle.jh_boxed_commands.proofs.conditions.splitting.boxed_sequent.Goals as goal

pub boxed_mark-requires : goal.boxed_mark-requires
boxed_mark-requires c = (c.requires.1.mark, c.requires.1.label)

pub boxed_formula-requires : goal.boxed_formula-requires
boxed_formula-requires c = formula-there c.args.table.now c.args.sequent.goal c.requires.0.goal c.requires.1.goal

pub returns : goal.returns
unfolding sequent_tree
returns c = λ s is.
    let mark = c.in_ok-mark.ensures is.mark is.label ∙ sym is.shown in
    let hyps = ap (map hyp_tree) c.of.ensures ∙ c.in_ok-hyps.ensures s is in
    let goal_is = c.in_ok-goal.ensures.tree ∙ formula-is c.args.table.now c.args.sequent.goal s.goal is.goal in
    λ i. record { method = sym is.of_method i; mark = mark i; hyps = hyps i; goal = goal_is i }
