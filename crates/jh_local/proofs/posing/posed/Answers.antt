use Rattle.std.proofs.Common.{◌∙◌, ap, List}
use Rattle.std.specs.List.{list_all}
use Rattle.jh_form.specs.Tree.{FormulaTree}
use Rattle.jh_arena.specs.table.Nodes.{nodes}
use Rattle.jh_propagation.specs.trail.Saying.{truths_at}
use Rattle.jh_inst.specs.plain_formulas.Plain.{are_literals}
use Rattle.jh_local.proofs.Labels.{unlabelled}
use Rattle.jh_local.proofs.Made.{both-made}
use Rattle.jh_local.proofs.posing.posed.Goals as goal

pub pose-requires-clause-unlabelled : goal.pose-requires-clause-unlabelled
pose-requires-clause-unlabelled c = λ a atom.
    unlabelled (truths_at (nodes c.args.table) c.in_ok-instances.instances.items) a
    (ap (λ (fs : List FormulaTree). list_all are_literals fs) (c.in_ok-instances.ensures.instances c.requires.made.0 c.requires.made.1) ∙ c.requires.made.2) atom

pub returns-clause-instances : goal.returns-clause-instances
returns-clause-instances c =
    both-made c.pose.result
    (λ made is table es stands. (λ i. truths_at (nodes (table i)) (is i)) ∙ c.in_ok-instances.ensures.instances es stands)
    c.pose.ensures.instances c.pose.ensures.table
