use Rattle.std.proofs.Common.{sym, ◌∙◌}
use Rattle.jh_seq.specs.sequent.Sequents.{hyp_tree}
use Rattle.jh_boxed_commands.proofs.conditions.SequentSteps.{formula-there, formula-is}
use Rattle.jh_boxed_commands.proofs.conditions.hypotheses.boxed_hyp.Goals as goal

pub name_of-requires : goal.name_of-requires
name_of-requires c = (c.requires.1.mark, c.requires.1.label)

pub boxed_formula-requires : goal.boxed_formula-requires
boxed_formula-requires c = formula-there c.args.table.now c.args.hyp.fact c.requires.0.fact c.requires.1.fact

pub returns : goal.returns
unfolding hyp_tree
returns c = λ h is.
    let name = c.in_ok-name.ensures is.mark is.label ∙ sym is.name in
    let fact = c.in_ok-fact.ensures.tree ∙ formula-is c.args.table.now c.args.hyp.fact h.fact is.fact in
    λ i. record { name = name i; fact = fact i }
