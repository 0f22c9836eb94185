use Rattle.std.proofs.Common.{List, map, subst}
use Rattle.std.proofs.lemmas.Result.{IfOk-weaker}
use Rattle.jh_form.specs.Tree.{FormulaTree}
use Rattle.jh_local_form.specs.local_sequents.Forming.{IsFormed}
use Rattle.jh_seq.specs.sequent.Sequents.{SequentTree, sequent_tree}
use Rattle.jh_derivation_rules.specs.Closes.{Closes, ClosesSequent}
use Rattle.jh_derivation_rules.specs.Steps.{bare_step, steps_of}
use Rattle.jh_instance_proofs.proofs.derivations.answering.closing.Goals as goal

pub returns-clause-closes : goal.returns-clause-closes
returns-clause-closes c =
    IfOk-weaker
    c.followed.result
    (λ made. ClosesSequent (steps_of made) (sequent_tree c.in_ok-sequent.sequent))
    (λ made. (s : SequentTree) → IsFormed c.args.table.now c.args.form.now s → ClosesSequent (steps_of made) s)
    (λ made closes s formed. subst (λ (fs : List FormulaTree). Closes fs (map bare_step (steps_of made))) (c.in_ok-sequent.ensures.facts s formed) closes)
    c.followed.ensures.closes
