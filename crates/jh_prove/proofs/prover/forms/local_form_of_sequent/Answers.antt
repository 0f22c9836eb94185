use Rattle.std.proofs.Common.{◌≡◌}
use Rattle.std.proofs.lemmas.Result.{IfOk-weaker}
use Rattle.jh_local.specs.jh_local_form.local_sequents.Forming.{IsFormed}
use Rattle.jh_seq.specs.sequent.Sequents.{SequentTree}
use Rattle.jh_splitting.specs.Standing.{IsSequent}
use Rattle.jh_splitting.proofs.Grown.{sequent-stays}
use Rattle.jh_arena.specs.table.Nodes.{nodes}
use Rattle.jh_arena.proofs.table.Listed.{extends-trans}
use Rattle.jh_prove.specs.prover.Memos.{found}
use Rattle.jh_prove.specs.prover.Right.{local_form}
use Rattle.jh_prove.proofs.prover.Bareness.{formula-there, holds-none}
use Rattle.jh_prove.proofs.prover.forms.local_form_of_sequent.Goals as goal

pub without_labels-requires-clause-node : goal.without_labels-requires-clause-node
without_labels-requires-clause-node c = formula-there (nodes c.args.table.now) c.args.sequent.goal c.requires.0.goal c.requires.1.goal

pub without_labels-requires-clause-memo : goal.without_labels-requires-clause-memo
without_labels-requires-clause-memo c = holds-none (nodes c.args.table.now) (found c.new-memo.result.answers) c.new-memo.ensures

pub form_for_goal-requires-clause-sequent : goal.form_for_goal-requires-clause-sequent
form_for_goal-requires-clause-sequent c =
    (c.requires.0, sequent-stays c.args.table.now c.without_labels.new.table c.without_labels.ensures.grows c.args.sequents.now.hyps c.args.sequents.now.method c.args.sequent c.requires.0 c.requires.1)

pub returns-clause-form : goal.returns-clause-form
returns-clause-form c =
    let t = c.args.table.now in
    let u = c.without_labels.new.table in
    let w = c.form_for_goal.new.table in
    let links = c.args.sequents.now.hyps in
    let method = c.args.sequents.now.method in
    let x = c.args.sequent in
    IfOk-weaker
    c.form_for_goal.result
    (λ made. (s : SequentTree) → IsSequent u links method x s → IsFormed w made (local_form s))
    (λ made. (s : SequentTree) → IsSequent t links method x s → IsFormed w made (local_form s))
    (λ made form s h. form s (sequent-stays t u c.without_labels.ensures.grows links method x s h))
    c.form_for_goal.ensures.form

pub returns-clause-grows : goal.returns-clause-grows
returns-clause-grows c = extends-trans c.args.table.now c.without_labels.new.table c.form_for_goal.new.table c.without_labels.ensures.grows c.form_for_goal.ensures.grows
