use Rattle.std.proofs.lemmas.Result.{IfOk-weaker}
use Rattle.jh_seq.specs.sequent.Sequents.{SequentTree}
use Rattle.jh_abstraction.specs.choice_of_hypotheses.Asking.{IsAsked}
use Rattle.jh_fca.specs.local_form.Chosen.{chosen}
use Rattle.jh_fca.specs.local_form.LocalOf.{local_of}
use Rattle.jh_local_form.specs.local_sequents.Forming.{IsFormed}
use Rattle.jh_local_form.proofs.local_sequents.localizing.local_of.Goals as goal

pub local_form-requires : goal.local_form-requires
local_form-requires c = record { form = (chosen c.requires.sequent.0, c.in_ok-form.ensures c.requires.sequent.0 c.requires.sequent.1) }

pub returns-clause-local : goal.returns-clause-local
returns-clause-local c =
    let t0 = c.args.table.now in
    let t1 = c.local_form.new.table in
    IfOk-weaker
    c.local_form.result
    (λ made. (s : SequentTree) → IsFormed t0 c.in_ok-form.form (chosen s) → IsFormed t1 made (local_of s))
    (λ made. (s : SequentTree) → IsAsked t0 c.args.hyps.now c.args.label c.args.facts.now c.args.goal s → IsFormed t1 made (local_of s))
    (λ made h s asked. h s (c.in_ok-form.ensures s asked))
    c.local_form.ensures.form
