use Rattle.std.proofs.Common.{◌∙◌, List}
use Rattle.std.proofs.lemmas.Result.{IfOk-weaker}
use Rattle.jh_form.specs.Tree.{ValueTree}
use Rattle.jh_arena.specs.table.Nodes.{nodes}
use Rattle.jh_seq.specs.sequent.Sequents.{SequentTree}
use Rattle.jh_fca.specs.local_form.Each.{formulas}
use Rattle.jh_fca.specs.local_form.Named.{updates}
use Rattle.jh_local_form.specs.updates.Updating.{AreUpdates, IsNaming}
use Rattle.jh_local_form.specs.local_sequents.Forming.{IsFormed}
use Rattle.jh_local_form.proofs.local_sequents.Forms.{formulas-stand}
use Rattle.jh_local_form.proofs.local_sequents.localizing.naming_of.Goals as goal

pub updates-requires : goal.updates-requires
updates-requires c = record { formulas = (formulas c.requires.form.0, formulas-stand c.args.table.now c.args.form.now c.requires.form.0 c.items.result.now c.requires.form.1 (c.items.ensures ∙ c.in_ok-formulas.ensures)) }

pub names-requires : goal.names-requires
names-requires c =
    let s = c.requires.form.0 in
    record { updates = (updates (formulas s), c.in_ok-list.ensures.updates (formulas s) (formulas-stand c.args.table.now c.args.form.now s c.items.result.now c.requires.form.1 (c.items.ensures ∙ c.in_ok-formulas.ensures))) }

pub returns-clause-naming : goal.returns-clause-naming
returns-clause-naming c =
    let t0 = c.args.table.now in
    let t1 = c.names.new.table in
    IfOk-weaker
    c.names.result
    (λ made. (us : List ValueTree) → AreUpdates (nodes t0) c.in_ok-list.list us → IsNaming t1 made us)
    (λ made. (s : SequentTree) → IsFormed t0 c.args.form.now s → IsNaming t1 made (updates (formulas s)))
    (λ made h s is. h (updates (formulas s)) (c.in_ok-list.ensures.updates (formulas s) (formulas-stand t0 c.args.form.now s c.items.result.now is (c.items.ensures ∙ c.in_ok-formulas.ensures))))
    c.names.ensures.names
