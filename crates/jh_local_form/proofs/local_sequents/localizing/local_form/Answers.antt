use Rattle.std.proofs.Common.{◌≡◌, refl, sym, subst, ℕ}
use Rattle.std.proofs.lemmas.Result.{IfOk-weaker}
use Rattle.jh_seq.specs.sequent.Sequents.{SequentTree}
use Rattle.jh_normal_forms.specs.idle_updates.Dropped.{dropped}
use Rattle.jh_fca.specs.local_form.Each.{over_each, formulas}
use Rattle.jh_fca.specs.local_form.Chosen.{chosen}
use Rattle.jh_fca.specs.local_form.Named.{updates}
use Rattle.jh_fca.specs.local_form.LocalOf.{begun, local_with, local_of}
use Rattle.jh_local_form.specs.local_sequents.Forming.{IsFormed}
use Rattle.jh_local_form.proofs.local_sequents.localizing.local_form.Goals as goal

pub local_from-requires : goal.local_from-requires
local_from-requires c = record { form = (over_each dropped dropped c.requires.form.0, c.in_ok-made.ensures.form c.requires.form.0 c.requires.form.1) }

pub returns-clause-form : goal.returns-clause-form
unfolding local_of
returns-clause-form c =
    let t0 = c.args.table.now in
    let t1 = c.begun.new.table in
    let t2 = c.local_from.new.table in
    IfOk-weaker
    c.local_from.result
    (λ made. (s : SequentTree) → IsFormed t1 c.in_ok-made.made s → IsFormed t2 made (local_with (updates (formulas s)) c.in_ok-first.first s))
    (λ made. (s : SequentTree) → IsFormed t0 c.args.form.now (chosen s) → IsFormed t2 made (local_of s))
    (λ made h s is.
    subst (λ (k : ℕ). IsFormed t2 made (local_with (updates (formulas (begun s))) k (begun s))) (c.in_ok-first.ensures (chosen s) is) (h (begun s) (c.in_ok-made.ensures.form (chosen s) is)))
    c.local_from.ensures.form
