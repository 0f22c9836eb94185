use Rattle.std.proofs.Common.{ap, ◌∙◌, ◌++◌, map, Some, slice_get}
use Rattle.jh_form.specs.Tree.{of_truth}
use Rattle.jh_seq.specs.sequent.Sequents.{HypTree}
use Rattle.jh_reach.proofs.Standings.{formulas-grow}
use Rattle.jh_fca.specs.local_form.Each.{formulas}
use Rattle.jh_fca.specs.local_form.Chains.{changes, reach_axioms}
use Rattle.jh_local_form.proofs.local_sequents.Forms.{lent, more-formed, joined-stand}
use Rattle.jh_local_form.proofs.local_sequents.localizing.with_axioms.Goals as goal

pub returns-clause-form : goal.returns-clause-form
returns-clause-form c = λ us s naming is.
    let t0 = c.args.table.now in
    let t1 = c.axioms_for.new.table in
    let n = c.args.naming.now in
    let facts = map (λ (h : HypTree). h.fact) s.hyps in
    let axioms = reach_axioms (formulas s) (changes us n.first) in
    more-formed t1 axioms s (record { facts = c.in_ok-facts.facts; goal = c.args.form.now.goal })
    (joined-stand t1 c.items.result.now c.as_slice.result.now c.in_ok-facts.facts facts axioms
    (lent t1 c.args.form.now.facts c.items.result.now facts c.items.ensures (formulas-grow t0 t1 c.args.form.now.facts facts c.axioms_for.ensures.grows is.facts))
    (lent t1 c.in_ok-axioms.axioms.items c.as_slice.result.now axioms c.as_slice.ensures.value (c.in_ok-axioms.ensures.axioms us s naming is))
    c.in_ok-facts.ensures)
    (c.axioms_for.ensures.grows.nodes.keeps c.args.form.now.goal (of_truth s.goal) is.goal)
