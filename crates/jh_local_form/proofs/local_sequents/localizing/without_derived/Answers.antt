use Rattle.std.proofs.Common.{map, sym}
use Rattle.jh_seq.specs.sequent.Sequents.{HypTree}
use Rattle.jh_local_form.proofs.local_sequents.Forms.{lent}
use Rattle.jh_local_form.proofs.local_sequents.localizing.without_derived.Goals as goal

pub eliminate-requires : goal.eliminate-requires
eliminate-requires c =
    let s = c.requires.form.0 in
    let facts = map (λ (h : HypTree). h.fact) s.hyps in
    record { sequent = (s, record { facts = lent c.args.table.now c.args.form.now.facts c.items.result.now facts c.items.ensures c.requires.form.1.facts; goal = c.requires.form.1.goal }, c.requires.form.2) }

pub returns-clause-form : goal.returns-clause-form
returns-clause-form c = λ s is h.
    let facts = map (λ (x : HypTree). x.fact) s.hyps in
    let left = c.in_ok-made.ensures.sequent s (record { facts = lent c.args.table.now c.args.form.now.facts c.items.result.now facts c.items.ensures is.facts; goal = is.goal }) h in
    record { facts = left.facts; goal = left.goal }
