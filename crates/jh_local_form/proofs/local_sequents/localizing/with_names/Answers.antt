use Rattle.std.proofs.Common.{ap, ◌∙◌, ◌++◌, map, Some, slice_get}
use Rattle.jh_form.specs.Tree.{of_truth}
use Rattle.jh_arena.specs.table.Nodes.{nodes}
use Rattle.jh_seq.specs.sequent.Sequents.{HypTree}
use Rattle.jh_reach.proofs.Standings.{formulas-grow}
use Rattle.jh_fca.specs.local_form.Named.{named, update_facts}
use Rattle.jh_local_form.specs.updates.Remaining.{naming-grows}
use Rattle.jh_local_form.proofs.local_sequents.Forms.{goal-truth, lent, each-more, truth-of}
use Rattle.jh_local_form.proofs.local_sequents.localizing.with_names.Goals as goal

pub named-requires-clause-formula : goal.named-requires-clause-formula
named-requires-clause-formula c = goal-truth c.args.table.now c.args.form.now c.requires.form.0 c.requires.form.1

pub named_facts-requires-clause-naming : goal.named_facts-requires-clause-naming
named_facts-requires-clause-naming c = (c.requires.naming.0, naming-grows c.args.table.now c.named.new.table c.named.ensures.grows c.args.naming.now c.requires.naming.0 c.requires.naming.1)

pub named_facts-requires-clause-facts : goal.named_facts-requires-clause-facts
named_facts-requires-clause-facts c =
    let s = c.requires.form.0 in
    let facts = map (λ (h : HypTree). h.fact) s.hyps in
    (facts, lent c.named.new.table c.args.form.now.facts c.items.result.now facts c.items.ensures (formulas-grow c.args.table.now c.named.new.table c.args.form.now.facts facts c.named.ensures.grows c.requires.form.1.facts))

pub returns-clause-form : goal.returns-clause-form
returns-clause-form c = λ us s naming is.
    let t0 = c.args.table.now in
    let t1 = c.named.new.table in
    let t2 = c.named_facts.new.table in
    let n = c.args.naming.now in
    let facts = map (λ (h : HypTree). h.fact) s.hyps in
    each-more t2 (named us n.first) (named us n.first) (update_facts us n.first) s (record { facts = c.in_ok-facts.facts; goal = c.in_ok-goal.goal })
    (c.in_ok-facts.ensures.facts us facts (naming-grows t0 t1 c.named.ensures.grows n us naming) (lent t1 c.args.form.now.facts c.items.result.now facts c.items.ensures (formulas-grow t0 t1 c.args.form.now.facts facts c.named.ensures.grows is.facts)))
    (c.named_facts.ensures.grows.nodes.keeps c.in_ok-goal.goal (of_truth (named us n.first s.goal)) (c.in_ok-goal.ensures.tree us naming ∙ ap (λ a. Some (of_truth (named us n.first a))) (truth-of (slice_get (nodes t0) c.args.form.now.goal) s.goal is.goal)))
