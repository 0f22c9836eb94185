use Rattle.std.proofs.Common.{ap, ◌∙◌, map, Some, slice_get}
use Rattle.jh_form.specs.Tree.{of_truth}
use Rattle.jh_arena.specs.table.Nodes.{nodes}
use Rattle.jh_seq.specs.sequent.Sequents.{HypTree}
use Rattle.jh_reach.proofs.Standings.{formulas-grow}
use Rattle.jh_normal_forms.specs.idle_updates.Dropped.{dropped}
use Rattle.jh_local_form.proofs.local_sequents.Forms.{goal-truth, lent, each-formed, truth-of}
use Rattle.jh_local_form.proofs.local_sequents.localizing.begun.Goals as goal

pub dropped-requires : goal.dropped-requires
dropped-requires c = record { formula = goal-truth c.args.table.now c.args.form.now c.requires.form.0 c.requires.form.1 }

pub all_dropped-requires : goal.all_dropped-requires
all_dropped-requires c =
    let s = c.requires.form.0 in
    let facts = map (λ (h : HypTree). h.fact) s.hyps in
    record {
      formulas = (
        facts,
        lent c.dropped.new.table c.args.form.now.facts c.items.result.now facts c.items.ensures (formulas-grow c.args.table.now c.dropped.new.table c.args.form.now.facts facts c.dropped.ensures.grows c.requires.form.1.facts),
      );
    }

pub returns-clause-form : goal.returns-clause-form
returns-clause-form c = λ s is.
    let t0 = c.args.table.now in
    let t1 = c.dropped.new.table in
    let t2 = c.all_dropped.new.table in
    let facts = map (λ (h : HypTree). h.fact) s.hyps in
    each-formed t2 dropped dropped s (record { facts = c.of.result; goal = c.in_ok-goal.goal })
    (lent t2 c.in_ok-facts.facts.items c.of.result (map dropped facts) c.of.ensures
    (c.in_ok-facts.ensures.all facts (lent t1 c.args.form.now.facts c.items.result.now facts c.items.ensures (formulas-grow t0 t1 c.args.form.now.facts facts c.dropped.ensures.grows is.facts))))
    (c.all_dropped.ensures.grows.nodes.keeps c.in_ok-goal.goal (of_truth (dropped s.goal)) (c.in_ok-goal.ensures.tree ∙ ap (λ a. Some (of_truth (dropped a))) (truth-of (slice_get (nodes t0) c.args.form.now.goal) s.goal is.goal)))
