use Rattle.std.proofs.Common.{sym, ap, ◌∙◌, false, Some, slice_get}
use Rattle.jh_form.specs.Tree.{of_truth}
use Rattle.jh_arena.specs.table.Entries.{the_truth}
use Rattle.jh_arena.specs.table.Nodes.{nodes}
use Rattle.jh_approx.specs.definition.Shown.{shown}
use Rattle.jh_query_names.proofs.mentioned_names.Growing.{truth-is, truth-stays, still-truth, on-ok}
use Rattle.jh_query_names.proofs.mentioned_names.noting.note_of.Goals as goal

pub note_over-requires-clause-fact : goal.note_over-requires-clause-fact
note_over-requires-clause-fact c = still-truth (nodes c.args.table.now) (nodes c.shown.new.table) c.shown.ensures.grows.nodes c.args.fact c.requires.fact

pub note_over-requires-clause-said : goal.note_over-requires-clause-said
note_over-requires-clause-said c =
    let ts = nodes c.args.table.now in
    let us = nodes c.shown.new.table in
    c.in_ok-said.ensures.tree
    ∙ ap (λ a. Some (of_truth (shown a false))) (sym (truth-is us c.args.fact (the_truth (slice_get ts c.args.fact)) (truth-stays ts us c.shown.ensures.grows.nodes c.args.fact c.requires.fact)))

pub returns-clause-memo : goal.returns-clause-memo
returns-clause-memo c = on-ok c.note_over.result c.in_ok-said.ensures.memo
