use Rattle.std.proofs.Common.{sym, ap, ◌∙◌, Some, slice_get}
use Rattle.jh_form.specs.Tree.{of_truth}
use Rattle.jh_arena.specs.table.Entries.{the_truth}
use Rattle.jh_arena.specs.table.Nodes.{nodes}
use Rattle.jh_query_names.specs.visible_part.Folding.{left_of}
use Rattle.jh_query_names.proofs.visible_part.Standing.{formula-of}
use Rattle.jh_query_names.proofs.visible_part.folding.left_of.Goals as goal

pub returns-in-Left-clause-node : goal.returns-in-Left-clause-node
returns-in-Left-clause-node c =
    formula-of (slice_get (nodes c.args.table.now) c.args.a) c.requires.a
    ∙ ap (λ f. Some (of_truth (left_of f c.args.connective (the_truth (slice_get (nodes c.args.table.now) c.args.a)) (the_truth (slice_get (nodes c.args.table.now) c.args.b))))) (sym c.in-Left.is)

pub returns-in-Right-clause-node : goal.returns-in-Right-clause-node
returns-in-Right-clause-node c =
    formula-of (slice_get (nodes c.args.table.now) c.args.b) c.requires.b
    ∙ ap (λ f. Some (of_truth (left_of f c.args.connective (the_truth (slice_get (nodes c.args.table.now) c.args.a)) (the_truth (slice_get (nodes c.args.table.now) c.args.b))))) (sym c.in-Right.is)
