use Rattle.std.proofs.Common.{sym, ap, ◌∙◌, not, Some, slice_get}
use Rattle.jh_form.specs.Tree.{of_truth}
use Rattle.jh_arena.specs.table.Entries.{the_truth}
use Rattle.jh_arena.specs.table.Nodes.{nodes}
use Rattle.jh_query_names.specs.visible_part.Showing.{leaf}
use Rattle.jh_query_names.proofs.visible_part.Standing.{formula-of}
use Rattle.jh_query_names.proofs.visible_part.leaves.leaf.Goals as goal

pub returns-clause-made : goal.returns-clause-made
returns-clause-made c = record {
  node = formula-of (slice_get (nodes c.args.table.now) c.args.node) c.requires
      ∙ ap (λ b. Some (of_truth (leaf (the_truth (slice_get (nodes c.args.table.now) c.args.node)) c.args.positive b))) (sym c.if-replaced.false);
  flag = sym (ap not c.if-replaced.false);
}
