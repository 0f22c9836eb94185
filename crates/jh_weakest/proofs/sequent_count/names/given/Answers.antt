use Rattle.std.proofs.Common.{◌∙◌, sym, slice_get}
use Rattle.jh_arena.specs.table.Nodes.{nodes}
use Rattle.jh_weakest.proofs.sequent_count.Values.{truth-sort, within-some}
use Rattle.jh_weakest.proofs.sequent_count.names.given.Goals as goal

pub given_truth-requires : goal.given_truth-requires
given_truth-requires c = truth-sort (slice_get (nodes c.args.table.now) c.args.value) (within-some (nodes c.args.table.now) c.args.value c.requires) (sym c.sort.ensures ∙ c.in-Bool.is)
