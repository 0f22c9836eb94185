use Rattle.std.proofs.Common.{◌∙◌, ◌||◌, slice_get}
use Rattle.jh_arena.specs.table.Nodes.{nodes}
use Rattle.jh_fca.proofs.cutting.Arms.{holds-at}
use Rattle.jh_fca.proofs.cutting.Standing.{truth-inside}
use Rattle.jh_fca.proofs.cutting.iffs.either_holds.Goals as goal

pub holds_foreign-requires : goal.holds_foreign-requires
holds_foreign-requires c = record { inside = truth-inside (nodes c.args.table.now) c.args.a c.requires.a }

pub holds_foreign-requires-2 : goal.holds_foreign-requires-2
holds_foreign-requires-2 c = record { inside = truth-inside (nodes c.args.table.now) c.args.b c.requires.b }

pub returns : goal.returns
returns c = c.either.ensures ∙ (λ i.
    (c.in_ok-left.ensures ∙ holds-at (slice_get (nodes c.args.table.now) c.args.a) c.requires.a) i
    || (c.in_ok-right.ensures ∙ holds-at (slice_get (nodes c.args.table.now) c.args.b) c.requires.b) i)
