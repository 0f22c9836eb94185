use Rattle.std.proofs.Common.{refl, sym, ap, ◌∙◌, true, false, Some, None, slice_get}
use Rattle.jh_arena.specs.table.Entries.{is_truth, the_truth}
use Rattle.jh_arena.specs.table.Nodes.{nodes, shape_tree}
use Rattle.jh_arena.specs.declared.table.shapes.Shape.TheVariants as s
use Rattle.jh_fca.specs.cutting.Folding.{constant}
use Rattle.jh_fca.proofs.cutting.Foldings.{constant-of, not-constant}
use Rattle.jh_fca.proofs.cutting.Standing.{truth-inside}
use Rattle.jh_fca.proofs.cutting.folding.constant.Goals as goal

pub shape-requires : goal.shape-requires
shape-requires c = truth-inside (nodes c.args.table.now) c.args.node c.requires

pub returns-in-True : goal.returns-in-True
unfolding shape_tree the_truth constant
returns-in-True c = constant-of c.args.table.now.pools (nodes c.args.table.now) (slice_get (nodes c.args.table.now) c.args.node) c.shape.result s.True (Some true) c.shape.ensures.tree c.in-True.is refl

pub returns-in-False : goal.returns-in-False
unfolding shape_tree the_truth constant
returns-in-False c = constant-of c.args.table.now.pools (nodes c.args.table.now) (slice_get (nodes c.args.table.now) c.args.node) c.shape.result s.False (Some false) c.shape.ensures.tree c.in-False.is refl

pub returns-in_default : goal.returns-in_default
returns-in_default c =
    constant-of c.args.table.now.pools (nodes c.args.table.now) (slice_get (nodes c.args.table.now) c.args.node) c.shape.result c.shape.result None c.shape.ensures.tree refl
    (not-constant c.args.table.now.pools (nodes c.args.table.now) c.shape.result (ap is_truth (sym c.shape.ensures.tree) ∙ c.requires) c.in_default.not-True c.in_default.not-False)
