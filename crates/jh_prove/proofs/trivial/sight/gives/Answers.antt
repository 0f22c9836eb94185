use Rattle.std.proofs.Common.{refl, sym, ap, inl, inr}
use Rattle.std.proofs.lemmas.Bool.{true≢false}
use Rattle.jh_arena.specs.table.Entries.{the_truth}
use Rattle.jh_arena.specs.table.Nodes.{nodes, shape_tree, fits}
use Rattle.jh_prove.proofs.trivial.Shapes.{inside, one-truth, false-shape}
use Rattle.jh_prove.proofs.trivial.sight.gives.Goals as goal

pub shape-requires : goal.shape-requires
shape-requires c = inside (nodes c.args.table.now) c.args.fact c.requires.fact

pub returns-in-False : goal.returns-in-False
unfolding the_truth shape_tree
returns-in-False c = (λ h. inr (ap the_truth c.in-False.ensures.tree), λ h. refl)

pub returns-in_default : goal.returns-in_default
unfolding shape_tree fits
returns-in_default c = (
  λ h. absurd (true≢false (sym h)),
  λ h. elim h [
    | inl same ↦ absurd (c.if-fact-goal.false (one-truth (nodes c.args.table.now) c.nodes_differ.ensures.different c.args.fact c.args.goal c.requires.fact c.requires.goal same))
    | inr is_false ↦ absurd (c.in_default.not-False (false-shape c.args.table.now c.nodes_differ.ensures.known c.args.fact c.shape.result c.shape.ensures.fits c.shape.ensures.tree c.requires.fact is_false refl refl))
  ],
)
