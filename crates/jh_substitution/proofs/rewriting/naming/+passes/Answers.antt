use Rattle.std.proofs.Common.{◌≡◌, ◌∙◌, sym, ap, ◌+◌, true, false, ◌&&◌, drop, slice_get, arith, rules}
use Rattle.jh_form.specs.Passing.{value_passes}
use Rattle.jh_arena.specs.table.Entries.{the_value}
use Rattle.jh_arena.specs.table.Nodes.{nodes, tree_in}
use Rattle.jh_arena.specs.table.Parts.{parts}
use Rattle.jh_arena.specs.table.Facing.{all_pass}
use Rattle.jh_substitution.proofs.rewriting.Passings.{passes-parts}
use Rattle.jh_substitution.proofs.rewriting.Passes.{all_pass-next, all_pass-end}
use Rattle.jh_substitution.proofs.rewriting.Sorted.{listed-value}
use Rattle.jh_substitution.proofs.rewriting.naming.+passes.Goals as goal

pub shape_passes-returns-then-is_leaf-clause-passes : goal.shape_passes-returns-then-is_leaf-clause-passes
shape_passes-returns-then-is_leaf-clause-passes g t c =
    c.leaf_passes.ensures ∙ ap (λ v. value_passes v (g.T.NameTest.test c.args.test.now)) (sym (listed-value (slice_get (nodes c.args.table.now) c.args.node) (tree_in c.args.table.now c.shape-shape.result) c.shape-shape.ensures.tree))

pub shape_passes-returns-then-not-passes-clause-passes : goal.shape_passes-returns-then-not-passes-clause-passes
shape_passes-returns-then-not-passes-clause-passes g t c =
    let whole : value_passes (tree_in c.args.table.now c.shape-shape.result) (g.T.NameTest.test c.args.test.now) ≡ all_pass (g.T.NameTest.test c.args.test.now) (nodes c.args.table.now) (parts c.args.table.now.pools.lists c.shape-shape.result) =
    passes-parts c.args.table.now.pools (nodes c.args.table.now) (g.T.NameTest.test c.args.test.now) c.shape-shape.result (search rules) c.shape-shape.ensures.fits in
    let here : false ≡ value_passes (the_value (slice_get (nodes c.args.table.now) c.part-part.result)) (g.T.NameTest.test c.args.test.now) = search rules in
    let next : all_pass (g.T.NameTest.test c.args.test.now) (nodes c.args.table.now) (drop c.loop-index.index (parts c.args.table.now.pools.lists c.shape-shape.result)) ≡ (value_passes (the_value (slice_get (nodes c.args.table.now) c.part-part.result)) (g.T.NameTest.test c.args.test.now) && all_pass (g.T.NameTest.test c.args.test.now) (nodes c.args.table.now) (drop (c.loop-index.index + 1) (parts c.args.table.now.pools.lists c.shape-shape.result))) =
    all_pass-next (g.T.NameTest.test c.args.test.now) (nodes c.args.table.now) (parts c.args.table.now.pools.lists c.shape-shape.result) c.loop-index.index c.part-part.result c.part-part.ensures in
    ap (λ b. b && all_pass (g.T.NameTest.test c.args.test.now) (nodes c.args.table.now) (drop (c.loop-index.index + 1) (parts c.args.table.now.pools.lists c.shape-shape.result))) here
    ∙ sym next ∙ sym c.loop-index.invariant.rest ∙ sym whole
    ∙ ap (λ v. value_passes v (g.T.NameTest.test c.args.test.now)) (sym (listed-value (slice_get (nodes c.args.table.now) c.args.node) (tree_in c.args.table.now c.shape-shape.result) c.shape-shape.ensures.tree))

pub shape_passes-loop-index-preserved : goal.shape_passes-loop-index-preserved
shape_passes-loop-index-preserved g t c =
    let here : value_passes (the_value (slice_get (nodes c.args.table.now) c.part-part.result)) (g.T.NameTest.test c.args.test.now) ≡ true = search rules in
    let next : all_pass (g.T.NameTest.test c.args.test.now) (nodes c.args.table.now) (drop c.loop-index.index (parts c.args.table.now.pools.lists c.shape-shape.result)) ≡ (value_passes (the_value (slice_get (nodes c.args.table.now) c.part-part.result)) (g.T.NameTest.test c.args.test.now) && all_pass (g.T.NameTest.test c.args.test.now) (nodes c.args.table.now) (drop (c.loop-index.index + 1) (parts c.args.table.now.pools.lists c.shape-shape.result))) =
    all_pass-next (g.T.NameTest.test c.args.test.now) (nodes c.args.table.now) (parts c.args.table.now.pools.lists c.shape-shape.result) c.loop-index.index c.part-part.result c.part-part.ensures in
    record {
      seen = c.passes-passes.ensures.seen;
      rest = c.loop-index.invariant.rest ∙ next ∙ ap (λ b. b && all_pass (g.T.NameTest.test c.args.test.now) (nodes c.args.table.now) (drop (c.loop-index.index + 1) (parts c.args.table.now.pools.lists c.shape-shape.result))) here;
    }

pub shape_passes-returns-clause-passes : goal.shape_passes-returns-clause-passes
shape_passes-returns-clause-passes g t c =
    let whole : value_passes (tree_in c.args.table.now c.shape-shape.result) (g.T.NameTest.test c.args.test.now) ≡ all_pass (g.T.NameTest.test c.args.test.now) (nodes c.args.table.now) (parts c.args.table.now.pools.lists c.shape-shape.result) =
    passes-parts c.args.table.now.pools (nodes c.args.table.now) (g.T.NameTest.test c.args.test.now) c.shape-shape.result (search rules) c.shape-shape.ensures.fits in
    sym (all_pass-end (g.T.NameTest.test c.args.test.now) (nodes c.args.table.now) (parts c.args.table.now.pools.lists c.shape-shape.result) c.loop-index.index (omega arith))
    ∙ sym c.loop-index.invariant.rest ∙ sym whole
    ∙ ap (λ v. value_passes v (g.T.NameTest.test c.args.test.now)) (sym (listed-value (slice_get (nodes c.args.table.now) c.args.node) (tree_in c.args.table.now c.shape-shape.result) c.shape-shape.ensures.tree))
