use Rattle.std.proofs.Common.{sym, subst, List, [], ◌++◌, ℕ}
use Rattle.std.proofs.lemmas.List.{append_assoc}
use Rattle.jh_form.specs.Tree.{FormulaTree}
use Rattle.jh_arena.specs.table.Nodes.{nodes}
use Rattle.jh_arena.specs.declared.table.shapes.Shape.TheVariants as s
use Rattle.jh_arena.proofs.table.Listed.{extends-trans}
use Rattle.jh_seq.specs.splitting.Forests.{no_cycles, one_sources, all_apart}
use Rattle.jh_splitting.specs.Edges.{list_at}
use Rattle.jh_splitting.specs.Pairs.{ArePaired}
use Rattle.jh_splitting.specs.Standing.{IsFormula}
use Rattle.jh_splitting.proofs.Shapes.{truth-inside, shaped}
use Rattle.jh_splitting.proofs.Edging.{list-there, list-grows, tree-list, tree-list-is}
use Rattle.jh_splitting.proofs.forests.forest_goals.Goals as goal

pub shape-requires : goal.shape-requires
shape-requires c = truth-inside (nodes c.args.table.now) c.args.node c.requires.there

pub add_cycles-requires : goal.add_cycles-requires
add_cycles-requires c = record { list = tree-list c.args.table.now c.args.node c.in-Tree.list (shaped c.args.table.now c.args.node c.shape.result (s.Tree c.in-Tree.list) c.shape.ensures.tree c.shape.ensures.fits c.in-Tree.is) }

pub add_sources-requires : goal.add_sources-requires
add_sources-requires c =
    let t0 = c.args.table.now in
    let h = tree-list t0 c.args.node c.in-Tree.list (shaped t0 c.args.node c.shape.result (s.Tree c.in-Tree.list) c.shape.ensures.tree c.shape.ensures.fits c.in-Tree.is) in
    record { list = list-there c.add_cycles.new.table c.in-Tree.list (list_at t0 c.in-Tree.list) (list-grows t0 c.add_cycles.new.table c.in-Tree.list (list_at t0 c.in-Tree.list) c.add_cycles.ensures.grows h) }

pub add_all_apart-requires : goal.add_all_apart-requires
add_all_apart-requires c =
    let t0 = c.args.table.now in
    let h = tree-list t0 c.args.node c.in-Tree.list (shaped t0 c.args.node c.shape.result (s.Tree c.in-Tree.list) c.shape.ensures.tree c.shape.ensures.fits c.in-Tree.is) in
    let g = extends-trans t0 c.add_cycles.new.table c.add_sources.new.table c.add_cycles.ensures.grows c.add_sources.ensures.grows in
    record { list = list-there c.add_sources.new.table c.in-Tree.list (list_at t0 c.in-Tree.list) (list-grows t0 c.add_sources.new.table c.in-Tree.list (list_at t0 c.in-Tree.list) g h) }

pub returns-clause-goals : goal.returns-clause-goals
returns-clause-goals c = λ fs e.
    let t0 = c.args.table.now in
    let t1 = c.add_cycles.new.table in
    let t2 = c.add_sources.new.table in
    let h = tree-list-is t0 c.args.node c.in-Tree.list fs (shaped t0 c.args.node c.shape.result (s.Tree c.in-Tree.list) c.shape.ensures.tree c.shape.ensures.fits c.in-Tree.is) e in
    let h1 = list-grows t0 t1 c.in-Tree.list fs c.add_cycles.ensures.grows h in
    let h2 = list-grows t1 t2 c.in-Tree.list fs c.add_sources.ensures.grows h1 in
    let none : ArePaired (IsFormula t0) c.new-goals.result.items [] = subst (λ (ms : List ℕ). ArePaired (IsFormula t0) ms []) (sym c.new-goals.ensures.items) tt in
    subst (λ (gs : List FormulaTree). ArePaired (IsFormula c.add_all_apart.new.table) c.add_all_apart.new.goals.items gs) (append_assoc (no_cycles fs fs) (one_sources fs) (all_apart fs))
    (c.in_ok-add_all_apart.ensures.goals fs (no_cycles fs fs ++ one_sources fs) h2 (c.in_ok-add_sources.ensures.goals fs (no_cycles fs fs) h1 (c.in_ok-add_cycles.ensures.goals fs [] h none)))
