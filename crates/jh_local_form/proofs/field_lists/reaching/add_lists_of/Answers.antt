use Rattle.std.proofs.Common.{◌∙◌, sym, slice_get}
use Rattle.std.proofs.lemmas.Result.{on_ok_weaker}
use Rattle.jh_arena.specs.table.Entries.{the_list}
use Rattle.jh_arena.specs.table.Nodes.{nodes}
use Rattle.jh_reach.specs.Standing.{fields_in}
use Rattle.jh_local_form.proofs.field_lists.Reached.{reach-listed, tree-listed, list-of-reach, list-of-tree, list-of-none, led-one, led-none}
use Rattle.jh_local_form.proofs.field_lists.reaching.add_lists_of.Goals as goal

pub add_list-requires-clause-list : goal.add_list-requires-clause-list
add_list-requires-clause-list c = (_, reach-listed c.args.table.now c.shape.result c.in-Reach.list c.in-Reach.field-1 c.in-Reach.field-2 c.shape.ensures.fits c.in-Reach.is)

pub add_list-requires-in-Tree-clause-list : goal.add_list-requires-in-Tree-clause-list
add_list-requires-in-Tree-clause-list c = (_, tree-listed c.args.table.now c.shape.result c.in-Tree.list c.shape.ensures.fits c.in-Tree.is)

pub returns-in-Reach-clause-made : goal.returns-in-Reach-clause-made
returns-in-Reach-clause-made c =
    let t = c.args.table.now in
    let l = c.in-Reach.list in
    let fs = fields_in (nodes t) (the_list (slice_get t.pools.lists l)) in
    on_ok_weaker c.add_list.result
    (λ h cs v bs are at done.
    led-one c.add_list.new.table c.add_list.new.made.items bs cs v fs (list-of-reach t.pools (nodes t) v c.shape.result (sym at ∙ c.shape.ensures.tree) l c.in-Reach.field-1 c.in-Reach.field-2 c.in-Reach.is)
    (h cs fs bs are (reach-listed t c.shape.result l c.in-Reach.field-1 c.in-Reach.field-2 c.shape.ensures.fits c.in-Reach.is) done))
    c.add_list.ensures.made

pub returns-in-Tree-clause-made : goal.returns-in-Tree-clause-made
returns-in-Tree-clause-made c =
    let t = c.args.table.now in
    let l = c.in-Tree.list in
    let fs = fields_in (nodes t) (the_list (slice_get t.pools.lists l)) in
    on_ok_weaker c.add_list-in-Tree.result
    (λ h cs v bs are at done.
    led-one c.add_list-in-Tree.new.table c.add_list-in-Tree.new.made.items bs cs v fs (list-of-tree t.pools (nodes t) v c.shape.result (sym at ∙ c.shape.ensures.tree) l c.in-Tree.is)
    (h cs fs bs are (tree-listed t c.shape.result l c.shape.ensures.fits c.in-Tree.is) done))
    c.add_list-in-Tree.ensures.made

pub returns-in_default-clause-made : goal.returns-in_default-clause-made
returns-in_default-clause-made c = λ cs v bs are at done.
    let t = c.args.table.now in
    led-none t c.args.made.now.items bs cs v (list-of-none t.pools (nodes t) v c.shape.result (sym at ∙ c.shape.ensures.tree) c.in_default.not-Reach c.in_default.not-Tree) done
