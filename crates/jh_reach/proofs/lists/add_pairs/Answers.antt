use Rattle.std.proofs.Common.{◌+◌, ◌++◌, ◌∙◌, map, drop, get_or}
use Rattle.std.proofs.lemmas.Option.{slice_get-get_or}
use Rattle.jh_form.specs.Tree.{of_field}
use Rattle.jh_arena.proofs.table.Listed.{extends-trans}
use Rattle.jh_reach.specs.Axioms.{share_no_child}
use Rattle.jh_reach.proofs.Standings.{field-of, item-holds, rest-fields, rest-are, pairs-next, pairs-end}
use Rattle.jh_reach.proofs.lists.add_pairs.Goals as goal

pub add_pairs_of-requires-clause-field : goal.add_pairs_of-requires-clause-field
add_pairs_of-requires-clause-field c = item-holds c.args.table.now c.loop-index.table c.args.fields.now c.loop-index.index c.loop-index.invariant.grows c.requires.fields c.loop-index-test.true

pub add_pairs_of-requires-clause-others : goal.add_pairs_of-requires-clause-others
add_pairs_of-requires-clause-others c = rest-are c.args.table.now c.loop-index.table c.args.fields.now (c.loop-index.index + 1) c.loop-index.invariant.grows c.requires.fields

pub loop-index-preserved : goal.loop-index-preserved
loop-index-preserved c = record {
  grows = extends-trans c.args.table.now c.loop-index.table c.add_pairs_of.new.table c.loop-index.invariant.grows c.add_pairs_of.ensures.grows;
  nodes = λ gs done h old.
      let index = c.loop-index.index in
      let so_far = c.loop-index.invariant.nodes gs done h old in
      let field = get_or c.args.fields.now index 0 in
      let f = field-of c.args.table.now c.args.fields.now gs index field h (slice_get-get_or c.args.fields.now index 0 c.loop-index-test.true) in (
        so_far.0 ++ map (share_no_child f.0) (drop (index + 1) gs),
        c.in_ok-add_pairs_of.ensures.nodes f.0 (drop (index + 1) gs) so_far.0 (c.loop-index.invariant.grows.nodes.keeps field (of_field f.0) f.2) (rest-fields c.args.table.now c.loop-index.table c.args.fields.now (index + 1) gs c.loop-index.invariant.grows h) so_far.1,
        pairs-next gs index f.0 so_far.0 f.1 ∙ so_far.2,
      );
}

pub returns-clause-nodes : goal.returns-clause-nodes
returns-clause-nodes c = λ gs done h old.
    let so_far = c.loop-index.invariant.nodes gs done h old in
    pairs-end c.loop-index.table c.args.table.now c.args.fields.now c.loop-index.made.items c.loop-index.index gs so_far.0 _ h so_far.1 so_far.2 c.loop-index-test.false
