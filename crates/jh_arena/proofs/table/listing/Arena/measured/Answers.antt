use Rattle.std.proofs.Common.{arith, ap, ◌∙◌, max, ◌<◌, ◌+◌, take, length}
use Rattle.std.proofs.lemmas.List.{length-map}
use Rattle.jh_arena.specs.table.Nodes.{nodes}
use Rattle.std.specs.HashMap.{keys, values}
use Rattle.jh_arena.specs.table.Parts.{parts}
use Rattle.jh_arena.proofs.table.Tables.{seen, size-is, depth-is, size-step, depth-step, extent-over, part-inside, take-one, facts-of}
use Rattle.jh_arena.proofs.table.Faces.{loose-step, names-step, turn-step}
use Rattle.jh_arena.proofs.table.listing.Arena.measured.Goals as goal

pub index-requires : goal.index-requires
index-requires c = let inside : c.part.result < length c.args.self.now.shapes = part-inside c.args.self.now c.args.shape c.loop-index.index c.part.result c.requires c.part.ensures in omega (arith, ap (λ t. length t.shapes) c.self.view_is, length-map c.self.inside.nodes.entries (λ e. e.0))

pub loop-index-preserved : goal.loop-index-preserved
loop-index-preserved c =
    let ts = nodes c.args.self.now in
    let ns = parts c.args.self.now.pools.lists c.args.shape in
    let are = facts-of c.args.self.now (values c.self.inside.nodes) (seen (record { names = c.self.inside.names.keys; marks = c.self.inside.marks.keys; lists = c.self.inside.lists.keys }) (keys c.self.inside.nodes) (values c.self.inside.nodes) c.args.self.now c.self.view_is c.self.invariant) c.part.result c.index.result.now c.index.ensures in
    record {
      size = size-step ts ns c.loop-index.index c.part.result c.part.ensures c.loop-index.sum.extent.nodes c.index.result.now.extent.nodes c.side-sum.result.extent.nodes
          c.loop-index.invariant.size (size-is c.args.self.now (values c.self.inside.nodes) (seen (record { names = c.self.inside.names.keys; marks = c.self.inside.marks.keys; lists = c.self.inside.lists.keys }) (keys c.self.inside.nodes) (values c.self.inside.nodes) c.args.self.now c.self.view_is c.self.invariant) c.part.result c.index.result.now c.index.ensures) c.side-sum.ensures.nodes;
      greatest = depth-step ts ns c.loop-index.index c.part.result c.part.ensures c.loop-index.sum.extent.depth c.index.result.now.extent.depth c.side-sum.result.extent.depth
          c.loop-index.invariant.greatest (depth-is c.args.self.now (values c.self.inside.nodes) (seen (record { names = c.self.inside.names.keys; marks = c.self.inside.marks.keys; lists = c.self.inside.lists.keys }) (keys c.self.inside.nodes) (values c.self.inside.nodes) c.args.self.now c.self.view_is c.self.invariant) c.part.result c.index.result.now c.index.ensures) c.side-sum.ensures.depth;
      loose = loose-step ts (take c.loop-index.index ns) (take (c.loop-index.index + 1) ns) c.part.result c.loop-index.sum.loose c.index.result.now.loose c.side-sum.result.loose (take-one ns c.loop-index.index c.part.result c.part.ensures) c.loop-index.invariant.loose are.loose c.side-sum.ensures.loose;
      names = names-step c.args.self.now.pools.names ts (take c.loop-index.index ns) (take (c.loop-index.index + 1) ns) c.part.result c.loop-index.sum.names c.index.result.now.names c.side-sum.result.names (take-one ns c.loop-index.index c.part.result c.part.ensures) c.loop-index.invariant.names are.names c.side-sum.ensures.names;
      turn = turn-step ts (take c.loop-index.index ns) (take (c.loop-index.index + 1) ns) c.part.result c.loop-index.sum.turn c.index.result.now.turn c.side-sum.result.turn (take-one ns c.loop-index.index c.part.result c.part.ensures) c.loop-index.invariant.turn are.turn c.side-sum.ensures.turn;
    }

pub returns : goal.returns
returns c = extent-over c.args.self.now c.args.shape c.loop-index.index c.loop-index.sum c.above.result c.requires (omega arith) c.loop-index.invariant.size c.loop-index.invariant.greatest c.above.ensures.nodes c.above.ensures.depth c.loop-index.invariant.loose c.loop-index.invariant.names c.above.ensures.loose c.above.ensures.names c.loop-index.invariant.turn (c.above.ensures.turn ∙ ap (λ n. max n c.loop-index.sum.turn) c.own_turn.ensures)
