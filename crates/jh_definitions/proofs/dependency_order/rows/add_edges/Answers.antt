use Rattle.std.proofs.Common.{◌<◌, ◌∙◌, length, get_or, arith}
use Rattle.std.proofs.lemmas.Option.{slice_get_within}
use Rattle.jh_containers.proofs.transitive_closure.Places.{is-in-item}
use Rattle.jh_definitions.proofs.dependency_order.Readers.{added-next, within}
use Rattle.jh_definitions.proofs.dependency_order.rows.add_edges.Goals as goal

-- src/rows.rt
pub add-requires : goal.add-requires
add-requires c = within (c.requires (get_or c.args.read.now c.loop-thing.thing-index 0) (is-in-item c.args.read.now c.loop-thing.thing-index 0 c.loop-thing-test.true)) c.loop-thing.invariant.count

-- src/rows.rt
pub loop-thing-preserved : goal.loop-thing-preserved
loop-thing-preserved c = record {
  added = added-next c.args.read.now c.loop-thing.edges c.add.new.self c.args.reader c.loop-thing.thing-index c.loop-thing-test.true c.in_ok-add.ensures.added c.in_ok-add.ensures.keeps c.loop-thing.invariant.added;
  keeps = λ d r h. c.in_ok-add.ensures.keeps d r (c.loop-thing.invariant.keeps d r h);
  count = c.in_ok-add.ensures.count ∙ c.loop-thing.invariant.count;
}

-- src/rows.rt
pub returns-clause-added : goal.returns-clause-added
returns-clause-added c = λ d h. let inside : h.0 < length c.args.read.now = slice_get_within c.args.read.now h.0 d h.1 in c.loop-thing.invariant.added h.0 d (omega arith) h.1
