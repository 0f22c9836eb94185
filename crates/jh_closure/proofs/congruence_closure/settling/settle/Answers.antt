use Rattle.std.proofs.Common.{length}
use Rattle.jh_closure.specs.union_find.Merges.{class_of}
use Rattle.jh_closure.proofs.congruence_closure.Growing.{grown-trans}
use Rattle.jh_closure.proofs.congruence_closure.Waits.{joined-step}
use Rattle.jh_closure.proofs.congruence_closure.settling.settle.Goals as goal

pub loop-cause-preserved : goal.loop-cause-preserved
loop-cause-preserved c = record {
  grown = grown-trans c.args.nodes.now c.args.core.now c.loop-cause.core c.join.new.core c.loop-cause.invariant.grown c.join.ensures.grown;
  table = c.in_ok-join.ensures.table;
  right = λ said h.
      let before = c.loop-cause.invariant.right said h in
      c.in_ok-join.ensures.right said (record { trail = before.trail; causes = λ q w. before.causes q (c.in-Some.ensures.among q w) });
  keeps = λ j k hj hk e. c.in_ok-join.ensures.keeps j k hj hk (c.loop-cause.invariant.keeps j k hj hk e);
  joined = λ q h.
      joined-step (length c.args.nodes.now) (class_of c.loop-cause.core.forest.merges) (class_of c.join.new.core.forest.merges) c.loop-cause.pending.items c.next_apart.new.pending.items c.join.new.pending.items c.in-Some.cause q
      c.in_ok-join.ensures.keeps c.in_ok-join.ensures.joined c.in_ok-join.ensures.waits (c.requires.table.waiting.left q h) (c.requires.table.waiting.right q h) c.in-Some.ensures.kept (c.loop-cause.invariant.joined q h);
}
