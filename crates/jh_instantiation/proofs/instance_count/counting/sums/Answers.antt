use Rattle.std.proofs.Common.{◌≡◌, ◌∙◌, length, arith}
use Rattle.jh_arena.specs.table.Nodes.{nodes}
use Rattle.jh_inst.specs.instances.Count as spec
use Rattle.jh_instantiation.proofs.skolem_constants.Shapes.{formula-there}
use Rattle.jh_instantiation.proofs.instance_count.Tallying.{group-at, groups-length, sum-none, sum-more, sum-all}
use Rattle.jh_instantiation.proofs.instance_count.counting.sums.Goals as goal

pub loop-index-init : goal.loop-index-init
loop-index-init c = record {
  puts = λ k h. sum-none c.args.tally.puts k.puts h.puts;
  terms = λ k h. sum-none c.args.tally.terms k.terms h.terms;
}

pub added-requires : goal.added-requires
added-requires c =
    let t = c.args.table.now in
    let some = group-at t c.args.groups.now c.requires.there.0 c.loop-index.index c.group_at-group.result c.requires.there.1 c.group_at-group.ensures in
    record { there = formula-there (nodes t) c.group_at-group.result.node some.0.formula some.2.formula }

pub loop-index-preserved : goal.loop-index-preserved
loop-index-preserved c =
    let t = c.args.table.now in
    record {
      puts = λ k h.
          let some = group-at t c.args.groups.now k.at_hand c.loop-index.index c.group_at-group.result h.at_hand c.group_at-group.ensures in
          sum-more (spec.group_puts k.terms) k.at_hand c.loop-index.index some.0 c.plus-puts.result c.loop-index.puts c.puts.result k.puts some.1 c.plus-puts.ensures (c.loop-index.invariant.puts k h) (c.puts.ensures t some.0 k.terms some.2 h.terms);
      terms = λ k h.
          let some = group-at t c.args.groups.now k.at_hand c.loop-index.index c.group_at-group.result h.at_hand c.group_at-group.ensures in
          sum-more (spec.group_terms k.terms) k.at_hand c.loop-index.index some.0 c.plus-terms.result c.loop-index.terms c.in_ok-added.added k.terms some.1 c.plus-terms.ensures (c.loop-index.invariant.terms k h) (c.in_ok-added.ensures some.0 k.terms some.2 h.terms);
    }

pub returns : goal.returns
returns c = λ k h.
    let end : c.loop-index.index ≡ length c.args.groups.now = search arith in
    let all = end ∙ groups-length c.args.table.now c.args.groups.now k.at_hand h.at_hand in (
      sum-all (spec.group_puts k.terms) k.at_hand c.loop-index.index c.loop-index.puts k.puts all (c.loop-index.invariant.puts k h),
      sum-all (spec.group_terms k.terms) k.at_hand c.loop-index.index c.loop-index.terms k.terms all (c.loop-index.invariant.terms k h),
    )
