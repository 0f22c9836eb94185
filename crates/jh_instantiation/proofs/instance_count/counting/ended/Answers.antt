use Rattle.std.proofs.Common.{◌≡◌, ◌∙◌, length, arith}
use Rattle.jh_inst.specs.instances.Count as spec
use Rattle.jh_instantiation.proofs.instance_count.Tallying.{group-at, groups-length, sum-none, sum-more, sum-all}
use Rattle.jh_instantiation.proofs.instance_count.counting.ended.Goals as goal

pub loop-index-init : goal.loop-index-init
loop-index-init c = λ t k h. sum-none c.args.tally.puts k.puts h.puts

pub loop-index-preserved : goal.loop-index-preserved
loop-index-preserved c = λ t k h.
    let some = group-at t c.args.groups.now k.at_hand c.loop-index.index c.group_at-group.result h.at_hand c.group_at-group.ensures in
    sum-more (spec.last_count k.terms) k.at_hand c.loop-index.index some.0 c.plus-puts.result c.loop-index.puts c.last_puts.result k.puts some.1 c.plus-puts.ensures (c.loop-index.invariant t k h) (c.last_puts.ensures t some.0 k.terms some.2 h.terms)

pub returns : goal.returns
returns c = λ t k h.
    let end : c.loop-index.index ≡ length c.args.groups.now = search arith in
    sum-all (spec.last_count k.terms) k.at_hand c.loop-index.index c.loop-index.puts k.puts (end ∙ groups-length t c.args.groups.now k.at_hand h.at_hand) (c.loop-index.invariant t k h)
