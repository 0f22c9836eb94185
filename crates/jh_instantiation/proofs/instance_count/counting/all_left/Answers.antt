use Rattle.std.proofs.Common.{◌≡◌, ◌∙◌, ◌≤◌, sym, ap, subst, ℕ, List, length, take, arith, add-one}
use Rattle.std.proofs.lemmas.List.{take_all}
use Rattle.jh_arena.proofs.table.Listed.{extends-trans}
use Rattle.jh_inst.specs.instances.Count as spec
use Rattle.jh_instantiation.specs.instance_count.Grouping.{AreGroups}
use Rattle.jh_instantiation.proofs.instance_count.Tallying.{group-at, group-grows, groups-length, left-more}
use Rattle.jh_instantiation.proofs.instance_count.counting.all_left.Goals as goal

pub add_left-requires : goal.add_left-requires
add_left-requires c =
    let t = c.args.table.now in
    let some = group-at t c.args.groups.now c.requires.there.0 c.loop-index.index c.group_at-group.result c.requires.there.1 c.group_at-group.ensures in
    record { there = (some.0, group-grows t c.loop-index.table c.loop-index.invariant.grows c.group_at-group.result some.0 some.2) }

pub loop-index-preserved : goal.loop-index-preserved
loop-index-preserved c =
    let t = c.args.table.now in
    let u = c.loop-index.table in
    let v = c.add_left.new.table in
    let i = c.loop-index.index in
    record {
      grows = extends-trans t u v c.loop-index.invariant.grows c.add_left.ensures.grows;
      made = λ gs n h e.
          let some = group-at t c.args.groups.now gs i c.group_at-group.result h c.group_at-group.ensures in
          let more = ap (λ (j : ℕ). spec.all_left n (take j gs)) (add-one i) ∙ left-more n gs i some.0 some.1 in
          subst (λ (hs : List spec.Group). AreGroups v c.add_left.new.groups.items hs) (sym more)
          (c.in_ok-add_left.ensures.left (spec.all_left n (take i gs)) some.0 n (c.loop-index.invariant.made gs n h e) (group-grows t u c.loop-index.invariant.grows c.group_at-group.result some.0 some.2) e);
    }

pub returns-clause-left : goal.returns-clause-left
returns-clause-left c = λ gs n h e.
    let end : c.loop-index.index ≡ length c.args.groups.now = search arith in
    let count = groups-length c.args.table.now c.args.groups.now gs h in
    let enough : length gs ≤ c.loop-index.index = omega (arith, end, count) in
    subst (λ (hs : List spec.Group). AreGroups c.loop-index.table c.loop-index.left.items (spec.all_left n hs)) (take_all c.loop-index.index gs enough) (c.loop-index.invariant.made gs n h e)
