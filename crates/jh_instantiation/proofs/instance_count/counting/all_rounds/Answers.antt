use Rattle.std.proofs.Common.{◌≡◌, ◌∙◌, ◌≤◌, sym, ap, subst, length, arith}
use Rattle.std.proofs.lemmas.Bool.{eqb-true}
use Rattle.jh_arena.proofs.table.Listed.{extends-refl, extends-trans}
use Rattle.jh_inst.specs.instances.Count as spec
use Rattle.jh_instantiation.specs.instance_count.Grouping.{IsTally}
use Rattle.jh_instantiation.proofs.instance_count.Tallying.{no-groups, rounds-next, rounds-stay}
use Rattle.jh_instantiation.proofs.instance_count.counting.all_rounds.Goals as goal

pub loop-round-init : goal.loop-round-init
loop-round-init c = record { grows = extends-refl c.args.table.now; so_far = λ k h. h }

pub round-requires : goal.round-requires
round-requires c = record { there = (spec.tally_rounds c.loop-round._round c.requires.there.0, c.loop-round.invariant.so_far c.requires.there.0 c.requires.there.1) }

pub loop-round-preserved : goal.loop-round-preserved
loop-round-preserved c = record {
  grows = extends-trans c.args.table.now c.loop-round.table c.round.new.table c.loop-round.invariant.grows c.round.ensures.grows;
  so_far = λ k h.
      subst (λ (m : spec.Tally). IsTally c.round.new.table c.round.new.groups.items c.in_ok-tally.tally m) (sym (rounds-next c.loop-round._round k))
      (c.in_ok-tally.ensures.tally (spec.tally_rounds c.loop-round._round k) (c.loop-round.invariant.so_far k h));
}

pub returns-then-is_empty-clause-tally : goal.returns-then-is_empty-clause-tally
returns-then-is_empty-clause-tally c = λ k h.
    let t = c.loop-round.table in
    let n = c.loop-round._round in
    let groups = c.loop-round.groups.items in
    let so_far = c.loop-round.invariant.so_far k h in
    let none : length groups ≡ 0 = ap length (sym c.as_slice.ensures.value) ∙ eqb-true (length c.as_slice.result.now) 0 (sym c.is_empty.ensures ∙ c.if-is_empty.true) in
    let least : n ≤ c.args.rounds = search arith in
    subst (λ (m : spec.Tally). IsTally t groups c.loop-round.tally m) (sym (rounds-stay n c.args.rounds k least (no-groups t groups (spec.tally_rounds n k).at_hand none so_far.at_hand))) so_far

pub returns-clause-tally : goal.returns-clause-tally
returns-clause-tally c = λ k h.
    let end : c.loop-round._round ≡ c.args.rounds = search arith in
    subst (λ n. IsTally c.loop-round.table c.loop-round.groups.items c.loop-round.tally (spec.tally_rounds n k)) end (c.loop-round.invariant.so_far k h)
