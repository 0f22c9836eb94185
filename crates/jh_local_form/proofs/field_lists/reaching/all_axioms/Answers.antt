use Rattle.std.proofs.Common.{subst, List, take, arith}
use Rattle.std.specs.List.{flat_map}
use Rattle.std.proofs.lemmas.List.{take_all}
use Rattle.jh_arena.proofs.table.Listed.{extends-refl, extends-trans}
use Rattle.jh_reach.specs.Axioms.{BackboneTree, axioms_of}
use Rattle.jh_reach.specs.Standing.{AreFormulas}
use Rattle.jh_reach.proofs.Standings.{formulas-none}
use Rattle.jh_local_form.proofs.field_lists.Standing.{backbone-at, backbone-grows, backbones-length}
use Rattle.jh_local_form.proofs.field_lists.Reached.{axioms-next}
use Rattle.jh_local_form.proofs.field_lists.reaching.all_axioms.Goals as goal

pub loop-place-init : goal.loop-place-init
loop-place-init c = record { axioms = λ bs are. formulas-none c.args.table.now c.new-axioms.result.items c.new-axioms.ensures.items; grows = extends-refl c.args.table.now }

pub add_axioms-requires : goal.add_axioms-requires
add_axioms-requires c =
    let b = backbone-at c.args.table.now c.args.made.now c.requires.made.0 c.loop-place.place c.backbone_at.result c.requires.made.1 c.backbone_at.ensures in
    record { backbone = (b.0, backbone-grows c.args.table.now c.loop-place.table c.loop-place.invariant.grows c.backbone_at.result b.0 b.2) }

pub loop-place-preserved : goal.loop-place-preserved
loop-place-preserved c =
    let t0 = c.args.table.now in
    let t1 = c.loop-place.table in
    let t2 = c.add_axioms.new.table in
    let i = c.loop-place.place in
    record {
      axioms = λ bs are.
          let b = backbone-at t0 c.args.made.now bs i c.backbone_at.result are c.backbone_at.ensures in
          axioms-next t2 c.add_axioms.new.axioms.items bs i b.0 b.1
          (c.in_ok-add_axioms.ensures.axioms b.0 (flat_map axioms_of (take i bs)) (backbone-grows t0 t1 c.loop-place.invariant.grows c.backbone_at.result b.0 b.2) (c.loop-place.invariant.axioms bs are));
      grows = extends-trans t0 t1 t2 c.loop-place.invariant.grows c.add_axioms.ensures.grows;
    }

pub returns-clause-axioms : goal.returns-clause-axioms
returns-clause-axioms c = λ bs are.
    let long = backbones-length c.args.table.now c.args.made.now bs are in
    subst (λ (ds : List BackboneTree). AreFormulas c.loop-place.table c.loop-place.axioms.items (flat_map axioms_of ds)) {y = bs} (take_all c.loop-place.place bs (search (arith, long))) (c.loop-place.invariant.axioms bs are)
