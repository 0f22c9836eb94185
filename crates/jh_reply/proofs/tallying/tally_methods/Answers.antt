use Rattle.std.proofs.Common.{◌≡◌, refl, Some, slice_get, arith, [], ◌∷◌, ◌++◌}
use Rattle.jh_run.proofs.of_jh_symbols.member_numbers.Puttings.{item-is}
use Rattle.jh_arena.proofs.table.Listed.{extends-refl, extends-trans}
use Rattle.jh_gen_laws.specs.jh_obligations.program_sequents.Owed.{Stand}
use Rattle.jh_reply.proofs.Judging.{leads-end, leads-next, paired-length, stand-at, stand-stays}
use Rattle.jh_reply.proofs.tallying.tally_methods.Goals as goal

-- src/tallying.rt
pub tally_method-requires-clause-stands : goal.tally_method-requires-clause-stands
tally_method-requires-clause-stands c =
    let t = c.args.table.now in
    let u = c.loop-place.table in
    let xs = c.args.sequents.now in
    let n = c.loop-place.place in
    let x = c.index-sequents-place.result in
    let at : slice_get xs n ≡ Some x = item-is xs n x c.loop-place-test.true c.index-sequents-place.is in
    let k = stand-at t xs c.requires.stand.0 n x at c.requires.stand.1 in
    (k.0, stand-stays t u c.loop-place.invariant.grows x k.0 k.2)

-- src/tallying.rt
pub loop-place-init : goal.loop-place-init
loop-place-init c = record {
  grows = extends-refl c.args.table.now;
  tallied = λ p ds stand. ([], record { methods = refl; sequents = refl; trivial = refl; bapa = refl; local = refl; unproved = refl }, λ more k. k);
}

-- src/tallying.rt
pub loop-place-preserved : goal.loop-place-preserved
loop-place-preserved c =
    let t = c.args.table.now in
    let u = c.loop-place.table in
    let xs = c.args.sequents.now in
    let n = c.loop-place.place in
    let x = c.index-sequents-place.result in
    let at : slice_get xs n ≡ Some x = item-is xs n x c.loop-place-test.true c.index-sequents-place.is in
    record {
      grows = extends-trans t u c.tally_method.new.table c.loop-place.invariant.grows c.tally_method.ensures.grows;
      tallied = λ p ds stand.
          let k = stand-at t xs ds n x at stand in
          let old = c.loop-place.invariant.tallied p ds stand in
          let one = c.in_ok-tally_method.ensures.tallied p old.0 k.0 (stand-stays t u c.loop-place.invariant.grows x k.0 k.2) old.1 in
          (old.0 ++ one.0 ∷ [], one.2, leads-next c.args.options p ds n k.0 k.1 old.0 one.0 one.1 old.2);
    }

-- src/tallying.rt
pub returns : goal.returns
returns c = λ p ds stand.
    let old = c.loop-place.invariant.tallied p ds stand in
    let long = paired-length (Stand c.args.table.now) c.args.sequents.now ds stand in
    (old.0, leads-end c.args.options p ds c.loop-place.place old.0 (omega (arith, long, c.loop-place-test.false)) old.2, old.1)
