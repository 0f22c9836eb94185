use Rattle.std.proofs.Common.{◌<◌, sym, subst, ◌∙◌, refl, ℕ, get_or, arith}
use Rattle.jh_containers.specs.transitive_closure.Spreads.{passed_to}
use Rattle.jh_effects.proofs.written_state.Rowing.{put-next, put-end}
use Rattle.jh_effects.proofs.written_state.choosing.put_all.Goals as goal

-- src/choosing.rt
pub loop-thing-preserved : goal.loop-thing-preserved
loop-thing-preserved c =
    let things = c.args.things.now in
    let i = c.loop-thing.thing-index in
    record {
      put = λ other lt.
          put-next c.args.place other things i (get_or things i 0) 0 (passed_to c.args.rows.now other) (passed_to c.loop-thing.rows other) (passed_to c.put_known.new.rows other) c.loop-thing-test.true refl (c.loop-thing.invariant.put other lt)
          (c.in_ok-put_known.ensures.put other (subst (λ (n : ℕ). other < n) (sym c.loop-thing.invariant.count) lt));
      count = c.in_ok-put_known.ensures.count ∙ c.loop-thing.invariant.count;
    }

-- src/choosing.rt
pub returns-clause-put : goal.returns-clause-put
returns-clause-put c = λ other lt. put-end c.args.place other c.args.things.now c.loop-thing.thing-index (passed_to c.args.rows.now other) (passed_to c.loop-thing.rows other) (omega arith) (c.loop-thing.invariant.put other lt)
