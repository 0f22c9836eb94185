use Rattle.std.proofs.Common.{⊎_elim, sym, subst, ℕ}
use Rattle.jh_containers.specs.transitive_closure.Spreads.{IsIn}
use Rattle.jh_effects.specs.written_state.Reaching.{IsReached}
use Rattle.jh_effects.proofs.written_state.Reached.{below-next}
use Rattle.jh_effects.proofs.written_state.reaching.reached_facts.Goals as goal

-- src/reaching.rt
pub loop-of-preserved : goal.loop-of-preserved
loop-of-preserved c =
    let new = c.add_reached.new.list in
    let rows = c.args.given.now in
    let sources = c.args.sources.now in
    let of = c.loop-of.of in
    record {
      added = λ k what lt r. below-next (λ n. (w : ℕ) → IsReached rows sources n w → IsIn new (record { of = n; what = w })) of
          (λ n l w q. let old = c.loop-of.invariant.added n w l q in (old.0, c.in_ok-add_reached.ensures.keeps old.0 (record { of = n; what = w }) old.1))
          (λ w q. c.in_ok-add_reached.ensures.added w q) k lt what r;
      only = λ f h. ⊎_elim (λ s. subst (λ n. IsReached rows sources n f.what) (sym s.0) s.1) (λ k. c.loop-of.invariant.only f k) (c.in_ok-add_reached.ensures.only f h);
    }
