use Rattle.std.proofs.Common.{inl, inr, ⊎_elim, ℕ}
use Rattle.std.proofs.lemmas.Result.{on_ok_weaker}
use Rattle.jh_containers.specs.declared.transitive_closure.facts.Fact.{Fact}
use Rattle.jh_containers.specs.transitive_closure.Spreads.{IsIn, passed_to}
use Rattle.jh_effects.specs.written_state.Reaching.{itself, IsReached}
use Rattle.jh_effects.proofs.written_state.Reached.{reached-of}
use Rattle.jh_effects.proofs.written_state.reaching.add_reached.Goals as goal

-- src/reaching.rt
pub returns-clause-added : goal.returns-clause-added
returns-clause-added c =
    let reached = c.in_ok-reached.reached in
    let rows = c.args.given.now in
    on_ok_weaker c.add_rows.result
    (λ (h : (f : Fact) (what : ℕ) → IsIn reached f → IsIn (passed_to rows f.of) what → IsIn c.add_rows.new.list (record { of = c.args.of; what = what })) what (r : IsReached rows c.args.sources.now c.args.of what). h (itself r.from) what ((c.in_ok-reached.ensures.exact (itself r.from)).1 r.reached) r.given)
    c.add_rows.ensures.added

-- src/reaching.rt
pub returns-clause-only : goal.returns-clause-only
returns-clause-only c = λ f h. ⊎_elim
    (λ s. inl (s.0, reached-of c.args.given.now c.args.sources.now c.args.of (s.1).0 f.what ((c.in_ok-reached.ensures.exact (s.1).0).0 (s.1).1) (s.1).2))
    (λ k. inr k)
    (c.add_rows.ensures.only f h)
