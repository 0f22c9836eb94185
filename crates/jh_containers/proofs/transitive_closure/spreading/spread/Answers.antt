use Rattle.std.proofs.Common.{◌≡◌, sym, subst, ◌⊎◌, ℕ, ◌<◌, List, length, arith}
use Rattle.jh_containers.specs.declared.transitive_closure.facts.Fact.{Fact}
use Rattle.jh_containers.specs.transitive_closure.Spreads.{IsIn}
use Rattle.jh_containers.proofs.transitive_closure.Places.{only-given, done-more, all-there, sound-more}
use Rattle.jh_containers.proofs.transitive_closure.spreading.spread.Goals as goal

-- src/spreading.rt
pub loop-turn-init : goal.loop-turn-init
loop-turn-init c = record {
  start = c.in_ok-add_all.ensures.added;
  sound = λ f k. only-given c.args.facts.now c.args.edges.now c.new-list.result f c.new-list.ensures (c.in_ok-add_all.ensures.only f k);
  done = λ i f lt e m k. absurd (omega arith);
}

-- src/spreading.rt
pub returns-then-at-len : goal.returns-then-at-len
returns-then-at-len c = record {
  exact = λ f. (c.loop-turn.invariant.sound f, all-there c.args.facts.now c.args.edges.now c.loop-turn.list c.loop-turn.at (omega arith) c.loop-turn.invariant.start c.loop-turn.invariant.done f);
}

-- src/spreading.rt
pub loop-turn-preserved : goal.loop-turn-preserved
loop-turn-preserved c =
    let facts = c.args.facts.now in
    let edges = c.args.edges.now in
    let old = c.loop-turn.list in
    let new = c.pass_on.new.list in
    let fact = c.at-fact.result in
    let inside : c.loop-turn.at < length old = omega arith in
    let only = subst (λ (ms : List ℕ). (g : Fact) → IsIn new g → (IsIn ms g.of × (g.what ≡ fact.what)) ⊎ IsIn old g) c.passed_to.ensures c.in_ok-pass_on.ensures.only in
    record {
      start = λ f k. let r = c.loop-turn.invariant.start f k in (r.0, c.in_ok-pass_on.ensures.keeps r.0 f r.1);
      sound = sound-more facts edges old new fact only (c.loop-turn.at, c.at-fact.ensures) c.loop-turn.invariant.sound;
      done =
          done-more facts edges old new c.loop-turn.at fact inside c.at-fact.ensures c.in_ok-pass_on.ensures.keeps
          (λ m k. c.in_ok-pass_on.ensures.added m (subst (λ (ms : List ℕ). IsIn ms m) (sym c.passed_to.ensures) k)) c.loop-turn.invariant.done;
    }
