use Rattle.std.proofs.Common.{◌≡◌, refl, ap, ◌∙◌, subst, List, [], ◌∷◌, ◌++◌, None, slice_get, rules}
use Rattle.jh_arena.specs.table.Entries.{the_truth}
use Rattle.jh_arena.specs.table.Nodes.{nodes}
use Rattle.jh_arena.proofs.table.Children.{it-is-truth}
use Rattle.jh_arena.proofs.table.Listed.{extends-refl, extends-trans}
use Rattle.jh_seq.specs.splitting.Split.{facts_of, facts_next}
use Rattle.jh_splitting.specs.declared.facts.Assumed.{Assumed}
use Rattle.jh_splitting.specs.Left.{FactsLeft}
use Rattle.jh_splitting.proofs.Shapes.{formula-there}
use Rattle.jh_splitting.proofs.Standings.{kept-refl, kept-trans}
use Rattle.jh_splitting.proofs.FactSteps.{facts-start, facts-end, facts-there}
use Rattle.jh_splitting.proofs.facts.with_facts.Goals as goal

pub loop-turn-init : goal.loop-turn-init
loop-turn-init c =
    let x : Assumed = record { node = c.args.node; mark = None; binders = c.args.binders } in
    let one : c.push.new.self.items ≡ x ∷ [] = c.in_ok-push.ensures.items ∙ ap (λ (z : List Assumed). z ++ x ∷ []) c.new-waiting.ensures.items in
    let r = c.requires.ready in
    let a = the_truth (slice_get (nodes c.args.table.now) c.args.node) in
    record {
      some = (
        r.1 ++ facts_of a None r.0 c.args.facts.next,
        facts_next a c.args.facts.next,
        facts-start c.args.table.now c.args.lists.now c.push.new.self.items x c.args.facts a r.0 r.1 one refl (it-is-truth (slice_get (nodes c.args.table.now) c.args.node) c.requires.there) r.2 r.3,
      );
      left = λ b ws hs e k h. facts-start c.args.table.now c.args.lists.now c.push.new.self.items x c.args.facts b ws hs one refl e k h;
      grows = extends-refl c.args.table.now;
      kept = kept-refl c.args.lists.now;
    }

pub returns-in-None-clause-hyps : goal.returns-in-None-clause-hyps
returns-in-None-clause-hyps c = λ a ws hs e k h.
    let none : c.loop-turn.waiting.items ≡ [] = search rules in
    (facts-end c.loop-turn.table c.loop-turn.lists c.loop-turn.waiting.items c.loop-turn.found (hs ++ facts_of a None ws c.args.facts.next) (facts_next a c.args.facts.next) none (c.loop-turn.invariant.left a ws hs e k h)).0

pub returns-in-None-clause-next : goal.returns-in-None-clause-next
returns-in-None-clause-next c = λ a e.
    let none : c.loop-turn.waiting.items ≡ [] = search rules in
    let r = c.requires.ready in
    (facts-end c.loop-turn.table c.loop-turn.lists c.loop-turn.waiting.items c.loop-turn.found (r.1 ++ facts_of a None r.0 c.args.facts.next) (facts_next a c.args.facts.next) none (c.loop-turn.invariant.left a r.0 r.1 e r.2 r.3)).1

pub take_apart-requires : goal.take_apart-requires
take_apart-requires c =
    let r = c.loop-turn.invariant.some in
    let there = facts-there c.loop-turn.table c.loop-turn.lists c.pop.new.self.items c.in-Some.assumed c.loop-turn.found r.0 r.1
    (subst (λ (z : List Assumed). FactsLeft c.loop-turn.table c.loop-turn.lists z c.loop-turn.found r.0 r.1) c.in-Some.ensures.items r.2) in
    record { there = formula-there (nodes c.loop-turn.table) c.in-Some.assumed.node there.0 there.1 }

pub loop-turn-preserved : goal.loop-turn-preserved
loop-turn-preserved c =
    let t0 = c.loop-turn.table in
    let l0 = c.loop-turn.lists in
    let r = c.loop-turn.invariant.some in
    record {
      some = (r.0, r.1, c.in_ok-take_apart-in-Some.ensures.left r.0 r.1 (subst (λ (z : List Assumed). FactsLeft t0 l0 z c.loop-turn.found r.0 r.1) c.in-Some.ensures.items r.2));
      left = λ a ws hs e k h. c.in_ok-take_apart-in-Some.ensures.left (hs ++ facts_of a None ws c.args.facts.next) (facts_next a c.args.facts.next)
          (subst (λ (z : List Assumed). FactsLeft t0 l0 z c.loop-turn.found (hs ++ facts_of a None ws c.args.facts.next) (facts_next a c.args.facts.next)) c.in-Some.ensures.items (c.loop-turn.invariant.left a ws hs e k h));
      grows = extends-trans c.args.table.now t0 c.take_apart.new.table c.loop-turn.invariant.grows c.take_apart.ensures.grows;
      kept = kept-trans c.args.lists.now l0 c.take_apart.new.lists c.loop-turn.invariant.kept c.take_apart.ensures.kept;
    }
