use Rattle.std.proofs.Common.{◌≡◌, sym, ap, subst, ◌∙◌, arith, List}
use Rattle.jh_arena.proofs.table.Listed.{extends-refl, extends-trans}
use Rattle.jh_inst.specs.instances.Rounds as rounds
use Rattle.jh_instantiation.specs.declared.instances.making.AtHand.{AtHand}
use Rattle.jh_instantiation.specs.instances.Progressing.{IsProgress, AreAtHand}
use Rattle.jh_instantiation.proofs.instances.Passes.{rounds-next, rounds-stay}
use Rattle.jh_instantiation.proofs.instances.Universals.{none-at-hand}
use Rattle.jh_instantiation.proofs.instances.rounds.all_rounds.Goals as goal

pub loop-turn-init : goal.loop-turn-init
loop-turn-init c = record {
  grows = extends-refl c.args.table.now;
  bound = omega arith;
  made = λ p hp. hp;
}

pub round-requires : goal.round-requires
round-requires c = let p = c.requires.there in record { there = (rounds.rounds c.loop-turn._turn p.0, c.loop-turn.invariant.made p.0 p.1) }

pub loop-turn-preserved : goal.loop-turn-preserved
loop-turn-preserved c = record {
  grows = extends-trans c.args.table.now c.loop-turn.table c.round.new.table c.loop-turn.invariant.grows c.round.ensures.grows;
  bound = omega (arith, c.loop-turn-test.true);
  made = λ p hp. subst (λ (q : rounds.Progress). IsProgress c.round.new.table c.round.new.progress q) (sym (rounds-next c.loop-turn._turn p)) (c.in_ok-round.ensures.made (rounds.rounds c.loop-turn._turn p) (c.loop-turn.invariant.made p hp));
}

pub returns-then-none_at_hand-clause-made : goal.returns-then-none_at_hand-clause-made
returns-then-none_at_hand-clause-made c = λ p hp.
    let q : rounds.Progress = rounds.rounds c.loop-turn._turn p in
    let here = c.loop-turn.invariant.made p hp in
    let empty = sym c.as_slice.ensures.value ∙ c.none_at_hand.ensures c.if-none_at_hand.true in
    let none = none-at-hand c.loop-turn.table q.terms q.at_hand (subst (λ (xs : List AtHand). AreAtHand c.loop-turn.table q.terms xs q.at_hand) empty here.at_hand) in
    (q, here, rounds-stay c.loop-turn._turn c.args.rounds p c.loop-turn.invariant.bound none)

pub returns-clause-made : goal.returns-clause-made
returns-clause-made c = λ p hp.
    let all : c.loop-turn._turn ≡ c.args.rounds = omega (arith, c.loop-turn-test.false, c.loop-turn.invariant.bound) in
    (rounds.rounds c.loop-turn._turn p, c.loop-turn.invariant.made p hp, ap (λ n. rounds.ended (rounds.rounds n p)) all)
