use Rattle.std.proofs.Common.{◌≤◌, ◌<◌, refl, sym, ap, subst, ◌∙◌, arith, List, length}
use Rattle.std.proofs.lemmas.List.{take_all}
use Rattle.jh_arena.proofs.table.Listed.{extends-refl, extends-trans}
use Rattle.jh_inst.specs.instances.Rounds as rounds
use Rattle.jh_inst.specs.instances.Rounds.{all_puts}
use Rattle.jh_instantiation.specs.instances.Progressing.{IsProgress, put_each_of, after_puts}
use Rattle.jh_instantiation.proofs.instances.Lists.{item-there}
use Rattle.jh_instantiation.proofs.instances.Passes.{first_puts, puts-none, puts-next}
use Rattle.jh_instantiation.proofs.instances.Universals.{hand-length}
use Rattle.jh_instantiation.proofs.instances.rounds.put_each.Goals as goal

pub loop-place-init : goal.loop-place-init
loop-place-init c = record {
  grows = extends-refl c.args.table.now;
  at_hand = refl;
  made = λ p hp. subst (λ (q : rounds.Progress). IsProgress c.args.table.now c.args.progress.now q) (sym (puts-none c.args.of_one p)) hp;
}

pub put_place-requires-clause-there : goal.put_place-requires-clause-there
put_place-requires-clause-there c = let p = c.requires.there in (after_puts p.0 (first_puts c.args.of_one c.loop-place.place p.0), c.loop-place.invariant.made p.0 p.1)

pub put_place-requires-clause-place : goal.put_place-requires-clause-place
put_place-requires-clause-place c = let same = ap length c.loop-place.invariant.at_hand in omega (arith, c.loop-place-test.true, same)

pub loop-place-preserved : goal.loop-place-preserved
loop-place-preserved c = record {
  grows = extends-trans c.args.table.now c.loop-place.table c.put_place.new.table c.loop-place.invariant.grows c.put_place.ensures.grows;
  at_hand = c.in_ok-put_place.ensures.at_hand ∙ c.loop-place.invariant.at_hand;
  made = λ p hp.
      let long = hand-length c.args.table.now p.terms c.args.progress.now.at_hand.items p.at_hand hp.at_hand in
      let inside : c.loop-place.place < length p.at_hand = omega (arith, c.loop-place-test.true, long) in
      let h = item-there p.at_hand c.loop-place.place inside in
      subst (λ (q : rounds.Progress). IsProgress c.put_place.new.table c.put_place.new.progress q) (puts-next c.args.of_one c.loop-place.place p h.0 h.1)
      (c.in_ok-put_place.ensures.made (after_puts p (first_puts c.args.of_one c.loop-place.place p)) h.0 (c.loop-place.invariant.made p hp) h.1);
}

pub returns-clause-made : goal.returns-clause-made
returns-clause-made c = λ p hp.
    let long = hand-length c.args.table.now p.terms c.args.progress.now.at_hand.items p.at_hand hp.at_hand in
    let all : length p.at_hand ≤ c.loop-place.place = omega (arith, c.loop-place-test.false, long) in
    subst (λ (hs : List rounds.AtHand). IsProgress c.loop-place.table c.loop-place.progress (after_puts p (all_puts (put_each_of c.args.of_one hs) p.terms p.next))) (take_all c.loop-place.place p.at_hand all)
    (c.loop-place.invariant.made p hp)
