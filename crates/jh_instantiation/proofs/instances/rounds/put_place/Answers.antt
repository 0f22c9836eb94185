use Rattle.std.proofs.Common.{◌≡◌, ◌+◌, sym, ap, subst, ◌∙◌, if◌then◌else◌, List, [], ◌∷◌, ◌++◌, slice_get, Some}
use Rattle.jh_arena.specs.table.Nodes.{nodes}
use Rattle.jh_inst.specs.instances.Entries.{Entry}
use Rattle.jh_inst.specs.instances.Rounds as rounds
use Rattle.jh_inst.specs.instances.Rounds.{new_puts, all_puts, made_constants}
use Rattle.jh_instantiation.proofs.skolem_constants.Shapes.{formula-there}
use Rattle.jh_instantiation.specs.declared.instances.making.AtHand.{AtHand}
use Rattle.jh_instantiation.specs.instances.Standing.{IsMade}
use Rattle.jh_instantiation.specs.instances.Progressing.{IsProgress, put_each_of, after_puts}
use Rattle.jh_instantiation.proofs.instances.Growing.{terms-grow}
use Rattle.jh_instantiation.proofs.instances.Passes.{put-if, after-none}
use Rattle.jh_instantiation.proofs.instances.Placing.{closed-usable}
use Rattle.jh_instantiation.proofs.instances.Universals.{hand-at, hand-is, hands-grow}
use Rattle.jh_instantiation.proofs.instances.rounds.put_place.Goals as goal

pub put_all-requires-clause-there : goal.put_all-requires-clause-there
put_all-requires-clause-there c =
    let p = c.requires.there in
    let at = subst (λ (xs : List AtHand). slice_get xs c.args.place ≡ Some c.universal_at-universal.result) c.as_slice.ensures.value c.universal_at-universal.ensures in
    let h = hand-at c.args.table.now p.0.terms c.args.progress.now.at_hand.items p.0.at_hand c.args.place c.universal_at-universal.result p.1.at_hand at in
    formula-there (nodes c.args.table.now) c.universal_at-universal.result.node _ h.2.formula

pub put_all-requires-clause-usable : goal.put_all-requires-clause-usable
put_all-requires-clause-usable c = let p = c.requires.there in closed-usable c.args.table.now c.args.progress.now.terms.nodes.keys p.0.terms p.1.terms p.1.closed

pub returns-then-not-is_put-clause-made : goal.returns-then-not-is_put-clause-made
returns-then-not-is_put-clause-made c = λ p h hp hs.
    let t = c.args.table.now in
    let at = subst (λ (xs : List AtHand). slice_get xs c.args.place ≡ Some c.universal_at-universal.result) c.as_slice.ensures.value c.universal_at-universal.ensures in
    let is = hand-is t p.terms c.args.progress.now.at_hand.items p.at_hand c.args.place c.universal_at-universal.result h hp.at_hand at hs in
    let none = put-if c.args.of_one h p.terms p.next c.universal_at-universal.result.variables c.is_put.result is.variables c.is_put.ensures ∙ (λ i. if c.if-not-is_put.true i then new_puts h p.terms p.next else []) in
    subst (λ (q : rounds.Progress). IsProgress t c.args.progress.now q) (sym (ap (after_puts p) none ∙ after-none p)) hp

pub returns-clause-made : goal.returns-clause-made
returns-clause-made c = λ p h hp hs.
    let t = c.args.table.now in
    let u = c.put_all.new.table in
    let g = c.put_all.ensures.grows in
    let at = subst (λ (xs : List AtHand). slice_get xs c.args.place ≡ Some c.universal_at-universal.result) c.as_slice.ensures.value c.universal_at-universal.ensures in
    let is = hand-is t p.terms c.args.progress.now.at_hand.items p.at_hand c.args.place c.universal_at-universal.result h hp.at_hand at hs in
    let some = put-if c.args.of_one h p.terms p.next c.universal_at-universal.result.variables c.is_put.result is.variables c.is_put.ensures ∙ (λ i. if c.if-not-is_put.false i then new_puts h p.terms p.next else []) in
    let puts : new_puts h p.terms c.args.progress.now.next ≡ all_puts (put_each_of c.args.of_one (h ∷ [])) p.terms p.next = ap (new_puts h p.terms) (sym hp.next) ∙ sym some in
    record {
      entries = subst (λ (es : List Entry). IsMade u c.put_all.new.entries (p.entries ++ es)) puts (c.in_ok-next.ensures.made p.entries p.terms h hp.entries hp.terms is);
      at_hand = hands-grow t u g p.terms c.args.progress.now.at_hand.items p.at_hand hp.at_hand;
      terms = terms-grow t u g c.args.progress.now.terms.nodes.keys p.terms hp.terms;
      closed = hp.closed;
      next = (λ i. hp.next i + made_constants (sym puts i)) ∙ sym (c.in_ok-next.ensures.next p.terms h hp.terms is);
    }
