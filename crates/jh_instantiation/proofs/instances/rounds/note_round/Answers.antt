use Rattle.std.proofs.Common.{◌≡◌, sym, ap, subst, ◌∙◌, List, ◌++◌, length, drop}
use Rattle.std.proofs.lemmas.Result.{on_ok_weaker}
use Rattle.jh_instantiation.specs.closed_terms.Listed.{AreTerms}
use Rattle.jh_inst.specs.instances.Entries.{Entry, formulas}
use Rattle.jh_inst.specs.instances.Rounds as rounds
use Rattle.jh_inst.specs.instances.Rounds.{put_before, universals}
use Rattle.jh_inst.specs.instances.Terms.{with_terms_of}
use Rattle.jh_instantiation.specs.declared.instances.making.AtHand.{AtHand}
use Rattle.jh_instantiation.specs.instances.Progressing.{AreAtHand}
use Rattle.jh_instantiation.proofs.instances.Closing.{closed-of, behind-of}
use Rattle.jh_instantiation.proofs.instances.Lists.{drop-front}
use Rattle.jh_instantiation.proofs.instances.Placing.{terms-length}
use Rattle.jh_instantiation.proofs.instances.Universals.{put-noted}
use Rattle.jh_instantiation.proofs.instances.rounds.note_round.Goals as goal

pub returns : goal.returns
returns c = λ p es hp hf.
    let t = c.args.table.now in
    let xs = c.args.progress.now.at_hand.items in
    let us = with_terms_of p.terms (formulas es) in
    let more = behind-of p.terms (formulas es) in
    let many : c.len.result ≡ length p.terms = c.len.ensures ∙ terms-length t c.args.progress.now.terms.nodes.keys p.terms hp.terms in
    let rest : drop c.args.from (p.entries ++ es) ≡ es = ap (λ n. drop n (p.entries ++ es)) hf ∙ drop-front p.entries es in
    let noted = subst (λ (ys : List AtHand). AreAtHand t us ys (put_before p.terms p.at_hand)) (sym c.note_put.ensures) (put-noted t p.terms more.0 us c.len.result many more.1 xs p.at_hand hp.at_hand) in
    let hands = c.in_ok-add_universals.ensures us (put_before p.terms p.at_hand) (p.entries ++ es) noted hp.entries in
    on_ok_weaker c.add_terms.result
    (λ ht. record {
      entries = hp.entries;
      at_hand = subst (λ (js : List rounds.AtHand). AreAtHand t us c.add_universals.new.at_hand.items (put_before p.terms p.at_hand ++ js)) (λ i. universals (hf i) (rest i)) hands;
      terms = subst (λ (ys : List Entry). AreTerms t c.add_terms.new.terms.nodes.keys (with_terms_of p.terms (formulas ys))) rest ht;
      closed = closed-of p.terms (formulas es) hp.closed;
      next = hp.next;
    })
    (c.add_terms.ensures p.terms (p.entries ++ es) hp.terms hp.entries)
