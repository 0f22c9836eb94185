use Rattle.std.proofs.Common.{◌≡◌, ◌+◌, ◌-◌, ◌≤◌, ◌<◌, refl, sym, ap, subst, ◌∙◌, arith, ℕ, Bool, not, ◌||◌, List, [], ◌∷◌, ◌++◌, length, take, slice_get, OnOk, IfOk}
use Rattle.jh_form.specs.Tree.{TermTree, of_object}
use Rattle.jh_arena.specs.table.Nodes.{nodes}
use Rattle.jh_arena.proofs.table.Children.{it-is-object}
use Rattle.jh_arena.proofs.table.Listed.{extends-refl, extends-trans, grows-refl}
use Rattle.jh_instantiation.specs.closed_terms.Listed.{AreTerms}
use Rattle.jh_inst.specs.instances.Entries.{Entry}
use Rattle.jh_inst.specs.instances.Rounds.{puts, made_constants}
use Rattle.jh_inst.specs.instances.Terms.{is_among}
use Rattle.jh_instantiation.proofs.skolem_constants.Shapes.{truth-grows, formula-at, formula-grows, formula-there}
use Rattle.jh_instantiation.specs.instances.Choosing.{choices_from}
use Rattle.jh_instantiation.specs.instances.Standing.{IsMade}
use Rattle.jh_instantiation.proofs.instances.Fronts.{next_choices, none-left, puts-none, constants-none, leads-next, front-next, front-constants, front-all}
use Rattle.jh_instantiation.proofs.instances.Growing.{entries-grow, terms-grow, one-term}
use Rattle.jh_instantiation.proofs.instances.Lists.{item-there}
use Rattle.jh_instantiation.proofs.instances.Placing.{term-is, terms-length, usable-at, usable-grows}
use Rattle.jh_instantiation.proofs.instances.Universals.{hand-grows}
use Rattle.jh_instantiation.proofs.instances.putting.+put_rest.Goals as goal

pub put_rest-returns-then-left-eq0-clause-made : goal.put_rest-returns-then-left-eq0-clause-made
put_rest-returns-then-left-eq0-clause-made t c = λ es ts h a w hm ht hh hw hf hl.
    let chosen = subst (λ (ns : List ℕ). AreTerms c.args.table.now ns w) (sym c.as_slice.ensures.value) hw in
    subst (λ (n : ℕ). OnOk c.put_chosen.result (IsMade c.put_chosen.new.table c.put_chosen.new.entries (es ++ puts h (choices_from w c.args.is_new n ts h.old) c.args.next))) (sym c.if-left-eq0.true)
    (c.put_chosen.ensures.made es ts h a w hm hh chosen hf hl)

pub put_rest-returns-then-left-eq0-clause-next : goal.put_rest-returns-then-left-eq0-clause-next
put_rest-returns-then-left-eq0-clause-next t c = λ ts h a w ht hh hw hf hl.
    subst (λ (n : ℕ). IfOk c.put_chosen.result (λ free. free ≡ c.args.next + made_constants (puts h (choices_from w c.args.is_new n ts h.old) c.args.next))) (sym c.if-left-eq0.true)
    (c.put_chosen.ensures.next ts h a w hf hl)

pub put_rest-loop-place-init : goal.put_rest-loop-place-init
put_rest-loop-place-init t c = record {
  grows = extends-refl c.args.table.now;
  chosen = refl;
  made = λ es ts h a w hm ht hh hw hf hl. subst (λ (xs : List Entry). IsMade c.args.table.now c.args.entries.now xs) (puts-none h es [] c.args.next refl) hm;
  next = λ ts h a w ht hh hw hf hl. constants-none h [] c.args.next refl;
}

pub put_rest-put_next-requires : goal.put_rest-put_next-requires
put_rest-put_next-requires t c =
    let u = c.args.table.now in
    let v = c.loop-place.table in
    let some : 1 ≤ c.args.left = omega (arith, c.if-left-eq0.false) in
    let inside : c.loop-place.place < length c.args.terms.now.nodes.keys = omega (arith, c.loop-place-test.true, c.len-place-end.ensures) in
    (omega (arith, c.decreases), (truth-grows u v c.args.node c.loop-place.invariant.grows c.requires.there, (usable-grows u v c.loop-place.invariant.grows c.args.terms.now.nodes.keys c.requires.usable, (some, inside))))

pub put_rest-loop-place-preserved : goal.put_rest-loop-place-preserved
put_rest-loop-place-preserved t c =
    let u = c.args.table.now in
    let v = c.loop-place.table in
    let g = c.loop-place.invariant.grows in
    record {
      grows = extends-trans u v c.put_next.new.table g c.put_next.ensures.grows;
      chosen = c.in_ok-free.ensures.chosen ∙ c.loop-place.invariant.chosen;
      made = λ es ts h a w hm ht hh hw hf hl.
          let k = c.loop-place.invariant.next ts h a w ht hh hw hf hl in
          let long = terms-length u c.args.terms.now.nodes.keys ts ht in
          let inside : c.loop-place.place < length ts = omega (arith, c.loop-place-test.true, c.len-place-end.ensures, long) in
          let x = item-there ts c.loop-place.place inside in
          let chosen = subst (λ (ns : List ℕ). AreTerms v ns w) (sym c.loop-place.invariant.chosen) (terms-grow u v g c.args.chosen.now.items w hw) in
          subst (λ (xs : List Entry). IsMade c.put_next.new.table c.put_next.new.entries xs)
          (front-next h w c.args.is_new (c.args.left - 1) ts c.args.next c.loop-place.place c.loop-place.free x.0 x.1 k es)
          (c.in_ok-free.ensures.made (es ++ puts h (next_choices w c.args.is_new (c.args.left - 1) ts h.old (take c.loop-place.place ts)) c.args.next) ts h a w x.0
          (c.loop-place.invariant.made es ts h a w hm ht hh hw hf hl) (terms-grow u v g c.args.terms.now.nodes.keys ts ht) (hand-grows u v g ts c.args.universal h hh) chosen (formula-grows u v c.args.node a g hf) hl x.1);
      next = λ ts h a w ht hh hw hf hl.
          let k = c.loop-place.invariant.next ts h a w ht hh hw hf hl in
          let long = terms-length u c.args.terms.now.nodes.keys ts ht in
          let inside : c.loop-place.place < length ts = omega (arith, c.loop-place-test.true, c.len-place-end.ensures, long) in
          let x = item-there ts c.loop-place.place inside in
          let chosen = subst (λ (ns : List ℕ). AreTerms v ns w) (sym c.loop-place.invariant.chosen) (terms-grow u v g c.args.chosen.now.items w hw) in
          front-constants h w c.args.is_new (c.args.left - 1) ts c.args.next c.loop-place.place c.loop-place.free x.0 x.1 k c.in_ok-free.free
          (c.in_ok-free.ensures.next ts h a w x.0 (terms-grow u v g c.args.terms.now.nodes.keys ts ht) (hand-grows u v g ts c.args.universal h hh) chosen (formula-grows u v c.args.node a g hf) hl x.1);
    }

pub put_rest-returns-clause-made : goal.put_rest-returns-clause-made
put_rest-returns-clause-made t c = λ es ts h a w hm ht hh hw hf hl.
    let long = terms-length c.args.table.now c.args.terms.now.nodes.keys ts ht in
    let all : length ts ≤ c.loop-place.place = omega (arith, c.loop-place-test.false, c.len-place-end.ensures, long) in
    subst (λ (cs : List (List TermTree)). IsMade c.loop-place.table c.loop-place.entries (es ++ puts h cs c.args.next)) (front-all w c.args.is_new ts h.old c.args.left c.loop-place.place c.if-left-eq0.false all)
    (c.loop-place.invariant.made es ts h a w hm ht hh hw hf hl)

pub put_rest-returns-clause-next : goal.put_rest-returns-clause-next
put_rest-returns-clause-next t c = λ ts h a w ht hh hw hf hl.
    let long = terms-length c.args.table.now c.args.terms.now.nodes.keys ts ht in
    let all : length ts ≤ c.loop-place.place = omega (arith, c.loop-place-test.false, c.len-place-end.ensures, long) in
    c.loop-place.invariant.next ts h a w ht hh hw hf hl ∙ ap (λ cs. c.args.next + made_constants (puts h cs c.args.next)) (front-all w c.args.is_new ts h.old c.args.left c.loop-place.place c.if-left-eq0.false all)

pub put_next-returns-then-is_old-clause-made : goal.put_next-returns-then-is_old-clause-made
put_next-returns-then-is_old-clause-made t c = λ es ts h a w x hm ht hh hw hf hl hs.
    let old = c.is_old.ensures c.if-is_old.true in
    let flag = sym (c.has_new-new.ensures ts x ht hs ∙ ap (λ ys. c.args.is_new || not (is_among x ys)) (sym hh.old)) ∙ old.0 in
    let none : c.args.left - 1 ≡ 0 = omega (arith, old.1) in
    subst (λ (xs : List Entry). IsMade c.args.table.now c.args.entries.now xs)
    (puts-none h es (choices_from (w ++ (x ∷ [])) (c.args.is_new || not (is_among x h.old)) (c.args.left - 1) ts h.old) c.args.next (none-left (w ++ (x ∷ [])) (c.args.is_new || not (is_among x h.old)) (c.args.left - 1) ts h.old none flag)) hm

pub put_next-returns-then-is_old-clause-next : goal.put_next-returns-then-is_old-clause-next
put_next-returns-then-is_old-clause-next t c = λ ts h a w x ht hh hw hf hl hs.
    let old = c.is_old.ensures c.if-is_old.true in
    let flag = sym (c.has_new-new.ensures ts x ht hs ∙ ap (λ ys. c.args.is_new || not (is_among x ys)) (sym hh.old)) ∙ old.0 in
    let none : c.args.left - 1 ≡ 0 = omega (arith, old.1) in
    constants-none h (choices_from (w ++ (x ∷ [])) (c.args.is_new || not (is_among x h.old)) (c.args.left - 1) ts h.old) c.args.next (none-left (w ++ (x ∷ [])) (c.args.is_new || not (is_among x h.old)) (c.args.left - 1) ts h.old none flag)

pub put_next-put_one-requires-clause-with : goal.put_next-put_one-requires-clause-with
put_next-put_one-requires-clause-with t c = (usable-at c.args.table.now c.args.terms.now.nodes.keys c.args.place c.at-term.result c.requires.usable c.at-term.ensures).0

pub put_next-put_one-requires-clause-closed : goal.put_next-put_one-requires-clause-closed
put_next-put_one-requires-clause-closed t c = (usable-at c.args.table.now c.args.terms.now.nodes.keys c.args.place c.at-term.result c.requires.usable c.at-term.ensures).1

pub put_next-put_rest-requires : goal.put_next-put_rest-requires
put_next-put_rest-requires t c =
    let u = c.args.table.now in
    let v = c.put_one.new.table in
    let keys = c.args.terms.now.nodes.keys in
    let usable = usable-at u keys c.args.place c.at-term.result c.requires.usable c.at-term.ensures in
    let inner = c.in_ok-inner.ensures.put _ _ (formula-at (nodes u) c.args.node c.requires.there) (it-is-object (slice_get (nodes u) c.at-term.result) usable.0) in
    (omega (arith, c.decreases, c.requires.left), (formula-there (nodes v) c.in_ok-inner.inner inner.0 inner.1, usable-grows u v c.put_one.ensures.grows keys c.requires.usable))

pub put_next-returns-clause-made : goal.put_next-returns-clause-made
put_next-returns-clause-made t c = λ es ts h a w x hm ht hh hw hf hl hs.
    let u = c.args.table.now in
    let v = c.put_one.new.table in
    let g = c.put_one.ensures.grows in
    let keys = c.args.terms.now.nodes.keys in
    let pool = c.args.entries.now.terms.items in
    let at = term-is u keys ts c.args.place c.at-term.result x ht c.at-term.ensures hs in
    let inner = c.in_ok-inner.ensures.put a x hf at in
    let chosen = subst (λ (ns : List ℕ). AreTerms v ns (w ++ (x ∷ []))) (sym c.in_ok-push.ensures.items) (one-term v c.args.chosen.now.items w c.at-term.result x (terms-grow u v g c.args.chosen.now.items w hw) (g.nodes.keeps c.at-term.result (of_object x) at)) in
    let flag = c.has_new-new.ensures ts x ht hs ∙ ap (λ ys. c.args.is_new || not (is_among x ys)) (sym hh.old) in
    subst (λ (z : Bool). IsMade c.put_rest.new.table c.put_rest.new.entries (es ++ puts h (choices_from (w ++ (x ∷ [])) z (c.args.left - 1) ts h.old) c.args.next)) flag
    (c.in_ok-free.ensures.made es ts h inner.0 (w ++ (x ∷ [])) (entries-grow u v g pool pool (grows-refl pool) c.args.entries.now.items.items es hm) (terms-grow u v g keys ts ht) (hand-grows u v g ts c.args.universal h hh) chosen inner.1
    (leads-next h.formula a inner.0 w x hl inner.2))

pub put_next-returns-clause-next : goal.put_next-returns-clause-next
put_next-returns-clause-next t c = λ ts h a w x ht hh hw hf hl hs.
    let u = c.args.table.now in
    let v = c.put_one.new.table in
    let g = c.put_one.ensures.grows in
    let keys = c.args.terms.now.nodes.keys in
    let at = term-is u keys ts c.args.place c.at-term.result x ht c.at-term.ensures hs in
    let inner = c.in_ok-inner.ensures.put a x hf at in
    let chosen = subst (λ (ns : List ℕ). AreTerms v ns (w ++ (x ∷ []))) (sym c.in_ok-push.ensures.items) (one-term v c.args.chosen.now.items w c.at-term.result x (terms-grow u v g c.args.chosen.now.items w hw) (g.nodes.keeps c.at-term.result (of_object x) at)) in
    let flag = c.has_new-new.ensures ts x ht hs ∙ ap (λ ys. c.args.is_new || not (is_among x ys)) (sym hh.old) in
    subst (λ (z : Bool). c.in_ok-free.free ≡ c.args.next + made_constants (puts h (choices_from (w ++ (x ∷ [])) z (c.args.left - 1) ts h.old) c.args.next)) flag
    (c.in_ok-free.ensures.next ts h inner.0 (w ++ (x ∷ [])) (terms-grow u v g keys ts ht) (hand-grows u v g ts c.args.universal h hh) chosen inner.1 (leads-next h.formula a inner.0 w x hl inner.2))

pub put_next-returns-clause-chosen : goal.put_next-returns-clause-chosen
put_next-returns-clause-chosen t c = c.drop_last.ensures c.args.chosen.now.items c.at-term.result (c.in_ok-free.ensures.chosen ∙ c.in_ok-push.ensures.items)
