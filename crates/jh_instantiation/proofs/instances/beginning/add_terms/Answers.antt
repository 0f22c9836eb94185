use Rattle.std.proofs.Common.{◌≤◌, ◌<◌, refl, sym, subst, ◌∙◌, arith, List, length}
use Rattle.jh_form.specs.Tree.{TermTree}
use Rattle.jh_arena.specs.table.Nodes.{nodes}
use Rattle.jh_instantiation.specs.closed_terms.Listed.{AreTerms}
use Rattle.jh_inst.specs.instances.Terms.{closed_terms, with_terms}
use Rattle.jh_instantiation.proofs.skolem_constants.Shapes.{formula-there}
use Rattle.jh_instantiation.proofs.instances.Growing.{entries-length}
use Rattle.jh_instantiation.proofs.instances.Lists.{item-there, terms-next, terms-end}
use Rattle.jh_instantiation.proofs.instances.beginning.add_terms.Goals as goal

pub loop-place-init : goal.loop-place-init
loop-place-init c = λ ts es ht hm. (ts, ht, refl)

pub add_closed_terms-requires : goal.add_closed_terms-requires
add_closed_terms-requires c =
    let there = c.requires.there in
    let long = entries-length c.args.table.now c.args.entries.now.terms.items c.args.entries.now.items.items there.0 there.1 in
    let inside : c.loop-place.place < length there.0 = omega (arith, c.loop-place-test.true, long) in
    let e = item-there there.0 c.loop-place.place inside in
    record { there = formula-there (nodes c.args.table.now) c.formula.result _ (c.formula.ensures c.args.table.now there.0 e.0 there.1 e.1) }

pub loop-place-preserved : goal.loop-place-preserved
loop-place-preserved c = λ ts es ht hm.
    let r = c.loop-place.invariant ts es ht hm in
    let long = entries-length c.args.table.now c.args.entries.now.terms.items c.args.entries.now.items.items es hm in
    let inside : c.loop-place.place < length es = omega (arith, c.loop-place-test.true, long) in
    let e = item-there es c.loop-place.place inside in
    (with_terms r.0 (closed_terms e.0.formula), c.in_ok-add_closed_terms.ensures e.0.formula (c.formula.ensures c.args.table.now es e.0 hm e.1) r.0 r.1, sym (terms-next r.0 es c.loop-place.place e.0 e.1) ∙ r.2)

pub returns : goal.returns
returns c = λ ts es ht hm.
    let r = c.loop-place.invariant ts es ht hm in
    let long = entries-length c.args.table.now c.args.entries.now.terms.items c.args.entries.now.items.items es hm in
    let all : length es ≤ c.loop-place.place = omega (arith, c.loop-place-test.false, long) in
    subst (λ (us : List TermTree). AreTerms c.args.table.now c.loop-place.terms.nodes.keys us) (sym (terms-end r.0 es c.loop-place.place all) ∙ r.2) r.1
