use Rattle.std.proofs.Common.{sym, subst, List, [], ◌∷◌}
use Rattle.jh_form.specs.Tree.{TermTree, FormulaTree}
use Rattle.jh_form.specs.Tree as tree
use Rattle.jh_arena.proofs.table.Listed.{extends-trans, grows-refl}
use Rattle.jh_inst.specs.instances.Entries.{taken, formulas}
use Rattle.jh_inst.specs.instances.Terms.{with_terms_of}
use Rattle.jh_instantiation.specs.declared.instances.entry.NodeEntry.{NodeEntry}
use Rattle.jh_instantiation.specs.declared.instances.making.AtHand.{AtHand}
use Rattle.jh_instantiation.specs.instances.Standing.{AreEntries}
use Rattle.jh_instantiation.specs.instances.Progressing.{AreAtHand}
use Rattle.jh_instantiation.proofs.instances.Closing.{closed-of, null-closed}
use Rattle.jh_instantiation.proofs.instances.Growing.{entries-grow}
use Rattle.jh_instantiation.proofs.instances.beginning.begun.Goals as goal

pub add_terms-requires : goal.add_terms-requires
add_terms-requires c =
    let u = c.take_all.new.table in
    let made = c.take_all.new.entries in
    let facts = c.requires.there in
    let none = subst (λ (xs : List NodeEntry). AreEntries c.args.table.now c.new-entries.result.terms.items xs []) (sym c.new-entries.ensures.items) tt in
    record { there = (taken facts.0 0 c.args.first, entries-grow u c.with_null.new.table c.with_null.ensures.grows made.terms.items made.terms.items (grows-refl made.terms.items) made.items.items (taken facts.0 0 c.args.first) (c.in_ok-next.ensures.made [] facts.0 none facts.1)) }

pub add_universals-requires : goal.add_universals-requires
add_universals-requires c =
    let u = c.take_all.new.table in
    let made = c.take_all.new.entries in
    let facts = c.requires.there in
    let none = subst (λ (xs : List NodeEntry). AreEntries c.args.table.now c.new-entries.result.terms.items xs []) (sym c.new-entries.ensures.items) tt in
    record { there = (taken facts.0 0 c.args.first, entries-grow u c.with_null.new.table c.with_null.ensures.grows made.terms.items made.terms.items (grows-refl made.terms.items) made.items.items (taken facts.0 0 c.args.first) (c.in_ok-next.ensures.made [] facts.0 none facts.1)) }

pub returns-clause-made : goal.returns-clause-made
returns-clause-made c = λ fs hf.
    let u = c.take_all.new.table in
    let v = c.with_null.new.table in
    let made = c.take_all.new.entries in
    let es = taken fs 0 c.args.first in
    let none = subst (λ (xs : List NodeEntry). AreEntries c.args.table.now c.new-entries.result.terms.items xs []) (sym c.new-entries.ensures.items) tt in
    let now = entries-grow u v c.with_null.ensures.grows made.terms.items made.terms.items (grows-refl made.terms.items) made.items.items es (c.in_ok-next.ensures.made [] fs none hf) in
    let ts = with_terms_of (tree.null ∷ []) (formulas es) in
    let no_hands = subst (λ (xs : List AtHand). AreAtHand v ts xs []) (sym c.new-at_hand.ensures.items) tt in
    record {
      entries = now;
      at_hand = c.in_ok-add_universals.ensures ts [] es no_hands now;
      terms = c.in_ok-add_terms.ensures (tree.null ∷ []) es c.in_ok-terms.ensures.terms now;
      closed = closed-of (tree.null ∷ []) (formulas es) null-closed;
      next = sym (c.in_ok-next.ensures.next fs hf);
    }

pub returns-clause-grows : goal.returns-clause-grows
returns-clause-grows c = extends-trans c.args.table.now c.take_all.new.table c.with_null.new.table c.take_all.ensures.grows c.with_null.ensures.grows
