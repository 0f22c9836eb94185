use Rattle.std.proofs.Common.{ap, subst, sym, ℕ, List, ◌++◌, length}
use Rattle.jh_arena.proofs.table.Listed.{extends-refl, grows-append}
use Rattle.jh_instantiation.specs.instances.Standing.{AreEntries, AreTermsAt}
use Rattle.jh_instantiation.proofs.instances.Growing.{entries-grow, terms-behind}
use Rattle.jh_instantiation.proofs.instances.entry.NodeEntries.add_terms.Goals as goal

pub returns-clause-kept : goal.returns-clause-kept
returns-clause-kept c = λ t es h.
    let old = c.args.self.now.terms.items in
    subst (λ (ns : List ℕ). AreEntries t ns c.args.self.now.items.items es) (sym c.in_ok-extend_from_slice.ensures.items)
    (entries-grow t t (extends-refl t) old (old ++ c.args.terms.now) (grows-append old c.args.terms.now) c.args.self.now.items.items es h)

pub returns-clause-there : goal.returns-clause-there
returns-clause-there c = λ t ws h.
    let old = c.args.self.now.terms.items in
    subst (λ (n : ℕ). AreTermsAt t c.extend_from_slice.new.self.items n ws) (ap length (sym c.as_slice-from.ensures.value))
    (subst (λ (ns : List ℕ). AreTermsAt t ns (length old) ws) (sym c.in_ok-extend_from_slice.ensures.items) (terms-behind t old c.args.terms.now ws h))
