use Rattle.std.proofs.Common.{◌≡◌, List, drop}
use Rattle.jh_form.specs.Tree.{TermTree}
use Rattle.jh_inst.specs.instances.Entries.{Entry, formulas}
use Rattle.jh_inst.specs.instances.Terms.{with_terms_of}
use Rattle.jh_instantiation.specs.closed_terms.Listed.{AreTerms}
use Rattle.jh_instantiation.specs.instances.Standing.{IsMade}
use Rattle.jh_instantiation.proofs.instances.beginning.add_terms.Given as goal

-- the terms, with those of the entries that are left, are all terms
abbrev pub invariant-loop-place : goal.invariant-loop-place
invariant-loop-place l = (ts : List TermTree) (es : List Entry) → AreTerms l.table l.initial.terms.nodes.keys ts → IsMade l.table l.entries es →
    (us : List TermTree) × AreTerms l.table l.terms.nodes.keys us × (with_terms_of us (formulas (drop l.place es)) ≡ with_terms_of ts (formulas (drop l.fn.from es)))
