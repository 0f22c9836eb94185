use Rattle.std.proofs.Common.{◌≡◌, sym, subst, ℕ, List}
use Rattle.std.proofs.lemmas.Result.{IfOk-weaker}
use Rattle.jh_form.specs.Tree.{ValueTree}
use Rattle.jh_arena.proofs.table.Listed.{extends-trans}
use Rattle.jh_seq.specs.sequent.Sequents.{SequentTree}
use Rattle.jh_fca.specs.local_form.Each.{formulas}
use Rattle.jh_fca.specs.local_form.Named.{updates}
use Rattle.jh_fca.specs.elimination.Eliminated.{eliminate}
use Rattle.jh_fca.proofs.local_form.Shaped.{cut-local}
use Rattle.jh_fca.specs.local_form.LocalOf.{with_names, cut_down, with_axioms, local_with}
use Rattle.jh_local_form.specs.updates.Updating.{IsNaming}
use Rattle.jh_local_form.specs.updates.Remaining.{naming-grows}
use Rattle.jh_local_form.specs.local_sequents.Forming.{IsFormed}
use Rattle.jh_local_form.proofs.local_sequents.Forms.{formed-grows}
use Rattle.jh_local_form.proofs.local_sequents.localizing.local_from.Goals as goal

pub with_names-requires-clause-naming : goal.with_names-requires-clause-naming
with_names-requires-clause-naming c = (updates (formulas c.requires.form.0), c.in_ok-naming.ensures.naming c.requires.form.0 c.requires.form.1)

pub with_names-requires-clause-form : goal.with_names-requires-clause-form
with_names-requires-clause-form c = (c.requires.form.0, formed-grows c.args.table.now c.naming_of.new.table c.naming_of.ensures.grows c.args.form.now c.requires.form.0 c.requires.form.1)

pub cut_down-requires : goal.cut_down-requires
cut_down-requires c =
    let s = c.requires.form.0 in
    let us = updates (formulas s) in
    record {
      form = (
        with_names us c.in_ok-naming.naming.first s,
        c.in_ok-named.ensures.form us s (c.in_ok-naming.ensures.naming s c.requires.form.1) (formed-grows c.args.table.now c.naming_of.new.table c.naming_of.ensures.grows c.args.form.now s c.requires.form.1),
      );
    }

pub without_derived-requires : goal.without_derived-requires
without_derived-requires c =
    let s = c.requires.form.0 in
    let us = updates (formulas s) in
    let named = c.in_ok-named.ensures.form us s (c.in_ok-naming.ensures.naming s c.requires.form.1) (formed-grows c.args.table.now c.naming_of.new.table c.naming_of.ensures.grows c.args.form.now s c.requires.form.1) in
    record { form = (cut_down (with_names us c.in_ok-naming.naming.first s), c.in_ok-left.ensures.form (with_names us c.in_ok-naming.naming.first s) named, cut-local (with_names us c.in_ok-naming.naming.first s)) }

pub with_axioms-requires-clause-naming : goal.with_axioms-requires-clause-naming
with_axioms-requires-clause-naming c =
    let s = c.requires.form.0 in
    let t1 = c.naming_of.new.table in
    let t3 = c.cut_down.new.table in
    let t4 = c.without_derived.new.table in
    let grows = extends-trans t1 t3 t4 (extends-trans t1 c.with_names.new.table t3 c.with_names.ensures.grows c.cut_down.ensures.grows) c.without_derived.ensures.grows in
    (updates (formulas s), naming-grows t1 t4 grows c.in_ok-naming.naming (updates (formulas s)) (c.in_ok-naming.ensures.naming s c.requires.form.1))

pub with_axioms-requires-clause-form : goal.with_axioms-requires-clause-form
with_axioms-requires-clause-form c =
    let s = c.requires.form.0 in
    let us = updates (formulas s) in
    let named = c.in_ok-named.ensures.form us s (c.in_ok-naming.ensures.naming s c.requires.form.1) (formed-grows c.args.table.now c.naming_of.new.table c.naming_of.ensures.grows c.args.form.now s c.requires.form.1) in
    let given = cut_down (with_names us c.in_ok-naming.naming.first s) in
    (eliminate given, c.in_ok-without.ensures.form given (c.in_ok-left.ensures.form (with_names us c.in_ok-naming.naming.first s) named) (cut-local (with_names us c.in_ok-naming.naming.first s)))

pub returns-clause-form : goal.returns-clause-form
returns-clause-form c =
    let t0 = c.args.table.now in
    let t1 = c.naming_of.new.table in
    let t3 = c.cut_down.new.table in
    let t4 = c.without_derived.new.table in
    let t5 = c.with_axioms.new.table in
    let n = c.in_ok-naming.naming in
    let three = extends-trans t1 t3 t4 (extends-trans t1 c.with_names.new.table t3 c.with_names.ensures.grows c.cut_down.ensures.grows) c.without_derived.ensures.grows in
    IfOk-weaker
    c.with_axioms.result
    (λ made. (us : List ValueTree) (s : SequentTree) → IsNaming t4 n us → IsFormed t4 c.in_ok-without.without s → IsFormed t5 made (with_axioms us n.first s))
    (λ made. (s : SequentTree) → IsFormed t0 c.args.form.now s → IsFormed t5 made (local_with (updates (formulas s)) c.args.first s))
    (λ made h s is.
    let us = updates (formulas s) in
    let naming = c.in_ok-naming.ensures.naming s is in
    let named = c.in_ok-named.ensures.form us s naming (formed-grows t0 t1 c.naming_of.ensures.grows c.args.form.now s is) in
    let given = cut_down (with_names us n.first s) in
    let without = c.in_ok-without.ensures.form given (c.in_ok-left.ensures.form (with_names us n.first s) named) (cut-local (with_names us n.first s)) in
    subst (λ (k : ℕ). IsFormed t5 made (local_with us k s)) c.in_ok-naming.ensures.first (h us (eliminate given) (naming-grows t1 t4 three n us naming) without))
    c.with_axioms.ensures.form

pub returns-clause-grows : goal.returns-clause-grows
returns-clause-grows c =
    let t0 = c.args.table.now in
    let t1 = c.naming_of.new.table in
    let t2 = c.with_names.new.table in
    let t3 = c.cut_down.new.table in
    let t4 = c.without_derived.new.table in
    let t5 = c.with_axioms.new.table in
    extends-trans t0 t1 t5 c.naming_of.ensures.grows (extends-trans t1 t2 t5 c.with_names.ensures.grows (extends-trans t2 t3 t5 c.cut_down.ensures.grows (extends-trans t3 t4 t5 c.without_derived.ensures.grows c.with_axioms.ensures.grows)))

pub returns-in_err-without-clause-grows : goal.returns-in_err-without-clause-grows
returns-in_err-without-clause-grows c =
    let t0 = c.args.table.now in
    let t1 = c.naming_of.new.table in
    let t2 = c.with_names.new.table in
    let t3 = c.cut_down.new.table in
    let t4 = c.without_derived.new.table in
    extends-trans t0 t1 t4 c.naming_of.ensures.grows (extends-trans t1 t2 t4 c.with_names.ensures.grows (extends-trans t2 t3 t4 c.cut_down.ensures.grows c.without_derived.ensures.grows))
