use Rattle.std.proofs.Common.{◌≡◌, sym, subst, ◌∙◌, List}
use Rattle.std.proofs.lemmas.Result.{IfOk-weaker}
use Rattle.jh_form.specs.Tree.{FormulaTree, ValueTree}
use Rattle.jh_arena.specs.table.Nodes.{nodes}
use Rattle.jh_seq.specs.sequent.Sequents.{SequentTree}
use Rattle.jh_reach.specs.Standing.{AreFormulas}
use Rattle.jh_reach.proofs.Standings.{formulas-grow}
use Rattle.jh_fca.specs.local_form.Each.{formulas}
use Rattle.jh_fca.specs.local_form.Chains.{ChangeTree, changes, reach_axioms}
use Rattle.jh_local_form.specs.updates.Updating.{IsNaming}
use Rattle.jh_local_form.specs.declared.updates.facts.NamedUpdate.{NamedUpdate}
use Rattle.jh_local_form.specs.field_lists.Changing.{AreChanges}
use Rattle.jh_local_form.specs.local_sequents.Forming.{IsFormed}
use Rattle.jh_local_form.proofs.local_sequents.Forms.{formulas-stand}
use Rattle.jh_local_form.proofs.local_sequents.localizing.axioms_for.Goals as goal

pub reach_axioms-requires-clause-formulas : goal.reach_axioms-requires-clause-formulas
reach_axioms-requires-clause-formulas c =
    let s = c.requires.form.0 in
    (formulas s, formulas-grow c.args.table.now c.changes.new.table c.items.result.now (formulas s) c.changes.ensures.grows (formulas-stand c.args.table.now c.args.form.now s c.items.result.now c.requires.form.1 (c.items.ensures ∙ c.in_ok-formulas.ensures)))

pub reach_axioms-requires-clause-changes : goal.reach_axioms-requires-clause-changes
reach_axioms-requires-clause-changes c =
    let cs = changes c.requires.naming.0 c.args.naming.now.first in
    (cs, subst (λ (xs : List NamedUpdate). AreChanges (nodes c.changes.new.table) xs cs) (sym c.as_slice.ensures.value) (c.in_ok-made.ensures.changes c.requires.naming.0 c.requires.naming.1))

pub returns-clause-axioms : goal.returns-clause-axioms
returns-clause-axioms c =
    let t0 = c.args.table.now in
    let t1 = c.changes.new.table in
    let t2 = c.reach_axioms.new.table in
    let n = c.args.naming.now in
    IfOk-weaker
    c.reach_axioms.result
    (λ made. (facts : List FormulaTree) (cs : List ChangeTree) → AreFormulas t1 c.items.result.now facts → AreChanges (nodes t1) c.as_slice.result.now cs → AreFormulas t2 made.items (reach_axioms facts cs))
    (λ made. (us : List ValueTree) (s : SequentTree) → IsNaming t0 n us → IsFormed t0 c.args.form.now s → AreFormulas t2 made.items (reach_axioms (formulas s) (changes us n.first)))
    (λ made h us s naming is.
    h (formulas s) (changes us n.first)
    (formulas-grow t0 t1 c.items.result.now (formulas s) c.changes.ensures.grows (formulas-stand t0 c.args.form.now s c.items.result.now is (c.items.ensures ∙ c.in_ok-formulas.ensures)))
    (subst (λ (xs : List NamedUpdate). AreChanges (nodes t1) xs (changes us n.first)) (sym c.as_slice.ensures.value) (c.in_ok-made.ensures.changes us naming)))
    c.reach_axioms.ensures.axioms
