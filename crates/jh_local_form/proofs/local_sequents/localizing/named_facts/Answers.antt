use Rattle.std.proofs.Common.{◌≡◌, ◌∙◌, ◌++◌, List, ℕ, map}
use Rattle.std.proofs.lemmas.Result.{IfOk-weaker}
use Rattle.jh_form.specs.Tree.{FormulaTree, ValueTree}
use Rattle.jh_reach.specs.Standing.{AreFormulas}
use Rattle.jh_reach.proofs.Standings.{formulas-grow}
use Rattle.jh_fca.specs.local_form.Named.{named, update_facts}
use Rattle.jh_local_form.specs.updates.Updating.{IsNaming}
use Rattle.jh_local_form.specs.updates.Remaining.{naming-grows}
use Rattle.jh_local_form.proofs.local_sequents.Forms.{joined-stand, lent}
use Rattle.jh_local_form.proofs.local_sequents.localizing.named_facts.Goals as goal

pub update_facts-requires : goal.update_facts-requires
update_facts-requires c = record { names = (c.requires.naming.0, naming-grows c.args.table.now c.all_named.new.table c.all_named.ensures.grows c.args.naming.now c.requires.naming.0 c.requires.naming.1) }

pub returns-clause-facts : goal.returns-clause-facts
returns-clause-facts c =
    let t0 = c.args.table.now in
    let t1 = c.all_named.new.table in
    let t2 = c.update_facts.new.table in
    let n = c.args.naming.now in
    IfOk-weaker
    c.joined.result
    (λ (made : List ℕ). made ≡ c.as_slice.result.now ++ c.as_slice-2.result.now)
    (λ (made : List ℕ). (us : List ValueTree) (all : List FormulaTree) → IsNaming t0 n us → AreFormulas t0 c.args.facts.now all → AreFormulas t2 made (map (named us n.first) all ++ update_facts us n.first))
    (λ made e us all is are.
    joined-stand t2 c.as_slice.result.now c.as_slice-2.result.now made (map (named us n.first) all) (update_facts us n.first)
    (lent t2 c.in_ok-old.old.items c.as_slice.result.now (map (named us n.first) all) c.as_slice.ensures.value (formulas-grow t1 t2 c.in_ok-old.old.items (map (named us n.first) all) c.update_facts.ensures.grows (c.in_ok-old.ensures.all us all is are)))
    (lent t2 c.in_ok-told.told.items c.as_slice-2.result.now (update_facts us n.first) c.as_slice-2.ensures.value (c.in_ok-told.ensures.facts us (naming-grows t0 t1 c.all_named.ensures.grows n us is)))
    e)
    c.joined.ensures
