use Rattle.std.proofs.Common.{subst, List}
use Rattle.std.specs.List.{flat_map}
use Rattle.std.proofs.lemmas.Result.{IfOk-weaker}
use Rattle.jh_form.specs.Tree.{FormulaTree}
use Rattle.jh_arena.specs.table.Nodes.{nodes}
use Rattle.jh_arena.proofs.table.Listed.{extends-trans}
use Rattle.jh_reach.specs.Axioms.{BackboneTree, axioms_of}
use Rattle.jh_reach.specs.Standing.{AreFormulas}
use Rattle.jh_fca.specs.local_form.Chains.{ChangeTree, reach_axioms}
use Rattle.jh_local_form.specs.field_lists.Changing.{AreChanges}
use Rattle.jh_local_form.specs.field_lists.Leading.{AreBackbones}
use Rattle.jh_local_form.proofs.field_lists.Standing.{backbones-as}
use Rattle.jh_local_form.proofs.field_lists.Gathered.{gathered}
use Rattle.jh_local_form.proofs.field_lists.reaching.reach_axioms.Goals as goal

pub backbones-requires-clause-formulas : goal.backbones-requires-clause-formulas
backbones-requires-clause-formulas c = (_, c.in_ok-lists.ensures.parts c.requires.formulas.0 c.requires.formulas.1)

pub all_axioms-requires : goal.all_axioms-requires
all_axioms-requires c = record {
  made = (
    _,
    backbones-as c.backbones.new.table c.in_ok-made.made.items c.as_slice.result.now _ c.as_slice.ensures.value
        (c.in_ok-made.ensures.made c.requires.changes.0 _ c.requires.changes.1 (c.in_ok-lists.ensures.parts c.requires.formulas.0 c.requires.formulas.1)),
  );
}

pub returns-clause-axioms : goal.returns-clause-axioms
returns-clause-axioms c =
    let t = c.args.table.now in
    let t1 = c.backbones.new.table in
    let t2 = c.all_axioms.new.table in
    IfOk-weaker
    c.all_axioms.result
    (λ made. (bs : List BackboneTree) → AreBackbones t1 c.as_slice.result.now bs → AreFormulas t2 made.items (flat_map axioms_of bs))
    (λ made. (facts : List FormulaTree) (cs : List ChangeTree) → AreFormulas t c.args.formulas.now facts → AreChanges (nodes t) c.args.changes.now cs → AreFormulas t2 made.items (reach_axioms facts cs))
    (λ made h facts cs are changes.
    subst (λ (bs : List BackboneTree). AreFormulas t2 made.items (flat_map axioms_of bs)) (gathered cs facts)
    (h _ (backbones-as t1 c.in_ok-made.made.items c.as_slice.result.now _ c.as_slice.ensures.value (c.in_ok-made.ensures.made cs _ changes (c.in_ok-lists.ensures.parts facts are)))))
    c.all_axioms.ensures.axioms

pub returns-clause-grows : goal.returns-clause-grows
returns-clause-grows c = extends-trans c.args.table.now c.backbones.new.table c.all_axioms.new.table c.backbones.ensures.grows c.all_axioms.ensures.grows
