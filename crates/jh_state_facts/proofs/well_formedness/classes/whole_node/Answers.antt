use Rattle.std.proofs.Common.{◌∙◌, Some}
use Rattle.jh_form.specs.Tree.{of_set, of_truth}
use Rattle.jh_form.specs.Tree as tree
use Rattle.jh_semantics.specs.WellFormed.{alloc, union_of}
use Rattle.jh_state_facts.specs.well_formedness.States.{texts_in}
use Rattle.jh_state_facts.proofs.well_formedness.FactSteps.{if-ok}
use Rattle.jh_state_facts.proofs.well_formedness.ClassSteps.{the-set}
use Rattle.jh_state_facts.proofs.well_formedness.classes.whole_node.Goals as goal

pub returns-clause-node : goal.returns-clause-node
returns-clause-node c =
    let u = c.union_node.new.table in
    let all = the-set u c.in_ok-all.all alloc (c.union_node.ensures.grows.nodes.keeps c.in_ok-all.all (of_set alloc) c.in_ok-all.ensures.node) in
    let whole = the-set u c.in_ok-union.union (union_of (texts_in c.args.texts.now)) c.in_ok-union.ensures.node in
    if-ok c.same_set.result (λ made node. node ∙ (λ k. Some (of_truth (tree.eq_set (all k) (whole k))))) c.same_set.ensures.node
