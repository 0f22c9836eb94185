use Rattle.std.proofs.Common.{◌≡◌, ap, ◌∙◌, List, Some, slice_get}
use Rattle.std.proofs.lemmas.Result.{IfOk-weaker}
use Rattle.jh_form.specs.Tree.{ValueTree, of_truth}
use Rattle.jh_arena.specs.table.Entries.{the_truth, the_value}
use Rattle.jh_arena.specs.table.Nodes.{nodes}
use Rattle.jh_substitution.specs.rewriting.Rewritten.{rewritten_value}
use Rattle.jh_substitution.proofs.rewriting.Sorted.{truth-within}
use Rattle.jh_fca.specs.local_form.Named.{naming, named}
use Rattle.jh_local_form.specs.updates.Updating.{IsNaming}
use Rattle.jh_local_form.proofs.updates.Renamed.{named-truth}
use Rattle.jh_local_form.proofs.updates.renaming.named.Goals as goal

pub named_value-requires-clause-inside : goal.named_value-requires-clause-inside
named_value-requires-clause-inside c = truth-within (nodes c.args.table.now) c.args.formula c.requires.formula

pub returns-clause-tree : goal.returns-clause-tree
returns-clause-tree c =
    let t = c.args.table.now in
    let n = c.args.names.now in
    let o = slice_get (nodes t) c.args.formula in
    let ts = nodes c.named_value.new.table in
    IfOk-weaker
    c.named_value.result
    (λ made. (us : List ValueTree) → IsNaming t n us → slice_get ts made ≡ Some (rewritten_value (the_value o) (naming us n.first) 0))
    (λ made. (us : List ValueTree) → IsNaming t n us → slice_get ts made ≡ Some (of_truth (named us n.first (the_truth o))))
    (λ made e us is. e us is ∙ ap (λ v. Some v) (named-truth us n.first o c.requires.formula))
    c.named_value.ensures.tree
