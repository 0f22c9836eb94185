use Rattle.std.proofs.Common.{◌≡◌, ap, ◌∙◌, List, Some, slice_get}
use Rattle.std.proofs.lemmas.Result.{IfOk-weaker}
use Rattle.jh_form.specs.Tree.{ValueTree}
use Rattle.jh_arena.specs.table.Entries.{the_value}
use Rattle.jh_arena.specs.table.Nodes.{nodes}
use Rattle.jh_substitution.specs.rewriting.Rewritten.{rewritten_value}
use Rattle.jh_fca.specs.local_form.Named.{naming}
use Rattle.jh_local_form.specs.updates.Updating.{values_in, IsNaming}
use Rattle.jh_local_form.specs.updates.Remaining.{values-are}
use Rattle.jh_local_form.proofs.updates.renaming.named_value.Goals as goal

pub walked-requires-clause-ready : goal.walked-requires-clause-ready
walked-requires-clause-ready c = c.requires.names

pub returns-clause-tree : goal.returns-clause-tree
returns-clause-tree c =
    let t = c.args.table.now in
    let n = c.args.names.now in
    let old = the_value (slice_get (nodes t) c.args.node) in
    let ts = nodes c.walked.new.table in
    IfOk-weaker
    c.walked.result
    (λ made. slice_get ts made ≡ Some (rewritten_value old (naming (values_in (nodes t) n.updates) n.first) 0))
    (λ made. (us : List ValueTree) → IsNaming t n us → slice_get ts made ≡ Some (rewritten_value old (naming us n.first) 0))
    (λ made e us is. e ∙ ap (λ vs. Some (rewritten_value old (naming vs n.first) 0)) (values-are (nodes t) n.updates us is.updates.are))
    c.walked.ensures.tree
