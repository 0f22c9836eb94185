use Rattle.std.proofs.Common.{◌≡◌, Some, slice_get}
use Rattle.std.proofs.lemmas.Result.{IfOk-weaker}
use Rattle.jh_substitution.specs.rewriting.Rewritten.{rewritten_value}
use Rattle.jh_arena.specs.table.Entries.{the_value}
use Rattle.jh_arena.specs.table.Nodes.{nodes}
use Rattle.jh_substitution.specs.rewriting.Walks.{IsRewritten, KeepsMeaning}
use Rattle.jh_substitution.specs.rewriting.Memos.{found}
use Rattle.jh_substitution.proofs.rewriting.Rewritings.{holds-none}
use Rattle.jh_substitution.proofs.rewriting.Sorted.{rewritten-before, rewritten-means}
use Rattle.jh_substitution.proofs.rewriting.walking.walked.Goals as goal

pub rewritten-requires-clause-memo : goal.rewritten-requires-clause-memo
rewritten-requires-clause-memo g c =
    holds-none (g.R.LeafRules.ready c.args.rules.now) (g.R.LeafRules.rewriting c.args.rules.now) c.args.table.now (found c.new-memo.result.answers) c.requires.ready c.new-memo.ensures

pub returns-clause-tree : goal.returns-clause-tree
returns-clause-tree g c =
    IfOk-weaker
    c.rewritten.result
    (λ made. IsRewritten (g.R.LeafRules.rewriting c.args.rules.now c.rewritten.new.table) (nodes c.rewritten.new.table) c.args.node c.args.depth made)
    (λ made. slice_get (nodes c.rewritten.new.table) made ≡ Some (rewritten_value (the_value (slice_get (nodes c.args.table.now) c.args.node)) (g.R.LeafRules.rewriting c.args.rules.now c.args.table.now) c.args.depth))
    (λ made m. rewritten-before (g.R.LeafRules.ready c.args.rules.now) (g.R.LeafRules.rewriting c.args.rules.now) c.args.table.now c.rewritten.new.table c.args.node c.args.depth made (g.met.R.LeafRules.stays c.args.rules.now) c.rewritten.ensures.grows c.requires.ready c.requires.inside m)
    c.rewritten.ensures.node

pub returns-clause-meaning : goal.returns-clause-meaning
returns-clause-meaning g c =
    IfOk-weaker
    c.rewritten.result
    (λ made. IsRewritten (g.R.LeafRules.rewriting c.args.rules.now c.rewritten.new.table) (nodes c.rewritten.new.table) c.args.node c.args.depth made)
    (λ made. KeepsMeaning (g.R.LeafRules.rewriting c.args.rules.now c.args.table.now) c.args.depth (slice_get (nodes c.args.table.now) c.args.node) (slice_get (nodes c.rewritten.new.table) made))
    (λ made m. rewritten-means (g.R.LeafRules.rewriting c.args.rules.now c.args.table.now) c.args.depth (slice_get (nodes c.args.table.now) c.args.node) (slice_get (nodes c.rewritten.new.table) made) (rewritten-before (g.R.LeafRules.ready c.args.rules.now) (g.R.LeafRules.rewriting c.args.rules.now) c.args.table.now c.rewritten.new.table c.args.node c.args.depth made (g.met.R.LeafRules.stays c.args.rules.now) c.rewritten.ensures.grows c.requires.ready c.requires.inside m))
    c.rewritten.ensures.node
