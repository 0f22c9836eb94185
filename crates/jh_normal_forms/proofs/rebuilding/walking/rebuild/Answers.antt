use Rattle.std.proofs.Common.{◌≡◌, Some, slice_get}
use Rattle.std.proofs.lemmas.Result.{IfOk-weaker}
use Rattle.jh_arena.specs.table.Entries.{the_value}
use Rattle.jh_arena.specs.table.Nodes.{nodes}
use Rattle.jh_normal_forms.specs.rebuilding.Walking.{IsBuilt, built_at}
use Rattle.jh_normal_forms.specs.rebuilding.Sound.{MayStand}
use Rattle.jh_normal_forms.proofs.rebuilding.Growths.{built-before}
use Rattle.jh_normal_forms.proofs.rebuilding.Meanings.{may-stand}
use Rattle.jh_normal_forms.specs.rebuilding.Memos.{found}
use Rattle.jh_normal_forms.proofs.rebuilding.Notes.{holds-none}
use Rattle.jh_normal_forms.proofs.rebuilding.walking.rebuild.Goals as goal

pub built-requires-clause-memo : goal.built-requires-clause-memo
built-requires-clause-memo g c = holds-none (g.B.BuildRules.rule c.args.rules.now) (nodes c.args.table.now) (found c.new-memo.result.answers) c.new-memo.ensures

pub returns-clause-tree : goal.returns-clause-tree
returns-clause-tree g c =
    IfOk-weaker
    c.built.result
    (λ made. IsBuilt (g.B.BuildRules.rule c.args.rules.now) (nodes c.built.new.table) c.args.node c.args.polarity made)
    (λ made. slice_get (nodes c.built.new.table) made ≡ Some (built_at (the_value (slice_get (nodes c.args.table.now) c.args.node)) (g.B.BuildRules.rule c.args.rules.now) c.args.polarity))
    (λ made m. built-before c.args.table.now c.built.new.table (g.B.BuildRules.rule c.args.rules.now) c.args.node c.args.polarity made c.built.ensures.grows c.requires.inside m)
    c.built.ensures.node

pub returns-clause-meaning : goal.returns-clause-meaning
returns-clause-meaning g c =
    IfOk-weaker
    c.built.result
    (λ made. IsBuilt (g.B.BuildRules.rule c.args.rules.now) (nodes c.built.new.table) c.args.node c.args.polarity made)
    (λ made. MayStand (g.B.BuildRules.rule c.args.rules.now) c.args.polarity (slice_get (nodes c.args.table.now) c.args.node) (slice_get (nodes c.built.new.table) made))
    (λ made m. may-stand (g.B.BuildRules.rule c.args.rules.now) c.args.polarity (slice_get (nodes c.args.table.now) c.args.node) (slice_get (nodes c.built.new.table) made) (built-before c.args.table.now c.built.new.table (g.B.BuildRules.rule c.args.rules.now) c.args.node c.args.polarity made c.built.ensures.grows c.requires.inside m))
    c.built.ensures.node
