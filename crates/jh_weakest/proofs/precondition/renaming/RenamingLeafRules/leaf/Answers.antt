use Rattle.std.proofs.Common.{◌≡◌, ◌∙◌, sym, ap, Some, slice_get}
use Rattle.std.proofs.lemmas.Result.{IfOk-weaker}
use Rattle.jh_arena.specs.table.Entries.{the_name}
use Rattle.jh_arena.specs.table.Nodes.{nodes, fits_in, tree_in}
use Rattle.jh_substitution.specs.rewriting.Rewritten.{leaves_alone}
use Rattle.jh_substitution.specs.rewriting.Walks.{IsRewritten}
use Rattle.jh_wp.specs.Renamed.{renaming}
use Rattle.jh_weakest.proofs.precondition.Renames.{named-fits, named-renamed, other-renamed}
use Rattle.jh_weakest.proofs.precondition.renaming.RenamingLeafRules.leaf.Goals as goal

pub make-requires : goal.make-requires
make-requires c =
    ap (fits_in c.args.table.now) c.with_name.ensures
    ∙ named-fits c.args.table.now c.args.self.now.name c.args.self.now.with c.args._depth c.args.shape (sym c.is_named.ensures ∙ c.if-is_named.true) c.requires.ready

pub returns-then-is_named-clause-node : goal.returns-then-is_named-clause-node
returns-then-is_named-clause-node c =
    IfOk-weaker
    c.make.result
    (λ made. slice_get (nodes c.make.new.self) made ≡ Some (tree_in c.args.table.now c.with_name.result))
    (λ made. IsRewritten (leaves_alone (renaming (the_name (slice_get c.make.new.self.pools.names c.args.self.now.name)) (the_name (slice_get c.make.new.self.pools.names c.args.self.now.with)))) (nodes c.make.new.self) c.args.node c.args._depth made)
    (λ made e. named-renamed c.args.table.now c.make.new.self c.args.self.now.name c.args.self.now.with c.args._depth c.args.node made c.args.shape (sym c.is_named.ensures ∙ c.if-is_named.true) c.make.ensures.pools c.make.ensures.grows c.requires.there
    (e ∙ ap (λ x. Some (tree_in c.args.table.now x)) c.with_name.ensures))
    c.make.ensures.node

pub returns-else-is_named-clause-node : goal.returns-else-is_named-clause-node
returns-else-is_named-clause-node c =
    other-renamed c.args.table.now c.args.self.now.name c.args.self.now.with c.args._depth c.nodes_differ.ensures.known c.requires.ready c.args.node c.args.shape c.requires.leaf (sym c.is_named.ensures ∙ c.if-is_named.false) c.requires.fits c.requires.there
