use Rattle.std.proofs.Common.{◌≡◌, Some, slice_get}
use Rattle.std.proofs.lemmas.Result.{IfOk-weaker}
use Rattle.jh_arena.specs.table.Nodes.{nodes, tree_in}
use Rattle.jh_substitution.proofs.rewriting.Rewritings.{all-length}
use Rattle.jh_arena.specs.table.Parts.{parts, binders}
use Rattle.std.specs.Prelude.{◌+◌}
use Rattle.jh_substitution.specs.opening.Openings.{IsOpened, opening_with}
use Rattle.jh_substitution.proofs.opening.Growing.{made-opened, object-grows, shape-opened}
use Rattle.jh_substitution.proofs.opening.walking.remade.Goals as goal

pub with_parts-requires-clause-fits : goal.with_parts-requires-clause-fits
with_parts-requires-clause-fits c = c.requires.inner.fits

pub with_parts-requires-clause-counted : goal.with_parts-requires-clause-counted
with_parts-requires-clause-counted c =
    all-length (nodes c.args.table.now) (opening_with c.args.table.now c.args.with) (c.args.depth + binders c.args.shape) (parts c.args.table.now.pools.lists c.args.shape) c.args.answers.now c.requires.answers

pub make-requires : goal.make-requires
make-requires c =
    (shape-opened c.args.table.now c.with_parts.new.self c.args.with c.args.depth c.args.node c.args.shape c.in_ok-made.made c.args.answers.now c.with_parts.ensures.grows c.requires.with c.requires.inner c.requires.answers c.in_ok-made.ensures.put).fits

pub returns-clause-node : goal.returns-clause-node
returns-clause-node c =
    let t = c.args.table.now in
    let u = c.with_parts.new.self in
    let v = c.make.new.self in
    IfOk-weaker
    c.make.result
    (λ node. slice_get (nodes v) node ≡ Some (tree_in u c.in_ok-made.made))
    (λ made. IsOpened v c.args.with c.args.node c.args.depth made)
    (λ r e. made-opened t u v c.args.with c.args.node c.args.depth r c.args.shape c.in_ok-made.made c.with_parts.ensures.grows c.make.ensures.grows (object-grows t u c.args.with c.with_parts.ensures.grows c.requires.with) c.requires.inner (shape-opened t u c.args.with c.args.depth c.args.node c.args.shape c.in_ok-made.made c.args.answers.now c.with_parts.ensures.grows c.requires.with c.requires.inner c.requires.answers c.in_ok-made.ensures.put) e)
    c.make.ensures.node
