use Rattle.std.proofs.Common.{sym, ◌∙◌, slice_get}
use Rattle.std.proofs.lemmas.Result.{on_ok_weaker}
use Rattle.jh_arena.specs.table.Nodes.{nodes}
use Rattle.jh_instantiation.proofs.closed_terms.Additions.{adds-node, adds-as, closed-added, open-left}
use Rattle.jh_instantiation.proofs.closed_terms.Shapes.{object-inside, closed-object}
use Rattle.jh_instantiation.proofs.closed_terms.adding.add_closed.Goals as goal

pub is_closed-requires : goal.is_closed-requires
is_closed-requires c = object-inside (nodes c.args.table.now) c.args.node c.requires.there

pub returns-then-is_closed : goal.returns-then-is_closed
returns-then-is_closed c = λ a e.
    let u = c.args.table.now in
    let old = c.args.terms.now.nodes.keys in
    let new = c.add.new.self.nodes.keys in
    let closed = sym (closed-object (slice_get (nodes u) c.args.node) a e) ∙ sym c.is_closed.ensures ∙ c.if-is_closed.true in
    on_ok_weaker c.add.result (λ is. adds-as u old new _ _ (λ ts. closed-added a ts closed) (adds-node u c.nodes_differ.ensures.different c.args.node a old new e is)) c.add.ensures

pub returns : goal.returns
returns c = λ a e.
    let u = c.args.table.now in
    let old = c.args.terms.now.nodes.keys in
    let open_one = sym (closed-object (slice_get (nodes u) c.args.node) a e) ∙ sym c.is_closed.ensures ∙ c.if-is_closed.false in
    adds-as u old old (λ ts. ts) _ (λ ts. open-left a ts open_one) (λ ts h. h)
