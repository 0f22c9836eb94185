use Rattle.std.proofs.Common.{◌≡◌, ap, ◌∙◌, Some, slice_get}
use Rattle.std.proofs.lemmas.Result.{IfOk-weaker}
use Rattle.jh_boxed.specs.Mapped.{mapped_value}
use Rattle.jh_arena.specs.table.Entries.{the_object, the_value}
use Rattle.jh_arena.specs.table.Nodes.{nodes}
use Rattle.jh_vars.specs.Resolved.{receiving}
use Rattle.jh_resolution.specs.Spots.{member_in}
use Rattle.jh_resolution.proofs.Meant.{held-grows}
use Rattle.jh_resolution.proofs.Members.{is-object-at, member-defined}
use Rattle.jh_resolution.proofs.NameSteps.{object-on}
use Rattle.jh_resolution.proofs.values.defined_member.Goals as goal

pub received-requires-clause-receiver : goal.received-requires-clause-receiver
received-requires-clause-receiver c = is-object-at (slice_get (nodes c.meaning.new.table) c.args.receiver) (the_object (slice_get (nodes c.args.table.now) c.args.receiver)) (object-on c.args.table.now c.meaning.new.table c.args.receiver c.in_ok-defined.ensures.grows c.requires.receiver)

pub returns-clause-node : goal.returns-clause-node
returns-clause-node c =
    let old = c.args.table.now in
    let mid = c.meaning.new.table in
    let new = c.received.new.table in
    IfOk-weaker
    c.received.result
    (λ made. slice_get (nodes new) made ≡ Some (mapped_value (the_value (slice_get (nodes mid) c.in_ok-defined.defined)) (receiving (the_object (slice_get (nodes mid) c.args.receiver))) 0))
    (λ made. slice_get (nodes new) made ≡ Some (member_in (nodes new) c.args.context.now c.args.state c.args.own.now (the_object (slice_get (nodes old) c.args.receiver))))
    (λ made e. e ∙ ap Some (member-defined old mid new c.args.context.now c.args.state c.args.own.now c.in_ok-defined.defined c.args.receiver c.in_ok-defined.ensures.grows c.received.ensures.grows
    (held-grows old mid c.args.context.now.meanings.now c.in_ok-defined.ensures.grows c.requires.held) c.requires.defined c.requires.receiver c.in_ok-defined.ensures.node))
    c.received.ensures.tree
