use Rattle.std.proofs.Common.{◌≡◌, ap, ◌∙◌, Some, slice_get}
use Rattle.std.proofs.lemmas.Result.{IfOk-weaker}
use Rattle.jh_arena.specs.table.Entries.{the_object}
use Rattle.jh_arena.specs.table.Nodes.{nodes}
use Rattle.jh_vars.specs.Resolved.{this_at}
use Rattle.jh_resolution.specs.Spots.{spot_of, member_in, state_in}
use Rattle.jh_resolution.proofs.Members.{is-object-at, state-of-this}
use Rattle.jh_resolution.proofs.values.state_value.Goals as goal

pub member_value-requires-clause-receiver : goal.member_value-requires-clause-receiver
member_value-requires-clause-receiver c = is-object-at (slice_get (nodes c.this_at.new.table) c.in_ok-this.this) (this_at (spot_of c.args.at.now)) c.in_ok-this.ensures.node

pub returns-in_ok-this-clause-node : goal.returns-in_ok-this-clause-node
returns-in_ok-this-clause-node c =
    let new = c.member_value.new.table in
    let this = slice_get (nodes c.this_at.new.table) c.in_ok-this.this in
    IfOk-weaker
    c.member_value.result
    (λ made. slice_get (nodes new) made ≡ Some (member_in (nodes new) c.args.context.now c.args.state c.args.own.now (the_object this)))
    (λ made. slice_get (nodes new) made ≡ Some (state_in (nodes new) c.args.context.now c.args.at.now c.args.state c.args.own.now))
    (λ made e. e ∙ ap Some (state-of-this (nodes new) c.args.context.now c.args.at.now c.args.state c.args.own.now this c.if-state.false c.in_ok-this.ensures.node))
    c.member_value.ensures.node
