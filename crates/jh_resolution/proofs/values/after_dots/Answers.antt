use Rattle.std.proofs.Common.{◌≡◌, ap, sym, ◌∙◌, Some, slice_get}
use Rattle.std.proofs.lemmas.Result.{IfOk-weaker}
use Rattle.jh_arena.specs.table.Entries.{the_object, the_value}
use Rattle.jh_arena.specs.table.Nodes.{nodes}
use Rattle.jh_rules.specs.Names.{own_name}
use Rattle.jh_rules.specs.Names as names
use Rattle.jh_symbols.specs.scopes.Lookings.{declared_by}
use Rattle.jh_vars.specs.Resolved as r
use Rattle.jh_resolution.specs.Spots.{member_in, after_dots_in}
use Rattle.jh_resolution.proofs.Members.{is-object-at, member-after}
use Rattle.jh_resolution.proofs.values.after_dots.Goals as goal

pub member_value-requires-clause-receiver : goal.member_value-requires-clause-receiver
member_value-requires-clause-receiver c = is-object-at (slice_get (nodes c.coerced.new.table) c.in_ok-receiver.receiver) (r.as_object (the_value (slice_get (nodes c.args.table.now) c.args.receiver))) c.in_ok-receiver.ensures.node

pub returns-in-Some-clause-node : goal.returns-in-Some-clause-node
returns-in-Some-clause-node c =
    let new = c.member_value.new.table in
    let x = c.args.context.now in
    let a = r.as_object (the_value (slice_get (nodes c.args.table.now) c.args.receiver)) in
    let at = slice_get (nodes c.coerced.new.table) c.in_ok-receiver.receiver in
    IfOk-weaker
    c.member_value.result
    (λ made. slice_get (nodes new) made ≡ Some (member_in (nodes new) x c.in-Some.state c.own_name.result.now (the_object at)))
    (λ made. slice_get (nodes new) made ≡ Some (after_dots_in (nodes new) x c.args.at.now a c.args.word.now))
    (λ made e. e ∙ ap Some (member-after (nodes new) x c.args.at.now c.args.word.now c.in-Some.state c.own_name.result.now a at (c.own_name.ensures ∙ ap own_name c.text-text.ensures) (sym (ap (names.state_named (declared_by x.lookups.now) c.args.at.now.class) c.text-text.ensures) ∙ sym c.state_named.ensures ∙ c.in-Some.is) c.in_ok-receiver.ensures.node))
    c.member_value.ensures.node
