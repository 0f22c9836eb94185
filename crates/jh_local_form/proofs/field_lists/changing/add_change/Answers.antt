use Rattle.std.proofs.Common.{sym, subst, ◌∙◌, refl}
use Rattle.std.proofs.lemmas.Option.{slice_get_within}
use Rattle.jh_form.specs.Tree.{ValueTree}
use Rattle.jh_arena.specs.table.Nodes.{nodes}
use Rattle.jh_fca.specs.local_form.Chains.{change}
use Rattle.jh_local_form.specs.updates.NamedUpdates.{IsNamedUpdate}
use Rattle.jh_local_form.proofs.updates.Places.{some-same}
use Rattle.jh_local_form.proofs.field_lists.Changed.{change-of, no-change, change-added, change-none}
use Rattle.jh_local_form.proofs.field_lists.changing.add_change.Goals as goal

pub is_object-requires : goal.is_object-requires
is_object-requires c = let r = c.in_ok-named.ensures.update c.requires.names.0 c.requires.names.1 in slice_get_within (nodes c.named_update.new.table) c.in_ok-named.named.value _ r.2.parts.gives

pub returns-then-not-is_object-clause-change : goal.returns-then-not-is_object-clause-change
returns-then-not-is_object-clause-change c = λ us u cs is at are.
    let ts = nodes c.args.table.now in
    let vs = nodes c.named_update.new.table in
    let k = c.args.names.now.first in
    let r = c.in_ok-named.ensures.update us is in
    let named : IsNamedUpdate vs c.in_ok-named.named us k u = subst (λ (w : ValueTree). IsNamedUpdate vs c.in_ok-named.named us k w) (some-same r.0 u (sym r.1 ∙ at)) r.2 in
    change-none ts vs c.named_update.ensures.grows.nodes c.args.made.now.items c.args.made.now.items cs (change us k u) are (no-change vs c.in_ok-named.named us k u named (c.is_object.ensures.no c.if-not-is_object.true)) refl

pub returns-clause-change : goal.returns-clause-change
returns-clause-change c = λ us u cs is at are.
    let ts = nodes c.args.table.now in
    let vs = nodes c.named_update.new.table in
    let k = c.args.names.now.first in
    let r = c.in_ok-named.ensures.update us is in
    let named : IsNamedUpdate vs c.in_ok-named.named us k u = subst (λ (w : ValueTree). IsNamedUpdate vs c.in_ok-named.named us k w) (some-same r.0 u (sym r.1 ∙ at)) r.2 in
    let one = change-of vs c.in_ok-named.named us k u named (c.is_object.ensures.yes c.if-not-is_object.false) in
    change-added ts vs c.named_update.ensures.grows.nodes c.args.made.now.items c.push.new.self.items c.in_ok-named.named cs (change us k u) one.0 are one.1 one.2 c.in_ok-push.ensures.items
