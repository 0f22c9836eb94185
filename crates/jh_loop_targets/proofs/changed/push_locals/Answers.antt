use Rattle.std.proofs.Common.{◌≡◌, ◌∙◌, arith, length}
use Rattle.jh_state_facts.specs.changes.Added.{sorted_in}
use Rattle.jh_loop_targets.specs.Noted.{names_in, entry_in}
use Rattle.jh_loop_targets.proofs.Orders.{local-next, local-end, length-map}
use Rattle.jh_loop_targets.proofs.changed.push_locals.Goals as goal

pub loop-place-preserved : goal.loop-place-preserved
loop-place-preserved c = local-next (names_in c.args.locals.now) (sorted_in c.loop-place.names.items) (sorted_in c.push_local.new.names.items) c.loop-place.place c.in_ok-push_local.ensures ∙ c.loop-place.invariant

pub returns : goal.returns
returns c = local-end (names_in c.args.locals.now) (sorted_in c.loop-place.names.items) c.loop-place.place (let e : length (names_in c.args.locals.now) ≡ length c.args.locals.now.sorts.entries = length-map entry_in c.args.locals.now.sorts.entries in let l = c.len-place-end.ensures.len in omega arith) ∙ c.loop-place.invariant
