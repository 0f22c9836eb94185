use Rattle.std.proofs.Common.{sym, ap, ◌∙◌, ◌++◌, filter, drop, ◌+◌, arith}
use Rattle.jh_guard.specs.Items.{Sorted}
use Rattle.jh_state_facts.specs.changes.Added.{sorted_in}
use Rattle.jh_loop_targets.specs.Noted.{holds}
use Rattle.jh_loop_targets.proofs.Orders.{held-next, held-left, held-end}
use Rattle.jh_loop_targets.proofs.changed.push_held.Goals as goal
use Rattle.jh_loop_targets.proofs.changed.push_held.Goals.{then-holds+in_ok-push, else-holds}

pub loop-place-preserved : goal.loop-place-preserved
loop-place-preserved c = elim c.if-holds.branch [
  | then-holds+in_ok-push w ↦
      ap (λ ns. sorted_in ns.items ++ filter (λ (s : Sorted). holds c.args.written.now s.text) (sorted_in (drop (c.loop-place.place + 1) c.args.states.now))) w.names-is
      ∙ held-next (λ (s : Sorted). holds c.args.written.now s.text) c.args.states.now c.loop-place.names.items c.loop-place.place c.state_at-state.result c.state_at-state.ensures w.push.new.self.items (sym c.holds.ensures ∙ w.if-holds.true) w.in_ok-push.ensures.items
      ∙ c.loop-place.invariant
  | else-holds w ↦
      ap (λ ns. sorted_in ns.items ++ filter (λ (s : Sorted). holds c.args.written.now s.text) (sorted_in (drop (c.loop-place.place + 1) c.args.states.now))) w.names-is
      ∙ held-left (λ (s : Sorted). holds c.args.written.now s.text) c.args.states.now c.loop-place.names.items c.loop-place.place c.state_at-state.result c.state_at-state.ensures (sym c.holds.ensures ∙ w.if-holds.false)
      ∙ c.loop-place.invariant
]

pub returns : goal.returns
returns c = held-end (λ (s : Sorted). holds c.args.written.now s.text) c.args.states.now c.loop-place.names.items c.loop-place.place (omega arith) ∙ c.loop-place.invariant
