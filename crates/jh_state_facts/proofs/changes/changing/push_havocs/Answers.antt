use Rattle.std.proofs.Common.{◌+◌, ℕ, drop, subst, arith}
use Rattle.jh_arena.proofs.table.Listed.{extends-refl}
use Rattle.jh_command_terms.specs.jh_guard.Steps.{havocs}
use Rattle.jh_state_facts.specs.changes.Added.{AddsCommands, sorted_in}
use Rattle.jh_state_facts.proofs.changes.AddedSteps.{havoc-more, havocs-end}
use Rattle.jh_state_facts.proofs.changes.changing.push_havocs.Goals as goal

pub loop-place-preserved : goal.loop-place-preserved
loop-place-preserved c =
    let t = c.args.table.now in
    record {
      turn = omega (arith, c.in_ok-next.ensures, c.loop-place.invariant.turn);
      rest = λ new h.
          c.loop-place.invariant.rest new
          (havoc-more t c.loop-place.commands.items c.push_havoc.new.commands.items new c.args.names.now c.name_at.result c.loop-place.place c.loop-place.next c.name_at.ensures c.in_ok-push_havoc.ensures (extends-refl t)
          (subst (λ (k : ℕ). AddsCommands t c.push_havoc.new.commands.items new (havocs (sorted_in (drop (c.loop-place.place + 1) c.args.names.now)) k)) c.in_ok-next.ensures h));
    }

pub returns-clause-commands : goal.returns-clause-commands
returns-clause-commands c =
    c.loop-place.invariant.rest c.loop-place.commands.items (havocs-end c.args.table.now c.loop-place.commands.items c.args.names.now c.loop-place.place c.loop-place.next (omega (arith, c.loop-place-test.false)))
