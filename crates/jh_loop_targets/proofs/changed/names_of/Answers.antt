use Rattle.std.proofs.Common.{ap, ◌∙◌, map, arith}
use Rattle.jh_state_facts.specs.well_formedness.States.{local_of}
use Rattle.jh_loop_targets.specs.Gathering.{with_one, with_all}
use Rattle.jh_loop_targets.specs.Noted.{names_in}
use Rattle.jh_loop_targets.proofs.Orders.{scope-next, scope-end}
use Rattle.jh_loop_targets.proofs.changed.names_of.Goals as goal

pub loop-place-init : goal.loop-place-init
loop-place-init c = ap (λ xs. with_all xs (map local_of c.args.scope.now)) c.none-names.ensures

pub loop-place-preserved : goal.loop-place-preserved
loop-place-preserved c =
    scope-next c.args.scope.now c.loop-place.place c.known_at-known.result (names_in c.loop-place.names) (names_in c.add.new.self) c.known_at-known.ensures
    (c.in_ok-add.ensures ∙ ap (λ k. with_one (names_in c.loop-place.names) (record { text = c.known_at-known.result.text.now; sort = k })) c.sort_of_type.ensures)
    ∙ c.loop-place.invariant

pub returns : goal.returns
returns c = scope-end c.args.scope.now c.loop-place.place (names_in c.loop-place.names) (omega arith) ∙ c.loop-place.invariant
