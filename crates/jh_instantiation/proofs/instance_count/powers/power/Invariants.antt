use Rattle.std.proofs.Common.{◌≡◌, ◌^◌}
use Rattle.jh_query.specs.queries.Size.{capped}
use Rattle.jh_instantiation.proofs.instance_count.powers.power.Given as goal

abbrev pub invariant-loop-turn : goal.invariant-loop-turn
invariant-loop-turn l = l.made ≡ capped (l.base ^ l._turn)
