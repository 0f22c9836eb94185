use Rattle.std.proofs.Common.{◌≡◌, ◌++◌, drop}
use Rattle.jh_effects.specs.direct_effects.Effects.{calls_in}
use Rattle.jh_effects.specs.written_state.Methods.{links_to}
use Rattle.jh_effects.proofs.written_state.writing.link_all.Given as goal

abbrev pub invariant-loop-call : goal.invariant-loop-call
invariant-loop-call l = record {
  given : l.flow.given.items ≡ l.initial.flow.given.items;
  links : l.flow.links.items ++ links_to l.numbers l.to (calls_in (drop l.call-index l.calls)) ≡ l.initial.flow.links.items ++ links_to l.numbers l.to (calls_in l.calls);
}
