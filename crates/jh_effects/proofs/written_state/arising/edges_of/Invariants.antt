use Rattle.std.proofs.Common.{◌≡◌, refl, length}
use Rattle.jh_effects.specs.declared.written_state.flow.Link.{Link}
use Rattle.jh_effects.proofs.written_state.Pairs.{AreAdded, AreOnly}
use Rattle.jh_effects.proofs.written_state.arising.edges_of.Given as goal

abbrev pub invariant-loop-link : goal.invariant-loop-link
invariant-loop-link l = record {
  added : AreAdded (λ (k : Link). k.from) (λ (k : Link). k.to) (λ from to. record { from = from; to = to }) (λ k. refl) (λ r v. refl) (λ r v. refl) l.links l.edges l.link-index;
  only : AreOnly (λ (k : Link). k.from) (λ (k : Link). k.to) (λ from to. record { from = from; to = to }) (λ k. refl) (λ r v. refl) (λ r v. refl) l.links l.edges;
  count : length l.edges ≡ l.things;
}
