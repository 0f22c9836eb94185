use Rattle.std.proofs.Common.{◌≡◌, refl, sym, subst, ℕ, List, [], arith}
use Rattle.jh_reach.specs.Standing.{AreFormulas}
use Rattle.jh_ground_input.proofs.facts.nothing.Goals as goal

pub returns : goal.returns
unfolding AreFormulas
returns c = record {
  facts = subst (λ (ns : List ℕ). AreFormulas c.in_ok-new.field-0 ns []) (sym c.new-2.ensures.items) tt;
  first = record { closed = λ d h. refl; least = λ d h. omega arith };
}
