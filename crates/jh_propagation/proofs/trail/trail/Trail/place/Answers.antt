use Rattle.std.proofs.Common.{◌≡◌, ◌↔◌, ◌∙◌, subst, ℕ, List, Some}
use Rattle.jh_propagation.specs.declared.trail.decided.Decided.{Decided}
use Rattle.jh_propagation.specs.trail.Listing.{StandsAt}
use Rattle.jh_propagation.proofs.trail.trail.Trail.place.Goals as goal

pub returns : goal.returns
returns c = subst (λ (ds : List Decided). (p : ℕ) → (c.place_in.result ≡ Some p) ↔ StandsAt ds c.args.atom p) (c.as_slice.ensures.value ∙ c.self.view_is) c.place_in.ensures
