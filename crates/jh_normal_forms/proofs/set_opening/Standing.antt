-- Truths that may stand for others, by how they stand.
use Rattle.std.proofs.Common.{◌≡◌, sym, ◌∙◌, Bool}
use Rattle.jh_normal_forms.specs.declared.rebuilding.polarity.Polarity.{Polarity}
use Rattle.jh_normal_forms.specs.declared.rebuilding.polarity.Polarity.TheVariants as pol
use Rattle.jh_normal_forms.specs.rebuilding.Sound.{StandsIn}

-- what is the same may stand anywhere
pub stands-same : (s : Polarity) (p q : Bool) → p ≡ q → StandsIn s p q
stands-same pol.Positive p q e = λ h. sym e ∙ h
stands-same pol.Negative p q e = λ h. e ∙ h
stands-same pol.Both p q e = e
