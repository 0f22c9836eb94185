-- Runs that stop by no fault.
use Rattle.std.specs.Prelude.{Option}
use Rattle.jh_form.specs.Meaning.{Datum}
use Rattle.jh_semantics.specs.Progress.{Configuration, Progress, goes_on, returns, stops}
use Rattle.jh_semantics.specs.Sound.{IsNoFault}

-- no null is dereferenced and no assert fails; where it goes on, something holds of where it stands, and where it returns, of that and
-- of the result
abbrev pub Sure : (Configuration → Type 0) → (Configuration → Option Datum → Type 0) → Progress → Type 0
Sure P R (goes_on r) = P r
Sure P R (returns r v) = R r v
Sure P R (stops why) = IsNoFault why
