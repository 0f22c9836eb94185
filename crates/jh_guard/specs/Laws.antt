-- What the commands of methods are for.
use Rattle.std.specs.Prelude.{◌≡◌, true, List, [], ◌∷◌}
use Rattle.jh_form.specs.Meaning.{Interp, Datum, truth, datum}
use Rattle.jh_semantics.specs.Code.{AnyCode}
use Rattle.jh_semantics.specs.State.{State}
use Rattle.jh_semantics.specs.Values.{value, value_of}
use Rattle.jh_guard.specs.Terms.{Check, value_checks, value_term}

-- all checks are true
abbrev pub AllPass : List Check → Interp → Type 0
AllPass [] m = Unit {0}
AllPass (check ∷ more) m = (truth check.fact m [] ≡ true) × AllPass more m

-- The checks of an expression are true in a state exactly where it has a value there, which is that of its term.
pub record AreExactChecks (e : AnyCode) (s : State) : Type 0 where
  pub passed : AllPass (value_checks e) s → value_of e s ≡ value (datum (value_term e) s [])
  pub needed : (d : Datum) → value_of e s ≡ value d → AllPass (value_checks e) s

abbrev pub ChecksAreExact : Type 0
ChecksAreExact = (e : AnyCode) (s : State) → AreExactChecks e s
