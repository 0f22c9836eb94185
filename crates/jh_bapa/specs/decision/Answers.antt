-- What the answers of `decide` say.
use Rattle.std.specs.Prelude.{◌≡◌, false}
use Rattle.jh_bapa.specs.declared.decision.deciding.Decided.{Decided}
use Rattle.jh_bapa.specs.declared.decision.deciding.Decided.TheVariants.{Valid, Refuted, TooLarge}
use Rattle.jh_query.specs.queries.Tree.{QueryTree}
use Rattle.jh_query.specs.queries.Sizing.{sizing_of}
use Rattle.jh_query.specs.queries.Truth.{Fits, IsTrueQuery, query_true}
use Rattle.jh_query.specs.queries.Size.{query_size}
use Rattle.jh_bapa.specs.decision.Within.{IsWithin}

abbrev pub IfValid : QueryTree → Decided → Type 0
IfValid q Valid = IsTrueQuery q
IfValid q _ = Unit {0}

abbrev pub IfRefuted : QueryTree → Decided → Type 0
IfRefuted q (Refuted z) = Fits q (sizing_of z) × (query_true q (sizing_of z) ≡ false)
IfRefuted q _ = Unit {0}

-- a query is too large exactly where it isn't decided, and the answer has its three numbers
abbrev pub IfTooLarge : QueryTree → Decided → Type 0
IfTooLarge q (TooLarge sets elements size) = (¬ IsWithin q) × (sets ≡ q.sets) × (elements ≡ q.elements) × (size ≡ query_size q)
IfTooLarge q _ = IsWithin q
