-- What regions say of a sequent, by its query.
use Rattle.std.specs.Prelude.{◌≡◌, false}
use Rattle.jh_query.specs.queries.Tree.{QueryTree}
use Rattle.jh_query.specs.queries.Bare.{query_tree}
use Rattle.jh_query.specs.queries.Sizing.{sizing_of}
use Rattle.jh_query.specs.queries.Size.{query_size}
use Rattle.jh_query.specs.queries.Truth.{Fits, IsTrueQuery, query_true}
use Rattle.jh_bapa.specs.decision.Within.{IsWithin}
use Rattle.jh_bapa.specs.declared.answers.answer.BapaCause.{BapaCause}
use Rattle.jh_bapa.specs.declared.answers.answer.BapaCause.TheVariants as cause
use Rattle.jh_bapa.specs.declared.answers.answer.Regional.{Regional}
use Rattle.jh_bapa.specs.declared.answers.answer.Regional.TheVariants as regional

-- Why a query doesn't prove its sequent: it is within the limits, and fitting sizes make it false; or one of its three numbers is
-- beyond its limit.
abbrev pub IsCause : QueryTree → BapaCause → Type 0
IsCause q (cause.Refuted z) = IsWithin q × Fits q (sizing_of z) × (query_true q (sizing_of z) ≡ false)
IsCause q (cause.TooLarge sets elements size) = (¬ IsWithin q) × (sets ≡ q.sets) × (elements ≡ q.elements) × (size ≡ query_size q)

-- the query is within the limits, and true
pub record IsProof (q : QueryTree) : Type 0 where
  pub within : IsWithin q
  pub holds : IsTrueQuery q

-- what regions say of a sequent with this query
abbrev pub IsRegional : QueryTree → Regional → Type 0
IsRegional q (regional.Proved query) = (query_tree query ≡ q) × IsProof q
IsRegional q (regional.Unproved bapa) = IsCause q bapa
