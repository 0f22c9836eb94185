-- Pieces that are gathered.
use Rattle.std.specs.Prelude.{◌≡◌, ℕ, Bool, true, false, List, [], ◌∷◌, string_bytes, codes}
use Rattle.jh_report.specs.causes.Causes.{joined}
use Rattle.jh_report.specs.declared.causes.pieces.Pieces.{Pieces}

abbrev pub are_some : List (List ℕ) → Bool
are_some [] = false
are_some (piece ∷ pieces) = true

-- what stands before a piece
abbrev pub gap : Bool → List ℕ
gap true = codes "; "
gap false = []

-- these pieces were added
pub record Holds (made : Pieces) (pieces : List (List ℕ)) : Type 0 where
  pub text : string_bytes made.text ≡ joined pieces
  pub started : made.started ≡ are_some pieces
