-- The line that says why regions don't prove a sequent.
use Rattle.std.specs.Prelude.{ℕ, ◌+◌, ◌==◌, Bool, true, false, if◌then◌else◌, List, [], ◌∷◌, ◌++◌, codes}
use Rattle.std.specs.Fmt.{decimal}
use Rattle.jh_query.specs.queries.Sizing.{spelled}
use Rattle.jh_query.specs.declared.queries.sizes.Sizes.{Sizes}
use Rattle.jh_query.specs.declared.queries.sizes.Spot.{Spot}
use Rattle.jh_query.specs.declared.queries.sizes.Whole.{Whole}
use Rattle.jh_report.specs.causes.Digits.{digits_text}

-- a region with an object that is no element, and how many there are
abbrev pub region_pieces : ℕ → List Bool → List (List ℕ)
region_pieces r digits = if spelled digits == 0 then [] else (codes "region " ++ (decimal r ++ (codes " rest " ++ digits_text digits))) ∷ []

-- an element, the object that it is, and its region
abbrev pub element_pieces : ℕ → Spot → List (List ℕ)
element_pieces i spot = (codes "element " ++ (decimal i ++ (codes " class " ++ (decimal spot.class ++ (codes " region " ++ decimal spot.region))))) ∷ []

abbrev pub number_pieces : ℕ → Whole → List (List ℕ)
number_pieces i number = (codes "number " ++ (decimal i ++ (codes " " ++ (digits_text number.plus ++ (codes " - " ++ digits_text number.minus))))) ∷ []

abbrev pub truth_word : Bool → List ℕ
truth_word true = codes "true"
truth_word false = codes "false"

abbrev pub flag_pieces : ℕ → Bool → List (List ℕ)
flag_pieces i flag = (codes "flag " ++ (decimal i ++ (codes " " ++ truth_word flag))) ∷ []

-- the pieces of the items of a list, the first of which has number n
abbrev pub numbered : {A : Type 0} → (ℕ → A → List (List ℕ)) → ℕ → List A → List (List ℕ)
numbered pieces n [] = []
numbered pieces n (a ∷ rest) = pieces n a ++ numbered pieces (n + 1) rest

-- regions, elements, numbers and flags, each from 0
abbrev pub sizes_pieces : Sizes → List (List ℕ)
sizes_pieces z = numbered region_pieces 0 z.rest ++ numbered element_pieces 0 z.spots ++ numbered number_pieces 0 z.numbers ++ numbered flag_pieces 0 z.flags

-- pieces with a semicolon and a space before each
abbrev pub behind : List (List ℕ) → List ℕ
behind [] = []
behind (piece ∷ pieces) = codes "; " ++ (piece ++ behind pieces)

-- pieces with a semicolon and a space between them
abbrev pub joined : List (List ℕ) → List ℕ
joined [] = []
joined (piece ∷ pieces) = piece ++ behind pieces

-- sizes that make the hypotheses of the query true and its goal false
abbrev pub refuted_line : Sizes → List ℕ
refuted_line z = codes "  bapa refuted: " ++ (joined (sizes_pieces z) ++ 10 ∷ [])

-- the numbers of a query that is too large to be decided
abbrev pub too_large_line : ℕ → ℕ → ℕ → List ℕ
too_large_line sets elements size =
    codes "  bapa too large: sets " ++ (decimal sets ++ (codes ", elements " ++ (decimal elements ++ (codes ", size " ++ (decimal size ++ 10 ∷ [])))))
