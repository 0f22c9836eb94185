-- The digit system of a placement and of the cases of atoms, and the sizes that a solution of it says.
use Rattle.std.specs.Prelude.{◌≡◌, ℕ, zero, suc, ◌+◌, ◌*◌, ◌-◌, ◌^◌, Bool, true, false, not, ◌&&◌, if◌then◌else◌, List, [], ◌∷◌, ◌++◌, length, slice_index_or, Option, Some, None, ℤ, pos, ◌-ℤ◌}
use Rattle.std.specs.List.{list_any}
use Rattle.jh_query.specs.declared.queries.sizes.Spot.{Spot}
use Rattle.jh_query.specs.queries.Tree.{NumTree, CondTree, QueryTree}
use Rattle.jh_query.specs.queries.Tree as t
use Rattle.jh_query.specs.queries.Bare.{cond_tree}
use Rattle.jh_query.specs.queries.Sizing.{Sizing}
use Rattle.jh_query.specs.queries.Truth.{read_number}
use Rattle.jh_query.specs.queries.Linear.{number_factor, placed_part, rest_factor}
use Rattle.jh_query.specs.declared.partial_truth.casing.Atom.{Atom}
use Rattle.jh_query.specs.declared.partial_truth.casing.Case.{Case}
use Rattle.jh_query.specs.declared.partial_truth.casing.Case.TheVariants.{Open, True, False, Greater, Remainder}
use Rattle.jh_bapa.specs.decision.Lists.{listed, pairs, picks, zeros}
use Rattle.jh_bapa.specs.decision.Cases.{LineTree, classes_differ, flag_chosen, line_of, rest_differs}

-- an atom that is true allows no object of region r that is no element
abbrev pub empties : ℕ → CondTree → Case → Bool
empties r c True = rest_differs r c
empties r c k = false

abbrev pub is_empty : List Atom → ℕ → Bool
is_empty atoms r = list_any (λ a. empties r (cond_tree a.cond.now) a.case) atoms

-- an atom that is false wants an object that is no element, since no class makes it so
abbrev pub wants : List Spot → CondTree → Case → Bool
wants spots (t.equal_set a b) False = not (classes_differ spots (t.equal_set a b))
wants spots (t.within a b) False = not (classes_differ spots (t.within a b))
wants spots c k = false

-- the regions in which there may be one
abbrev pub need_of : ℕ → (ℕ → Bool) → CondTree → List ℕ
need_of regions empty c = picks regions (λ r. not (empty r) && rest_differs r c)

abbrev pub needs_of : ℕ → (ℕ → Bool) → List Spot → List Atom → List (List ℕ)
needs_of regions empty spots [] = []
needs_of regions empty spots (a ∷ rest) =
    if wants spots (cond_tree a.cond.now) a.case then need_of regions empty (cond_tree a.cond.now) ∷ needs_of regions empty spots rest else needs_of regions empty spots rest

-- how many columns an atom adds
abbrev pub count : Option LineTree → ℕ
count None = 0
count (Some l) = length l.slacks

abbrev pub slack_count : CondTree → Case → ℕ
slack_count c k = count (line_of c k)

abbrev pub slack_total : List Atom → ℕ
slack_total [] = 0
slack_total (a ∷ rest) = slack_count (cond_tree a.cond.now) a.case + slack_total rest

-- What stands over all rows: how many regions and numbers there are, which regions have no rest, where the elements
-- stand, and how many columns the atoms add.
pub record Frame : Type 0 where
  pub regions : ℕ
  pub numbers : ℕ
  pub empty : ℕ → Bool
  pub spots : List Spot
  pub total : ℕ

abbrev pub rest_entry : (ℕ → Bool) → NumTree → ℕ → ℤ
rest_entry empty a r = if empty r then pos 0 else read_number (rest_factor r) a

abbrev pub number_entry : NumTree → ℕ → ℤ
number_entry a l = read_number (number_factor l) a

-- The row of an equation whose slacks have the columns from a place on: the rests, the numbers as plus and minus, and
-- the slacks.
abbrev pub row_of : Frame → ℕ → LineTree → List ℤ
row_of m place l =
    (((listed (m.regions) (rest_entry m.empty l.side) ++ pairs m.numbers (number_entry l.side)) ++ zeros place) ++ l.slacks)
    ++ zeros (m.total - (place + length l.slacks))

abbrev pub line_entries : Frame → ℕ → Option LineTree → List ℤ
line_entries m place None = []
line_entries m place (Some l) = row_of m place l

abbrev pub line_right : Frame → Option LineTree → List ℤ
line_right m None = []
line_right m (Some l) = (l.added -ℤ read_number (placed_part m.spots) l.side) ∷ []

abbrev pub entries_of : Frame → ℕ → List Atom → List ℤ
entries_of m place [] = []
entries_of m place (a ∷ rest) = line_entries m place (line_of (cond_tree a.cond.now) a.case) ++ entries_of m (place + slack_count (cond_tree a.cond.now) a.case) rest

abbrev pub rights_of : Frame → List Atom → List ℤ
rights_of m [] = []
rights_of m (a ∷ rest) = line_right m (line_of (cond_tree a.cond.now) a.case) ++ rights_of m rest

-- which regions of so many sets have no rest
abbrev pub emptied : ℕ → List Atom → ℕ → Bool
emptied sets atoms r = slice_index_or (listed (2 ^ sets) (is_empty atoms)) r false

abbrev pub frame_of : QueryTree → List Atom → List Spot → Frame
frame_of q atoms spots = record { regions = 2 ^ q.sets; numbers = q.numbers; empty = emptied q.sets atoms; spots = spots; total = slack_total atoms }

-- how many columns there are
abbrev pub width_of : Frame → ℕ
width_of m = m.regions + (2 * m.numbers + m.total)

-- the sizes that numbers for the columns say
abbrev pub said : QueryTree → List Atom → List Spot → (ℕ → ℕ) → Sizing
said q atoms spots v = record {
  rest = listed (2 ^ q.sets) (λ r. if emptied q.sets atoms r then 0 else v r);
  spots = spots;
  numbers = listed q.numbers (λ l. pos (v (2 ^ q.sets + 2 * l)) -ℤ pos (v (2 ^ q.sets + (2 * l + 1))));
  flags = listed q.flags (flag_chosen atoms);
}
