-- The rows of a system are the equations of the atoms.
use Rattle.std.proofs.Common.{◌≡◌, refl, ℕ, zero, suc, ◌+◌, ◌*◌, ◌≤◌, ◌<◌, Bool, true, false, List, [], ◌∷◌, ◌++◌, length, get_or, Option, Some, None, ℤ, pos, negsuc, ◌+ℤ◌, ◌-ℤ◌, ◌*ℤ◌, neg_ℤ, ap, sym, ◌∙◌, arith}
use Rattle.std.proofs.lemmas.List.{get_or-append-add, length-append}
use Rattle.std.proofs.Math.ListN.{get_or-append}
use Rattle.std.proofs.lemmas.Int.{ints}
use Rattle.jh_digits.specs.solver.Solution.{weighted}
use Rattle.jh_query.specs.queries.Bare.{cond_tree}
use Rattle.jh_query.specs.queries.Sizing.{Sizing}
use Rattle.jh_query.specs.queries.Truth.{number_value, read_number}
use Rattle.jh_query.specs.queries.Linear.{placed_part}
use Rattle.jh_query.specs.declared.partial_truth.casing.Atom.{Atom}
use Rattle.jh_bapa.specs.decision.Lists.{dot}
use Rattle.jh_bapa.specs.decision.Cases.{LineMet, LineTree, line_of}
use Rattle.jh_bapa.specs.decision.Systems.{Frame, count, entries_of, line_entries, line_right, rights_of, row_of, slack_count, slack_total, width_of}
use Rattle.jh_bapa.proofs.decision.Dots.{dot-same, weighted-dot, weighted-same}
use Rattle.jh_bapa.proofs.decision.Said.{Says, length-row, row-value, slacks_at}

-- each atom's equation is true, with its slacks at their places
abbrev pub AllLines : Frame → Sizing → (ℕ → ℕ) → ℕ → List Atom → Type 0
AllLines m z v place [] = Unit {0}
AllLines m z v place (a ∷ rest) = LineMet z (line_of (cond_tree a.cond.now) a.case) v (slacks_at m place) × AllLines m z v (place + slack_count (cond_tree a.cond.now) a.case) rest

-- each row of a list of entries comes to its right side
abbrev pub RowsEqual : ℕ → (ℕ → ℕ) → List ℤ → List ℤ → Type 0
RowsEqual width v entries right = (i : ℕ) → i < length right → weighted (λ j. get_or entries (i * width + j) (pos 0)) v width ≡ get_or right i (pos 0)

-- the first row, and those behind it
first_row : (width : ℕ) (v : ℕ → ℕ) (row rest : List ℤ) → length row ≡ width → weighted (λ j. get_or (row ++ rest) (0 * width + j) (pos 0)) v width ≡ dot row v 0
first_row width v row rest e =
    ap (weighted (λ j. get_or (row ++ rest) (0 * width + j) (pos 0)) v) (sym e)
    ∙ weighted-dot row v (λ j. get_or (row ++ rest) (0 * width + j) (pos 0)) (λ j h. ap (λ n. get_or (row ++ rest) n (pos 0)) (front j) ∙ get_or-append row rest (pos 0) j h)
  where
    front : (j : ℕ) → 0 * width + j ≡ j
    front j = omega arith

next_row : (width : ℕ) (v : ℕ → ℕ) (row rest : List ℤ) (i : ℕ) → length row ≡ width → weighted (λ j. get_or (row ++ rest) (suc i * width + j) (pos 0)) v width ≡ weighted (λ j. get_or rest (i * width + j) (pos 0)) v width
next_row width v row rest i e =
    weighted-same width (λ j. get_or (row ++ rest) (suc i * width + j) (pos 0)) (λ j. get_or rest (i * width + j) (pos 0)) v
    (λ j h. ap (λ n. get_or (row ++ rest) n (pos 0)) (behind j) ∙ get_or-append-add row rest (i * width + j) (pos 0))
  where
    behind : (j : ℕ) → suc i * width + j ≡ length row + (i * width + j)
    behind j = omega (arith, e)

pub rows-first : (width : ℕ) (v : ℕ → ℕ) (row rest right : List ℤ) (c : ℤ) → length row ≡ width → RowsEqual width v (row ++ rest) (c ∷ right) → dot row v 0 ≡ c
rows-first width v row rest right c e h = sym (first_row width v row rest e) ∙ h 0 (omega arith)

pub rows-next : (width : ℕ) (v : ℕ → ℕ) (row rest right : List ℤ) (c : ℤ) → length row ≡ width → RowsEqual width v (row ++ rest) (c ∷ right) → RowsEqual width v rest right
rows-next width v row rest right c e h i k = sym (next_row width v row rest i e) ∙ h (suc i) (omega arith)

pub rows-more : (width : ℕ) (v : ℕ → ℕ) (row rest right : List ℤ) (c : ℤ) → length row ≡ width → dot row v 0 ≡ c → RowsEqual width v rest right → RowsEqual width v (row ++ rest) (c ∷ right)
rows-more width v row rest right c e d h zero k = first_row width v row rest e ∙ d
rows-more width v row rest right c e d h (suc i) k = next_row width v row rest i e ∙ h i (omega arith)

below_none : (i : ℕ) → i < 0 → ⊥
below_none i h = omega arith

module _ (m : Frame) (z : Sizing) (v : ℕ → ℕ) (says : Says m z v) where
  line-of-row : (place : ℕ) (l : LineTree) → dot (row_of m place l) v 0 ≡ l.added -ℤ read_number (placed_part m.spots) l.side → number_value z l.side +ℤ dot l.slacks v (slacks_at m place) ≡ l.added
  line-of-row place l h = omega (arith, ints, h, row-value m z v says place l)

  row-of-line : (place : ℕ) (l : LineTree) → number_value z l.side +ℤ dot l.slacks v (slacks_at m place) ≡ l.added → dot (row_of m place l) v 0 ≡ l.added -ℤ read_number (placed_part m.spots) l.side
  row-of-line place l h = omega (arith, ints, h, row-value m z v says place l)

  lines_of : (line : Option LineTree) (place : ℕ) (rest : List Atom)
      → ((p : ℕ) → p + slack_total rest ≤ m.total → RowsEqual (width_of m) v (entries_of m p rest) (rights_of m rest) → AllLines m z v p rest)
      → place + (count line + slack_total rest) ≤ m.total → RowsEqual (width_of m) v (line_entries m place line ++ entries_of m (place + count line) rest) (line_right m line ++ rights_of m rest) → LineMet z line v (slacks_at m place) × AllLines m z v (place + count line) rest
  lines_of None place rest below h e = (tt, below (place + 0) (omega (arith, h)) e)
  lines_of (Some l) place rest below h e =
      let size : length (row_of m place l) ≡ width_of m = length-row m place l (omega (arith, h)) in (
        line-of-row place l (rows-first (width_of m) v (row_of m place l) (entries_of m (place + length l.slacks) rest) (rights_of m rest) (l.added -ℤ read_number (placed_part m.spots) l.side) size e),
        below (place + length l.slacks) (omega (arith, h)) (rows-next (width_of m) v (row_of m place l) (entries_of m (place + length l.slacks) rest) (rights_of m rest) (l.added -ℤ read_number (placed_part m.spots) l.side) size e),
      )

  pub lines-of-rows : (place : ℕ) (atoms : List Atom) → place + slack_total atoms ≤ m.total → RowsEqual (width_of m) v (entries_of m place atoms) (rights_of m atoms) → AllLines m z v place atoms
  lines-of-rows place [] h e = tt
  lines-of-rows place (a ∷ rest) h e = lines_of (line_of (cond_tree a.cond.now) a.case) place rest (λ p. lines-of-rows p rest) h e

  rows_of_line : (line : Option LineTree) (place : ℕ) (rest : List Atom)
      → ((p : ℕ) → p + slack_total rest ≤ m.total → AllLines m z v p rest → RowsEqual (width_of m) v (entries_of m p rest) (rights_of m rest))
      → place + (count line + slack_total rest) ≤ m.total → LineMet z line v (slacks_at m place) × AllLines m z v (place + count line) rest → RowsEqual (width_of m) v (line_entries m place line ++ entries_of m (place + count line) rest) (line_right m line ++ rights_of m rest)
  rows_of_line None place rest below h e = below (place + 0) (omega (arith, h)) e.1
  rows_of_line (Some l) place rest below h e =
      rows-more (width_of m) v (row_of m place l) (entries_of m (place + length l.slacks) rest) (rights_of m rest) (l.added -ℤ read_number (placed_part m.spots) l.side) (length-row m place l (omega (arith, h)))
      (row-of-line place l e.0) (below (place + length l.slacks) (omega (arith, h)) e.1)

  pub rows-of-lines : (place : ℕ) (atoms : List Atom) → place + slack_total atoms ≤ m.total → AllLines m z v place atoms → RowsEqual (width_of m) v (entries_of m place atoms) (rights_of m atoms)
  rows-of-lines place [] h e = λ i k. absurd (below_none i k)
  rows-of-lines place (a ∷ rest) h e = rows_of_line (line_of (cond_tree a.cond.now) a.case) place rest (λ p. rows-of-lines p rest) h e

-- all rows are as long as there are columns
length_with : (m : Frame) (line : Option LineTree) (place : ℕ) (rest : List Atom)
    → ((p : ℕ) → p + slack_total rest ≤ m.total → length (entries_of m p rest) ≡ length (rights_of m rest) * width_of m)
    → place + (count line + slack_total rest) ≤ m.total → length (line_entries m place line ++ entries_of m (place + count line) rest) ≡ length (line_right m line ++ rights_of m rest) * width_of m
length_with m None place rest below h = below (place + 0) (omega (arith, h))
length_with m (Some l) place rest below h =
    length-append (row_of m place l) (entries_of m (place + length l.slacks) rest)
    ∙ omega (arith, length-row m place l (omega (arith, h)), below (place + length l.slacks) (omega (arith, h)))

pub length-entries : (m : Frame) (place : ℕ) (atoms : List Atom) → place + slack_total atoms ≤ m.total → length (entries_of m place atoms) ≡ length (rights_of m atoms) * width_of m
length-entries m place [] h = omega arith
length-entries m place (a ∷ rest) h = length_with m (line_of (cond_tree a.cond.now) a.case) place rest (λ p. length-entries m p rest) h
