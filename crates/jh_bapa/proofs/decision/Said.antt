-- A row of the system is the equation that it stands for, under the sizes that numbers for the columns say.
use Rattle.std.proofs.Common.{◌≡◌, refl, ℕ, zero, suc, ◌+◌, ◌*◌, ◌-◌, ◌≤◌, ◌<◌, Bool, true, false, if◌then◌else◌, List, [], ◌∷◌, ◌++◌, length, get_or, Option, Some, None, ℤ, pos, negsuc, ◌+ℤ◌, ◌-ℤ◌, ◌*ℤ◌, neg_ℤ, ap, sym, ◌∙◌, arith}
use Rattle.std.proofs.lemmas.List.{get_or-append-add, length-append}
use Rattle.std.proofs.Math.ListN.{get_or-append}
use Rattle.std.proofs.lemmas.Int.{ints}
use Rattle.std.proofs.Math.IntN.{*ℤ_comm, zero-*ℤ}
use Rattle.jh_digits.specs.solver.Solution.{weighted}
use Rattle.jh_query.specs.declared.queries.sizes.Spot.{Spot}
use Rattle.jh_query.specs.queries.Bare.{cond_tree}
use Rattle.jh_query.specs.queries.Tree.{NumTree}
use Rattle.jh_query.specs.queries.Sizing.{Sizing}
use Rattle.jh_query.specs.queries.Truth.{number_value, read_number, rest_of}
use Rattle.jh_query.specs.queries.Linear.{number_factor, placed_part, rest_factor}
use Rattle.jh_query.specs.queries.Linearity.{whole_sum}
use Rattle.jh_query.proofs.queries.Linearities.{linear}
use Rattle.jh_query.specs.declared.partial_truth.casing.Atom.{Atom}
use Rattle.jh_bapa.specs.decision.Lists.{dot, listed, pairs, zeros}
use Rattle.jh_bapa.specs.decision.Cases.{LineMet, LineTree, line_of}
use Rattle.jh_bapa.specs.decision.Systems.{Frame, entries_of, line_entries, line_right, number_entry, rest_entry, rights_of, row_of, slack_count, slack_total, width_of}
use Rattle.jh_bapa.proofs.decision.Dots.{dot-append, dot-listed, dot-pairs, dot-zeros, length-listed, length-pairs, sum-same, weighted-dot, weighted-same}

-- the numbers of the columns say these sizes
pub record Says (m : Frame) (z : Sizing) (v : ℕ → ℕ) : Type 0 where
  pub rests : length z.rest ≡ m.regions
  pub numbers : length z.numbers ≡ m.numbers
  pub spots : z.spots ≡ m.spots
  pub none : (r : ℕ) → r < m.regions → m.empty r ≡ true → rest_of z r ≡ 0
  pub some : (r : ℕ) → r < m.regions → m.empty r ≡ false → rest_of z r ≡ v r
  pub number : (l : ℕ) → l < m.numbers → get_or z.numbers l (pos 0) ≡ pos (v (m.regions + 2 * l)) -ℤ pos (v (m.regions + (2 * l + 1)))

-- where the slacks of an equation begin
abbrev pub slacks_at : Frame → ℕ → ℕ
slacks_at m place = m.regions + (2 * m.numbers + place)

module _ (m : Frame) (z : Sizing) (v : ℕ → ℕ) (says : Says m z v) where
  rest_term : (a : NumTree) (r : ℕ) → r < m.regions → rest_entry m.empty a r *ℤ pos (v (0 + r)) ≡ read_number (rest_factor r) a *ℤ pos (rest_of z r)
  rest_term a r h = by_empty (m.empty r) refl
    where
      by_empty : (b : Bool) → m.empty r ≡ b → (if b then pos 0 else read_number (rest_factor r) a) *ℤ pos (v (0 + r)) ≡ read_number (rest_factor r) a *ℤ pos (rest_of z r)
      by_empty true e =
          let nought : rest_of z r ≡ 0 = says.none r h e in
          let right : read_number (rest_factor r) a *ℤ pos (rest_of z r) ≡ pos 0 = ap (λ n. read_number (rest_factor r) a *ℤ pos n) nought ∙ *ℤ_comm (read_number (rest_factor r) a) (pos 0) ∙ zero-*ℤ (read_number (rest_factor r) a) in
          zero-*ℤ (pos (v (0 + r))) ∙ sym right
      by_empty false e =
          let place : 0 + r ≡ r = omega arith in
          ap (λ n. read_number (rest_factor r) a *ℤ pos n) (ap v place ∙ sym (says.some r h e))

  number_term : (a : NumTree) (l : ℕ) → l < m.numbers → number_entry a l *ℤ (pos (v (m.regions + 2 * l)) -ℤ pos (v (m.regions + (2 * l + 1)))) ≡ read_number (number_factor l) a *ℤ get_or z.numbers l (pos 0)
  number_term a l h = ap (λ y. read_number (number_factor l) a *ℤ y) (sym (says.number l h))

  -- the rests and the numbers of a row come to the number without what is left under the placement
  body_value : (a : NumTree) → (dot (listed m.regions (rest_entry m.empty a)) v 0 +ℤ dot (pairs m.numbers (number_entry a)) v m.regions) +ℤ read_number (placed_part m.spots) a ≡ number_value z a
  body_value a =
      let first : dot (listed m.regions (rest_entry m.empty a)) v 0 ≡ whole_sum (length z.rest) (λ r. read_number (rest_factor r) a *ℤ pos (rest_of z r)) =
      dot-listed m.regions (rest_entry m.empty a) v 0 ∙ sum-same m.regions (λ r. rest_entry m.empty a r *ℤ pos (v (0 + r))) (λ r. read_number (rest_factor r) a *ℤ pos (rest_of z r)) (rest_term a)
      ∙ ap (λ n. whole_sum n (λ r. read_number (rest_factor r) a *ℤ pos (rest_of z r))) (sym says.rests) in
      let second : dot (pairs m.numbers (number_entry a)) v m.regions ≡ whole_sum (length z.numbers) (λ l. read_number (number_factor l) a *ℤ get_or z.numbers l (pos 0)) =
      dot-pairs m.numbers (number_entry a) v m.regions ∙ sum-same m.numbers (λ l. number_entry a l *ℤ (pos (v (m.regions + 2 * l)) -ℤ pos (v (m.regions + (2 * l + 1))))) (λ l. read_number (number_factor l) a *ℤ get_or z.numbers l (pos 0)) (number_term a)
      ∙ ap (λ n. whole_sum n (λ l. read_number (number_factor l) a *ℤ get_or z.numbers l (pos 0))) (sym says.numbers) in
      let left : read_number (placed_part m.spots) a ≡ read_number (placed_part z.spots) a = ap (λ s. read_number (placed_part s) a) (sym says.spots) in
      (λ i. (first i +ℤ second i) +ℤ left i) ∙ sym (linear z a)

  -- a row under the numbers of its columns
  pub row-value : (place : ℕ) (l : LineTree) → dot (row_of m place l) v 0 +ℤ read_number (placed_part m.spots) l.side ≡ number_value z l.side +ℤ dot l.slacks v (slacks_at m place)
  row-value place l =
      let rests : List ℤ = listed m.regions (rest_entry m.empty l.side) in
      let numbers : List ℤ = pairs m.numbers (number_entry l.side) in
      let one : length rests ≡ m.regions = length-listed m.regions (rest_entry m.empty l.side) in
      let two : length (rests ++ numbers) ≡ m.regions + 2 * m.numbers = length-append rests numbers ∙ omega (arith, one, length-pairs m.numbers (number_entry l.side)) in
      let three : length ((rests ++ numbers) ++ zeros place) ≡ slacks_at m place = length-append (rests ++ numbers) (zeros place) ∙ omega (arith, two, length-listed place (λ j. pos 0)) in
      let at_numbers : dot numbers v (0 + length rests) ≡ dot numbers v m.regions = ap (dot numbers v) (from_zero (length rests) ∙ one) in
      let at_slacks : dot l.slacks v (0 + length ((rests ++ numbers) ++ zeros place)) ≡ dot l.slacks v (slacks_at m place) = ap (dot l.slacks v) (from_zero (length ((rests ++ numbers) ++ zeros place)) ∙ three) in
      omega (
        arith,
        ints,
        dot-append (((rests ++ numbers) ++ zeros place) ++ l.slacks) (zeros (m.total - (place + length l.slacks))) v 0,
        dot-append ((rests ++ numbers) ++ zeros place) l.slacks v 0,
        dot-append (rests ++ numbers) (zeros place) v 0,
        dot-append rests numbers v 0,
        at_numbers,
        at_slacks,
        dot-zeros place v (0 + length (rests ++ numbers)),
        dot-zeros (m.total - (place + length l.slacks)) v (0 + length (((rests ++ numbers) ++ zeros place) ++ l.slacks)),
        body_value l.side,
      )
    where
      from_zero : (n : ℕ) → 0 + n ≡ n
      from_zero n = omega arith

pub length-row : (m : Frame) (place : ℕ) (l : LineTree) → place + length l.slacks ≤ m.total → length (row_of m place l) ≡ width_of m
length-row m place l h =
    let rests : List ℤ = listed m.regions (rest_entry m.empty l.side) in
    let numbers : List ℤ = pairs m.numbers (number_entry l.side) in
    omega (
      arith,
      length-append (((rests ++ numbers) ++ zeros place) ++ l.slacks) (zeros (m.total - (place + length l.slacks))),
      length-append ((rests ++ numbers) ++ zeros place) l.slacks,
      length-append (rests ++ numbers) (zeros place),
      length-append rests numbers,
      length-listed m.regions (rest_entry m.empty l.side),
      length-pairs m.numbers (number_entry l.side),
      length-listed place (λ j. pos 0),
      length-listed (m.total - (place + length l.slacks)) (λ j. pos 0),
    )
