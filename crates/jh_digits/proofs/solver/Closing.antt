-- A table in which all reached nodes were followed, and not the end, shows that there is no solution.
use Rattle.std.proofs.Common.{◌≡◌, ◌≢◌, ℕ, ◌+◌, ◌*◌, ◌≤◌, ◌<◌, List, length, get_or, set, replicate, refl, ◌∙◌, ⊎_elim, arith}
use Rattle.std.proofs.lemmas.Bool.{cases_eq, cases_lt}
use Rattle.std.proofs.lemmas.List.{get_or-set_same, get_or-set_other, length-set, get_or-replicate, length-replicate}
use Rattle.std.proofs.Math.ListN.{get_or-eq_default}
use Rattle.jh_digits.specs.declared.systems.system.System.{System}
use Rattle.jh_digits.specs.systems.Solution.{IsWellFormed, IsSolution}
use Rattle.jh_digits.specs.solver.Cells.{cell_count}
use Rattle.jh_digits.specs.solver.Closed.{IsClosed, start_of, end_of}
use Rattle.jh_digits.specs.solver.Table.{node_of, mark_of, taken_of, halved_of, CanTake, CanHalve, IsTable}
use Rattle.jh_digits.proofs.solver.Paths.{solution_ends}
use Rattle.jh_digits.proofs.solver.Marks.{start_below}

abbrev AllFollowed : System → List ℕ → Type 0
AllFollowed s t = (j c : ℕ) → j ≤ s.columns → c < cell_count s → mark_of s t j c ≢ 0 → 128 ≤ mark_of s t j c

closed : (s : System) (t : List ℕ) → IsTable s t → AllFollowed s t → IsClosed s (λ j c. mark_of s t j c ≢ 0)
unfolding taken_of halved_of CanTake CanHalve
closed s t table all = record {
  skip = λ j c h i has. (table.followed j c (omega arith) i (all j c (omega arith) i has)).skip h;
  take = λ j c h i has range. (table.followed j c (omega arith) i (all j c (omega arith) i has)).take h range;
  halve = λ c i has range. (table.followed s.columns c (omega arith) i (all s.columns c (omega arith) i has)).halve refl range;
}

pub none_from_followed : (s : System) (t : List ℕ) → IsWellFormed s → IsTable s t → AllFollowed s t → mark_of s t 0 (end_of s) ≡ 0 → (v : ℕ → ℕ) → IsSolution s v → ⊥
none_from_followed s t formed table all none v sol = solution_ends s (λ j c. mark_of s t j c ≢ 0) formed (closed s t table all) table.start v sol none

-- ---- the first table

abbrev zeros : ℕ → List ℕ
zeros n = replicate n 0

zeros_count : (n : ℕ) → length (zeros n) ≡ n
zeros_count n = let z : ℕ = 0 in length-replicate n z

past : (n i : ℕ) → n ≤ i → get_or (zeros n) i 0 ≡ 0
past n i h = get_or-eq_default (zeros n) 0 (rw (zeros_count n) h)

within : (i c k : ℕ) → i < c → i < (k + 1) * c
within i c k h = omega arith

no_column : (i c : ℕ) → 0 * c + i ≡ i
no_column i c = omega arith

zero_at : (n i : ℕ) → get_or (zeros n) i 0 ≡ 0
zero_at n i =
    ⊎_elim
    (λ (h : i < n). get_or-replicate n i 0 0 h)
    (λ (h : n ≤ i). past n i h)
    (cases_lt i n)

module _ (s : System) (n start : ℕ) (count : n ≡ (s.columns + 1) * cell_count s) (start_is : start ≡ start_of s) where
  abbrev first : List ℕ
  first = set (zeros n) start 1

  inside : start < n
  inside = rw (count, start_is) (within (start_of s) (cell_count s) s.columns (start_below s))

  at_start : get_or first start 0 ≡ 1
  at_start = get_or-set_same (zeros n) start 1 0 (rw (zeros_count n) inside)

  low : (i : ℕ) → get_or first i 0 < 128
  low i =
      ⊎_elim
      (λ (e : i ≡ start). let f : get_or first i 0 ≡ 1 = rw e at_start in omega (arith, f))
      (λ (e : i ≡ start → ⊥). omega (arith, get_or-set_other (zeros n) start i 1 0 e, zero_at n i))
      (cases_eq i start)

  one : (x : ℕ) → x ≡ 1 → x ≢ 0
  one x e f = omega arith

  pub is_table : IsTable s first
  unfolding mark_of
  is_table = record {
    count = length-set (zeros n) start 1 ∙ zeros_count n ∙ count;
    start = rw (← start_is, no_column start (cell_count s)) (one (get_or first start 0) at_start);
    followed = λ j c h i m. absurd (omega (arith, low (node_of s j c)));
  }
