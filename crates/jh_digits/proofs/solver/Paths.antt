-- Numbers that solve a system lead from its start to its end, so they are none where a set of nodes
-- that can't be left has the start and not the end.
use Rattle.std.proofs.Common.{◌≡◌, ℕ, zero, suc, ◌+◌, ◌*◌, ◌-◌, ◌/◌, ◌%◌, ◌≤◌, ◌<◌, ◌⊎◌, max, List, Bool, true, false, cond, eqb, length, get_or, refl, sym, ◌∙◌, inl, inr, ⊎_elim, arith}
use Rattle.std.proofs.lemmas.Bool.{cases_lt, eq-eqb}
use Rattle.jh_digits.specs.declared.systems.system.System.{System}
use Rattle.jh_digits.specs.declared.solver.space.Step.TheVariants.{Start, End, Take, Halve}
use Rattle.jh_digits.specs.systems.Solution.{entry_of, right_of, need_of, weighted, IsMet, IsSolution, IsWellFormed}
use Rattle.jh_digits.specs.systems.Nodes.{plus, minus, positive, negative, width_of}
use Rattle.jh_digits.specs.systems.Totals.{plus_total, minus_total}
use Rattle.jh_digits.specs.solver.Cells.{row_halve, row_depth, names, after, coordinates, next_of, IsInRange, cell_of}
use Rattle.jh_digits.specs.solver.Closed.{IsClosed, start_of, end_of}
use Rattle.jh_digits.proofs.solver.Widths.{width_of_parts}
use Rattle.jh_digits.proofs.systems.Sums.{equal_parts, plus_total-split, minus_total-split, plus_total-zero, minus_total-zero}
use Rattle.jh_digits.proofs.solver.Coordinates.{after_need, after_row, radix_need, radix_row, row_number}
use Rattle.jh_digits.proofs.solver.Walks.{walked, walked_need, walked_row, row_walked, flag_walked, AreDigits, row_sum, minus_part_of, positive_more, negative_more, flag_state, names_place}
use Rattle.jh_digits.proofs.solver.Cells.{cell_below, cell_same, next_in_range, next_cell}

-- a remainder of row t at the start of a layer, raised to x: it is within min(c, -p) and max(c, n),
-- and the numbers v make up for it
pub record RowState (s : System) (t : ℕ) (v : ℕ → ℕ) (x : ℕ) : Type 0 where
  pub low : positive (entry_of s t) s.columns ≤ x
  pub high : x ≤ row_depth s t + max (plus (right_of s t)) (negative (entry_of s t) s.columns)
  pub sum : x + minus_total (entry_of s t) v s.columns ≡ row_depth s t + plus_total (entry_of s t) v s.columns

-- the coordinates x are at the start of a layer, and the numbers v lead on to the end
pub record State (s : System) (v x : ℕ → ℕ) : Type 0 where
  pub needs : (i : ℕ) → i < length s.needs → (x i ≡ 1) ⊎ ((x i ≡ 0) × IsMet (need_of s i) v)
  pub rows : (i : ℕ) → i < coordinates s → length s.needs ≤ i → RowState s (i - length s.needs) v (x i)

-- ---- one layer, for one row

width_is : (s : System) (t : ℕ) → width_of s t ≡ (row_depth s t + max (plus (right_of s t)) (negative (entry_of s t) s.columns)) + 1 + negative (entry_of s t) s.columns
unfolding row_depth
width_is s t = omega (arith, width_of_parts s t)

depth_is : (s : System) (t : ℕ) → 2 * positive (entry_of s t) s.columns ≤ row_depth s t
unfolding row_depth
depth_is s t = omega arith

row_range : (s : System) (t : ℕ) (v d : ℕ → ℕ) (x j : ℕ) → j ≤ s.columns → AreDigits d → RowState s t v x → row_walked (entry_of s t) (width_of s t) d x j < width_of s t
row_range s t v d x j h k r =
    let less : positive (entry_of s t) j ≤ x = omega (arith, positive_more (entry_of s t) j s.columns h, r.low) in
    omega (arith, width_is s t, row_sum (entry_of s t) (width_of s t) d x j k less, minus_part_of (entry_of s t) d j k, negative_more (entry_of s t) j s.columns h, r.high)

even_after : (y p m x dp wp wm vp vm : ℕ) → y + p ≡ x + m → x + vm ≡ dp + vp → vp ≡ p + 2 * wp → vm ≡ m + 2 * wm → y + dp + 2 * wm ≡ 2 * dp + 2 * wp
even_after y p m x dp wp wm vp vm e f g h = omega arith

halved_sum : (y dp wp wm : ℕ) → y + dp + 2 * wm ≡ 2 * dp + 2 * wp → ((y + dp) % 2 ≡ 0) × ((y + dp) / 2 + wm ≡ dp + wp)
halved_sum y dp wp wm e = (omega arith, omega arith)

halve_is : (dp w y : ℕ) → (y + dp) % 2 ≡ 0 → row_halve dp w y ≡ (y + dp) / 2
halve_is dp w y h = rw (eq-eqb ((y + dp) % 2) 0 h) refl

-- the digits of v, and the numbers that are left after them
abbrev pub low_digit : (ℕ → ℕ) → ℕ → ℕ
low_digit v j = v j % 2

abbrev pub half : (ℕ → ℕ) → ℕ → ℕ
half v j = v j / 2

digits_are : (v : ℕ → ℕ) → AreDigits (low_digit v)
digits_are v j = omega arith

row_next : (s : System) (t : ℕ) (v : ℕ → ℕ) (x : ℕ) → RowState s t v x → RowState s t (half v) (row_halve (row_depth s t) (width_of s t) (row_walked (entry_of s t) (width_of s t) (low_digit v) x s.columns))
row_next s t v x r =
    let e = entry_of s t in
    let n = s.columns in
    let y = row_walked e (width_of s t) (low_digit v) x n in
    let walk : y + plus_total e (low_digit v) n ≡ x + minus_total e (low_digit v) n = row_sum e (width_of s t) (low_digit v) x n (digits_are v) r.low in
    let p : plus_total e v n ≡ plus_total e (low_digit v) n + 2 * plus_total e (half v) n = plus_total-split e v (low_digit v) (half v) n (λ j l. omega arith) in
    let m : minus_total e v n ≡ minus_total e (low_digit v) n + 2 * minus_total e (half v) n = minus_total-split e v (low_digit v) (half v) n (λ j l. omega arith) in
    let even = halved_sum y (row_depth s t) (plus_total e (half v) n) (minus_total e (half v) n) (even_after y (plus_total e (low_digit v) n) (minus_total e (low_digit v) n) x (row_depth s t) (plus_total e (half v) n) (minus_total e (half v) n) (plus_total e v n) (minus_total e v n) walk r.sum p m) in
    rw (halve_is (row_depth s t) (width_of s t) y even.0) (record {
      low = omega (arith, depth_is s t);
      high = omega (arith, row_range s t v (low_digit v) x n (omega arith) (digits_are v) r, width_is s t);
      sum = even.1;
    })

-- ---- one layer, for one need

met_later : (need : List ℕ) (v : ℕ → ℕ) (n : ℕ) → ((p : ℕ) → p < length need → get_or need p 0 < n) → ((c : ℕ) → c < n → names need c ≡ true → low_digit v c ≡ 0) → IsMet need v → IsMet need (half v)
met_later need v n within missed m = record {
  place = m.place;
  within = m.within;
  nonzero = λ e. m.nonzero (omega (arith, missed (get_or need m.place 0) (within m.place m.within) (names_place need m.place (get_or need m.place 0) m.within refl)));
}

abbrev pub FlagMet : List ℕ → (ℕ → ℕ) → ℕ → Type 0
FlagMet need v x = (x ≡ 1) ⊎ ((x ≡ 0) × IsMet need v)

flag_small : (need : List ℕ) (v : ℕ → ℕ) (x : ℕ) → FlagMet need v x → x ≤ 1
flag_small need v x f = ⊎_elim (λ (l : x ≡ 1). omega arith) (λ (l : (x ≡ 0) × IsMet need v). omega (arith, l.0)) f

flag_next : (need : List ℕ) (v : ℕ → ℕ) (x n : ℕ) → ((p : ℕ) → p < length need → get_or need p 0 < n) → FlagMet need v x → FlagMet need (half v) (flag_walked need (low_digit v) x n)
flag_next need v x n within f =
    let y = flag_walked need (low_digit v) x n in
    let Later : Type 0 = (y ≡ 0) × (x ≡ 0) × ((c : ℕ) → c < n → names need c ≡ true → low_digit v c ≡ 0) in
    ⊎_elim
    (λ (l : y ≡ 1). inl l)
    (λ (l : Later). inr (l.0, ⊎_elim (λ (k : x ≡ 1). absurd (omega (arith, k, l.1))) (λ (k : (x ≡ 0) × IsMet need v). met_later need v n within l.2 k.1) f))
    (flag_state need (low_digit v) x n (digits_are v) (flag_small need v x f))

flag_range : (need : List ℕ) (d : ℕ → ℕ) (x j : ℕ) → AreDigits d → x ≤ 1 → flag_walked need d x j < 2
flag_range need d x j h k =
    let y = flag_walked need d x j in
    let Missing : Type 0 = (y ≡ 0) × (x ≡ 0) × ((c : ℕ) → c < j → names need c ≡ true → d c ≡ 0) in
    ⊎_elim
    (λ (l : y ≡ 1). omega arith)
    (λ (l : Missing). omega (arith, l.0))
    (flag_state need d x j h k)

-- ---- one layer, for all coordinates

walk_range : (s : System) (v x : ℕ → ℕ) (j : ℕ) → j ≤ s.columns → State s v x → IsInRange s (walked s (low_digit v) x j)
walk_range s v x j h st i k =
    ⊎_elim
    (λ (l : i < length s.needs). rw (walked_need s (low_digit v) x j i l, radix_need s i l) (flag_range (need_of s i) (low_digit v) (x i) j (digits_are v) (flag_small (need_of s i) v (x i) (st.needs i l))))
    (λ (l : length s.needs ≤ i). rw (walked_row s (low_digit v) x j i l, radix_row s i l) (row_range s (i - length s.needs) v (low_digit v) (x i) j h (digits_are v) (st.rows i k l)))
    (cases_lt i (length s.needs))

-- the coordinates at the start of the next layer
abbrev pub layer_next : System → (ℕ → ℕ) → (ℕ → ℕ) → ℕ → ℕ
layer_next s v x i = after s Halve i (walked s (low_digit v) x s.columns i)

next_state : (s : System) (v x : ℕ → ℕ) → IsWellFormed s → State s v x → State s (half v) (layer_next s v x)
next_state s v x formed st = record {
  needs = λ i l. rw (after_need s Halve i (walked s (low_digit v) x s.columns i) l, walked_need s (low_digit v) x s.columns i l) (flag_next (need_of s i) v (x i) s.columns (formed.needs i l) (st.needs i l));
  rows = λ i k l. rw (after_row s Halve i (walked s (low_digit v) x s.columns i) l, walked_row s (low_digit v) x s.columns i l) (row_next s (i - length s.needs) v (x i) (st.rows i k l));
}

row_bound : (s : System) (t : ℕ) (v : ℕ → ℕ) (x : ℕ) → RowState s t v x → x < width_of s t
row_bound s t v x r = omega (arith, width_is s t, r.high)

state_range : (s : System) (v x : ℕ → ℕ) → State s v x → IsInRange s x
state_range s v x st = walk_range s v x zero (omega arith) st

-- ---- a whole path

module _ (s : System) (formed : IsWellFormed s) (Has : ℕ → ℕ → Type 0) (closed : IsClosed s Has) where
  step_through : (d x : ℕ → ℕ) (j : ℕ) → j < s.columns → (b : Bool) → IsInRange s (walked s d x j)
      → Has j (cell_of s (walked s d x j))
      → IsInRange s (λ i. cond b (after s (Take j) i (walked s d x j i)) (walked s d x j i))
      → Has (suc j) (cell_of s (λ i. cond b (after s (Take j) i (walked s d x j i)) (walked s d x j i)))
  step_through d x j h true r has next =
      rw (← next_cell s (Take j) (walked s d x j) r) (closed.take j (cell_of s (walked s d x j)) h (cell_below s (walked s d x j) r) has (next_in_range s (Take j) (walked s d x j) r next))
  step_through d x j h false r has next = closed.skip j (cell_of s (walked s d x j)) h (cell_below s (walked s d x j) r) has

  walk_through : (v x : ℕ → ℕ) (j : ℕ) → j ≤ s.columns → State s v x → Has 0 (cell_of s x) → Has j (cell_of s (walked s (low_digit v) x j))
  walk_through v x zero h st has = has
  walk_through v x (suc j) h st has =
      step_through (low_digit v) x j (omega arith) (eqb (low_digit v j) 1) (walk_range s v x j (omega arith) st) (walk_through v x j (omega arith) st has) (walk_range s v x (suc j) h st)

  layer_through : (v x : ℕ → ℕ) → State s v x → Has 0 (cell_of s x) → Has 0 (cell_of s (layer_next s v x))
  layer_through v x st has =
      let y = walked s (low_digit v) x s.columns in
      let r : IsInRange s y = walk_range s v x s.columns (omega arith) st in
      rw (← next_cell s Halve y r) (closed.halve (cell_of s y) (cell_below s y r) (walk_through v x s.columns (omega arith) st has) (next_in_range s Halve y r (state_range s (half v) (layer_next s v x) (next_state s v x formed st))))

  row_end : (t : ℕ) (v : ℕ → ℕ) (x : ℕ) → ((c : ℕ) → c < s.columns → v c ≡ 0) → RowState s t v x → x ≡ row_depth s t
  row_end t v x zeros r = omega (arith, r.sum, plus_total-zero (entry_of s t) v s.columns zeros, minus_total-zero (entry_of s t) v s.columns zeros)

  flag_end : (i : ℕ) (v : ℕ → ℕ) (x : ℕ) → i < length s.needs → ((c : ℕ) → c < s.columns → v c ≡ 0) → FlagMet (need_of s i) v x → x ≡ 1
  flag_end i v x h zeros f =
      ⊎_elim
      (λ (l : x ≡ 1). l)
      (λ (l : (x ≡ 0) × IsMet (need_of s i) v). absurd (l.1.nonzero (zeros (get_or (need_of s i) l.1.place 0) (formed.needs i h l.1.place l.1.within))))
      f

  end_place : (v x : ℕ → ℕ) (i : ℕ) → i < coordinates s → ((c : ℕ) → c < s.columns → v c ≡ 0) → State s v x → x i ≡ next_of s End 0 i
  end_place v x i k zeros st =
      ⊎_elim
      (λ (l : i < length s.needs). flag_end i v (x i) l zeros (st.needs i l) ∙ sym (after_need s End i _ l))
      (λ (l : length s.needs ≤ i). row_end (i - length s.needs) v (x i) zeros (st.rows i k l) ∙ sym (after_row s End i _ l))
      (cases_lt i (length s.needs))

  reaches : (f : ℕ) (v x : ℕ → ℕ) → ((c : ℕ) → c < s.columns → v c ≤ f) → State s v x → Has 0 (cell_of s x) → Has 0 (end_of s)
  unfolding end_of
  reaches zero v x h st has = rw (← cell_same s x (next_of s End 0) (λ i k. end_place v x i k (λ c l. omega (arith, h c l)) st)) has
  reaches (suc f) v x h st has = reaches f (half v) (layer_next s v x) (λ c l. omega (arith, h c l)) (next_state s v x formed st) (layer_through v x st has)

-- ---- from the start

abbrev sum_to : (ℕ → ℕ) → ℕ → ℕ
sum_to v zero = 0
sum_to v (suc n) = sum_to v n + v n

within_sum : (v : ℕ → ℕ) (n c : ℕ) → c < n → v c ≤ sum_to v n
within_sum v zero c h = absurd (omega arith)
within_sum v (suc n) c h =
    ⊎_elim
    (λ (l : c < n). omega (arith, within_sum v n c l))
    (λ (l : n ≤ c). let e : c ≡ n = omega arith in rw e (omega arith))
    (cases_lt c n)

start_row : (s : System) (t : ℕ) (v : ℕ → ℕ) → weighted (entry_of s t) v s.columns ≡ right_of s t → RowState s t v (row_depth s t + plus (right_of s t) - minus (right_of s t))
unfolding row_depth
start_row s t v e = record {
  low = omega arith;
  high = omega arith;
  sum = omega (arith, (equal_parts (entry_of s t) v s.columns (right_of s t)).0 e);
}

start_state : (s : System) (v : ℕ → ℕ) → IsSolution s v → State s v (next_of s Start 0)
start_state s v sol = record {
  needs = λ i l. inr (after_need s Start i _ l, sol.met i l);
  rows = λ i k l. rw (after_row s Start i _ l) (start_row s (i - length s.needs) v (sol.equal (i - length s.needs) (row_number s i (length s.needs) k refl l)));
}

-- a set that can't be left and has the start has the end too, where natural numbers solve the system
pub solution_ends : (s : System) (Has : ℕ → ℕ → Type 0) → IsWellFormed s → IsClosed s Has → Has 0 (start_of s) → (v : ℕ → ℕ) → IsSolution s v → Has 0 (end_of s)
unfolding start_of
solution_ends s Has formed closed has v sol = reaches s formed Has closed (sum_to v s.columns) v (next_of s Start 0) (λ c l. within_sum v s.columns c l) (start_state s v sol) has
