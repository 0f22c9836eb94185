-- The digit system of a query within the limits has no more nodes than the size of the query counts.
use Rattle.std.proofs.Common.{◌≡◌, ◌⊎◌, inl, inr, refl, ap, sym, subst, ◌∙◌, ℕ, zero, suc, ◌+◌, ◌*◌, ◌-◌, ◌^◌, ◌<◌, ◌≤◌, max, Bool, true, false, not, ◌&&◌, ◌||◌, if◌then◌else◌, List, [], ◌∷◌, ◌++◌, length, get_or, Option, Some, None, IfSome, ℤ, pos, negsuc, ◌+ℤ◌, ◌-ℤ◌, neg_ℤ, arith}
use Rattle.std.specs.Prelude.{unsigned_abs}
use Rattle.std.specs.List.{list_all, list_any, sum_by}
use Rattle.std.proofs.lemmas.Bool.{true≢false, ltb-true, or_cases}
use Rattle.std.proofs.lemmas.Int.{ints, clamps}
use Rattle.std.proofs.lemmas.List.{get_or-append-add}
use Rattle.std.proofs.Math.ListN.{get_or-append}
use Rattle.jh_digits.specs.declared.systems.system.System.{System}
use Rattle.jh_digits.specs.solver.Nodes.{plus, minus, positive, negative, width, widths, node_count}
use Rattle.jh_digits.specs.solver.Nodes as nodes
use Rattle.jh_digits.proofs.solver.Widths.{width_parts}
use Rattle.jh_query.specs.declared.queries.demands.Demand.{Demand}
use Rattle.jh_query.specs.declared.queries.demands.Demand.TheVariants as demand
use Rattle.jh_query.specs.declared.queries.sizes.Spot.{Spot}
use Rattle.jh_query.specs.queries.Bare.{cond_tree}
use Rattle.jh_query.specs.queries.Tree.{NumTree, CondTree, QueryTree}
use Rattle.jh_query.specs.queries.Tree as t
use Rattle.jh_query.specs.queries.Same.{same_atom}
use Rattle.jh_query.specs.queries.Truth.{read_number, sum_below}
use Rattle.jh_query.specs.queries.Linear.{constant_part, number_factor, placed_part, rest_factor}
use Rattle.jh_query.specs.queries.Size.{asserts, atom_bound, atom_weight, atoms_of, card_weight, column_count, demanded, distinct, number_weight, product_by, rest_weight, row_bound, says, slacks, three_cases, weight_at}
use Rattle.jh_query.proofs.queries.Bounds.{abs-add, placed-bound}
use Rattle.jh_query.proofs.queries.Equalities.{same_atom-is}
use Rattle.jh_query.specs.declared.partial_truth.casing.Atom.{Atom}
use Rattle.jh_query.specs.declared.partial_truth.casing.Case.{Case}
use Rattle.jh_query.specs.declared.partial_truth.casing.Case.TheVariants.{Open, True, False, Greater, Remainder}
use Rattle.jh_query.specs.partial_truth.Judged.{all_told, both_told, case_truth, chosen, one_told, other_told, query_told, told}
use Rattle.jh_bapa.specs.decision.Lists.{listed, pairs, zeros}
use Rattle.jh_bapa.specs.decision.Cases.{LineTree, conds_of, is_case_of, is_hopeless, line_of}
use Rattle.jh_bapa.specs.decision.Systems.{Frame, count, emptied, entries_of, frame_of, line_entries, line_right, need_of, needs_of, number_entry, rest_entry, rights_of, row_of, slack_count, slack_total, wants, width_of}
use Rattle.jh_bapa.specs.decision.Made.{IsSystemOf}
use Rattle.jh_bapa.specs.decision.Searching.{IsCasing, are_apart}
use Rattle.jh_bapa.specs.decision.Within.{IsWithin}
use Rattle.jh_bapa.proofs.decision.Belows.{first, second, none_one, none_two, not-false, not-true}
use Rattle.jh_bapa.proofs.decision.Said.{length-row}
use Rattle.jh_bapa.proofs.decision.Fitness.{Limits, limits-of, picked-casing, bound_some, product-picked, slacks-least, sum-picked, weight-some, weight_bound}

-- ---- sums of absolute values
unfoldable total : List ℤ → ℕ
total [] = 0
total (x ∷ xs) = unsigned_abs x + total xs

total-append : (xs ys : List ℤ) → total (xs ++ ys) ≡ total xs + total ys
unfolding total
total-append [] ys = omega arith
total-append (x ∷ xs) ys = let rest = total-append xs ys in omega (arith, rest)

both-parts : (z : ℤ) → plus z + minus z ≡ unsigned_abs z
both-parts (pos a) = omega arith
both-parts (negsuc a) = omega arith

front-positive : (n : ℕ) (e : ℕ → ℤ) → positive e (suc n) ≡ plus (e 0) + positive (λ j. e (suc j)) n
front-positive zero e = omega arith
front-positive (suc n) e = let rest = front-positive n e in omega (arith, rest)

front-negative : (n : ℕ) (e : ℕ → ℤ) → negative e (suc n) ≡ minus (e 0) + negative (λ j. e (suc j)) n
front-negative zero e = omega arith
front-negative (suc n) e = let rest = front-negative n e in omega (arith, rest)

-- the positive and the negative entries of a row, together
sums : (xs : List ℤ) (e : ℕ → ℤ) → ((j : ℕ) → j < length xs → e j ≡ get_or xs j (pos 0)) → positive e (length xs) + negative e (length xs) ≡ total xs
unfolding total
sums [] e h = omega arith
sums (x ∷ xs) e h =
    let here : e 0 ≡ x = h 0 (omega arith) in
    let rest = sums xs (λ j. e (suc j)) (λ j lt. h (suc j) (omega (arith, lt))) in
    let value : plus (e 0) + minus (e 0) ≡ unsigned_abs x = both-parts (e 0) ∙ ap unsigned_abs here in
    omega (arith, front-positive (length xs) e, front-negative (length xs) e, rest, value)

neg-abs : (z : ℤ) → unsigned_abs (neg_ℤ z) ≡ unsigned_abs z
neg-abs (pos zero) = refl
neg-abs (pos (suc a)) = refl
neg-abs (negsuc a) = refl

total-listed : (n : ℕ) (f : ℕ → ℤ) → total (listed n f) ≡ sum_below n (λ i. unsigned_abs (f i))
unfolding total
total-listed zero f = refl
total-listed (suc n) f = total-append (listed n f) (f n ∷ []) ∙ (let rest = total-listed n f in omega (arith, rest))

total-pairs : (n : ℕ) (f : ℕ → ℤ) → total (pairs n f) ≡ 2 * sum_below n (λ i. unsigned_abs (f i))
unfolding total
total-pairs zero f = refl
total-pairs (suc n) f = total-append (pairs n f ++ f n ∷ []) (neg_ℤ (f n) ∷ []) ∙ (let rest = total-pairs n f in omega (arith, total-append (pairs n f) (f n ∷ []), rest, neg-abs (f n)))

total-zeros : (n : ℕ) → total (zeros n) ≡ 0
unfolding total
total-zeros zero = refl
total-zeros (suc n) = total-append (zeros n) (pos 0 ∷ []) ∙ (let rest = total-zeros n in omega (arith, rest))

sum-least : (n : ℕ) (f g : ℕ → ℕ) → ((i : ℕ) → f i ≤ g i) → sum_below n f ≤ sum_below n g
sum-least zero f g h = omega arith
sum-least (suc n) f g h = omega (arith, h n, sum-least n f g h)

-- ---- one row
entry-least : (empty : ℕ → Bool) (a : NumTree) (r : ℕ) → unsigned_abs (rest_entry empty a r) ≤ weight_at rest_factor a r
entry-least empty a r = by (empty r)
  where
    by : (b : Bool) → unsigned_abs (if b then pos 0 else read_number (rest_factor r) a) ≤ weight_at rest_factor a r
    by true = omega arith
    by false = omega arith

row-total : (m : Frame) (place : ℕ) (l : LineTree) → total (row_of m place l) ≤ sum_below m.regions (weight_at rest_factor l.side) + 2 * sum_below m.numbers (weight_at number_factor l.side) + total l.slacks
row-total m place l =
    let rests : List ℤ = listed m.regions (rest_entry m.empty l.side) in
    let numbers : List ℤ = pairs m.numbers (number_entry l.side) in
    let behind : ℕ = m.total - (place + length l.slacks) in
    omega (
      arith,
      total-append (((rests ++ numbers) ++ zeros place) ++ l.slacks) (zeros behind),
      total-append ((rests ++ numbers) ++ zeros place) l.slacks,
      total-append (rests ++ numbers) (zeros place),
      total-append rests numbers,
      total-listed m.regions (rest_entry m.empty l.side),
      total-pairs m.numbers (number_entry l.side),
      total-zeros place,
      total-zeros behind,
      sum-least m.regions (λ r. unsigned_abs (rest_entry m.empty l.side r)) (weight_at rest_factor l.side) (entry-least m.empty l.side),
    )

max-least : (a b : ℕ) → max a b ≤ a + b
max-least a b = omega arith

width-least : (c : ℤ) (p n : ℕ) → width c p n ≤ unsigned_abs c + 2 * (p + n) + 1
width-least c p n = omega (arith, width_parts c p n, max-least (plus c) n, max-least (minus c) p, both-parts c)

sub-abs : (x y : ℤ) → unsigned_abs (x -ℤ y) ≤ unsigned_abs x + unsigned_abs y
sub-abs x y = let whole : x -ℤ y ≡ x +ℤ neg_ℤ y = omega (arith, ints) in omega (arith, ap unsigned_abs whole, abs-add x (neg_ℤ y), neg-abs y)

abbrev right : Frame → LineTree → ℤ
right m l = l.added -ℤ read_number (placed_part m.spots) l.side

-- A row has at most as many remainders as the size counts for its atom.
row-least : (q : QueryTree) (m : Frame) (l : LineTree) (h place p n : ℕ) → m.regions ≡ 2 ^ q.sets → m.numbers ≡ q.numbers → length m.spots ≡ q.elements → unsigned_abs l.added ≤ h → total l.slacks ≤ h → p + n ≡ total (row_of m place l) → width (right m l) p n ≤ row_bound q h l.side
row-least q m l h place p n regions numbers full added few both =
    let cards : length m.spots * card_weight l.side ≡ q.elements * card_weight l.side = ap (λ k. k * card_weight l.side) full in
    let rests : sum_below m.regions (weight_at rest_factor l.side) ≡ rest_weight q.sets l.side = ap (λ k. sum_below k (weight_at rest_factor l.side)) regions in
    let others : sum_below m.numbers (weight_at number_factor l.side) ≡ number_weight q.numbers l.side = ap (λ k. sum_below k (weight_at number_factor l.side)) numbers in
    omega (
      arith,
      width-least (right m l) p n,
      sub-abs l.added (read_number (placed_part m.spots) l.side),
      placed-bound m.spots l.side,
      row-total m place l,
      both,
      cards,
      rests,
      others,
      added,
      few,
    )

-- ---- products
unfoldable product : (ℕ → ℕ) → ℕ → ℕ
product g zero = 1
product g (suc n) = product g n * g n

widths-product : (s : System) (n : ℕ) → widths s n ≡ product (nodes.width_of s) n
unfolding product
widths-product s zero = refl
widths-product s (suc n) = ap (λ k. k * nodes.width_of s n) (widths-product s n)

front-product : (g : ℕ → ℕ) (n : ℕ) → product g (suc n) ≡ g 0 * product (λ i. g (suc i)) n
unfolding product
front-product g zero = omega arith
front-product g (suc n) = ap (λ k. k * g (suc n)) (front-product g n) ∙ grouped (g 0) (product (λ i. g (suc i)) n) (g (suc n))
  where
    grouped : (a b c : ℕ) → (a * b) * c ≡ a * (b * c)
    grouped a b c = omega arith

product-same : (g h : ℕ → ℕ) (n : ℕ) → ((i : ℕ) → g i ≡ h i) → product g n ≡ product h n
unfolding product
product-same g h zero same = refl
product-same g h (suc n) same = λ i. product-same g h n same i * same n i

times-right : (a b c : ℕ) → b ≤ c → a * b ≤ a * c
times-right zero b c h = omega arith
times-right (suc a) b c h = let rest = times-right a b c h in omega (arith, rest, h)

times-left : (a b c : ℕ) → a ≤ b → a * c ≤ b * c
times-left a b c h = let turned = times-right c a b h in omega (arith, turned, turn a c, turn b c)
  where
    turn : (x y : ℕ) → x * y ≡ y * x
    turn x y = omega arith

twofold : (n x : ℕ) → 2 ^ suc n * x ≡ 2 * (2 ^ n * x)
twofold n x = ap (λ a. a * x) power ∙ grouped (2 ^ n)
  where
    power : 2 ^ suc n ≡ 2 * 2 ^ n
    power = omega arith

    grouped : (a : ℕ) → (2 * a) * x ≡ 2 * (a * x)
    grouped a = omega arith

-- ---- the rows of a system
module _ (w : ℕ) where
  abbrev entry : List ℤ → ℕ → ℕ → ℤ
  entry es i j = get_or es (i * w + j) (pos 0)

  abbrev row-width : List ℤ → List ℤ → ℕ → ℕ
  row-width es cs i = width (get_or cs i (pos 0)) (positive (entry es i) w) (negative (entry es i) w)

  positive-same : (e f : ℕ → ℤ) (n : ℕ) → ((j : ℕ) → e j ≡ f j) → positive e n ≡ positive f n
  positive-same e f zero h = refl
  positive-same e f (suc n) h = λ i. positive-same e f n h i + plus (h n i)

  negative-same : (e f : ℕ → ℤ) (n : ℕ) → ((j : ℕ) → e j ≡ f j) → negative e n ≡ negative f n
  negative-same e f zero h = refl
  negative-same e f (suc n) h = λ i. negative-same e f n h i + minus (h n i)

  -- the rows behind the first
  next-entry : (row rest : List ℤ) (i j : ℕ) → length row ≡ w → entry (row ++ rest) (suc i) j ≡ entry rest i j
  next-entry row rest i j e = ap (λ n. get_or (row ++ rest) n (pos 0)) (behind j) ∙ get_or-append-add row rest (i * w + j) (pos 0)
    where
      behind : (j : ℕ) → suc i * w + j ≡ length row + (i * w + j)
      behind j = omega (arith, e)

  rows-next : (row rest cs : List ℤ) (c : ℤ) → length row ≡ w → product (row-width (row ++ rest) (c ∷ cs)) (suc (length cs)) ≡ row-width (row ++ rest) (c ∷ cs) 0 * product (row-width rest cs) (length cs)
  rows-next row rest cs c e =
      front-product (row-width (row ++ rest) (c ∷ cs)) (length cs)
      ∙ ap (λ k. row-width (row ++ rest) (c ∷ cs) 0 * k)
      (product-same (λ i. row-width (row ++ rest) (c ∷ cs) (suc i)) (row-width rest cs) (length cs)
      (λ i. λ k. width (get_or cs i (pos 0)) (positive-same (entry (row ++ rest) (suc i)) (entry rest i) w (λ j. next-entry row rest i j e) k) (negative-same (entry (row ++ rest) (suc i)) (entry rest i) w (λ j. next-entry row rest i j e) k)))

  -- the entries of the first row
  first-total : (row rest : List ℤ) → length row ≡ w → positive (entry (row ++ rest) 0) w + negative (entry (row ++ rest) 0) w ≡ total row
  first-total row rest e =
      ap (λ n. positive (entry (row ++ rest) 0) n + negative (entry (row ++ rest) 0) n) (sym e)
      ∙ sums row (entry (row ++ rest) 0) (λ j h. ap (λ n. get_or (row ++ rest) n (pos 0)) (front j) ∙ get_or-append row rest (pos 0) j h)
    where
      front : (j : ℕ) → 0 * w + j ≡ j
      front j = omega arith

-- ---- what the size counts for an atom
-- a set atom that isn't wanted true has two cases at least
three-two : (x : Demand) → (x ≡ demand.True → ⊥) → 2 ≤ three_cases x
three-two demand.True h = absurd (h refl)
three-two demand.False h = omega arith
three-two demand.Loose h = omega arith

module _ (q : QueryTree) (m : Frame) (regions : m.regions ≡ 2 ^ q.sets) (numbers : m.numbers ≡ q.numbers) (full : length m.spots ≡ q.elements) where
  -- the first of some rows, where it is that of an equation
  abbrev FirstLeast : ℕ → LineTree → Type 0
  FirstLeast bound l = (place : ℕ) (rest : List ℤ) (cs : List ℤ) → place + length l.slacks ≤ m.total → row-width (width_of m) (row_of m place l ++ rest) (right m l ∷ cs) 0 ≤ bound

  first-least : (l : LineTree) (h : ℕ) → unsigned_abs l.added ≤ h → total l.slacks ≤ h → FirstLeast (row_bound q h l.side) l
  first-least l h added few place rest cs room =
      row-least q m l h place (positive (entry (width_of m) (row_of m place l ++ rest) 0) (width_of m)) (negative (entry (width_of m) (row_of m place l ++ rest) 0) (width_of m)) regions numbers full added few
      (first-total (width_of m) (row_of m place l) rest (length-row m place l room))

  one-slack : (z : ℤ) → unsigned_abs z ≤ 1 → total (z ∷ []) ≤ 1
  unfolding total
  one-slack z h = omega (arith, h)

  two-slacks : (k : ℤ) → total (neg_ℤ k ∷ k ∷ []) ≤ 2 * unsigned_abs k
  unfolding total
  two-slacks k = omega (arith, neg-abs k)

  line-least : (c : CondTree) (k : Case) → is_case_of c k ≡ true → IfSome (line_of c k) (FirstLeast (atom_bound q c))
  line-least (t.equal_num a b) Open s = tt
  line-least (t.equal_num a b) True s = first-least (record { side = t.sub a b; slacks = pos 0 ∷ []; added = pos 0 }) 1 (omega arith) (one-slack (pos 0) (omega arith))
  line-least (t.equal_num a b) False s = first-least (record { side = t.sub a b; slacks = pos 1 ∷ []; added = negsuc 0 }) 1 (omega arith) (one-slack (pos 1) (omega arith))
  line-least (t.equal_num a b) Greater s = first-least (record { side = t.sub a b; slacks = negsuc 0 ∷ []; added = pos 1 }) 1 (omega arith) (one-slack (negsuc 0) (omega arith))
  line-least (t.equal_num a b) (Remainder j) s = tt
  line-least (t.less_num a b) Open s = tt
  line-least (t.less_num a b) True s = first-least (record { side = t.sub a b; slacks = pos 1 ∷ []; added = negsuc 0 }) 1 (omega arith) (one-slack (pos 1) (omega arith))
  line-least (t.less_num a b) False s = first-least (record { side = t.sub a b; slacks = negsuc 0 ∷ []; added = pos 0 }) 1 (omega arith) (one-slack (negsuc 0) (omega arith))
  line-least (t.less_num a b) Greater s = tt
  line-least (t.less_num a b) (Remainder j) s = tt
  line-least (t.divides d a) Open s = tt
  line-least (t.divides d a) True s = tt
  line-least (t.divides d a) False s = tt
  line-least (t.divides d a) Greater s = tt
  line-least (t.divides d a) (Remainder j) s = first-least (record { side = a; slacks = neg_ℤ d ∷ d ∷ []; added = pos j }) (2 * unsigned_abs d) (omega (arith, ltb-true j (unsigned_abs d) s)) (two-slacks d)
  line-least t.yes k s = tt
  line-least t.no k s = tt
  line-least (t.flag f) k s = tt
  line-least (t.same_element i j) k s = tt
  line-least (t.member i e) k s = tt
  line-least (t.equal_set a b) k s = tt
  line-least (t.within a b) k s = tt
  line-least (t.negation a) k s = tt
  line-least (t.and a b) k s = tt
  line-least (t.or a b) k s = tt
  line-least (t.implies a b) k s = tt
  line-least (t.iff a b) k s = tt

  -- the rows of all atoms, where one atom comes before the others
  with-line : (line : Option LineTree) (bound place : ℕ) (rest : List ℤ) (cs : List ℤ) → 1 ≤ bound → IfSome line (FirstLeast bound) → place + count line ≤ m.total →
      product (row-width (width_of m) (line_entries m place line ++ rest) (line_right m line ++ cs)) (length (line_right m line ++ cs)) ≤ bound * product (row-width (width_of m) rest cs) (length cs)
  with-line None bound place rest cs some least room = let more = times-left 1 bound (product (row-width (width_of m) rest cs) (length cs)) some in omega (arith, more)
  with-line (Some l) bound place rest cs some least room =
      let whole = rows-next (width_of m) (row_of m place l) rest cs (right m l) (length-row m place l room) in
      let more = times-left (row-width (width_of m) (row_of m place l ++ rest) (right m l ∷ cs) 0) bound (product (row-width (width_of m) rest cs) (length cs)) (least place rest cs room) in
      omega (arith, whole, more)

-- ---- what is wanted of an atom that is false
none-true : None ≡ Some true → ⊥
none-true e = cc

false-true : Some false ≡ Some true → ⊥
false-true e = cc

true-false : Some true ≡ Some false → ⊥
true-false e = cc

none-false : None ≡ Some false → ⊥
none-false e = cc

both-true : (a b : Option Bool) → both_told a b ≡ Some true → (a ≡ Some true) × (b ≡ Some true)
both-true (Some true) b e = (refl, e)
both-true (Some false) b e = absurd (false-true e)
both-true None None e = absurd (none-true e)
both-true None (Some true) e = absurd (none-true e)
both-true None (Some false) e = absurd (false-true e)

other-true : (a : Option Bool) → other_told a ≡ Some false → a ≡ Some true
other-true None e = absurd (none-false e)
other-true (Some true) e = refl
other-true (Some false) e = absurd (true-false e)

one-false : (a b : Option Bool) → one_told a b ≡ Some false → (a ≡ Some false) × (b ≡ Some false)
one-false (Some true) b e = absurd (true-false e)
one-false (Some false) b e = (refl, e)
one-false None None e = absurd (none-false e)
one-false None (Some true) e = absurd (true-false e)
one-false None (Some false) e = absurd (none-false e)

module _ (s : List Spot) (all : List Atom) where
  -- what a condition that is told true says is true
  told-says : (c d : CondTree) → same_atom c d ≡ true → told s all d ≡ Some true → told s all c ≡ Some true
  told-says c d e h = subst (λ (x : CondTree). told s all x ≡ Some true) (sym (same_atom-is c d e)) h

  told-asserts : (c d : CondTree) → asserts true c d ≡ true → told s all d ≡ Some true → told s all c ≡ Some true
  told-asserts c (t.and a b) e h =
      let parts = both-true (told s all a) (told s all b) h in
      elim (or_cases (asserts true c a) (asserts true c b) e) [
        | inl f ↦ told-asserts c a f parts.0
        | inr f ↦ told-asserts c b f parts.1
      ]
  told-asserts c t.yes e h = told-says c t.yes e h
  told-asserts c t.no e h = told-says c t.no e h
  told-asserts c (t.flag f) e h = told-says c (t.flag f) e h
  told-asserts c (t.same_element i j) e h = told-says c (t.same_element i j) e h
  told-asserts c (t.member i a) e h = told-says c (t.member i a) e h
  told-asserts c (t.equal_set a b) e h = told-says c (t.equal_set a b) e h
  told-asserts c (t.within a b) e h = told-says c (t.within a b) e h
  told-asserts c (t.equal_num a b) e h = told-says c (t.equal_num a b) e h
  told-asserts c (t.less_num a b) e h = told-says c (t.less_num a b) e h
  told-asserts c (t.divides k a) e h = told-says c (t.divides k a) e h
  told-asserts c (t.negation a) e h = told-says c (t.negation a) e h
  told-asserts c (t.or a b) e h = told-says c (t.or a b) e h
  told-asserts c (t.implies a b) e h = told-says c (t.implies a b) e h
  told-asserts c (t.iff a b) e h = told-says c (t.iff a b) e h

  all-before : (before : Option Bool) (cs : List CondTree) → all_told s all before cs ≡ Some true → before ≡ Some true
  all-before before [] e = e
  all-before before (c ∷ cs) e = (both-true before (told s all c) (all-before (both_told before (told s all c)) cs e)).0

  some-asserts : (c : CondTree) (before : Option Bool) (cs : List CondTree) → all_told s all before cs ≡ Some true → list_any (asserts true c) cs ≡ true → told s all c ≡ Some true
  some-asserts c before [] e h = absurd (true≢false (sym h))
  some-asserts c before (d ∷ ds) e h =
      elim (or_cases (asserts true c d) (list_any (asserts true c) ds) h) [
        | inl f ↦ told-asserts c d f (both-true before (told s all d) (all-before (both_told before (told s all d)) ds e)).1
        | inr f ↦ some-asserts c (both_told before (told s all d)) ds e f
      ]

  -- a goal that is told false denies what it says not to be
  goal-says : (c goal : CondTree) → says false c goal ≡ true → told s all goal ≡ Some false → told s all c ≡ Some true
  goal-says c (t.negation a) e h = told-says c a e (other-true (told s all a) h)
  goal-says c (t.and a b) e h = absurd (true≢false (sym e))
  goal-says c t.yes e h = absurd (true≢false (sym e))
  goal-says c t.no e h = absurd (true≢false (sym e))
  goal-says c (t.flag f) e h = absurd (true≢false (sym e))
  goal-says c (t.same_element i j) e h = absurd (true≢false (sym e))
  goal-says c (t.member i a) e h = absurd (true≢false (sym e))
  goal-says c (t.equal_set a b) e h = absurd (true≢false (sym e))
  goal-says c (t.within a b) e h = absurd (true≢false (sym e))
  goal-says c (t.equal_num a b) e h = absurd (true≢false (sym e))
  goal-says c (t.less_num a b) e h = absurd (true≢false (sym e))
  goal-says c (t.divides k a) e h = absurd (true≢false (sym e))
  goal-says c (t.or a b) e h = absurd (true≢false (sym e))
  goal-says c (t.implies a b) e h = absurd (true≢false (sym e))
  goal-says c (t.iff a b) e h = absurd (true≢false (sym e))

  not-wanted : (q : QueryTree) (c : CondTree) → query_told s all q ≡ Some false → told s all c ≡ Some false → demanded q c ≡ demand.True → ⊥
  not-wanted q c untrue false-here wanted = by (list_any (asserts true c) q.hyps || says false c q.goal) refl wanted
    where
      parts : (other_told (all_told s all (Some true) q.hyps) ≡ Some false) × (told s all q.goal ≡ Some false)
      parts = one-false (other_told (all_told s all (Some true) q.hyps)) (told s all q.goal) untrue

      never : told s all c ≡ Some true → ⊥
      never e = false-true (sym false-here ∙ e)

      is-true : Demand → Bool
      is-true demand.True = true
      is-true demand.False = false
      is-true demand.Loose = false

      rest : (b : Bool) → (if b then demand.False else demand.Loose) ≡ demand.True → ⊥
      rest true e = true≢false (sym (ap is-true e))
      rest false e = true≢false (sym (ap is-true e))

      by : (b : Bool) → (list_any (asserts true c) q.hyps || says false c q.goal) ≡ b → (if b then demand.True else (if list_any (asserts false c) q.hyps || says true c q.goal then demand.False else demand.Loose)) ≡ demand.True → ⊥
      by true e w = elim (or_cases (list_any (asserts true c) q.hyps) (says false c q.goal) e) [
        | inl f ↦ never (some-asserts c (Some true) q.hyps (other-true (all_told s all (Some true) q.hyps) parts.0) f)
        | inr f ↦ never (goal-says c q.goal f parts.1)
      ]
      by false e w = rest (list_any (asserts false c) q.hyps || says true c q.goal) w

-- ---- each atom of a casing has its own case
unfoldable Each : (Atom → Type 0) → List Atom → Type 0
Each P [] = Unit {0}
Each P (a ∷ rest) = P a × Each P rest

same-itself : (c : CondTree) (ds : List CondTree) → list_any (same_atom c) ds ≡ true → same_atom c c ≡ true
same-itself c [] h = absurd (true≢false (sym h))
same-itself c (d ∷ ds) h =
    elim (or_cases (same_atom c d) (list_any (same_atom c) ds) h) [
      | inl e ↦ subst (λ (x : CondTree). same_atom c x ≡ true) (sym (same_atom-is c d e)) e
      | inr e ↦ same-itself c ds e
    ]

-- the first atom stands before all of the others
chosen-behind : (b : Atom) (rest some : List Atom) → list_any (same_atom (cond_tree b.cond.now)) (conds_of some) ≡ false → Each (λ a. chosen rest (cond_tree a.cond.now) ≡ case_truth a.case) some → Each (λ a. chosen (b ∷ rest) (cond_tree a.cond.now) ≡ case_truth a.case) some
unfolding Each
chosen-behind b rest [] h each = tt
chosen-behind b rest (a ∷ some) h each = (
  ap (λ (t : Bool). if t then case_truth b.case else chosen rest (cond_tree a.cond.now)) (none_one (same_atom (cond_tree b.cond.now) (cond_tree a.cond.now)) _ h) ∙ each.0,
  chosen-behind b rest some (none_two (same_atom (cond_tree b.cond.now) (cond_tree a.cond.now)) _ h) each.1,
)

chosen-own : (ds : List CondTree) (all : List Atom) → are_apart (conds_of all) ≡ true → list_all (λ c. list_any (same_atom c) ds) (conds_of all) ≡ true → Each (λ a. chosen all (cond_tree a.cond.now) ≡ case_truth a.case) all
unfolding Each
chosen-own ds [] apart known = tt
chosen-own ds (b ∷ rest) apart known = (
  ap (λ (t : Bool). if t then case_truth b.case else chosen rest (cond_tree b.cond.now)) (same-itself (cond_tree b.cond.now) ds (first _ _ known)),
  chosen-behind b rest rest (not-true _ (first _ _ apart)) (chosen-own ds rest (second _ _ apart) (second _ _ known)),
)

-- ---- all atoms
-- A set atom that wants an object is false; so it has no row, and two cases at least.
module _ (q : QueryTree) (s : List Spot) (all : List Atom) (untrue : query_told s all q ≡ Some false) where
  record Wanting (c : CondTree) (k : Case) : Type 0 where
    two : 2 ≤ atom_weight q c
    no_line : line_of c k ≡ None

  twice : (x : Demand) → (x ≡ demand.True → ⊥) → 2 ≤ three_cases x * 1
  twice x h = omega (arith, three-two x h)

  wanting : (c : CondTree) (k : Case) → wants s c k ≡ true → chosen all c ≡ case_truth k → Wanting c k
  wanting (t.equal_set a b) False h own = record { two = twice (demanded q (t.equal_set a b)) (not-wanted s all q (t.equal_set a b) untrue own); no_line = refl }
  wanting (t.within a b) False h own = record { two = twice (demanded q (t.within a b)) (not-wanted s all q (t.within a b) untrue own); no_line = refl }
  wanting (t.equal_set a b) Open h own = absurd (true≢false (sym h))
  wanting (t.equal_set a b) True h own = absurd (true≢false (sym h))
  wanting (t.equal_set a b) Greater h own = absurd (true≢false (sym h))
  wanting (t.equal_set a b) (Remainder j) h own = absurd (true≢false (sym h))
  wanting (t.within a b) Open h own = absurd (true≢false (sym h))
  wanting (t.within a b) True h own = absurd (true≢false (sym h))
  wanting (t.within a b) Greater h own = absurd (true≢false (sym h))
  wanting (t.within a b) (Remainder j) h own = absurd (true≢false (sym h))
  wanting t.yes k h own = absurd (true≢false (sym h))
  wanting t.no k h own = absurd (true≢false (sym h))
  wanting (t.flag f) k h own = absurd (true≢false (sym h))
  wanting (t.same_element i j) k h own = absurd (true≢false (sym h))
  wanting (t.member i a) k h own = absurd (true≢false (sym h))
  wanting (t.equal_num a b) k h own = absurd (true≢false (sym h))
  wanting (t.less_num a b) k h own = absurd (true≢false (sym h))
  wanting (t.divides d a) k h own = absurd (true≢false (sym h))
  wanting (t.negation a) k h own = absurd (true≢false (sym h))
  wanting (t.and a b) k h own = absurd (true≢false (sym h))
  wanting (t.or a b) k h own = absurd (true≢false (sym h))
  wanting (t.implies a b) k h own = absurd (true≢false (sym h))
  wanting (t.iff a b) k h own = absurd (true≢false (sym h))

  module _ (m : Frame) (regions : m.regions ≡ 2 ^ q.sets) (numbers : m.numbers ≡ q.numbers) (full : length m.spots ≡ q.elements) (empty : ℕ → Bool) where
    abbrev needs : List Atom → List (List ℕ)
    needs rest = needs_of (2 ^ q.sets) empty s rest

    abbrev rows : List ℤ → List ℤ → ℕ
    rows es cs = product (row-width (width_of m) es cs) (length cs)

    abbrev OfCase : Atom → Type 0
    OfCase a = (is_case_of (cond_tree a.cond.now) a.case ≡ true) × (chosen all (cond_tree a.cond.now) ≡ case_truth a.case)

    -- an atom that wants an object, before the others
    with-need : (c : CondTree) (k : Case) (place n : ℕ) (es cs : List ℤ) (p : ℕ) → Wanting c k → 2 ^ n * rows es cs ≤ p → 2 ^ suc n * rows (line_entries m place (line_of c k) ++ es) (line_right m (line_of c k) ++ cs) ≤ atom_weight q c * p
    with-need c k place n es cs p h rest =
        let same : rows (line_entries m place (line_of c k) ++ es) (line_right m (line_of c k) ++ cs) ≡ rows es cs = ap (λ (l : Option LineTree). rows (line_entries m place l ++ es) (line_right m l ++ cs)) h.no_line in
        let doubled : 2 ^ suc n * rows es cs ≡ 2 * (2 ^ n * rows es cs) = twofold n (rows es cs) in
        let whole : 2 ^ suc n * rows (line_entries m place (line_of c k) ++ es) (line_right m (line_of c k) ++ cs) ≡ 2 ^ suc n * rows es cs = ap (λ x. 2 ^ suc n * x) same in
        omega (arith, whole, doubled, times-right 2 (2 ^ n * rows es cs) p rest, times-left 2 (atom_weight q c) p h.two)

    -- another atom
    without-need : (c : CondTree) (k : Case) (place n : ℕ) (es cs : List ℤ) (p : ℕ) → is_case_of c k ≡ true → place + slack_count c k ≤ m.total → 2 ^ n * rows es cs ≤ p → 2 ^ n * rows (line_entries m place (line_of c k) ++ es) (line_right m (line_of c k) ++ cs) ≤ atom_weight q c * p
    without-need c k place n es cs p suits room rest =
        let one = with-line q m regions numbers full (line_of c k) (atom_bound q c) place es cs (bound_some q c) (line-least q m regions numbers full c k suits) room in
        let more = times-right (2 ^ n) (rows (line_entries m place (line_of c k) ++ es) (line_right m (line_of c k) ++ cs)) (atom_bound q c * rows es cs) one in
        let turned : 2 ^ n * (atom_bound q c * rows es cs) ≡ atom_bound q c * (2 ^ n * rows es cs) = omega arith in
        omega (arith, more, turned, times-right (atom_bound q c) (2 ^ n * rows es cs) p rest, times-left (atom_bound q c) (atom_weight q c) p (weight_bound q c))

    atoms-least : (place : ℕ) (rest : List Atom) → place + slack_total rest ≤ m.total → Each OfCase rest → 2 ^ length (needs rest) * rows (entries_of m place rest) (rights_of m rest) ≤ product_by (atom_weight q) (conds_of rest)
    unfolding Each product
    atoms-least place [] room each = omega arith
    atoms-least place (a ∷ rest) room each =
        let c : CondTree = cond_tree a.cond.now in
        let behind = place + slack_count c a.case in
        let least = atoms-least behind rest (omega (arith, room)) each.1 in
        by c (wants s c a.case) refl least
      where
        by : (c : CondTree) (b : Bool) → wants s (cond_tree a.cond.now) a.case ≡ b → 2 ^ length (needs rest) * rows (entries_of m (place + slack_count (cond_tree a.cond.now) a.case) rest) (rights_of m rest) ≤ product_by (atom_weight q) (conds_of rest) →
            2 ^ length (if b then need_of (2 ^ q.sets) empty (cond_tree a.cond.now) ∷ needs rest else needs rest) * rows (entries_of m place (a ∷ rest)) (rights_of m (a ∷ rest)) ≤ atom_weight q (cond_tree a.cond.now) * product_by (atom_weight q) (conds_of rest)
        by c true e least = with-need (cond_tree a.cond.now) a.case place (length (needs rest)) (entries_of m (place + slack_count (cond_tree a.cond.now) a.case) rest) (rights_of m rest) (product_by (atom_weight q) (conds_of rest)) (wanting (cond_tree a.cond.now) a.case e each.0.1) least
        by c false e least = without-need (cond_tree a.cond.now) a.case place (length (needs rest)) (entries_of m (place + slack_count (cond_tree a.cond.now) a.case) rest) (rights_of m rest) (product_by (atom_weight q) (conds_of rest)) each.0.0 (omega (arith, room)) least

-- each atom has one of its cases
hopeful-cases : (all : List Atom) (s : List Spot) (rest : List Atom) → list_any (λ a. is_hopeless all s (cond_tree a.cond.now) a.case) rest ≡ false → Each (λ a. chosen all (cond_tree a.cond.now) ≡ case_truth a.case) rest → Each (λ a. (is_case_of (cond_tree a.cond.now) a.case ≡ true) × (chosen all (cond_tree a.cond.now) ≡ case_truth a.case)) rest
unfolding Each
hopeful-cases all s [] h each = tt
hopeful-cases all s (a ∷ rest) h each = (
  (not-false (is_case_of (cond_tree a.cond.now) a.case) (none_one _ _ (none_one _ _ h)), each.0),
  hopeful-cases all s rest (none_two (is_hopeless all s (cond_tree a.cond.now) a.case) _ h) each.1,
)

-- The digit system of a query within the limits isn't too large, where the query is told false.
pub small-system : (q : QueryTree) (atoms : List Atom) (spots : List Spot) (s : System) → IsWithin q → IsCasing q (conds_of atoms) → length spots ≡ q.elements → list_any (λ a. is_hopeless atoms spots (cond_tree a.cond.now) a.case) atoms ≡ false → query_told spots atoms q ≡ Some false → IsSystemOf q atoms spots s → node_count s ≤ 67108864
small-system q atoms spots s within casing full hopeful untrue is =
    let m : Frame = frame_of q atoms spots in
    let limits : Limits q = limits-of q within.size in
    let picked = picked-casing q (conds_of atoms) casing in
    let each = hopeful-cases atoms spots atoms hopeful (chosen-own (atoms_of q) atoms casing.apart casing.known) in
    let least = atoms-least q spots atoms untrue m refl refl full (emptied q.sets atoms) 0 atoms (omega arith) each in
    let needs : length s.needs ≡ length (needs_of (2 ^ q.sets) (emptied q.sets atoms) spots atoms) = ap length is.needs in
    let rows : widths s s.rows ≡ product (row-width (width_of m) (entries_of m 0 atoms) (rights_of m atoms)) (length (rights_of m atoms)) =
    widths-product s s.rows ∙ ap (product (nodes.width_of s)) is.rows ∙ (λ i. product (row-width (is.columns i) (is.entries i) (is.right i)) (length (rights_of m atoms))) in
    let columns : s.columns + 1 ≤ column_count q + 1 = omega (arith, is.columns, slacks-least atoms, sum-picked slacks (conds_of atoms) (distinct (atoms_of q)) picked) in
    let both : 2 ^ length s.needs * widths s s.rows ≡ 2 ^ length (needs_of (2 ^ q.sets) (emptied q.sets atoms) spots atoms) * product (row-width (width_of m) (entries_of m 0 atoms) (rights_of m atoms)) (length (rights_of m atoms)) = (λ i. 2 ^ needs i * rows i) in
    let work : 2 ^ length s.needs * widths s s.rows ≤ product_by (atom_weight q) (distinct (atoms_of q)) = omega (arith, both, least, product-picked (atom_weight q) (conds_of atoms) (distinct (atoms_of q)) (weight-some q) picked) in
    let weights : ℕ = product_by (atom_weight q) (distinct (atoms_of q)) in
    let turned : (s.columns + 1) * 2 ^ length s.needs * widths s s.rows ≡ (s.columns + 1) * (2 ^ length s.needs * widths s s.rows) = omega arith in
    let other : (column_count q + 1) * weights ≡ weights * (column_count q + 1) = omega arith in
    omega (arith, turned, times-right (s.columns + 1) (2 ^ length s.needs * widths s s.rows) weights work, times-left (s.columns + 1) (column_count q + 1) weights columns, other, limits.whole)
