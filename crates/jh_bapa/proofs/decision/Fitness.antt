-- The rows of a query within the limits have no large entry, and there are not many columns.
use Rattle.std.proofs.Common.{◌≡◌, refl, ℕ, zero, suc, ◌+◌, ◌*◌, ◌-◌, ◌^◌, ◌<◌, ◌≤◌, ◌==◌, nat_lt, min, max, Bool, true, false, not, ◌&&◌, ◌||◌, if◌then◌else◌, List, [], ◌∷◌, ◌++◌, length, Option, Some, None, IfSome, is_some, ℤ, pos, negsuc, ap, sym, ◌∙◌, arith, ◌⊎◌, inl, inr, subst}
use Rattle.std.specs.Prelude.{unsigned_abs}
use Rattle.std.specs.List.{All, list_all, list_any, sum_by}
use Rattle.std.proofs.lemmas.Bool.{ltb-true, or_cases, or_left, or_right, true≢false, cases_eq}
use Rattle.std.proofs.lemmas.List.Folds.{list_any-append}
use Rattle.std.proofs.lemmas.List.Sums.{sum_by-append}
use Rattle.jh_form.specs.Meaning.{all_below}
use Rattle.jh_query.specs.declared.queries.sizes.Spot.{Spot}
use Rattle.jh_query.specs.declared.queries.demands.Demand.{Demand}
use Rattle.jh_query.specs.declared.queries.demands.Demand.TheVariants as demand
use Rattle.jh_query.specs.queries.Bare.{cond_tree}
use Rattle.jh_query.specs.queries.Tree.{NumTree, CondTree, QueryTree}
use Rattle.jh_query.specs.queries.Tree as t
use Rattle.jh_query.specs.queries.Named.{cond_named, is_divisor, num_named, room_of}
use Rattle.jh_query.specs.queries.Same.{same_atom}
use Rattle.jh_query.specs.queries.Truth.{read_number, sum_below}
use Rattle.jh_query.specs.queries.Linear.{constant_part, number_factor, rest_factor}
use Rattle.jh_query.specs.queries.Size.{atom_bound, atom_weight, atoms_of, capped, card_weight, cases, column_count, count_max, demanded, distinct, fits_at, full_size, is_countable, is_small, is_small_atom, number_weight, places, product_by, query_size, remainder_cases, rest_weight, row_bound, slacks, three_cases, two_cases, weight_at}
use Rattle.jh_query.proofs.queries.Equalities.{same_atom-is}
use Rattle.jh_query.specs.declared.partial_truth.casing.Atom.{Atom}
use Rattle.jh_query.specs.declared.partial_truth.casing.Case.{Case}
use Rattle.jh_query.specs.declared.partial_truth.casing.Case.TheVariants.{Open, True, False, Greater, Remainder}
use Rattle.jh_bapa.specs.decision.Cases.{LineTree, conds_of, is_case_of, is_hopeless, line_of}
use Rattle.jh_bapa.specs.decision.Systems.{Frame, count, frame_of, slack_count, slack_total, width_of}
use Rattle.jh_bapa.specs.decision.Counted.{IsFit, IsSlight, Narrow, has_divisor}
use Rattle.jh_bapa.specs.decision.Within.{IsWithin}
use Rattle.jh_bapa.specs.decision.Searching.{IsCasing, are_apart}
use Rattle.jh_bapa.proofs.decision.Belows.{all-at, first, none_one, none_two, not-false, not-true, second, sure}

-- Some items of a list, each at its own place.
abbrev pub Picked : List CondTree → List CondTree → Type 0
Picked [] ys = Unit {0}
Picked (x ∷ xs) ys = (l : List CondTree) × (r : List CondTree) × (ys ≡ l ++ x ∷ r) × Picked xs (l ++ r)

find : (c : CondTree) (ys : List CondTree) → list_any (same_atom c) ys ≡ true → (l : List CondTree) × (r : List CondTree) × (ys ≡ l ++ c ∷ r)
find c [] h = cc
find c (y ∷ ys) h =
    elim (or_cases (same_atom c y) (list_any (same_atom c) ys) h) [
      | inl e ↦ ([], ys, ap (λ d. d ∷ ys) (sym (same_atom-is c y e)))
      | inr e ↦ let k = find c ys e in (y ∷ k.0, k.1, ap (λ zs. y ∷ zs) k.2)
    ]

other_way : (c x : CondTree) → same_atom x c ≡ false → same_atom c x ≡ false
other_way c x h =
    elim (sure (same_atom c x)) [
      | inl e ↦ let same : c ≡ x = same_atom-is c x e in absurd (true≢false (sym e ∙ (λ i. same_atom (same i) x) ∙ (λ i. same_atom x (sym same i)) ∙ h))
      | inr e ↦ e
    ]

without : (c x : CondTree) (l r : List CondTree) → list_any (same_atom c) (l ++ x ∷ r) ≡ true → same_atom c x ≡ false → list_any (same_atom c) (l ++ r) ≡ true
without c x l r h e = list_any-append (same_atom c) l r ∙ (λ i. list_any (same_atom c) l || ((sym e i) || list_any (same_atom c) r)) ∙ sym (list_any-append (same_atom c) l (x ∷ r)) ∙ h

others : (x : CondTree) (xs l r : List CondTree) → list_any (same_atom x) xs ≡ false → list_all (λ c. list_any (same_atom c) (l ++ x ∷ r)) xs ≡ true → list_all (λ c. list_any (same_atom c) (l ++ r)) xs ≡ true
others x [] l r h e = refl
others x (c ∷ xs) l r h e =
    λ i. without c x l r (first _ _ e) (other_way c x (none_one _ _ h)) i && others x xs l r (none_two (same_atom x c) _ h) (second _ _ e) i

pub picked-of : (xs ys : List CondTree) → are_apart xs ≡ true → list_all (λ c. list_any (same_atom c) ys) xs ≡ true → Picked xs ys
picked-of [] ys a h = tt
picked-of (x ∷ xs) ys a h =
    let found = find x ys (first _ _ h) in
    let rest : list_all (λ c. list_any (same_atom c) (found.0 ++ x ∷ found.1)) xs ≡ true = ap (λ zs. list_all (λ c. list_any (same_atom c) zs) xs) (sym found.2) ∙ second _ _ h in
    (found.0, found.1, found.2, picked-of xs (found.0 ++ found.1) (second _ _ a) (others x xs found.0 found.1 (not-true _ (first _ _ a)) rest))

product-append : (f : CondTree → ℕ) (xs ys : List CondTree) → product_by f (xs ++ ys) ≡ product_by f xs * product_by f ys
product-append f [] ys = omega arith
product-append f (x ∷ xs) ys = rw (product-append f xs ys) (omega arith)

swap : (f : CondTree → ℕ) (x : CondTree) (l r : List CondTree) → product_by f (l ++ x ∷ r) ≡ f x * product_by f (l ++ r)
swap f x l r = rw (product-append f l (x ∷ r), product-append f l r) (omega arith)

times_least : (m a b : ℕ) → a ≤ b → m * a ≤ m * b
times_least zero a b h = omega arith
times_least (suc m) a b h = omega (arith, h, times_least m a b h)

pub product-picked : (f : CondTree → ℕ) (xs ys : List CondTree) → ((c : CondTree) → 1 ≤ f c) → Picked xs ys → product_by f xs ≤ product_by f ys
product-picked f [] ys h p = positive ys
  where
    one : (a b : ℕ) → 1 ≤ a → 1 ≤ b → 1 ≤ a * b
    one zero b e k = absurd (omega arith)
    one (suc a) b e k = omega (arith, k)

    positive : (ys : List CondTree) → 1 ≤ product_by f ys
    positive [] = omega arith
    positive (y ∷ ys) = one (f y) (product_by f ys) (h y) (positive ys)
product-picked f (x ∷ xs) ys h p =
    let l : List CondTree = p.0 in
    let r : List CondTree = p.1 in
    let whole : product_by f ys ≡ f x * product_by f (l ++ r) = ap (product_by f) p.2 ∙ swap f x l r in
    omega (arith, whole, times_least (f x) (product_by f xs) (product_by f (l ++ r)) (product-picked f xs (l ++ r) h p.3))

sum_cons : (f : CondTree → ℕ) (x : CondTree) (xs : List CondTree) → sum_by f (x ∷ xs) ≡ f x + sum_by f xs
sum_cons f x xs = sum_by-append f (x ∷ []) xs ∙ alone (f x) (sum_by f xs)
  where
    alone : (a b : ℕ) → (0 + a) + b ≡ a + b
    alone a b = omega arith

pub sum-picked : (f : CondTree → ℕ) (xs ys : List CondTree) → Picked xs ys → sum_by f xs ≤ sum_by f ys
sum-picked f [] ys p = omega arith
sum-picked f (x ∷ xs) ys p =
    let l : List CondTree = p.0 in
    let r : List CondTree = p.1 in
    let whole : sum_by f ys ≡ sum_by f l + sum_by f (x ∷ r) = ap (sum_by f) p.2 ∙ sum_by-append f l (x ∷ r) in
    omega (arith, whole, sum_cons f x r, sum_cons f x xs, sum_by-append f l r, sum-picked f xs (l ++ r) p.3)

-- what all items pass, one passes
pub one_passes : (p : CondTree → Bool) (c : CondTree) (ys : List CondTree) → list_all p ys ≡ true → list_any (same_atom c) ys ≡ true → p c ≡ true
one_passes p c [] h e = cc
one_passes p c (y ∷ ys) h e =
    elim (or_cases (same_atom c y) (list_any (same_atom c) ys) e) [
      | inl f ↦ ap p (same_atom-is c y f) ∙ first (p y) (list_all p ys) h
      | inr f ↦ one_passes p c ys (second (p y) (list_all p ys) h) f
    ]

in_distinct : (c : CondTree) (xs : List CondTree) → list_any (same_atom c) xs ≡ true → list_any (same_atom c) (distinct xs) ≡ true
in_distinct c [] h = cc
in_distinct c (x ∷ xs) h =
    elim (sure (list_any (same_atom x) xs)) [
      | inl e ↦ rw e (elim (or_cases (same_atom c x) (list_any (same_atom c) xs) h) [
        | inl f ↦ in_distinct c xs ((λ i. list_any (same_atom (same_atom-is c x f i)) xs) ∙ e)
        | inr f ↦ in_distinct c xs f
      ])
      | inr e ↦ rw e (elim (or_cases (same_atom c x) (list_any (same_atom c) xs) h) [
        | inl f ↦ or_left (same_atom c x) (list_any (same_atom c) (distinct xs)) f
        | inr f ↦ or_right (same_atom c x) (list_any (same_atom c) (distinct xs)) (in_distinct c xs f)
      ])
    ]

all_distinct : (xs : List CondTree) (ds : List CondTree) → list_all (λ c. list_any (same_atom c) xs) ds ≡ true → list_all (λ c. list_any (same_atom c) (distinct xs)) ds ≡ true
all_distinct xs [] h = refl
all_distinct xs (d ∷ ds) h = λ i. in_distinct d xs (first _ _ h) i && all_distinct xs ds (second _ _ h) i

-- a weight is 1 or more
three_some : (x : Demand) → 1 ≤ three_cases x
three_some demand.True = omega arith
three_some demand.False = omega arith
three_some demand.Loose = omega arith

two_some : (x : Demand) → 1 ≤ two_cases x
two_some demand.True = omega arith
two_some demand.False = omega arith
two_some demand.Loose = omega arith

remainder_some : (x : Demand) (k : ℕ) → 1 ≤ remainder_cases x k
remainder_some demand.True k = omega arith
remainder_some demand.False k = omega arith
remainder_some demand.Loose k = omega arith

some_times : (a b : ℕ) → 1 ≤ a → 1 ≤ b → 1 ≤ a * b
some_times zero b e k = absurd (omega arith)
some_times (suc a) b e k = omega (arith, k)

some_more : (a b c : ℕ) → 1 ≤ a → b ≤ c → b ≤ a * c
some_more zero b c e k = absurd (omega arith)
some_more (suc a) b c e k = omega (arith, k)

cases_some : (x : Demand) (c : CondTree) → 1 ≤ cases x c
cases_some x t.yes = omega arith
cases_some x t.no = omega arith
cases_some x (t.flag f) = two_some x
cases_some x (t.same_element i j) = omega arith
cases_some x (t.member i s) = omega arith
cases_some x (t.equal_set a b) = three_some x
cases_some x (t.within a b) = three_some x
cases_some x (t.equal_num a b) = three_some x
cases_some x (t.less_num a b) = two_some x
cases_some x (t.divides k a) = remainder_some x (unsigned_abs k)
cases_some x (t.negation a) = omega arith
cases_some x (t.and a b) = omega arith
cases_some x (t.or a b) = omega arith
cases_some x (t.implies a b) = omega arith
cases_some x (t.iff a b) = omega arith

pub bound_some : (q : QueryTree) (c : CondTree) → 1 ≤ atom_bound q c
bound_some q t.yes = omega arith
bound_some q t.no = omega arith
bound_some q (t.flag f) = omega arith
bound_some q (t.same_element i j) = omega arith
bound_some q (t.member i s) = omega arith
bound_some q (t.equal_set a b) = omega arith
bound_some q (t.within a b) = omega arith
bound_some q (t.equal_num a b) = omega arith
bound_some q (t.less_num a b) = omega arith
bound_some q (t.divides k a) = omega arith
bound_some q (t.negation a) = omega arith
bound_some q (t.and a b) = omega arith
bound_some q (t.or a b) = omega arith
bound_some q (t.implies a b) = omega arith
bound_some q (t.iff a b) = omega arith

pub weight-some : (q : QueryTree) (c : CondTree) → 1 ≤ atom_weight q c
weight-some q c = some_times (cases (demanded q c) c) (atom_bound q c) (cases_some (demanded q c) c) (bound_some q c)

pub weight_bound : (q : QueryTree) (c : CondTree) → atom_bound q c ≤ atom_weight q c
weight_bound q c = some_more (cases (demanded q c) c) (atom_bound q c) (atom_bound q c) (cases_some (demanded q c) c) (omega arith)

pub product-some : (f : CondTree → ℕ) (xs : List CondTree) → ((c : CondTree) → 1 ≤ f c) → 1 ≤ product_by f xs
product-some f xs h = product-picked f [] xs h tt

in_product : (f : CondTree → ℕ) (c : CondTree) (xs : List CondTree) → ((c : CondTree) → 1 ≤ f c) → list_any (same_atom c) xs ≡ true → f c ≤ product_by f xs
in_product f c xs h e =
    let found = find c xs e in
    let whole : product_by f xs ≡ f c * product_by f (found.0 ++ found.1) = ap (product_by f) found.2 ∙ swap f c found.0 found.1 in
    omega (arith, whole, times_least (f c) 1 (product_by f (found.0 ++ found.1)) (product-some f (found.0 ++ found.1) h))

places_some : (sets n : ℕ) → 1 ≤ places sets n
places_some sets zero = omega arith
places_some sets (suc n) = some_times (places sets n) (2 ^ sets + n) (places_some sets n) (omega (arith, power_some sets))
  where
    power_some : (n : ℕ) → 1 ≤ 2 ^ n
    power_some zero = omega arith
    power_some (suc n) = omega (arith, power_some n)

-- the parts of the size of a query within the limits
pub record Limits (q : QueryTree) : Type 0 where
  pub small : list_all (is_small_atom q) (distinct (atoms_of q)) ≡ true
  pub whole : product_by (atom_weight q) (distinct (atoms_of q)) * (column_count q + 1) ≤ 67108864

by_count : (q : QueryTree) (b : Bool) → is_countable q ≡ b → query_size q ≤ 67108864 → (is_countable q ≡ true) × (full_size q ≤ 67108864)
by_count q true e h = (e, omega (arith, rw e at h))
by_count q false e h = absurd (omega (arith, rw e at h))

pub limits-of : (q : QueryTree) → query_size q ≤ 67108864 → Limits q
limits-of q h =
    let parts = by_count q (is_countable q) refl h in
    let weights : ℕ = product_by (atom_weight q) (distinct (atoms_of q)) in
    let turned : full_size q ≡ places q.sets q.elements * (weights * (column_count q + 1)) = omega arith in
    record {
      small = second _ _ parts.0;
      whole = omega (arith, parts.1, turned, some_more (places q.sets q.elements) (weights * (column_count q + 1)) (weights * (column_count q + 1)) (places_some q.sets q.elements) (omega arith));
    }

-- the columns that atoms add are at most those that the size counts
slack_least : (c : CondTree) (k : Case) → slack_count c k ≤ slacks c
slack_least (t.equal_num a b) Open = omega arith
slack_least (t.equal_num a b) True = omega arith
slack_least (t.equal_num a b) False = omega arith
slack_least (t.equal_num a b) Greater = omega arith
slack_least (t.equal_num a b) (Remainder j) = omega arith
slack_least (t.less_num a b) Open = omega arith
slack_least (t.less_num a b) True = omega arith
slack_least (t.less_num a b) False = omega arith
slack_least (t.less_num a b) Greater = omega arith
slack_least (t.less_num a b) (Remainder j) = omega arith
slack_least (t.divides d a) Open = omega arith
slack_least (t.divides d a) True = omega arith
slack_least (t.divides d a) False = omega arith
slack_least (t.divides d a) Greater = omega arith
slack_least (t.divides d a) (Remainder j) = omega arith
slack_least t.yes k = omega arith
slack_least t.no k = omega arith
slack_least (t.flag f) k = omega arith
slack_least (t.same_element i j) k = omega arith
slack_least (t.member i s) k = omega arith
slack_least (t.equal_set a b) k = omega arith
slack_least (t.within a b) k = omega arith
slack_least (t.negation a) k = omega arith
slack_least (t.and a b) k = omega arith
slack_least (t.or a b) k = omega arith
slack_least (t.implies a b) k = omega arith
slack_least (t.iff a b) k = omega arith

pub slacks-least : (atoms : List Atom) → slack_total atoms ≤ sum_by slacks (conds_of atoms)
slacks-least [] = omega arith
slacks-least (a ∷ rest) = omega (arith, slack_least (cond_tree a.cond.now) a.case, slacks-least rest, sum_cons slacks (cond_tree a.cond.now) (conds_of rest))

-- the atoms of a casing are among the different ones of the query
pub picked-casing : (q : QueryTree) (cs : List CondTree) → IsCasing q cs → Picked cs (distinct (atoms_of q))
picked-casing q cs casing = picked-of cs (distinct (atoms_of q)) casing.apart (all_distinct (atoms_of q) cs casing.known)

pub few-columns : (q : QueryTree) (atoms : List Atom) → IsCasing q (conds_of atoms) → Limits q → 2 ^ q.sets + (2 * q.numbers + slack_total atoms) ≤ 67108863
few-columns q atoms casing limits =
    let weights : ℕ = product_by (atom_weight q) (distinct (atoms_of q)) in
    omega (
      arith,
      slacks-least atoms,
      sum-picked slacks (conds_of atoms) (distinct (atoms_of q)) (picked-casing q (conds_of atoms) casing),
      limits.whole,
      some_more weights (column_count q + 1) (column_count q + 1) (product-some (atom_weight q) (distinct (atoms_of q)) (weight-some q)) (omega arith),
    )

-- an atom of the query is small, and its row is bounded
small_atom : (q : QueryTree) (c : CondTree) → Limits q → list_any (same_atom c) (atoms_of q) ≡ true → (is_small_atom q c ≡ true) × (atom_bound q c ≤ 67108864)
small_atom q c limits h =
    let weights : ℕ = product_by (atom_weight q) (distinct (atoms_of q)) in
    let there : list_any (same_atom c) (distinct (atoms_of q)) ≡ true = in_distinct c (atoms_of q) h in
    let turned : weights * (column_count q + 1) ≡ (column_count q + 1) * weights = omega arith in (
      one_passes (is_small_atom q) c (distinct (atoms_of q)) limits.small there,
      omega (arith, weight_bound q c, in_product (atom_weight q) c (distinct (atoms_of q)) (weight-some q) there, limits.whole, turned, some_more (column_count q + 1) weights weights (omega arith) (omega arith)),
    )

term_least : (n r : ℕ) (f : ℕ → ℕ) → r < n → f r ≤ sum_below n f
term_least zero r f h = absurd (omega arith)
term_least (suc n) r f h =
    elim (cases_eq r n) [
      | inl e ↦ let same : f r ≡ f n = ap f e in omega (arith, same)
      | inr e ↦ omega (arith, term_least n r f (omega (arith, e, h)))
    ]

pub slight-of : (q : QueryTree) (m : Frame) (l : LineTree) (h : ℕ) → m.regions ≡ 2 ^ q.sets → m.numbers ≡ q.numbers → length m.spots ≡ q.elements → is_small q l.side ≡ true → row_bound q h l.side ≤ 67108864 → unsigned_abs l.added ≤ 67108864 → IsSlight m l
slight-of q m l h regions numbers full small bound added = record {
  rests = λ r k. record {
    some = all-at (2 ^ q.sets) r (fits_at rest_factor l.side) (first _ _ small) (omega (arith, regions, k));
    small = omega (arith, bound, term_least (2 ^ q.sets) r (weight_at rest_factor l.side) (omega (arith, regions, k)));
  };
  numbers = λ n k. record {
    some = all-at q.numbers n (fits_at number_factor l.side) (first _ _ (second _ _ small)) (omega (arith, numbers, k));
    small = omega (arith, bound, term_least q.numbers n (weight_at number_factor l.side) (omega (arith, numbers, k)));
  };
  constant = record { some = second _ _ (second _ _ small); small = omega (arith, bound) };
  cards = let same : length m.spots * card_weight l.side ≡ q.elements * card_weight l.side = ap (λ n. n * card_weight l.side) full in omega (arith, bound, same);
  added = added;
}

divisor_of : (m : _) (c : CondTree) → cond_named m c ≡ true → has_divisor c ≡ true
divisor_of m (t.divides d a) h = first _ _ h
divisor_of m t.yes h = refl
divisor_of m t.no h = refl
divisor_of m (t.flag f) h = refl
divisor_of m (t.same_element i j) h = refl
divisor_of m (t.member i s) h = refl
divisor_of m (t.equal_set a b) h = refl
divisor_of m (t.within a b) h = refl
divisor_of m (t.equal_num a b) h = refl
divisor_of m (t.less_num a b) h = refl
divisor_of m (t.negation a) h = refl
divisor_of m (t.and a b) h = refl
divisor_of m (t.or a b) h = refl
divisor_of m (t.implies a b) h = refl
divisor_of m (t.iff a b) h = refl

pub has-divisor : (q : QueryTree) (c : CondTree) → cond_named (room_of q) c ≡ true → has_divisor c ≡ true
has-divisor q c h = divisor_of (room_of q) c h

all_none : (P : Atom → Type 0) → All P []
all_none P k d h = absurd (omega arith)

all_more : (P : Atom → Type 0) (a : Atom) (rest : List Atom) → P a → All P rest → All P (a ∷ rest)
all_more P a rest h all zero d k = h
all_more P a rest h all (suc i) d k = all i d (omega arith)

module _ (q : QueryTree) (m : Frame) (regions : m.regions ≡ 2 ^ q.sets) (numbers : m.numbers ≡ q.numbers) (full : length m.spots ≡ q.elements) where
  slight : (c : CondTree) (k : Case) → is_case_of c k ≡ true → is_small_atom q c ≡ true → atom_bound q c ≤ 67108864 → IfSome (line_of c k) (IsSlight m)
  slight (t.equal_num a b) Open s small bound = tt
  slight (t.equal_num a b) True s small bound = slight-of q m _ 1 regions numbers full small bound (omega arith)
  slight (t.equal_num a b) False s small bound = slight-of q m _ 1 regions numbers full small bound (omega arith)
  slight (t.equal_num a b) Greater s small bound = slight-of q m _ 1 regions numbers full small bound (omega arith)
  slight (t.equal_num a b) (Remainder j) s small bound = tt
  slight (t.less_num a b) Open s small bound = tt
  slight (t.less_num a b) True s small bound = slight-of q m _ 1 regions numbers full small bound (omega arith)
  slight (t.less_num a b) False s small bound = slight-of q m _ 1 regions numbers full small bound (omega arith)
  slight (t.less_num a b) Greater s small bound = tt
  slight (t.less_num a b) (Remainder j) s small bound = tt
  slight (t.divides d a) Open s small bound = tt
  slight (t.divides d a) True s small bound = tt
  slight (t.divides d a) False s small bound = tt
  slight (t.divides d a) Greater s small bound = tt
  slight (t.divides d a) (Remainder j) s small bound = slight-of q m _ (2 * unsigned_abs d) regions numbers full small bound (omega (arith, bound, ltb-true j (unsigned_abs d) s))
  slight t.yes k s small bound = tt
  slight t.no k s small bound = tt
  slight (t.flag f) k s small bound = tt
  slight (t.same_element i j) k s small bound = tt
  slight (t.member i e) k s small bound = tt
  slight (t.equal_set a b) k s small bound = tt
  slight (t.within a b) k s small bound = tt
  slight (t.negation a) k s small bound = tt
  slight (t.and a b) k s small bound = tt
  slight (t.or a b) k s small bound = tt
  slight (t.implies a b) k s small bound = tt
  slight (t.iff a b) k s small bound = tt

  pub all-fit : (all : List Atom) (spots : List Spot) (rest : List Atom) → Limits q → list_all (cond_named (room_of q)) (conds_of rest) ≡ true → list_all (λ c. list_any (same_atom c) (atoms_of q)) (conds_of rest) ≡ true
      → list_any (λ a. is_hopeless all spots (cond_tree a.cond.now) a.case) rest ≡ false → All (IsFit m) rest
  all-fit all spots [] limits named known hope = all_none (IsFit m)
  all-fit all spots (a ∷ rest) limits named known hope =
      let c : CondTree = cond_tree a.cond.now in
      let suits : is_case_of c a.case ≡ true = not-false (is_case_of c a.case) (none_one _ _ (none_one _ _ hope)) in
      let small = small_atom q c limits (first _ _ known) in
      all_more (IsFit m) a rest (record { suits = suits; divisor = divisor_of (room_of q) c (first _ _ named); slight = slight c a.case suits small.0 small.1 })
      (all-fit all spots rest limits (second _ _ named) (second _ _ known) (none_two (is_hopeless all spots c a.case) _ hope))
