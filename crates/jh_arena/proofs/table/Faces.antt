-- Loose variables and name bits of a shape, from those of its parts.
use Rattle.std.proofs.Common.{◌≡◌, refl, sym, ap, ◌∙◌, subst, ℕ, zero, suc, ◌+◌, ◌-◌, ◌^◌, ◌%◌, max, Bool, true, false, not, ◌&&◌, ◌||◌, List, [], ◌∷◌, ◌++◌, slice_get, Option, Some, None, is_some, nat_lt, nat_eq, arith}
use Rattle.std.specs.Int.{bit_at}
use Rattle.std.specs.Int.Bits.{bit_or}
use Rattle.std.proofs.lemmas.Nat.Bits.{bit_at_or, bit_at-pow_same, bit_at-lt}
use Rattle.std.proofs.lemmas.Bool.{true≢false, ltb-true, lt-ltb, eq-eqb, eqb-true}
use Rattle.jh_boxed.specs.jh_name.declared.naming.Name.{Name}
use Rattle.jh_boxed.specs.jh_name.declared.place.Sort as place
use Rattle.jh_boxed.specs.jh_name.declared.place.Sort.TheVariants as Sort
use Rattle.jh_form.specs.Tree.{ValueTree}
use Rattle.jh_form.specs.Closed.{is_closed_value}
use Rattle.jh_form.specs.Passing.{value_passes, name_equal}
use Rattle.jh_form.proofs.Names.{name_equal-same, name_equal-true}
use Rattle.jh_form.proofs.ClosedLemmas.{both-left, both-right}
use Rattle.jh_arena.specs.table.Entries.{Pools, the_name, the_value}
use Rattle.jh_arena.specs.declared.table.shapes.Shape.{Shape}
use Rattle.jh_arena.specs.declared.table.shapes.Shape.TheVariants as s
use Rattle.jh_arena.specs.declared.table.facts.Facts.{Facts}
use Rattle.jh_arena.specs.table.Nodes.{fits, shape_tree}
use Rattle.jh_arena.specs.table.Parts.{parts, own_parts, list_parts}
use Rattle.jh_arena.specs.table.Growth.{Grows}
use Rattle.jh_arena.specs.table.Facing.{own_closed, all_closed, under, own_passes, all_pass, own_bits, loose_over, IsLeast, marked_from, marked, own_turn, turn_below}
use Rattle.jh_arena.specs.table.Measures.{AreFacts, AllFacts}
use Rattle.jh_arena.proofs.table.ShapeClosed.{closed-shape, all_closed-append}
use Rattle.jh_arena.proofs.table.ShapePasses.{passes-shape, all_pass-append}
use Rattle.jh_arena.proofs.table.Weaker.{value-weaker}
use Rattle.std.specs.List.{IsDistinct, position_or_len}
use Rattle.std.specs.Prelude.{◌↔◌, IsTrue}
use Rattle.jh_boxed.specs.jh_name.contracts.naming.NamePartialEq.TheImpl as name
use Rattle.jh_arena.proofs.table.Keys.{name_eq-true, name_eq-same, position-is}

-- ---- loose variables

pub loose-same : (f g : ℕ → Bool) (n : ℕ) → ((d : ℕ) → f d ≡ g d) → IsLeast g n → IsLeast f n
loose-same f g n e h = record { closed = λ d le. e d ∙ h.closed d le; least = λ d c. h.least d (sym (e d) ∙ c) }

pub loose-both : (f g : ℕ → Bool) (a b r : ℕ) → IsLeast f a → IsLeast g b → r ≡ max a b → IsLeast (λ d. f d && g d) r
loose-both f g a b r h k e = record {
  closed = λ d le. λ i. h.closed d (omega arith) i && k.closed d (omega arith) i;
  least = λ d c. omega (arith, h.least d (both-left (f d) (g d) c), k.least d (both-right (f d) (g d) c));
}

pub loose-all : IsLeast (λ d. true) 0
loose-all = record { closed = λ d le. refl; least = λ d c. omega arith }

loose-bound : (k : ℕ) → IsLeast (λ d. nat_lt k d && true) (k + 1)
loose-bound k = record { closed = λ d le. λ i. lt-ltb k d (omega arith) i && true; least = λ d c. omega (arith, ltb-true k d (both-left (nat_lt k d) true c)) }

loose-under : (f : ℕ → Bool) (n : ℕ) → IsLeast f n → IsLeast (λ d. f (d + 1)) (n - 1)
loose-under f n h = record { closed = λ d le. h.closed (d + 1) (omega arith); least = λ d c. omega (arith, h.least (d + 1) c) }

loose-own : (p : Pools) (ts : List ValueTree) (x : Shape) (n : ℕ) → IsLeast (λ d. all_closed d ts (parts p.lists x)) n → IsLeast (λ d. own_closed x d && all_closed (under x d) ts (parts p.lists x)) (loose_over x n)
unfolding own_closed under loose_over list_parts own_parts
loose-own p ts (s.Bound k) n h = loose-bound k
loose-own p ts (s.Compr a) n h = loose-under (λ d. all_closed d ts (a ∷ [])) n h
loose-own p ts (s.All a) n h = loose-under (λ d. all_closed d ts (a ∷ [])) n h
loose-own p ts (s.Ex a) n h = loose-under (λ d. all_closed d ts (a ∷ [])) n h
loose-own p ts _ n h = h

pub loose-shape : (p : Pools) (ts : List ValueTree) (x : Shape) (n : ℕ) → fits p ts x ≡ true → IsLeast (λ d. all_closed d ts (parts p.lists x)) n → IsLeast (λ d. is_closed_value (shape_tree p ts x) d) (loose_over x n)
loose-shape p ts x n f h =
    loose-same (λ d. is_closed_value (shape_tree p ts x) d) (λ d. own_closed x d && all_closed (under x d) ts (parts p.lists x)) (loose_over x n) (λ d. closed-shape p ts x d f) (loose-own p ts x n h)

-- ---- name bits

pub marked-at : (bits n m : ℕ) (xs : List Name) (i : ℕ) (y : Name) → m ≡ n + i → slice_get xs i ≡ Some y → bit_at bits (m % 64) ≡ 1 → marked_from bits n xs y ≡ true
unfolding marked_from
marked-at bits n m [] i y e at one = absurd (cc)
marked-at bits n m (x ∷ xs) zero y e at one =
    let same : x ≡ y = cc in
    let here : n ≡ m = omega arith in
    let bit : bit_at bits (n % 64) ≡ 1 = ap (λ k. bit_at bits (k % 64)) here ∙ one in
    λ i. (name_equal-same y x (sym same) i && eq-eqb (bit_at bits (n % 64)) 1 bit i) || marked_from bits (n + 1) xs y
marked-at bits n m (x ∷ xs) (suc i) y e at one =
    ap (λ b. (name_equal y x && nat_eq (bit_at bits (n % 64)) 1) || b) (marked-at bits (n + 1) m xs i y (omega arith) at one) ∙ or-yes (name_equal y x && nat_eq (bit_at bits (n % 64)) 1)
  where
    or-yes : (b : Bool) → (b || true) ≡ true
    or-yes true = refl
    or-yes false = refl

-- a number of the name whose bit is set
pub record Marks (bits n : ℕ) (xs : List Name) (y : Name) : Type 0 where
  pub number : ℕ
  pub at : slice_get xs number ≡ Some y
  pub bit : bit_at bits ((n + number) % 64) ≡ 1

pub marked-found : (bits n : ℕ) (xs : List Name) (y : Name) → marked_from bits n xs y ≡ true → Marks bits n xs y
unfolding marked_from
marked-found bits n [] y h = absurd (true≢false (sym h))
marked-found bits n (x ∷ xs) y h = by (marked-found bits (n + 1) xs y) (name_equal y x && nat_eq (bit_at bits (n % 64)) 1) refl h
  where
    by : (marked_from bits (n + 1) xs y ≡ true → Marks bits (n + 1) xs y) → (b : Bool) → (name_equal y x && nat_eq (bit_at bits (n % 64)) 1) ≡ b → (b || marked_from bits (n + 1) xs y) ≡ true → Marks bits n (x ∷ xs) y
    by rest true e k =
        let zeroth : n + 0 ≡ n = omega arith in
        record {
          number = 0;
          at = ap (λ z. Some z) (sym (name_equal-true y x (both-left (name_equal y x) (nat_eq (bit_at bits (n % 64)) 1) e)));
          bit = ap (λ z. bit_at bits (z % 64)) zeroth ∙ eqb-true (bit_at bits (n % 64)) 1 (both-right (name_equal y x) (nat_eq (bit_at bits (n % 64)) 1) e);
        }
    by rest false e k =
        let found : Marks bits (n + 1) xs y = rest k in
        let next : n + suc found.number ≡ (n + 1) + found.number = omega arith in
        record { number = suc found.number; at = found.at; bit = ap (λ z. bit_at bits (z % 64)) next ∙ found.bit }

-- more names and more bits
pub marked-more : (old new : List Name) (a b : ℕ) → Grows old new → ((i : ℕ) → bit_at a i ≡ 1 → bit_at b i ≡ 1) → (y : Name) (u : place.Sort) → marked old a y u ≡ true → marked new b y u ≡ true
marked-more old new a b g more y u h =
    let found : Marks a 0 old y = marked-found a 0 old y h in
    marked-at b 0 (0 + found.number) new found.number y refl (g.keeps found.number y found.at) (more ((0 + found.number) % 64) found.bit)

pub or-left : (a b i : ℕ) → bit_at a i ≡ 1 → bit_at (bit_or a b) i ≡ 1
or-left a b i h = omega (arith, bit_at_or a b i, bit_at-lt b i)

pub or-right : (a b i : ℕ) → bit_at b i ≡ 1 → bit_at (bit_or a b) i ≡ 1
or-right a b i h = omega (arith, bit_at_or a b i, bit_at-lt a i)

same-names : (ns : List Name) → Grows ns ns
same-names ns = record { keeps = λ n v h. h }

all-weaker : (ns : List Name) (a b : ℕ) (ts : List ValueTree) (ks : List ℕ) → ((i : ℕ) → bit_at a i ≡ 1 → bit_at b i ≡ 1) → all_pass (marked ns a) ts ks ≡ true → all_pass (marked ns b) ts ks ≡ true
all-weaker ns a b ts [] more h = refl
all-weaker ns a b ts (k ∷ ks) more h =
    let v = the_value (slice_get ts k) in
    λ i. value-weaker (marked ns a) (marked ns b) (marked-more ns ns a b (same-names ns) more) v (both-left (value_passes v (marked ns a)) (all_pass (marked ns a) ts ks) h) i
    && all-weaker ns a b ts ks more (both-right (value_passes v (marked ns a)) (all_pass (marked ns a) ts ks) h) i

own-marked : (ns : List Name) (bits n : ℕ) (o : Option Name) → slice_get ns n ≡ o → is_some o ≡ true → (u : place.Sort) → marked ns (bit_or (2 ^ (n % 64)) bits) (the_name o) u ≡ true
unfolding the_name
own-marked ns bits n (Some y) e h u = marked-at (bit_or (2 ^ (n % 64)) bits) 0 n ns n y (omega arith) e (or-left (2 ^ (n % 64)) bits (n % 64) (bit_at-pow_same (n % 64)))
own-marked ns bits n None e h u = absurd (true≢false (sym h))

own-names : (p : Pools) (ts : List ValueTree) (x : Shape) (bits : ℕ) → fits p ts x ≡ true → own_passes p x (marked p.names (bit_or (own_bits x) bits)) ≡ true
unfolding own_passes own_bits fits
own-names p ts (s.FreeObject n) bits h = own-marked p.names bits n (slice_get p.names n) refl h Sort.Obj
own-names p ts (s.FreeNumber n) bits h = own-marked p.names bits n (slice_get p.names n) refl h Sort.Int
own-names p ts (s.FreeTruth n) bits h = own-marked p.names bits n (slice_get p.names n) refl h Sort.Bool
own-names p ts (s.FreeSet n) bits h = own-marked p.names bits n (slice_get p.names n) refl h Sort.Set
own-names p ts (s.FreeField n) bits h = own-marked p.names bits n (slice_get p.names n) refl h Sort.Field
own-names p ts _ bits h = refl

pub names-shape : (p : Pools) (ts : List ValueTree) (x : Shape) (bits : ℕ) → fits p ts x ≡ true → all_pass (marked p.names bits) ts (parts p.lists x) ≡ true → value_passes (shape_tree p ts x) (marked p.names (bit_or (own_bits x) bits)) ≡ true
names-shape p ts x bits f h =
    let q = marked p.names (bit_or (own_bits x) bits) in
    passes-shape p ts q x f ∙ (λ i. own-names p ts x bits f i && all-weaker p.names bits (bit_or (own_bits x) bits) ts (parts p.lists x) (or-right (own_bits x) bits) h i)

-- ---- turns

turn-after : (k : ℕ) → IsLeast (λ n. nat_lt k n) (k + 1)
turn-after k = record { closed = λ d le. lt-ltb k d (omega arith); least = λ d c. omega (arith, ltb-true k d c) }

turn-own : (p : Pools) (x : Shape) → IsLeast (λ n. own_passes p x (turn_below n)) (own_turn p.names x)
unfolding own_passes own_turn
turn-own p (s.FreeObject n) = turn-after ((the_name (slice_get p.names n)).turn)
turn-own p (s.FreeNumber n) = turn-after ((the_name (slice_get p.names n)).turn)
turn-own p (s.FreeTruth n) = turn-after ((the_name (slice_get p.names n)).turn)
turn-own p (s.FreeSet n) = turn-after ((the_name (slice_get p.names n)).turn)
turn-own p (s.FreeField n) = turn-after ((the_name (slice_get p.names n)).turn)
turn-own p _ = loose-all

pub turn-shape : (p : Pools) (ts : List ValueTree) (x : Shape) (n r : ℕ) → fits p ts x ≡ true → IsLeast (λ m. all_pass (turn_below m) ts (parts p.lists x)) n → r ≡ max (own_turn p.names x) n → IsLeast (λ m. value_passes (shape_tree p ts x) (turn_below m)) r
turn-shape p ts x n r f h e =
    loose-same (λ m. value_passes (shape_tree p ts x) (turn_below m)) (λ m. own_passes p x (turn_below m) && all_pass (turn_below m) ts (parts p.lists x)) r (λ m. passes-shape p ts (turn_below m) x f)
    (loose-both (λ m. own_passes p x (turn_below m)) (λ m. all_pass (turn_below m) ts (parts p.lists x)) (own_turn p.names x) n r (turn-own p x) h e)

-- ---- one more part

pub turn-step : (ts : List ValueTree) (ns next : List ℕ) (k a b r : ℕ) → next ≡ ns ++ k ∷ [] → IsLeast (λ m. all_pass (turn_below m) ts ns) a → IsLeast (λ m. value_passes (the_value (slice_get ts k)) (turn_below m)) b → r ≡ max a b → IsLeast (λ m. all_pass (turn_below m) ts next) r
turn-step ts ns next k a b r e h g m =
    loose-same (λ d. all_pass (turn_below d) ts next) (λ d. all_pass (turn_below d) ts ns && (value_passes (the_value (slice_get ts k)) (turn_below d) && true)) r
    (λ d. ap (all_pass (turn_below d) ts) e ∙ all_pass-append (turn_below d) ts ns (k ∷ []))
    (loose-both (λ d. all_pass (turn_below d) ts ns) (λ d. value_passes (the_value (slice_get ts k)) (turn_below d) && true) a b r h (loose-both (λ d. value_passes (the_value (slice_get ts k)) (turn_below d)) (λ d. true) b 0 b g loose-all (omega arith)) m)

pub loose-step : (ts : List ValueTree) (ns next : List ℕ) (k a b r : ℕ) → next ≡ ns ++ k ∷ [] → IsLeast (λ d. all_closed d ts ns) a → IsLeast (λ d. is_closed_value (the_value (slice_get ts k)) d) b → r ≡ max a b → IsLeast (λ d. all_closed d ts next) r
loose-step ts ns next k a b r e h g m =
    loose-same (λ d. all_closed d ts next) (λ d. all_closed d ts ns && (is_closed_value (the_value (slice_get ts k)) d && true)) r
    (λ d. ap (all_closed d ts) e ∙ all_closed-append d ts ns (k ∷ []))
    (loose-both (λ d. all_closed d ts ns) (λ d. is_closed_value (the_value (slice_get ts k)) d && true) a b r h (loose-both (λ d. is_closed_value (the_value (slice_get ts k)) d) (λ d. true) b 0 b g loose-all (omega arith)) m)

pub names-step : (names : List Name) (ts : List ValueTree) (ns next : List ℕ) (k a b r : ℕ) → next ≡ ns ++ k ∷ [] → all_pass (marked names a) ts ns ≡ true → value_passes (the_value (slice_get ts k)) (marked names b) ≡ true → r ≡ bit_or a b → all_pass (marked names r) ts next ≡ true
names-step names ts ns next k a b r e h g m =
    let q = marked names (bit_or a b) in
    (λ i. all_pass (marked names (m i)) ts (e i)) ∙ all_pass-append q ts ns (k ∷ [])
    ∙ (λ i. all-weaker names a (bit_or a b) ts ns (or-left a b) h i && (value-weaker (marked names b) q (marked-more names names b (bit_or a b) (same-names names) (or-right a b)) (the_value (slice_get ts k)) g i && true))

-- ---- the facts of a table

pub facts-push : (p : Pools) (vs : List ValueTree) (fs : List Facts) (v : ValueTree) (f : Facts) → AllFacts p vs fs → AreFacts p v f → AllFacts p (vs ++ v ∷ []) (fs ++ f ∷ [])
facts-push p [] [] v f h g = (g, tt)
facts-push p [] (k ∷ fs) v f h g = absurd h
facts-push p (w ∷ vs) [] v f h g = absurd h
facts-push p (w ∷ vs) (k ∷ fs) v f h g = (h.0, facts-push p vs fs v f h.1 g)

pub facts-grow : (p q : Pools) → Grows p.names q.names → (vs : List ValueTree) (fs : List Facts) → AllFacts p vs fs → AllFacts q vs fs
facts-grow p q g [] [] h = tt
facts-grow p q g [] (k ∷ fs) h = absurd h
facts-grow p q g (w ∷ vs) [] h = absurd h
facts-grow p q g (w ∷ vs) (k ∷ fs) h = (
  record {
    extent = h.0.extent;
    loose = h.0.loose;
    turn = h.0.turn;
    names = value-weaker (marked p.names k.names) (marked q.names k.names) (marked-more p.names q.names k.names k.names g (λ i e. e)) w h.0.names;
  },
  facts-grow p q g vs fs h.1,
)

pub facts-at : (p : Pools) (vs : List ValueTree) (fs : List Facts) (n : ℕ) (f : Facts) → AllFacts p vs fs → slice_get fs n ≡ Some f → AreFacts p (the_value (slice_get vs n)) f
unfolding the_value
facts-at p [] [] n f h e = absurd (cc)
facts-at p [] (k ∷ fs) n f h e = absurd h
facts-at p (w ∷ vs) [] n f h e = absurd h
facts-at p (w ∷ vs) (k ∷ fs) zero f h e = let same : k ≡ f = cc in subst (λ (z : Facts). AreFacts p w z) same h.0
facts-at p (w ∷ vs) (k ∷ fs) (suc n) f h e = facts-at p vs fs n f h.1 e

-- a name without its bit stands nowhere
pub none-held : (names : List Name) (bits n : ℕ) (x : Name) (v : ValueTree) → ((i : ℕ) → slice_get names i ≡ Some x → i ≡ n) → (bit_at bits (n % 64) ≡ 1 → ⊥) → value_passes v (marked names bits) ≡ true → value_passes v (λ y s. not (name_equal y x)) ≡ true
none-held names bits n x v only unset h = value-weaker (marked names bits) (λ y s. not (name_equal y x)) (λ y u m. by y (marked-found bits 0 names y m) (name_equal y x) refl) v h
  where
    by : (y : Name) → Marks bits 0 names y → (b : Bool) → name_equal y x ≡ b → not b ≡ true
    by y found false e = refl
    by y found true e =
        let same : y ≡ x = name_equal-true y x e in
        let number : found.number ≡ n = only found.number (found.at ∙ ap (λ z. Some z) same) in
        let back : n ≡ 0 + found.number = omega arith in
        absurd (unset (ap (λ z. bit_at bits (z % 64)) back ∙ found.bit))

pub only-one : (keys names : List Name) (n : ℕ) (x : Name) → IsDistinct name.ghosts.eq keys → keys ≡ names → slice_get names n ≡ Some x → (i : ℕ) → slice_get names i ≡ Some x → i ≡ n
only-one keys names n x apart same at i here =
    let found : (k : ℕ) → slice_get names k ≡ Some x → position_or_len (name.ghosts.eq x) keys ≡ k = λ k e. position-is name.ghosts.eq name_eq-true name_eq-same keys k x apart (ap (λ l. slice_get l k) same ∙ e) in
    sym (found i here) ∙ found n at

pub bit-unset : (b : Bool) (bits n : ℕ) → b ≡ false → IsTrue b ↔ (bit_at bits (n % 64) ≡ 1) → bit_at bits (n % 64) ≡ 1 → ⊥
bit-unset true bits n e h one = true≢false e
bit-unset false bits n e h one = true≢false (sym (h.1 one))
