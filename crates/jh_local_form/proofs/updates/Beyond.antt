-- The first turn beyond those of the free names of formulas.
use Rattle.std.proofs.Common.{◌≡◌, refl, sym, ap, subst, ◌∙◌, ℕ, suc, ◌+◌, ◌<◌, ◌≤◌, max, nat_lt, Bool, true, inl, inr, List, [], ◌∷◌, ◌++◌, take, length, slice_get, Some, arith}
use Rattle.std.specs.List.{flat_map}
use Rattle.std.proofs.lemmas.Bool.{lt-ltb, ltb-true}
use Rattle.std.proofs.lemmas.Grind.{flat_map-append}
use Rattle.std.proofs.lemmas.List.{append-nil, take_all}
use Rattle.jh_form.specs.Tree.{FormulaTree, ValueTree, of_truth}
use Rattle.jh_form.specs.Tree as t
use Rattle.jh_form.specs.Passing.{term_passes, int_passes, set_passes, field_passes, formula_passes, value_passes}
use Rattle.jh_arena.specs.table.Entries.{Listing, the_value}
use Rattle.jh_arena.specs.table.Facing.{IsLeast, turn_below}
use Rattle.jh_arena.specs.table.Nodes.{nodes}
use Rattle.jh_normal_forms.specs.parts.Standing.{formula_parts}
use Rattle.jh_normal_forms.specs.declared.parts.order.Order.TheVariants as order
use Rattle.jh_reach.specs.Standing.{AreFormulas}
use Rattle.jh_reach.proofs.Standings.{formula-of, formulas-length}
use Rattle.jh_fca.specs.local_form.Named.{turn_after, turn_behind, all_parts, first_turn}
use Rattle.jh_fca.proofs.local_form.Among.{Among}
use Rattle.jh_fca.proofs.local_form.PartNames.{own_passes, formula-own, formula-pass}
use Rattle.jh_local_form.proofs.updates.Places.{take-next}

turn-within : (v : ValueTree) (vs : List ValueTree) → Among v vs → turn_after v ≤ turn_behind vs
unfolding turn_behind
turn-within v [] h = absurd h
turn-within v (w ∷ vs) (inl e) = let same : turn_after w ≡ turn_after v = ap turn_after e in omega (arith, same)
turn-within v (w ∷ vs) (inr h) = let le : turn_after v ≤ turn_behind vs = turn-within v vs h in omega (arith, le)

own-below : (v : ValueTree) (k : ℕ) → turn_after v ≤ k → own_passes (turn_below k) v ≡ true
unfolding turn_after own_passes
own-below (t.of_object (t.free_object x)) k h = lt-ltb x.turn k (omega (arith, h))
own-below (t.of_number (t.free_number x)) k h = lt-ltb x.turn k (omega (arith, h))
own-below (t.of_truth (t.free_truth x)) k h = lt-ltb x.turn k (omega (arith, h))
own-below (t.of_set (t.free_set x)) k h = lt-ltb x.turn k (omega (arith, h))
own-below (t.of_field (t.free_field x)) k h = lt-ltb x.turn k (omega (arith, h))
own-below v k h = refl

-- the turn after that of a free name that passes
after-below : (v : ValueTree) (k : ℕ) → value_passes v (turn_below k) ≡ true → turn_after v ≤ k
unfolding turn_after value_passes term_passes int_passes set_passes field_passes formula_passes
after-below (t.of_object (t.free_object x)) k h = let lt : x.turn < k = ltb-true x.turn k h in omega (arith, lt)
after-below (t.of_number (t.free_number x)) k h = let lt : x.turn < k = ltb-true x.turn k h in omega (arith, lt)
after-below (t.of_truth (t.free_truth x)) k h = let lt : x.turn < k = ltb-true x.turn k h in omega (arith, lt)
after-below (t.of_set (t.free_set x)) k h = let lt : x.turn < k = ltb-true x.turn k h in omega (arith, lt)
after-below (t.of_field (t.free_field x)) k h = let lt : x.turn < k = ltb-true x.turn k h in omega (arith, lt)
after-below v k h = omega arith

all-below : (k : ℕ) (vs : List ValueTree) → ((v : ValueTree) → Among v vs → turn_after v ≤ k) → turn_behind vs ≤ k
unfolding turn_behind
all-below k [] h = omega arith
all-below k (v ∷ vs) h =
    let here : turn_after v ≤ k = h v (inl refl) in
    let rest : turn_behind vs ≤ k = all-below k vs (λ w m. h w (inr m)) in
    omega (arith, here, rest)

-- the least turn beyond those of a formula
pub least-behind : (a : FormulaTree) (r : ℕ) → IsLeast (λ n. formula_passes a (turn_below n)) r → r ≡ turn_behind (formula_parts a order.InnerFirst)
least-behind a r h =
    let parts = formula_parts a order.InnerFirst in
    let low : r ≤ turn_behind parts = h.least (turn_behind parts) (formula-own (turn_below (turn_behind parts)) a (λ v m. own-below v (turn_behind parts) (turn-within v parts m))) in
    let high : turn_behind parts ≤ r = all-below r parts (λ v m. after-below v r (formula-pass (turn_below r) a (h.closed r (omega arith)) v m)) in
    omega (arith, low, high)

behind-append : (xs ys : List ValueTree) → turn_behind (xs ++ ys) ≡ max (turn_behind xs) (turn_behind ys)
unfolding turn_behind
behind-append [] ys = omega arith
behind-append (x ∷ xs) ys = let rest = behind-append xs ys in omega (arith, rest)

turn-one : (a : FormulaTree) → first_turn (a ∷ []) ≡ turn_behind (formula_parts a order.InnerFirst)
turn-one a = ap turn_behind (append-nil (formula_parts a order.InnerFirst))

first-append : (facts : List FormulaTree) (a : FormulaTree) → first_turn (facts ++ a ∷ []) ≡ max (first_turn facts) (turn_behind (formula_parts a order.InnerFirst))
first-append facts a =
    ap turn_behind (flat_map-append (λ b. formula_parts b order.InnerFirst) facts (a ∷ [])) ∙ behind-append (all_parts facts) (all_parts (a ∷ [])) ∙ ap (max (first_turn facts)) (turn-one a)

-- the tree at a node, as the least turn speaks of it
least-at : (t : Listing) (n : ℕ) (a : FormulaTree) (r : ℕ) → slice_get (nodes t) n ≡ Some (of_truth a) → IsLeast (λ k. value_passes (the_value (slice_get (nodes t) n)) (turn_below k)) r → IsLeast (λ k. formula_passes a (turn_below k)) r
unfolding the_value value_passes
least-at t n a r at h = record {
  closed = λ d le. sym (ap (λ o. value_passes (the_value o) (turn_below d)) at) ∙ h.closed d le;
  least = λ d e. h.least d (ap (λ o. value_passes (the_value o) (turn_below d)) at ∙ e);
}

-- one more formula
pub turn-next : (t : Listing) (ns : List ℕ) (facts : List FormulaTree) (i n r first : ℕ) → AreFormulas t ns facts → slice_get ns i ≡ Some n → IsLeast (λ k. value_passes (the_value (slice_get (nodes t) n)) (turn_below k)) r →
    first ≡ first_turn (take i facts) → max r first ≡ first_turn (take (i + 1) facts)
turn-next t ns facts i n r first are at least e =
    let there = formula-of t ns facts i n are at in
    let turn : r ≡ turn_behind (formula_parts there.0 order.InnerFirst) = least-behind there.0 r (least-at t n there.0 r there.2 least) in
    let whole : first_turn (take (i + 1) facts) ≡ max (first_turn (take i facts)) (turn_behind (formula_parts there.0 order.InnerFirst)) = ap first_turn (take-next facts i there.0 there.1) ∙ first-append (take i facts) there.0 in
    omega (arith, turn, e, whole)

pub turn-all : (t : Listing) (ns : List ℕ) (facts : List FormulaTree) (i first : ℕ) → AreFormulas t ns facts → length ns ≤ i → first ≡ first_turn (take i facts) → first ≡ first_turn facts
turn-all t ns facts i first are past e =
    let count = formulas-length t ns facts are in
    e ∙ ap first_turn (take_all i facts (omega (arith, count, past)))
