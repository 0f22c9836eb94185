-- The names that are reached from some are closed: each fact that shares a name with them is among them.
use Rattle.std.proofs.Common.{◌≡◌, refl, sym, ap, ◌∙◌, ℕ, zero, suc, ◌+◌, ◌<◌, ◌≤◌, Bool, true, false, not, ◌&&◌, ◌||◌, if◌then◌else◌, List, [], ◌∷◌, ◌++◌, length, arith, ◌⊎◌, inl, inr}
use Rattle.std.specs.List.{list_any, list_all, flat_map}
use Rattle.std.proofs.lemmas.Bool.{true≢false}
use Rattle.jh_form.specs.Tree.{ValueTree}
use Rattle.jh_boxed_operations.specs.comparison.Exchanged.{equal_trees}
use Rattle.jh_boxed_operations.proofs.comparison.Equalities.{equal_trees-true, equal_trees-same}
use Rattle.jh_approx.specs.definition.Links.{shares, reached}
use Rattle.jh_approx.proofs.definition.Counts.{sure, first, second}

-- the name is in the list
abbrev pub has : List ValueTree → ValueTree → Bool
has vs v = list_any (equal_trees v) vs

-- each name of the first list is in the second
abbrev pub Within : List ValueTree → List ValueTree → Type 0
Within xs ys = (v : ValueTree) → has xs v ≡ true → has ys v ≡ true

either : (p q : Bool) → (p || q) ≡ true → (p ≡ true) ⊎ (q ≡ true)
either true q h = inl refl
either false q h = inr h

in-front : (p q : Bool) → p ≡ true → (p || q) ≡ true
in-front p q h = λ i. h i || q

behind : (p q : Bool) → q ≡ true → (p || q) ≡ true
behind true q h = refl
behind false q h = h

pub has-append : (xs ys : List ValueTree) (v : ValueTree) → has (xs ++ ys) v ≡ true → (has xs v ≡ true) ⊎ (has ys v ≡ true)
has-append [] ys v h = inr h
has-append (x ∷ xs) ys v h =
    elim (either (equal_trees v x) (has (xs ++ ys) v) h) [
      | inl e ↦ inl (in-front (equal_trees v x) (has xs v) e)
      | inr k ↦ elim (has-append xs ys v k) [ inl l ↦ inl (behind (equal_trees v x) (has xs v) l) | inr r ↦ inr r ]
    ]

pub has-left : (xs ys : List ValueTree) → Within xs (xs ++ ys)
has-left [] ys v h = absurd (true≢false (sym h))
has-left (x ∷ xs) ys v h =
    elim (either (equal_trees v x) (has xs v) h) [
      | inl e ↦ in-front (equal_trees v x) (has (xs ++ ys) v) e
      | inr k ↦ behind (equal_trees v x) (has (xs ++ ys) v) (has-left xs ys v k)
    ]

has-right : (xs ys : List ValueTree) → Within ys (xs ++ ys)
has-right [] ys v h = h
has-right (x ∷ xs) ys v h = behind (equal_trees v x) (has (xs ++ ys) v) (has-right xs ys v h)

-- ---- what lists share

pub some-shared : (vs ws : List ValueTree) → shares vs ws ≡ true → (v : ValueTree) × (has vs v ≡ true) × (has ws v ≡ true)
unfolding shares
some-shared [] ws h = absurd (true≢false (sym h))
some-shared (v ∷ vs) ws h =
    elim (either (has ws v) (shares vs ws) h) [
      | inl e ↦ (v, in-front (equal_trees v v) (has vs v) (equal_trees-same v v refl), e)
      | inr k ↦ let r = some-shared vs ws k in (r.0, behind (equal_trees r.0 v) (has vs r.0) r.1, r.2)
    ]

pub shared-some : (vs ws : List ValueTree) (v : ValueTree) → has vs v ≡ true → has ws v ≡ true → shares vs ws ≡ true
unfolding shares
shared-some [] ws v h k = absurd (true≢false (sym h))
shared-some (w ∷ vs) ws v h k =
    elim (either (equal_trees v w) (has vs v) h) [
      | inl e ↦ in-front (has ws w) (shares vs ws) (ap (has ws) (sym (equal_trees-true v w e)) ∙ k)
      | inr l ↦ behind (has ws w) (shares vs ws) (shared-some vs ws v l k)
    ]

pub shares-grow : (vs ws xs : List ValueTree) → Within ws xs → shares vs ws ≡ true → shares vs xs ≡ true
shares-grow vs ws xs h k = let r = some-shared vs ws k in shared-some vs xs r.0 r.1 (h r.0 r.2)

-- ---- a round

abbrev pub linked : List ValueTree → List ValueTree → List ValueTree
linked known vs = if shares vs known then vs else []

abbrev pub round : List (List ValueTree) → List ValueTree → List ValueTree
round facts known = known ++ flat_map (linked known) facts

-- each fact that shares a name with those that are known is among them
abbrev pub Closed : List (List ValueTree) → List ValueTree → Type 0
Closed [] known = Unit {0}
Closed (vs ∷ facts) known = (shares vs known ≡ true → Within vs known) × Closed facts known

closed-same : (facts : List (List ValueTree)) (known more : List ValueTree) → Within known more → Within more known → Closed facts known → Closed facts more
closed-same [] known more h k c = tt
closed-same (vs ∷ facts) known more h k c = (λ s v l. h v (c.0 (shares-grow vs more known k s) v l), closed-same facts known more h k c.1)

chosen-within : (b : Bool) (vs known : List ValueTree) → (b ≡ true → Within vs known) → Within (if b then vs else []) known
chosen-within true vs known h v k = h refl v k
chosen-within false vs known h v k = absurd (true≢false (sym k))

added-within : (facts : List (List ValueTree)) (known : List ValueTree) → Closed facts known → Within (flat_map (linked known) facts) known
added-within [] known c v h = absurd (true≢false (sym h))
added-within (vs ∷ facts) known c v h =
    elim (has-append (linked known vs) (flat_map (linked known) facts) v h) [
      | inl l ↦ chosen-within (shares vs known) vs known c.0 v l
      | inr r ↦ added-within facts known c.1 v r
    ]

round-within : (facts : List (List ValueTree)) (known : List ValueTree) → Closed facts known → Within (round facts known) known
round-within facts known c v h = elim (has-append known (flat_map (linked known) facts) v h) [ inl l ↦ l | inr r ↦ added-within facts known c v r ]

-- what is known is reached
pub reached-grows : (n : ℕ) (facts : List (List ValueTree)) (known : List ValueTree) → Within known (reached n facts known)
unfolding reached
reached-grows zero facts known v h = h
reached-grows (suc n) facts known v h = reached-grows n facts (round facts known) v (has-left known (flat_map (linked known) facts) v h)

-- where no fact is left out, nothing more is reached
closed-reached : (n : ℕ) (facts : List (List ValueTree)) (known : List ValueTree) → Closed facts known → Within (reached n facts known) known
unfolding reached
closed-reached zero facts known c v h = h
closed-reached (suc n) facts known c v h =
    round-within facts known c v
    (closed-reached n facts (round facts known) (closed-same facts known (round facts known) (has-left known (flat_map (linked known) facts)) (round-within facts known c) c) v h)

-- ---- each round that isn't the last takes in a fact

is_within : List ValueTree → List ValueTree → Bool
is_within vs known = list_all (has known) vs

within-true : (vs known : List ValueTree) → is_within vs known ≡ true → Within vs known
unfolding is_within
within-true [] known h v k = absurd (true≢false (sym k))
within-true (w ∷ vs) known h v k =
    elim (either (equal_trees v w) (has vs v) k) [
      | inl e ↦ ap (has known) (equal_trees-true v w e) ∙ first (has known w) (is_within vs known) h
      | inr l ↦ within-true vs known (second (has known w) (is_within vs known) h) v l
    ]

true-within : (vs known : List ValueTree) → Within vs known → is_within vs known ≡ true
unfolding is_within
true-within [] known h = refl
true-within (w ∷ vs) known h = λ i. h w (in-front (equal_trees w w) (has vs w) (equal_trees-same w w refl)) i && true-within vs known (λ v k. h v (behind (equal_trees v w) (has vs v) k)) i

is_closed : List (List ValueTree) → List ValueTree → Bool
is_closed facts known = list_all (λ vs. not (shares vs known) || is_within vs known) facts

left_true : (p q : Bool) → (not p || q) ≡ true → p ≡ true → q ≡ true
left_true true q h e = h
left_true false q h e = absurd (true≢false (sym e))

closed-true : (facts : List (List ValueTree)) (known : List ValueTree) → is_closed facts known ≡ true → Closed facts known
unfolding is_closed
closed-true [] known h = tt
closed-true (vs ∷ facts) known h =
    let here = first (not (shares vs known) || is_within vs known) (is_closed facts known) h in
    (λ s. within-true vs known (left_true (shares vs known) (is_within vs known) here s), closed-true facts known (second (not (shares vs known) || is_within vs known) (is_closed facts known) h))

-- how many facts aren't taken in
abbrev out : Bool → ℕ
out b = if b then 0 else 1

abbrev left_out : List (List ValueTree) → List ValueTree → ℕ
left_out [] known = 0
left_out (vs ∷ facts) known = out (is_within vs known) + left_out facts known

left_out-most : (facts : List (List ValueTree)) (known : List ValueTree) → left_out facts known ≤ length facts
left_out-most [] known = omega arith
left_out-most (vs ∷ facts) known = let h = left_out-most facts known in let k = most (is_within vs known) in omega (arith, h, k)
  where
    most : (b : Bool) → out b ≤ 1
    most true = omega arith
    most false = omega arith

fewer : (b c : Bool) → (b ≡ true → c ≡ true) → out c ≤ out b
fewer true c h = let e : out c ≡ 0 = ap out (h refl) in omega (arith, e)
fewer false true h = omega arith
fewer false false h = omega arith

within-grows : (vs known more : List ValueTree) → Within known more → is_within vs known ≡ true → is_within vs more ≡ true
within-grows vs known more h k = true-within vs more (λ v l. h v (within-true vs known k v l))

left_out-falls : (facts : List (List ValueTree)) (known more : List ValueTree) → Within known more → left_out facts more ≤ left_out facts known
left_out-falls [] known more h = omega arith
left_out-falls (vs ∷ facts) known more h =
    let here = fewer (is_within vs known) (is_within vs more) (within-grows vs known more h) in
    let rest = left_out-falls facts known more h in
    omega (arith, here, rest)

-- each fact that shares a name with those that are known is taken in
abbrev Takes : List (List ValueTree) → List ValueTree → List ValueTree → Type 0
Takes [] known more = Unit {0}
Takes (vs ∷ facts) known more = (shares vs known ≡ true → is_within vs more ≡ true) × Takes facts known more

chosen-whole : (b : Bool) (vs more : List ValueTree) → Within (if b then vs else []) more → b ≡ true → Within vs more
chosen-whole true vs more h e = h
chosen-whole false vs more h e = absurd (true≢false (sym e))

round-takes : (facts : List (List ValueTree)) (known more : List ValueTree) → Within (flat_map (linked known) facts) more → Takes facts known more
round-takes [] known more h = tt
round-takes (vs ∷ facts) known more h = (
  λ s. true-within vs more (chosen-whole (shares vs known) vs more (λ v k. h v (has-left (linked known vs) (flat_map (linked known) facts) v k)) s),
  round-takes facts known more (λ v k. h v (has-right (linked known vs) (flat_map (linked known) facts) v k)),
)

apart : (s w x : Bool) (a b : ℕ) → (not s || w) ≡ false → (s ≡ true → x ≡ true) → a ≤ b → out x + a < out w + b
apart true true x a b h k l = absurd (true≢false h)
apart true false x a b h k l = let e : out x ≡ 0 = ap out (k refl) in omega (arith, e, l)
apart false w x a b h k l = absurd (true≢false h)

front_true : (p q : Bool) → (p && q) ≡ false → p ≡ true → q ≡ false
front_true true q h e = h
front_true false q h e = absurd (true≢false (sym e))

left_out-less : (facts : List (List ValueTree)) (known more : List ValueTree) → Within known more → Takes facts known more → is_closed facts known ≡ false → left_out facts more < left_out facts known
unfolding is_closed
left_out-less [] known more h t c = absurd (true≢false c)
left_out-less (vs ∷ facts) known more h t c =
    elim (sure (not (shares vs known) || is_within vs known)) [
      | inl e ↦
          let here = fewer (is_within vs known) (is_within vs more) (within-grows vs known more h) in
          let rest = left_out-less facts known more h t.1 (front_true (not (shares vs known) || is_within vs known) (is_closed facts known) c e) in
          omega (arith, here, rest)
      | inr e ↦ apart (shares vs known) (is_within vs known) (is_within vs more) (left_out facts more) (left_out facts known) e t.0 (left_out-falls facts known more h)
    ]

round-less : (facts : List (List ValueTree)) (known : List ValueTree) → is_closed facts known ≡ false → left_out facts (round facts known) < left_out facts known
round-less facts known c = left_out-less facts known (round facts known) (has-left known (flat_map (linked known) facts)) (round-takes facts known (round facts known) (has-right known (flat_map (linked known) facts))) c

closed-in : (n : ℕ) (facts : List (List ValueTree)) (known : List ValueTree) → left_out facts known ≤ n → Closed facts (reached n facts known)
unfolding reached
closed-in zero facts known h =
    elim (sure (is_closed facts known)) [
      | inl e ↦ closed-true facts known e
      | inr e ↦ let less = round-less facts known e in absurd (omega (arith, h, less))
    ]
closed-in (suc n) facts known h =
    elim (sure (is_closed facts known)) [
      | inl e ↦ closed-same facts known (reached (suc n) facts known) (reached-grows (suc n) facts known) (closed-reached (suc n) facts known (closed-true facts known e)) (closed-true facts known e)
      | inr e ↦ let less = round-less facts known e in closed-in n facts (round facts known) (omega (arith, h, less))
    ]

-- As many rounds as there are facts reach all that can be reached.
pub reached-closed : (facts : List (List ValueTree)) (known : List ValueTree) → Closed facts (reached (length facts) facts known)
reached-closed facts known = closed-in (length facts) facts known (left_out-most facts known)
