-- Nodes of a table tell their terms, so a term that is listed once is one of the first ones exactly where its place is.
use Rattle.std.proofs.Common.{◌≡◌, refl, sym, ap, ◌∙◌, ◌||◌, subst, ℕ, zero, suc, ◌<◌, ◌≤◌, arith, Bool, true, false, nat_eq, List, [], ◌∷◌, take, slice_get, Some}
use Rattle.std.specs.List.{list_any, IsDistinct, AllByRecursion}
use Rattle.std.proofs.lemmas.Bool.{true≢false, eqb-true, eq-eqb, ne_eqb}
use Rattle.jh_form.specs.Tree.{TermTree, ValueTree, of_object}
use Rattle.jh_boxed_operations.specs.comparison.Exchanged.{equal_trees}
use Rattle.jh_boxed_operations.proofs.comparison.Equalities.{equal_trees-true, equal_trees-same}
use Rattle.jh_arena.specs.table.Entries.{Listing}
use Rattle.jh_arena.specs.table.Growth.{AreDifferent}
use Rattle.jh_arena.specs.table.Nodes.{nodes}
use Rattle.jh_inst.specs.instances.Terms.{is_among}
use Rattle.jh_instantiation.specs.closed_terms.Listed.{AreTerms}
use Rattle.jh_instantiation.specs.skolem_constants.Standing.{IsTerm}
use Rattle.jh_instantiation.proofs.instances.Placing.{term-is, among-first}

-- two truths are equal where each follows from the other
both-ways : (p q : Bool) → (p ≡ true → q ≡ true) → (q ≡ true → p ≡ true) → p ≡ q
both-ways true q f g = sym (f refl)
both-ways false true f g = g refl
both-ways false false f g = refl

some-same : (v w : ValueTree) → Some v ≡ Some w → v ≡ w
some-same v w e = cc

module _ (t : Listing) (different : AreDifferent (nodes t)) where
  one-node : (n m : ℕ) (a b : TermTree) → slice_get (nodes t) n ≡ Some (of_object a) → slice_get (nodes t) m ≡ Some (of_object b) → nat_eq n m ≡ equal_trees (of_object a) (of_object b)
  one-node n m a b e f = both-ways (nat_eq n m) (equal_trees (of_object a) (of_object b))
      (λ h. equal_trees-same (of_object a) (of_object b) (some-same (of_object a) (of_object b) (sym e ∙ ap (slice_get (nodes t)) (eqb-true n m h) ∙ f)))
      (λ h. eq-eqb n m (different n m (of_object a) e (f ∙ ap (λ v. Some v) (sym (equal_trees-true (of_object a) (of_object b) h)))))

  among-nodes : (n : ℕ) (a : TermTree) (ns : List ℕ) (ts : List TermTree) → IsTerm t n a → AreTerms t ns ts → list_any (nat_eq n) ns ≡ is_among a ts
  among-nodes n a [] [] e h = refl
  among-nodes n a [] (b ∷ ts) e h = absurd h
  among-nodes n a (m ∷ ns) [] e h = absurd h
  among-nodes n a (m ∷ ns) (b ∷ ts) e h = λ i. one-node n m a b e h.0 i || among-nodes n a ns ts e h.1 i

  -- the place tells whether the term is one of the first ones
  pub new-term : (ns : List ℕ) (ts : List TermTree) (i k n : ℕ) (w : TermTree) (r : Bool) → AreTerms t ns ts → slice_get ns i ≡ Some n → slice_get ts i ≡ Some w → list_any (nat_eq n) (take k ns) ≡ r → is_among w (take k ts) ≡ r
  new-term ns ts i k n w r h e f g = among-first t among-nodes ns ts k n w h (term-is t ns ts i n w h e f) ∙ g

is-or : (a b : Bool) → a ≡ true → (a || b) ≡ true
is-or true b h = refl
is-or false b h = absurd (true≢false (sym h))

or-is : (a b : Bool) → b ≡ true → (a || b) ≡ true
or-is true b h = refl
or-is false b h = h

neither : (a b : Bool) → a ≡ false → b ≡ false → (a || b) ≡ false
neither true b h g = absurd (true≢false h)
neither false b h g = g

pub old-there : (ns : List ℕ) (i k n : ℕ) → slice_get ns i ≡ Some n → i < k → list_any (nat_eq n) (take k ns) ≡ true
old-there ns i zero n e h = absurd (omega (arith, h))
old-there [] i (suc k) n e h = absurd (cc)
old-there (m ∷ ns) zero (suc k) n e h =
    let same : m ≡ n = cc in
    is-or (nat_eq n m) (list_any (nat_eq n) (take k ns)) (eq-eqb n m (sym same))
old-there (m ∷ ns) (suc i) (suc k) n e h = or-is (nat_eq n m) (list_any (nat_eq n) (take k ns)) (old-there ns i k n e (omega (arith, h)))

all-at : (P : ℕ → Type 0) (ns : List ℕ) (i n : ℕ) → AllByRecursion P ns → slice_get ns i ≡ Some n → P n
all-at P [] i n h e = absurd (cc)
all-at P (m ∷ ns) zero n h e = let same : m ≡ n = cc in subst P same h.0
all-at P (m ∷ ns) (suc i) n h e = all-at P ns i n h.1 e

pub old-none : (ns : List ℕ) (i k n : ℕ) → IsDistinct nat_eq ns → slice_get ns i ≡ Some n → k ≤ i → list_any (nat_eq n) (take k ns) ≡ false
unfolding IsDistinct
old-none ns i zero n d e h = refl
old-none [] i (suc k) n d e h = absurd (cc)
old-none (m ∷ ns) zero (suc k) n d e h = absurd (omega (arith, h))
old-none (m ∷ ns) (suc i) (suc k) n d e h =
    let other : nat_eq m n ≡ false = all-at (λ y. nat_eq m y ≡ false) ns i n d.0 e in
    neither (nat_eq n m) (list_any (nat_eq n) (take k ns))
    (ne_eqb n m (λ same. true≢false (sym (eq-eqb m n (sym same)) ∙ other)))
    (old-none ns i k n d.1 e (omega (arith, h)))
