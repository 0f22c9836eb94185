-- Literals over nodes and over formulas in lists.
use Rattle.std.proofs.Common.{◌≡◌, refl, sym, ap, ◌∙◌, subst, ℕ, zero, suc, ◌+◌, ◌<◌, arith, add-one, List, [], ◌∷◌, ◌++◌, length, take, Some, None, Result, Ok, Err, IfOk, OnOk, Option, IfNone, IfSome, slice_get, ◌⊎◌, inl, inr}
use Rattle.std.proofs.lemmas.Option.{slice_get_within}
use Rattle.jh_form.specs.Tree.{ValueTree, of_truth}
use Rattle.jh_arena.specs.table.Growth.{AreDifferent}
use Rattle.jh_arena.proofs.table.Children.{it-is-truth}
use Rattle.jh_closure.specs.structures.Literals.{LiteralTree, IsListed}
use Rattle.jh_closure.specs.congruence_closure.Nodes.{Has}
use Rattle.jh_propagation.specs.declared.trail.decided.Decided.{Decided}
use Rattle.jh_propagation.specs.trail.Listing.{decided}
use Rattle.jh_propagation.specs.trail.Saying.{IsTruth, truth_at, literal_tree_at, literals_at}

pub has-listed : (ts : List ValueTree) (ds : List Decided) (d : Decided) → Has ds d → IsListed (literals_at ts ds) (literal_tree_at ts d)
has-listed ts [] d h = absurd h
has-listed ts (e ∷ ds) d (inl h) = inl (ap (literal_tree_at ts) h)
has-listed ts (e ∷ ds) d (inr h) = inr (has-listed ts ds d h)

-- a literal over formulas that is listed is that of one over nodes
pub listed-has : (ts : List ValueTree) (ds : List Decided) (l : LiteralTree) → IsListed (literals_at ts ds) l → (d : Decided) × (Has ds d × (literal_tree_at ts d ≡ l))
listed-has ts [] l h = absurd h
listed-has ts (d ∷ ds) l (inl e) = (d, (inl refl, e))
listed-has ts (d ∷ ds) l (inr h) = let r = listed-has ts ds l h in (r.0, (inr r.1.0, r.1.1))

-- two literals over nodes that are one over formulas are one
pub one-literal : (ts : List ValueTree) → AreDifferent ts → (d e : Decided) → IsTruth ts d.atom → IsTruth ts e.atom → literal_tree_at ts d ≡ literal_tree_at ts e → d ≡ e
one-literal ts different d e f g same = λ i. decided (atoms i) (ap (λ (z : LiteralTree). z.holds) same i)
  where
    atoms : d.atom ≡ e.atom
    atoms = different d.atom e.atom (of_truth (truth_at ts e.atom)) (it-is-truth _ f ∙ ap (λ (z : LiteralTree). Some (of_truth z.atom)) same) (it-is-truth _ g)

take-next : {X : Type 0} (xs : List X) (n : ℕ) (x y : X) → slice_get xs n ≡ Some x → Has (take (suc n) xs) y → Has (take n xs) y ⊎ (x ≡ y)
take-next [] n x y e h = absurd (let l : n < 0 = slice_get_within [] n x e in omega (arith, l))
take-next (z ∷ xs) zero x y e (inl f) = let g : z ≡ x = cc in inr (sym g ∙ f)
take-next (z ∷ xs) zero x y e (inr f) = absurd f
take-next (z ∷ xs) (suc n) x y e (inl f) = inl (inl f)
take-next (z ∷ xs) (suc n) x y e (inr h) = elim (take-next xs n x y e h) [ inl l ↦ inl (inr l) | inr r ↦ inr r ]

pub take-has : {X : Type 0} (xs : List X) (n : ℕ) (x y : X) → slice_get xs n ≡ Some x → Has (take (n + 1) xs) y → Has (take n xs) y ⊎ (x ≡ y)
take-has xs n x y e h = take-next xs n x y e (subst (λ k. Has (take k xs) y) (add-one n) h)

-- what stands at a place of a list with one more
pub slice-pushed : {X : Type 0} (xs : List X) (y v : X) (n : ℕ) → slice_get (xs ++ y ∷ []) n ≡ Some v → (slice_get xs n ≡ Some v) ⊎ ((n ≡ length xs) × (y ≡ v))
slice-pushed [] y v zero h = let e : y ≡ v = cc in inr (refl, e)
slice-pushed [] y v (suc n) h = absurd (let l : n < 0 = slice_get_within [] n v h in omega (arith, l))
slice-pushed (x ∷ xs) y v zero h = inl h
slice-pushed (x ∷ xs) y v (suc n) h = elim (slice-pushed xs y v n h) [ inl l ↦ inl l | inr r ↦ inr (ap suc r.0, r.1) ]

pub none-some : {X : Type 0} {x : X} → None ≡ Some x → ⊥
none-some e = absurd cc

-- what is made has both, and so what follows from both
pub both-ok : {X E : Type 0} {P Q R : X → Type 0} (r : Result X E) → ((x : X) → P x → Q x → R x) → IfOk r P → IfOk r Q → IfOk r R
both-ok (Ok x) f p q = f x p q
both-ok (Err e) f p q = tt

-- and what follows from four that hold where there was memory
pub four-ok : {X E P Q R S T : Type 0} (r : Result X E) → (P → Q → R → S → T) → OnOk r P → OnOk r Q → OnOk r R → OnOk r S → OnOk r T
four-ok (Ok x) f p q r s = f p q r s
four-ok (Err e) f p q r s = tt

-- what is said where nothing was found
pub none-so : {X : Type 0} {P : Type 0} (o : Option X) → o ≡ None → IfNone o P → P
none-so {P} o e h = subst (λ x. IfNone x P) e h

-- what is said of what was found
pub some-so : {X : Type 0} (P : X → Type 0) (o : Option X) (x : X) → o ≡ Some x → IfSome o P → P x
some-so P o x e h = subst (λ z. IfSome z P) e h
