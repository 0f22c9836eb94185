-- Steps, literals over nodes and places of lists.
use Rattle.std.proofs.Common.{◌≡◌, refl, sym, ap, ◌∙◌, subst, ℕ, zero, suc, ◌+◌, ◌<◌, arith, List, [], ◌∷◌, ◌++◌, length, take, drop, map, get_or, ◌⊎◌, inl, inr, Option, Some, None, slice_get, ◌↔◌, true}
use Rattle.std.proofs.lemmas.Option.{slice_get_within, same_Some}
use Rattle.jh_form.specs.Tree.{ValueTree}
use Rattle.jh_closure.specs.structures.Literals.{LiteralTree, IsListed, AreListed}
use Rattle.jh_closure.specs.congruence_closure.Nodes.{Has}
use Rattle.jh_closure.proofs.congruence_closure.Having.{has-at, has-pushed}
use Rattle.jh_arena.specs.table.Growth.{AreDifferent}
use Rattle.jh_propagation.specs.declared.trail.decided.Decided.{Decided}
use Rattle.jh_propagation.specs.trail.Listing.{decided, IsUndecided, DecideOnce, picked, one_more}
use Rattle.jh_propagation.specs.trail.Saying.{literal_tree_at, literals_at, IsTruth}
use Rattle.jh_propagation.proofs.trail.Listed.{has-listed, one-truth}
use Rattle.jh_explanations.specs.declared.step.Step.{Step}
use Rattle.jh_explanations.specs.Steps.{literals_of, trees_of, AreMarked}
use Rattle.jh_explanations.specs.Resting.{HoldAt}

-- what stands at a place of a list with one more, and of the first of a list
pub slice-pushed : {X : Type 0} (xs : List X) (y v : X) (n : ℕ) → slice_get (xs ++ y ∷ []) n ≡ Some v → (slice_get xs n ≡ Some v) ⊎ ((n ≡ length xs) × (y ≡ v))
slice-pushed [] y v zero h = inr (refl, same_Some y v h)
slice-pushed [] y v (suc n) h = absurd (let l : n < 0 = slice_get_within [] n v h in omega (arith, l))
slice-pushed (x ∷ xs) y v zero h = inl h
slice-pushed (x ∷ xs) y v (suc n) h = elim (slice-pushed xs y v n h) [ inl l ↦ inl l | inr r ↦ inr (ap suc r.0, r.1) ]

pub slice-taken : {X : Type 0} (c : ℕ) (xs : List X) (n : ℕ) (x : X) → slice_get (take c xs) n ≡ Some x → slice_get xs n ≡ Some x
slice-taken zero xs n x e = absurd (let l : n < 0 = slice_get_within [] n x e in omega (arith, l))
slice-taken (suc c) [] n x e = e
slice-taken (suc c) (y ∷ xs) zero x e = e
slice-taken (suc c) (y ∷ xs) (suc n) x e = slice-taken c xs n x e

pub mapped : {X Y : Type 0} (f : X → Y) (xs : List X) (y : X) → map f (xs ++ y ∷ []) ≡ map f xs ++ f y ∷ []
mapped f [] y = refl
mapped f (x ∷ xs) y = ap (λ zs. f x ∷ zs) (mapped f xs y)

-- literals over nodes
pub all-listed : (ts : List ValueTree) (ks ls : List Decided) → ((d : Decided) → Has ls d → Has ks d) → AreListed (literals_at ts ks) (literals_at ts ls)
all-listed ts ks [] f = tt
all-listed ts ks (d ∷ ls) f = (has-listed ts ks d (f d (inl refl)), all-listed ts ks ls (λ e h. f e (inr h)))

-- What is listed stands in the list, where all are over formulas.
pub listed-stands : (ts : List ValueTree) → AreDifferent ts → (ds : List Decided) (d : Decided) → ((e : Decided) → Has ds e → IsTruth ts e.atom) → IsTruth ts d.atom → IsListed (literals_at ts ds) (literal_tree_at ts d) → Has ds d
listed-stands ts different [] d all here h = absurd h
listed-stands ts different (e ∷ ds) d all here (inl same) =
    inl (λ i. record { atom = (one-truth ts different e.atom d.atom (all e (inl refl)) here (ap (λ (z : LiteralTree). z.atom) same)) i; holds = (ap (λ (z : LiteralTree). z.holds) same) i })
listed-stands ts different (e ∷ ds) d all here (inr h) = inr (listed-stands ts different ds d (λ c g. all c (inr g)) here h)

pub same-tree : (ts : List ValueTree) → AreDifferent ts → (d e : Decided) → IsTruth ts d.atom → IsTruth ts e.atom → literal_tree_at ts d ≡ literal_tree_at ts e → d ≡ e
same-tree ts different d e h k same = λ i. record { atom = (one-truth ts different d.atom e.atom h k (ap (λ (z : LiteralTree). z.atom) same)) i; holds = (ap (λ (z : LiteralTree). z.holds) same) i }

one-held : (trail : List Decided) (n : ℕ) (rest ks : List Decided) (e : Decided) → ((d : Decided) → slice_get trail n ≡ Some d → Has ks d) → (Has rest e → Has ks e) → (o : Option Decided) → slice_get trail n ≡ o → Has (one_more o rest) e → Has ks e
one-held trail n rest ks e here later (Some x) at (inl same) = here e (at ∙ ap Some same)
one-held trail n rest ks e here later (Some x) at (inr k) = later k
one-held trail n rest ks e here later None at k = later k

pub picked-held : (trail : List Decided) (ns : List ℕ) (ks : List Decided) → HoldAt trail ns ks → (e : Decided) → Has (picked trail ns) e → Has ks e
picked-held trail [] ks h e g = absurd g
picked-held trail (n ∷ ns) ks h e g = one-held trail n (picked trail ns) ks e (λ d at. h n d (inl refl) at) (picked-held trail ns ks (λ m d there. h m d (inr there)) e) (slice_get trail n) refl g

-- one more literal on another atom
on-atom : (d x : Decided) → d.atom ≡ x.atom → d ≡ decided x.atom d.holds
on-atom d x e = λ i. record { atom = e i; holds = d.holds }

pub once-more : (ds : List Decided) (x : Decided) → DecideOnce ds → IsUndecided ds x.atom → DecideOnce (ds ++ x ∷ [])
once-more ds x h new p q d e at_p at_q same = elim (slice-pushed ds x d p at_p) [
  | inl a ↦ elim (slice-pushed ds x e q at_q) [
    | inl b ↦ h p q d e a b same
    | inr b ↦ absurd (new d.holds (subst (Has ds) (on-atom d x (same ∙ ap (λ (z : Decided). z.atom) (sym b.1))) (has-at ds p d a)))
  ]
  | inr a ↦ elim (slice-pushed ds x e q at_q) [
    | inl b ↦ absurd (new e.holds (subst (Has ds) (on-atom e x (sym same ∙ ap (λ (z : Decided). z.atom) (sym a.1))) (has-at ds q e b)))
    | inr b ↦ a.0 ∙ sym b.0
  ]
]

-- steps
pub literals-more : (ss : List Step) (s : Step) → literals_of (ss ++ s ∷ []) ≡ literals_of ss ++ s.literal ∷ []
literals-more ss s = mapped (λ (z : Step). z.literal) ss s

pub trees-more : (ts : List ValueTree) (ss : List Step) (s : Step) → trees_of ts (ss ++ s ∷ []) ≡ trees_of ts ss ++ literal_tree_at ts s.literal ∷ []
trees-more ts ss s = ap (literals_at ts) (literals-more ss s) ∙ mapped (literal_tree_at ts) (literals_of ss) s.literal

pub mapped-all : {X Y : Type 0} (f : X → Y) (xs ys : List X) → map f (xs ++ ys) ≡ map f xs ++ map f ys
mapped-all f [] ys = refl
mapped-all f (x ∷ xs) ys = ap (λ zs. f x ∷ zs) (mapped-all f xs ys)

pub trees-both : (ts : List ValueTree) (ss rs : List Step) → trees_of ts (ss ++ rs) ≡ trees_of ts ss ++ trees_of ts rs
trees-both ts ss rs = ap (literals_at ts) (mapped-all (λ (z : Step). z.literal) ss rs) ∙ mapped-all (literal_tree_at ts) (literals_of ss) (literals_of rs)

pub has-literal : (ss : List Step) (s : Step) → Has ss s → Has (literals_of ss) s.literal
has-literal [] s h = absurd h
has-literal (r ∷ ss) s (inl e) = inl (ap (λ (z : Step). z.literal) e)
has-literal (r ∷ ss) s (inr h) = inr (has-literal ss s h)

pub record HasStep (ss : List Step) (d : Decided) : Type 0 where
  pub step : Step
  pub there : Has ss step
  pub literal : step.literal ≡ d

pub literal-step : (ss : List Step) (d : Decided) → Has (literals_of ss) d → HasStep ss d
literal-step [] d h = absurd h
literal-step (s ∷ ss) d (inl e) = record { step = s; there = inl refl; literal = e }
literal-step (s ∷ ss) d (inr h) = let r = literal-step ss d h in record { step = r.step; there = inr r.there; literal = r.literal }

pub slice-literal : (ss : List Step) (n : ℕ) (s : Step) → slice_get ss n ≡ Some s → slice_get (literals_of ss) n ≡ Some s.literal
slice-literal [] n s e = absurd (let l : n < 0 = slice_get_within [] n s e in omega (arith, l))
slice-literal (r ∷ ss) zero s e = ap (λ (z : Step). Some z.literal) (same_Some r s e)
slice-literal (r ∷ ss) (suc n) s e = slice-literal ss n s e

pub marked-more : (ds : List Decided) (ss : List Step) (s : Step) → AreMarked ds ss → (s.is_decision ≡ true) ↔ Has ds s.literal → AreMarked ds (ss ++ s ∷ [])
marked-more ds ss s h one r g = elim (has-pushed ss s r g) [
  | inl old ↦ h r old
  | inr e ↦ subst (λ (z : Step). (z.is_decision ≡ true) ↔ Has ds z.literal) e one
]

-- what is at a place of a list stands in it
pub has-get : {X : Type 0} (xs : List X) (i : ℕ) (d : X) → i < length xs → Has xs (get_or xs i d)
has-get [] i d lt = absurd (omega (arith, lt))
has-get (x ∷ xs) zero d lt = inl refl
has-get (x ∷ xs) (suc i) d lt = inr (has-get xs i d (omega (arith, lt)))

pub drop-next : {X : Type 0} (xs : List X) (n : ℕ) (x : X) → slice_get xs n ≡ Some x → drop n xs ≡ x ∷ drop (n + 1) xs
drop-next [] n x e = absurd (let l : n < 0 = slice_get_within [] n x e in omega (arith, l))
drop-next (y ∷ xs) zero x e = ap (λ z. z ∷ xs) (same_Some y x e)
drop-next (y ∷ xs) (suc n) x e =
    let more : suc n + 1 ≡ suc (n + 1) = omega arith in
    drop-next xs n x e ∙ ap (λ k. x ∷ drop k (y ∷ xs)) (sym more)
