-- What the trail and the classes have of the first steps of an explanation.
use Rattle.std.proofs.Common.{◌≡◌, refl, sym, ap, ◌∙◌, subst, ℕ, zero, suc, ◌+◌, ◌<◌, ◌≤◌, arith, Bool, true, false, not, List, [], ◌∷◌, ◌++◌, length, take, take_all, inl, inr, Some, slice_get}
use Rattle.std.proofs.Math.Seq.{take-append_seam}
use Rattle.std.proofs.lemmas.List.{append_assoc, append-nil}
use Rattle.std.proofs.lemmas.Option.{same_Some}
use Rattle.jh_form.specs.Tree.{FormulaTree, ValueTree}
use Rattle.jh_closure.specs.structures.Literals.{LiteralTree}
use Rattle.jh_closure.specs.congruence_closure.Nodes.{Has}
use Rattle.jh_arena.specs.table.Nodes.{nodes}
use Rattle.jh_cong.proofs.classes.Looking.{take-next}
use Rattle.jh_cong.specs.classes.Saying.{Asserted}
use Rattle.jh_models.specs.ground_models.Explanations.{GoesOn}
use Rattle.jh_models.specs.shortening.Steps.{MayStand}
use Rattle.jh_propagation.specs.declared.trail.decided.Decided.{Decided}
use Rattle.jh_propagation.specs.trail.Listing.{decided, DecideOnce, IsUndecided}
use Rattle.jh_propagation.specs.trail.Saying.{literal_tree_at}
use Rattle.jh_propagation.specs.declared.propagation.problem.Problem.{Problem}
use Rattle.jh_propagation.specs.propagation.Speaking.{AreSpoken}
use Rattle.jh_explanations.specs.declared.step.Step.{Step}
use Rattle.jh_explanations.specs.Keeping.{IsQuiet, IsReady}
use Rattle.jh_explanations.specs.Steps.{literals_of, trees_of}
use Rattle.jh_explanations.specs.Testing.{IsAsked}
use Rattle.jh_explanations.proofs.Falses.{clash-grows}
use Rattle.jh_explanations.proofs.Lists.{literals-more, slice-literal}
use Rattle.jh_explanations.proofs.Spoken.{spoken-long, spoken-taken}

take-less : {X : Type 0} (c n : ℕ) (xs : List X) → c ≤ n → take c (take n xs) ≡ take c xs
take-less zero n xs le = refl
take-less (suc c) zero xs le = absurd (omega (arith, le))
take-less (suc c) (suc n) [] le = refl
take-less (suc c) (suc n) (x ∷ xs) le = ap (λ ys. x ∷ ys) (take-less c n xs (omega (arith, le)))

has-first : {X : Type 0} (n : ℕ) (xs : List X) (x : X) → Has (take n xs) x → Has xs x
has-first zero xs x h = absurd h
has-first (suc n) [] x h = h
has-first (suc n) (y ∷ xs) x (inl e) = inl e
has-first (suc n) (y ∷ xs) x (inr h) = inr (has-first n xs x h)

-- classes and a trail that were taken back
pub rewound : (p : Problem) (old new : Asserted) (trail after : List Decided) (count : ℕ) → IsReady p old trail → count ≤ length old.said → new ≡ record { table = old.table; said = take count old.said } → after ≡ take count trail → IsQuiet p new after
rewound p old new trail after count ready le classes trails =
    subst (λ (xs : List Decided). IsQuiet p new xs) (sym trails) (subst (λ (a : Asserted). IsQuiet p a (take count trail)) (sym classes) (record {
      spoken = subst (λ (xs : List Decided). AreSpoken (nodes old.table) (nodes p.table) xs (take count old.said)) same (spoken-taken (nodes old.table) (nodes p.table) count (take (length old.said) trail) old.said ready.first.spoken);
      quiet = λ clash. ready.first.quiet (clash-grows (nodes p.table) p (take (length old.said) trail) (take count trail) (λ d h. has-first count (take (length old.said) trail) d (subst (λ (xs : List Decided). Has xs d) (sym same) h)) clash);
    }))
  where
    same : take count (take (length old.said) trail) ≡ take count trail
    same = take-less count (length old.said) trail le

pub ready-quiet : (p : Problem) (a : Asserted) (trail : List Decided) → IsQuiet p a trail → IsReady p a trail
ready-quiet p a trail q =
    let long = spoken-long (nodes a.table) (nodes p.table) trail a.said q.spoken in
    record { first = subst (λ (xs : List Decided). IsQuiet p a xs) (sym (take_all (length a.said) trail (omega (arith, long)))) q }

pub ready-more : (p : Problem) (a : Asserted) (trail : List Decided) (d : Decided) → IsQuiet p a trail → IsReady p a (trail ++ d ∷ [])
ready-more p a trail d q =
    let long = spoken-long (nodes a.table) (nodes p.table) trail a.said q.spoken in
    record { first = subst (λ (xs : List Decided). IsQuiet p a xs) (sym (ap (λ n. take n (trail ++ d ∷ [])) long ∙ take-append_seam trail (d ∷ []))) q }

pub ready-asked : (p : Problem) (old new : Asserted) (d : Decided) (b : Bool) → IsAsked (nodes p.table) old new d b → (trail : List Decided) → IsQuiet p old trail → (not b ≡ false → IsQuiet p new (trail ++ d ∷ [])) → IsReady p new (trail ++ d ∷ [])
ready-asked p old new d true h trail q f = ready-quiet p new (trail ++ d ∷ []) (f refl)
ready-asked p old new d false h trail q f = subst (λ (a : Asserted). IsReady p a (trail ++ d ∷ [])) (sym h.classes) (ready-more p old trail d q)

-- The atom of a step isn't decided by those before it.
has-index : (n : ℕ) (ss : List Step) (d : Decided) → Has (literals_of (take n ss)) d → (m : ℕ) × ((m < n) × (slice_get (literals_of ss) m ≡ Some d))
has-index zero ss d h = absurd h
has-index (suc n) [] d h = absurd h
has-index (suc n) (s ∷ ss) d (inl e) = (zero, (omega arith, ap Some e))
has-index (suc n) (s ∷ ss) d (inr h) = let r = has-index n ss d h in (suc r.0, ((let lt : r.0 < n = r.1.0 in omega (arith, lt)), r.1.1))

pub first-undecided : (ss : List Step) → DecideOnce (literals_of ss) → (n : ℕ) (s : Step) → slice_get ss n ≡ Some s → IsUndecided (literals_of (take n ss)) s.literal.atom
first-undecided ss once n s here b h =
    let r = has-index n ss (decided s.literal.atom b) h in
    let same : r.0 ≡ n = once r.0 n (decided s.literal.atom b) s.literal r.1.1 (slice-literal ss n s here) refl in
    let lt : r.0 < n = r.1.0 in
    omega (arith, same, lt)

-- A step of an explanation may stand behind those before it.
pub goes-step : (ts : List ValueTree) (is : List FormulaTree) (decisions had : List LiteralTree) (ss : List Step) (n : ℕ) (s : Step) → GoesOn is decisions had (trees_of ts ss) → slice_get ss n ≡ Some s → MayStand is decisions (had ++ trees_of ts (take n ss)) (literal_tree_at ts s.literal)
goes-step ts is decisions had [] n s h e = absurd (cc)
goes-step ts is decisions had (r ∷ ss) zero s h e =
    subst (λ (z : Step). MayStand is decisions (had ++ []) (literal_tree_at ts z.literal)) (same_Some r s e)
    (subst (λ (ls : List LiteralTree). MayStand is decisions ls (literal_tree_at ts r.literal)) (sym (append-nil had)) h.1)
goes-step ts is decisions had (r ∷ ss) (suc n) s h e =
    subst (λ (ls : List LiteralTree). MayStand is decisions ls (literal_tree_at ts s.literal)) (append_assoc had (literal_tree_at ts r.literal ∷ []) (trees_of ts (take n ss)))
    (goes-step ts is decisions (had ++ literal_tree_at ts r.literal ∷ []) ss n s h.2 e)

-- one more literal is the same in both
pub same-more : (trail : List Decided) (ss : List Step) (index : ℕ) (d : Decided) (s : Step) → take index trail ≡ literals_of (take index ss) → slice_get trail index ≡ Some d → slice_get ss index ≡ Some s → d ≡ s.literal → take (index + 1) trail ≡ literals_of (take (index + 1) ss)
same-more trail ss index d s before at here same =
    take-next trail index d at ∙ ((λ i. before i ++ same i ∷ []) ∙ (sym (literals-more (take index ss) s) ∙ ap literals_of (sym (take-next ss index s here))))

pub item-at : {X : Type 0} (xs : List X) (n : ℕ) → n < length xs → (x : X) × (slice_get xs n ≡ Some x)
item-at [] n lt = absurd (omega (arith, lt))
item-at (x ∷ xs) zero lt = (x, refl)
item-at (x ∷ xs) (suc n) lt = item-at xs n (omega (arith, lt))
