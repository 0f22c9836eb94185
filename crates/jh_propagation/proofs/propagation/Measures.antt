-- What is left falls with each literal.
use Rattle.std.proofs.Common.{◌≡◌, refl, sym, ap, ◌∙◌, subst, ℕ, ◌+◌, ◌≤◌, ◌==◌, arith, Bool, true, false, ◌||◌, if◌then◌else◌, List, [], ◌∷◌, ◌++◌, inl, inr}
use Rattle.std.proofs.lemmas.Bool.Decides.{Decides-eqb}
use Rattle.jh_closure.specs.congruence_closure.Nodes.{Has}
use Rattle.jh_propagation.specs.declared.trail.decided.Decided.{Decided}
use Rattle.jh_propagation.specs.trail.Listing.{decided, IsUndecided}
use Rattle.jh_propagation.specs.propagation.Branches.{is_decided, left_over}

decided-more : (trail : List Decided) (d : Decided) (k : ℕ) → is_decided (trail ++ d ∷ []) k ≡ (is_decided trail k || (d.atom == k))
decided-more [] d k = or-none (d.atom == k)
  where
    or-none : (b : Bool) → (b || false) ≡ b
    or-none true = refl
    or-none false = refl
decided-more (e ∷ trail) d k = ap (λ b. (e.atom == k) || b) (decided-more trail d k) ∙ or-assoc (e.atom == k) (is_decided trail k) (d.atom == k)
  where
    or-assoc : (a b c : Bool) → (a || (b || c)) ≡ ((a || b) || c)
    or-assoc true b c = refl
    or-assoc false b c = refl

pub undecided-test : (trail : List Decided) (k : ℕ) → IsUndecided trail k → is_decided trail k ≡ false
undecided-test [] k h = refl
undecided-test (e ∷ trail) k h = neither (undecided-test trail k (λ b g. h b (inr g))) (e.atom == k) refl
  where
    neither : is_decided trail k ≡ false → (b : Bool) → (e.atom == k) ≡ b → (b || is_decided trail k) ≡ false
    neither rest true f = absurd (h e.holds (inl (λ i. decided ((Decides-eqb e.atom k).0 f i) e.holds)))
    neither rest false f = rest

weighed : (w : ℕ) (b c : Bool) → (if b || c then 0 else w) ≤ (if b then 0 else w)
weighed w true c = omega arith
weighed w false true = omega arith
weighed w false false = omega arith

one-less : (weight : ℕ → ℕ) (trail : List Decided) (d : Decided) (k : ℕ) → (if is_decided (trail ++ d ∷ []) k then 0 else weight k) ≤ (if is_decided trail k then 0 else weight k)
one-less weight trail d k = subst (λ b. (if b then 0 else weight k) ≤ (if is_decided trail k then 0 else weight k)) (sym (decided-more trail d k)) (weighed (weight k) (is_decided trail k) (d.atom == k))

left-less : (weight : ℕ → ℕ) (trail : List Decided) (d : Decided) (ks : List ℕ) → left_over weight (trail ++ d ∷ []) ks ≤ left_over weight trail ks
left-less weight trail d [] = omega arith
left-less weight trail d (k ∷ ks) =
    let one = one-less weight trail d k in
    let rest = left-less weight trail d ks in
    omega (arith, one, rest)

-- an atom that is decided weighs nothing any more
here : (weight : ℕ → ℕ) (trail : List Decided) (d : Decided) (k : ℕ) → k ≡ d.atom → is_decided trail k ≡ false → ((if is_decided (trail ++ d ∷ []) k then 0 else weight k) ≡ 0) × ((if is_decided trail k then 0 else weight k) ≡ weight k)
here weight trail d k e f = (
  ap (λ b. if b then 0 else weight k) (decided-more trail d k ∙ ((λ i. f i || (Decides-eqb d.atom k).1 (sym e) i))),
  ap (λ b. if b then 0 else weight k) f,
)

pub left-falls : (weight : ℕ → ℕ) (trail : List Decided) (d : Decided) (ks : List ℕ) → Has ks d.atom → is_decided trail d.atom ≡ false → left_over weight (trail ++ d ∷ []) ks + weight d.atom ≤ left_over weight trail ks
left-falls weight trail d [] h f = absurd h
left-falls weight trail d (k ∷ ks) (inl e) f =
    let now = here weight trail d k e (ap (is_decided trail) e ∙ f) in
    let same : weight k ≡ weight d.atom = ap weight e in
    let rest = left-less weight trail d ks in
    let first = now.0 in
    let second = now.1 in
    omega (arith, first, second, same, rest)
left-falls weight trail d (k ∷ ks) (inr h) f =
    let one = one-less weight trail d k in
    let rest = left-falls weight trail d ks h f in
    omega (arith, one, rest)
