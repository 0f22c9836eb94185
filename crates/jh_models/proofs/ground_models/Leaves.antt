-- A search that isn't finished has fewer closed branches than there are ways to decide the atoms.
use Rattle.std.proofs.Common.{◌≡◌, refl, sym, ap, ◌∙◌, subst, ℕ, zero, suc, ◌+◌, ◌*◌, ◌^◌, ◌<◌, ◌≤◌, arith, Bool, true, false, not, List, [], ◌∷◌, ◌++◌, ◌⊎◌, inl, inr, length, map, pow-suc, pow_pos}
use Rattle.std.proofs.lemmas.Bool.{true≢false}
use Rattle.jh_form.specs.Tree.{FormulaTree}
use Rattle.jh_closure.specs.structures.Literals.{LiteralTree, IsListed}
use Rattle.jh_models.specs.ground_models.Atoms.{opposite, StandsIn, IsGroundAtom}
use Rattle.jh_models.specs.ground_models.Branches.{ClosedTree, Each, AtLeastOne, EachTwo, AreLeaves}
use Rattle.jh_models.specs.ground_models.Budget.{IsSpent}
use Rattle.jh_models.proofs.ground_models.Opposites.{not-not}

abbrev Path : Type 0
Path = List LiteralTree

-- lists
module _ {X : Type 0} where
  head-or : X → List X → X
  head-or d [] = d
  head-or d (x ∷ xs) = x

  tail-of : List X → List X
  tail-of [] = []
  tail-of (x ∷ xs) = xs

  heads-same : (x y : X) (xs ys : List X) → x ∷ xs ≡ y ∷ ys → x ≡ y
  unfolding head-or
  heads-same x y xs ys e = ap (head-or x) e

  tails-same : (x y : X) (xs ys : List X) → x ∷ xs ≡ y ∷ ys → xs ≡ ys
  unfolding tail-of
  tails-same x y xs ys e = ap tail-of e

  never-empty : (x : X) (xs : List X) → [] ≡ x ∷ xs → ⊥
  never-empty x xs e = let none : 0 ≡ suc (length xs) = ap length e in omega (arith, none)

  each-map : (P Q : X → Type 0) → ((x : X) → P x → Q x) → (xs : List X) → Each P xs → Each Q xs
  each-map P Q f [] h = tt
  each-map P Q f (x ∷ xs) h = (f x h.0, each-map P Q f xs h.1)

-- a list goes on so, and two lists part
abbrev GoesOn : Path → Path → LiteralTree → Type 0
GoesOn ds before l = (rest : Path) × (ds ≡ before ++ (l ∷ rest))

abbrev Parting : Path → Path → Type 0
Parting ds es = (before : Path) × (l : LiteralTree) × GoesOn ds before l × GoesOn es before (opposite l)

twice : (l : LiteralTree) → opposite (opposite l) ≡ l
twice l = λ i. record { atom = l.atom; holds = not-not l.holds i }

differs : (p : Bool) → p ≡ not p → ⊥
differs true e = true≢false e
differs false e = true≢false (sym e)

own-opposite : (l : LiteralTree) → l ≡ opposite l → ⊥
own-opposite l e = differs l.holds (ap (λ z. z.holds) e)

parting-back : (ds es : Path) → Parting ds es → Parting es ds
parting-back ds es p = (p.0, opposite p.1, p.3, (p.2.0, p.2.1 ∙ ap (λ z. p.0 ++ (z ∷ p.2.0)) (sym (twice p.1))))

-- what parts behind one literal parts behind it
parting-tails : (h : LiteralTree) (ds es : Path) → Parting (h ∷ ds) (h ∷ es) → Parting ds es
parting-tails h ds es ([], l, (r, e), (s, f)) = absurd (own-opposite l (sym (heads-same h l ds r e) ∙ heads-same h (opposite l) es s f))
parting-tails h ds es (y ∷ before, l, (r, e), (s, f)) = (before, l, (r, tails-same h y ds (before ++ (l ∷ r)) e), (s, tails-same h y es (before ++ (opposite l ∷ s)) f))

-- Paths over some atoms that decide none twice.
abbrev Distinct : Path → Type 0
Distinct ds = EachTwo (λ k l. k.atom ≡ l.atom → ⊥) ds

abbrev Good : List FormulaTree → Path → Type 0
Good atoms ds = Each (λ l. StandsIn atoms l.atom) ds × Distinct ds

-- atoms without one of them
abbrev lacking : (a : FormulaTree) (bs : List FormulaTree) → StandsIn bs a → List FormulaTree
lacking a [] h = absurd h
lacking a (b ∷ bs) (inl e) = bs
lacking a (b ∷ bs) (inr h) = b ∷ lacking a bs h

lacking-length : (a : FormulaTree) (bs : List FormulaTree) (h : StandsIn bs a) → length bs ≡ suc (length (lacking a bs h))
lacking-length a [] h = absurd h
lacking-length a (b ∷ bs) (inl e) = refl
lacking-length a (b ∷ bs) (inr h) = ap suc (lacking-length a bs h)

others-stay : (a c : FormulaTree) (bs : List FormulaTree) (h : StandsIn bs a) → (a ≡ c → ⊥) → StandsIn bs c → StandsIn (lacking a bs h) c
others-stay a c [] h ne g = absurd h
others-stay a c (b ∷ bs) (inl e) ne (inl f) = absurd (ne (sym e ∙ f))
others-stay a c (b ∷ bs) (inl e) ne (inr g) = g
others-stay a c (b ∷ bs) (inr h) ne (inl f) = inl f
others-stay a c (b ∷ bs) (inr h) ne (inr g) = inr (others-stay a c bs h ne g)

rest-good : (h : LiteralTree) (ds : Path) (bs : List FormulaTree) (there : StandsIn bs h.atom) → Each (λ l. StandsIn bs l.atom) ds → Each (λ l. h.atom ≡ l.atom → ⊥) ds → Each (λ l. StandsIn (lacking h.atom bs there) l.atom) ds
rest-good h [] bs there s n = tt
rest-good h (l ∷ ds) bs there s n = (others-stay h.atom l.atom bs there n.0 s.0, rest-good h ds bs there s.1 n.1)

-- each path begins with one of two literals
abbrev Begins : LiteralTree → Path → Type 0
Begins h q = (r : Path) × (q ≡ h ∷ r)

abbrev OneOf : LiteralTree → LiteralTree → Path → Type 0
OneOf h g q = Begins h q ⊎ Begins g q

swap : (h g : LiteralTree) (q : Path) → OneOf h g q → OneOf g h q
swap h g q (inl b) = inr b
swap h g q (inr b) = inl b

abbrev tail-first : (h g : LiteralTree) (q : Path) → OneOf h g q → List Path → List Path
tail-first h g q (inl b) rest = b.0 ∷ rest
tail-first h g q (inr b) rest = rest

-- what is behind the first of the two literals
abbrev tails : (h g : LiteralTree) (qs : List Path) → Each (OneOf h g) qs → List Path
tails h g [] b = []
tails h g (q ∷ qs) b = tail-first h g q b.0 (tails h g qs b.1)

swap-all : (h g : LiteralTree) (qs : List Path) → Each (OneOf h g) qs → Each (OneOf g h) qs
swap-all h g qs b = each-map (OneOf h g) (OneOf g h) (swap h g) qs b

one-length : (h g : LiteralTree) (q : Path) (b : OneOf h g q) (xs ys : List Path) (n : ℕ) → n ≡ length xs + length ys → suc n ≡ length (tail-first h g q b xs) + length (tail-first g h q (swap h g q b) ys)
unfolding swap
one-length h g q (inl b) xs ys n e = omega (arith, e)
one-length h g q (inr b) xs ys n e = omega (arith, e)

tails-length : (h g : LiteralTree) (qs : List Path) (b : Each (OneOf h g) qs) → length qs ≡ length (tails h g qs b) + length (tails g h qs (swap-all h g qs b))
unfolding swap-all each-map
tails-length h g [] b = omega arith
tails-length h g (q ∷ qs) b = one-length h g q b.0 (tails h g qs b.1) (tails g h qs (swap-all h g qs b.1)) (length qs) (tails-length h g qs b.1)

module _ (h g : LiteralTree) where
  one-parting : (ds p q : Path) (b : OneOf h g q) (rest : List Path) → p ≡ h ∷ ds → Parting p q → Each (Parting ds) rest → Each (Parting ds) (tail-first h g q b rest)
  one-parting ds p q (inl b) rest e part others = (parting-tails h ds b.0 (subst (λ z. Parting (h ∷ ds) z) b.1 (subst (λ z. Parting z q) e part)), others)
  one-parting ds p q (inr b) rest e part others = others

  tails-parting : (ds p : Path) (qs : List Path) (b : Each (OneOf h g) qs) → p ≡ h ∷ ds → Each (Parting p) qs → Each (Parting ds) (tails h g qs b)
  tails-parting ds p [] b e parts = tt
  tails-parting ds p (q ∷ qs) b e parts = one-parting ds p q b.0 (tails h g qs b.1) e parts.0 (tails-parting ds p qs b.1 e parts.1)

  one-two : (q : Path) (qs : List Path) (b : OneOf h g q) (bs : Each (OneOf h g) qs) → Each (Parting q) qs → EachTwo Parting (tails h g qs bs) → EachTwo Parting (tail-first h g q b (tails h g qs bs))
  one-two q qs (inl b) bs parts others = (tails-parting b.0 q qs bs b.1 parts, others)
  one-two q qs (inr b) bs parts others = others

  tails-two : (qs : List Path) (b : Each (OneOf h g) qs) → EachTwo Parting qs → EachTwo Parting (tails h g qs b)
  tails-two [] b parts = tt
  tails-two (q ∷ qs) b parts = one-two q qs b.0 b.1 parts.0 (tails-two qs b.1 parts.1)

  module _ (bs : List FormulaTree) (there : StandsIn bs h.atom) where
    one-good : (q : Path) (b : OneOf h g q) (rest : List Path) → Good bs q → Each (Good (lacking h.atom bs there)) rest → Each (Good (lacking h.atom bs there)) (tail-first h g q b rest)
    one-good q (inl b) rest good others =
        let whole : Good bs (h ∷ b.0) = subst (Good bs) b.1 good in
        ((rest-good h b.0 bs there whole.0.1 whole.1.0, whole.1.1), others)
    one-good q (inr b) rest good others = others

    tails-good : (qs : List Path) (b : Each (OneOf h g) qs) → Each (Good bs) qs → Each (Good (lacking h.atom bs there)) (tails h g qs b)
    tails-good [] b good = tt
    tails-good (q ∷ qs) b good = one-good q b.0 (tails h g qs b.1) good.0 (tails-good qs b.1 good.1)

-- each path that parts from one begins with its first literal or the opposite
begins-so : (h : LiteralTree) (ds q : Path) → Parting (h ∷ ds) q → OneOf h (opposite h) q
begins-so h ds q ([], l, (r, e), (s, f)) = inr (s, f ∙ ap (λ z. opposite z ∷ s) (sym (heads-same h l ds r e)))
begins-so h ds q (y ∷ before, l, (r, e), (s, f)) = inl (before ++ (opposite l ∷ s), f ∙ ap (λ z. z ∷ (before ++ (opposite l ∷ s))) (sym (heads-same h y ds (before ++ (l ∷ r)) e)))

parting-empty : (q : Path) → Parting [] q → ⊥
parting-empty q ([], l, (r, e), f) = never-empty l r e
parting-empty q (y ∷ before, l, (r, e), f) = never-empty y (before ++ (l ∷ r)) e

-- there are at most as many as ways to decide the atoms
bounded : (n : ℕ) (bs : List FormulaTree) (ps : List Path) → length bs ≡ n → Each (Good bs) ps → EachTwo Parting ps → length ps ≤ 2 ^ n
bounded n bs [] e good parts = omega arith
bounded n bs ([] ∷ []) e good parts = let some : 0 < 2 ^ n = pow_pos n in omega (arith, some)
bounded n bs ([] ∷ q ∷ ps) e good parts = absurd (parting-empty q parts.0.0)
bounded zero [] ((h ∷ ds) ∷ ps) e good parts = absurd good.0.0.0
bounded zero (b ∷ bs) ((h ∷ ds) ∷ ps) e good parts = absurd (omega (arith, e))
bounded (suc n) bs ((h ∷ ds) ∷ ps) e good parts =
    let g : LiteralTree = opposite h in
    let there : StandsIn bs h.atom = good.0.0.0 in
    let all : Each (OneOf h g) ((h ∷ ds) ∷ ps) = (inl (ds, refl), each-map (Parting (h ∷ ds)) (OneOf h g) (begins-so h ds) ps parts.0) in
    let rest : List FormulaTree = lacking h.atom bs there in
    let fewer : length bs ≡ suc (length rest) = lacking-length h.atom bs there in
    let yes_ones : length (tails h g ((h ∷ ds) ∷ ps) all) ≤ 2 ^ n = bounded n rest (tails h g ((h ∷ ds) ∷ ps) all) (omega (arith, e, fewer)) (tails-good h g bs there ((h ∷ ds) ∷ ps) all good) (tails-two h g ((h ∷ ds) ∷ ps) all parts) in
    let back : Each (OneOf g h) ((h ∷ ds) ∷ ps) = swap-all h g ((h ∷ ds) ∷ ps) all in
    let no_ones : length (tails g h ((h ∷ ds) ∷ ps) back) ≤ 2 ^ n = bounded n rest (tails g h ((h ∷ ds) ∷ ps) back) (omega (arith, e, fewer)) (tails-good g h bs there ((h ∷ ds) ∷ ps) back good) (tails-two g h ((h ∷ ds) ∷ ps) back parts) in
    let sum : length ((h ∷ ds) ∷ ps) ≡ length (tails h g ((h ∷ ds) ∷ ps) all) + length (tails g h ((h ∷ ds) ∷ ps) back) = tails-length h g ((h ∷ ds) ∷ ps) all in
    let power : 2 ^ suc n ≡ 2 ^ n * 2 = pow-suc 2 n in
    omega (arith, yes_ones, no_ones, sum, power)

-- The path to the other side of a needed decision parts from all others.
module _ (a : LiteralTree) where
  abbrev Extra : Path → Path
  Extra before = before ++ (opposite a ∷ [])

  extra-one : (before c p : Path) → GoesOn c before a → Parting c p → (GoesOn p before (opposite a) → ⊥) → Parting (Extra before) p
  extra-one [] c p (r, e) ([], l, (s, f), (u, i)) never =
      absurd (never (u, i ∙ ap (λ z. opposite z ∷ u) (heads-same l a s r (sym f ∙ e))))
  extra-one [] c p (r, e) (y ∷ front, l, (s, f), (u, i)) never =
      let same : y ≡ a = heads-same y a (front ++ (l ∷ s)) r (sym f ∙ e) in
      ([], opposite a, ([], refl), (front ++ (opposite l ∷ u), i ∙ ap (λ z. z ∷ (front ++ (opposite l ∷ u))) (same ∙ sym (twice a))))
  extra-one (x ∷ before) c p (r, e) ([], l, (s, f), (u, i)) never =
      let same : l ≡ x = heads-same l x s (before ++ (a ∷ r)) (sym f ∙ e) in
      ([], x, (before ++ (opposite a ∷ []), refl), (u, i ∙ ap (λ z. opposite z ∷ u) same))
  extra-one (x ∷ before) c p (r, e) (y ∷ front, l, (s, f), (u, i)) never =
      let same : y ≡ x = heads-same y x (front ++ (l ∷ s)) (before ++ (a ∷ r)) (sym f ∙ e) in
      let tails_same : front ++ (l ∷ s) ≡ before ++ (a ∷ r) = tails-same y x (front ++ (l ∷ s)) (before ++ (a ∷ r)) (sym f ∙ e) in
      let inner = extra-one before (front ++ (l ∷ s)) (front ++ (opposite l ∷ u)) (r, tails_same) (front, l, (s, refl), (u, refl))
      (λ g. never (g.0, i ∙ ap (λ z. z ∷ (front ++ (opposite l ∷ u))) same ∙ ap (λ z. x ∷ z) g.1)) in
      (x ∷ inner.0, inner.1, (inner.2.0, ap (λ z. x ∷ z) inner.2.1), (inner.3.0, i ∙ ap (λ z. z ∷ (front ++ (opposite l ∷ u))) same ∙ ap (λ z. x ∷ z) inner.3.1))

  extra-self : (before c : Path) → GoesOn c before a → Parting (Extra before) c
  extra-self before c g = (before, opposite a, ([], refl), (g.0, g.1 ∙ ap (λ z. before ++ (z ∷ g.0)) (sym (twice a))))

  extra-later : (before c : Path) (ps : List Path) → GoesOn c before a → Each (Parting c) ps → Each (λ p. GoesOn p before (opposite a) → ⊥) ps → Each (Parting (Extra before)) ps
  extra-later before c [] g parts never = tt
  extra-later before c (p ∷ ps) g parts never = (extra-one before c p g parts.0 never.0, extra-later before c ps g parts.1 never.1)

  extra-earlier : (before p : Path) (ps : List Path) → AtLeastOne (λ q. GoesOn q before a) ps → Each (Parting p) ps → (GoesOn p before (opposite a) → ⊥) → Parting (Extra before) p
  extra-earlier before p [] some parts never = absurd some
  extra-earlier before p (c ∷ ps) (inl g) parts never = extra-one before c p g (parting-back p c parts.0) never
  extra-earlier before p (c ∷ ps) (inr some) parts never = extra-earlier before p ps some parts.1 never

  extra-all : (before : Path) (ps : List Path) → AtLeastOne (λ q. GoesOn q before a) ps → EachTwo Parting ps → Each (λ p. GoesOn p before (opposite a) → ⊥) ps → Each (Parting (Extra before)) ps
  extra-all before [] some parts never = tt
  extra-all before (p ∷ ps) (inl g) parts never = (extra-self before p g, extra-later before p ps g parts.0 never.1)
  extra-all before (p ∷ ps) (inr some) parts never = (extra-earlier before p ps some parts.0 never.0, extra-all before ps some parts.1 never.1)

  -- it decides the atoms of the needed one
  extra-over : (bs : List FormulaTree) (before rest : Path) → Each (λ l. StandsIn bs l.atom) (before ++ (a ∷ rest)) → Each (λ l. StandsIn bs l.atom) (Extra before)
  extra-over bs [] rest h = (h.0, tt)
  extra-over bs (x ∷ before) rest h = (h.0, extra-over bs before rest h.1)

  extra-apart : (x : LiteralTree) (before rest : Path) → Each (λ l. x.atom ≡ l.atom → ⊥) (before ++ (a ∷ rest)) → Each (λ l. x.atom ≡ l.atom → ⊥) (Extra before)
  extra-apart x [] rest h = (h.0, tt)
  extra-apart x (y ∷ before) rest h = (h.0, extra-apart x before rest h.1)

  extra-distinct : (before rest : Path) → Distinct (before ++ (a ∷ rest)) → Distinct (Extra before)
  extra-distinct [] rest h = (tt, tt)
  extra-distinct (x ∷ before) rest h = (extra-apart x before rest h.0, extra-distinct before rest h.1)

  extra-good : (bs : List FormulaTree) (before c : Path) → GoesOn c before a → Good bs c → Good bs (Extra before)
  extra-good bs before c g good =
      let whole : Good bs (before ++ (a ∷ g.0)) = subst (Good bs) g.1 good in
      (extra-over bs before g.0 whole.0, extra-distinct before g.0 whole.1)

  one-good-extra : (bs : List FormulaTree) (before : Path) (ps : List Path) → AtLeastOne (λ q. GoesOn q before a) ps → Each (Good bs) ps → Good bs (Extra before)
  one-good-extra bs before [] some good = absurd some
  one-good-extra bs before (p ∷ ps) (inl g) good = extra-good bs before p g good.0
  one-good-extra bs before (p ∷ ps) (inr some) good = one-good-extra bs before ps some good.1

-- the branches of a search
abbrev paths : List ClosedTree → List Path
paths bs = map (λ (b : ClosedTree). b.decisions) bs

paths-length : (bs : List ClosedTree) → length (paths bs) ≡ length bs
paths-length [] = refl
paths-length (b ∷ bs) = ap suc (paths-length bs)

each-path : (P : Path → Type 0) (bs : List ClosedTree) → Each (λ b. P b.decisions) bs → Each P (paths bs)
each-path P [] h = tt
each-path P (b ∷ bs) h = (h.0, each-path P bs h.1)

two-paths : (bs : List ClosedTree) → EachTwo (λ (b c : ClosedTree). Parting b.decisions c.decisions) bs → EachTwo Parting (paths bs)
two-paths [] h = tt
two-paths (b ∷ bs) h = (each-path (Parting b.decisions) bs h.0, two-paths bs h.1)

needed-path : (before : Path) (a : LiteralTree) (bs : List ClosedTree) (f : LiteralTree → ClosedTree → Type 0) → AtLeastOne (λ b. GoesOn b.decisions before a × f a b) bs → AtLeastOne (λ q. GoesOn q before a) (paths bs)
needed-path before a [] f h = absurd h
needed-path before a (b ∷ bs) f (inl g) = inl g.0
needed-path before a (b ∷ bs) f (inr h) = inr (needed-path before a bs f h)

over-atoms : (is atoms : List FormulaTree) → ((a : FormulaTree) → IsGroundAtom is a → StandsIn atoms a) → (ds : Path) → Each (λ l. IsGroundAtom is l.atom) ds → Each (λ l. StandsIn atoms l.atom) ds
over-atoms is atoms f ds h = each-map (λ l. IsGroundAtom is l.atom) (λ l. StandsIn atoms l.atom) (λ l g. f l.atom g) ds h

good-paths : (is atoms : List FormulaTree) → ((a : FormulaTree) → IsGroundAtom is a → StandsIn atoms a) → (bs : List ClosedTree) →
    Each (λ b. Each (λ l. IsGroundAtom is l.atom) b.decisions) bs → Each (λ b. Distinct b.decisions) bs → Each (Good atoms) (paths bs)
good-paths is atoms f [] h g = tt
good-paths is atoms f (b ∷ bs) h g = ((over-atoms is atoms f b.decisions h.0, g.0), good-paths is atoms f bs h.1 g.1)

pub leaves-bounded : (is atoms : List FormulaTree) → ((a : FormulaTree) → IsGroundAtom is a → StandsIn atoms a) → (bs : List ClosedTree) → AreLeaves is bs → length bs < 2 ^ length atoms
leaves-bounded is atoms f bs s =
    let before : Path = s.unfinished.0 in
    let a : LiteralTree = s.unfinished.1 in
    let ps : List Path = paths bs in
    let some = needed-path before a bs (λ l b. IsListed b.explanation l) s.unfinished.2 in
    let good = good-paths is atoms f bs s.on_atoms s.once in
    let parts = two-paths bs s.part in
    let never = each-path (λ p. GoesOn p before (opposite a) → ⊥) bs s.unfinished.3 in
    let few : length (Extra a before ∷ ps) ≤ 2 ^ length atoms =
    bounded (length atoms) atoms (Extra a before ∷ ps) refl (one-good-extra a atoms before ps some good, good) (extra-all a before ps some parts never, parts) in
    omega (arith, few, paths-length bs)

pub spent-bounded : (is atoms : List FormulaTree) → ((a : FormulaTree) → IsGroundAtom is a → StandsIn atoms a) → (leaves : ℕ) (bs : List ClosedTree) → IsSpent is leaves bs → leaves < 2 ^ length atoms
spent-bounded is atoms f leaves bs s = omega (arith, s.many, leaves-bounded is atoms f bs s.leaves_of_one)
