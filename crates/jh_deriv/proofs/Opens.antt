-- Facts at nodes, and the branches that are open over them.
use Rattle.std.proofs.Common.{◌≡◌, refl, sym, ap, subst, ◌∙◌, ℕ, ◌+◌, ◌≤◌, arith, List, [], ◌∷◌, ◌++◌, append_assoc, length, take, drop, slice_get, Some}
use Rattle.std.proofs.Math.Seq.{take-length}
use Rattle.std.proofs.lemmas.List.{append-nil, take-append-drop, take-append-le, length-take-le}
use Rattle.jh_form.specs.Tree.{ValueTree, of_truth}
use Rattle.jh_arena.specs.table.Entries.{the_truth}
use Rattle.jh_arena.specs.table.Growth.{Grows}
use Rattle.jh_derivation_rules.specs.Closes.{after}
use Rattle.jh_derivation_steps.specs.declared.premises.nodes.Nodes.{Nodes}
use Rattle.jh_derivation_steps.specs.declared.premises.nodes.Nodes.TheVariants as n
use Rattle.jh_derivation_steps.specs.declared.premises.nodes.Adds.{Adds}
use Rattle.jh_derivation_steps.specs.declared.premises.nodes.Adds.TheVariants as a
use Rattle.jh_derivation_steps.specs.premises.Nodes.{formula_at, formulas_at, branches_at, IsFormula, AreFormulas, AreBranches}
use Rattle.jh_open_branches.specs.declared.branches.Waiting.{Waiting}
use Rattle.jh_open_branches.specs.Placed.{numbers}
use Rattle.jh_open_branches.specs.Waits.{waits, waits_with, kept_by}
use Rattle.jh_deriv.specs.Replays.{facts_at, AllFormulas, waiting_at, open_at, AreWaiting, Below, Rises}

pub facts-append : (ts : List ValueTree) (xs ys : List ℕ) → facts_at ts (xs ++ ys) ≡ facts_at ts xs ++ facts_at ts ys
facts-append ts [] ys = refl
facts-append ts (x ∷ xs) ys = ap (λ zs. formula_at ts x ∷ zs) (facts-append ts xs ys)

pub facts-numbers : (ts : List ValueTree) (x : Nodes) → facts_at ts (numbers x) ≡ formulas_at ts x
unfolding numbers formulas_at
facts-numbers ts n.Nothing = refl
facts-numbers ts (n.One x) = refl
facts-numbers ts (n.Two x y) = refl

pub all-append : (ts : List ValueTree) (xs ys : List ℕ) → AllFormulas ts xs → AllFormulas ts ys → AllFormulas ts (xs ++ ys)
all-append ts [] ys h k = k
all-append ts (x ∷ xs) ys h k = (h.0, all-append ts xs ys h.1 k)

pub all-first : (ts : List ValueTree) (xs ys : List ℕ) → AllFormulas ts (xs ++ ys) → AllFormulas ts xs
all-first ts [] ys h = tt
all-first ts (x ∷ xs) ys h = (h.0, all-first ts xs ys h.1)

pub all-take : (ts : List ValueTree) (k : ℕ) (xs : List ℕ) → AllFormulas ts xs → AllFormulas ts (take k xs)
all-take ts k xs h = all-first ts (take k xs) (drop k xs) (subst (λ (zs : List ℕ). AllFormulas ts zs) (sym (take-append-drop k xs)) h)

pub all-numbers : (ts : List ValueTree) (x : Nodes) → AreFormulas ts x → AllFormulas ts (numbers x)
unfolding numbers AreFormulas
all-numbers ts n.Nothing h = tt
all-numbers ts (n.One x) h = (h, tt)
all-numbers ts (n.Two x y) h = (h.0, (h.1, tt))

-- the last branch that waits is the first that is open
pub open-last : (ts : List ValueTree) (ks : List ℕ) (ws : List Waiting) (w : Waiting) → open_at ts ks (ws ++ w ∷ []) ≡ waiting_at ts ks w ∷ open_at ts ks ws
open-last ts ks [] w = refl
open-last ts ks (v ∷ ws) w = ap (λ zs. zs ++ waiting_at ts ks v ∷ []) (open-last ts ks ws w)

-- the facts that are kept are the same ones
take-kept : (ks xs : List ℕ) (m k : ℕ) → k ≤ m → m ≤ length ks → take k (take m ks ++ xs) ≡ take k ks
take-kept ks xs m k below inside =
    let long : length (take m ks) ≡ m = length-take-le m ks inside in
    let short : k ≤ length (take m ks) = omega (arith, long, below) in
    take-append-le k (take m ks) xs short ∙ sym (take-append-le k (take m ks) (drop m ks) short) ∙ ap (λ zs. take k zs) (take-append-drop m ks)

-- Going on with a branch changes no other one.
pub open-kept : (ts : List ValueTree) (ks xs : List ℕ) (m : ℕ) (ws : List Waiting) → Below m ws → m ≤ length ks → open_at ts (take m ks ++ xs) ws ≡ open_at ts ks ws
open-kept ts ks xs m [] below inside = refl
open-kept ts ks xs m (w ∷ ws) below inside = λ i. open-kept ts ks xs m ws below.1 inside i ++ facts_at ts (take-kept ks xs m w.count below.0 inside i ++ numbers w.added) ∷ []

-- adding a fact at the end changes no branch that waits
pub open-added : (ts : List ValueTree) (ks : List ℕ) (ws : List Waiting) (x : Nodes) → Below (length ks) ws → open_at ts (ks ++ numbers x) ws ≡ open_at ts ks ws
open-added ts ks ws x below = ap (λ zs. open_at ts (zs ++ numbers x) ws) (sym (take-length ks)) ∙ open-kept ts ks (numbers x) (length ks) ws below (omega arith)

pub below-more : (j k : ℕ) (ws : List Waiting) → j ≤ k → Below j ws → Below k ws
below-more j k [] le h = tt
below-more j k (w ∷ ws) le h = (omega (arith, le, h.0), below-more j k ws le h.1)

pub below-append : (k : ℕ) (us ws : List Waiting) → Below k us → Below k ws → Below k (us ++ ws)
below-append k [] ws h g = g
below-append k (u ∷ us) ws h g = (h.0, below-append k us ws h.1 g)

pub below-last : (k : ℕ) (ws : List Waiting) (w : Waiting) → Below k (ws ++ w ∷ []) → Below k ws × (w.count ≤ k)
below-last k [] w h = (tt, h.0)
below-last k (v ∷ ws) w h = let r = below-last k ws w h.1 in ((h.0, r.0), r.1)

pub record LastRises (k : ℕ) (ws : List Waiting) (w : Waiting) : Type 0 where
  pub rises : Rises k ws
  pub below : Below w.count ws
  pub least : k ≤ w.count

pub rises-last : (k : ℕ) (ws : List Waiting) (w : Waiting) → Rises k (ws ++ w ∷ []) → LastRises k ws w
rises-last k [] w h = record { rises = tt; below = tt; least = h.0 }
rises-last k (v ∷ ws) w h =
    let r = rises-last v.count ws w h.1 in
    record { rises = (h.0, r.rises); below = (r.least, r.below); least = omega (arith, h.0, r.least) }

-- branches that keep m facts, behind branches that keep no more
pub rises-append : (k m : ℕ) (ws us : List Waiting) → Rises k ws → Below m ws → k ≤ m → ((j : ℕ) → j ≤ m → Rises j us) → Rises k (ws ++ us)
rises-append k m [] us h below le more = more k le
rises-append k m (w ∷ ws) us h below le more = (h.0, rises-append w.count m ws us h.1 below.1 below.0 more)

-- what stands in a table that has grown
pub formula-stays : (ts us : List ValueTree) → Grows ts us → (k : ℕ) → IsFormula ts k → (formula_at us k ≡ formula_at ts k) × IsFormula us k
unfolding the_truth
formula-stays ts us g k h =
    let kept : slice_get us k ≡ Some (of_truth (formula_at ts k)) = g.keeps k (of_truth (formula_at ts k)) h in
    let same : formula_at us k ≡ formula_at ts k = ap the_truth kept in
    (same, kept ∙ ap (λ z. Some (of_truth z)) (sym same))

pub facts-stay : (ts us : List ValueTree) → Grows ts us → (ks : List ℕ) → AllFormulas ts ks → (facts_at us ks ≡ facts_at ts ks) × AllFormulas us ks
facts-stay ts us g [] h = (refl, tt)
facts-stay ts us g (k ∷ ks) h =
    let here = formula-stays ts us g k h.0 in
    let rest = facts-stay ts us g ks h.1 in
    ((λ i. here.0 i ∷ rest.0 i), (here.1, rest.1))

pub added-stay : (ts us : List ValueTree) → Grows ts us → (x : Nodes) → AreFormulas ts x → AreFormulas us x
unfolding AreFormulas
added-stay ts us g n.Nothing h = tt
added-stay ts us g (n.One x) h = (formula-stays ts us g x h).1
added-stay ts us g (n.Two x y) h = ((formula-stays ts us g x h.0).1, (formula-stays ts us g y h.1).1)

pub waiting-stay : (ts us : List ValueTree) → Grows ts us → (ws : List Waiting) → AreWaiting ts ws → AreWaiting us ws
waiting-stay ts us g [] h = tt
waiting-stay ts us g (w ∷ ws) h = (added-stay ts us g w.added h.0, waiting-stay ts us g ws h.1)

pub open-stays : (ts us : List ValueTree) → Grows ts us → (ks : List ℕ) (ws : List Waiting) → AllFormulas ts ks → AreWaiting ts ws → open_at us ks ws ≡ open_at ts ks ws
open-stays ts us g ks [] all h = refl
open-stays ts us g ks (w ∷ ws) all h =
    let here = facts-stay ts us g (kept_by ks w) (all-append ts (take w.count ks) (numbers w.added) (all-take ts w.count ks all) (all-numbers ts w.added h.0)) in
    λ i. open-stays ts us g ks ws all h.1 i ++ here.0 i ∷ []

pub waiting-append : (ts : List ValueTree) (us ws : List Waiting) → AreWaiting ts us → AreWaiting ts ws → AreWaiting ts (us ++ ws)
waiting-append ts [] ws h g = g
waiting-append ts (u ∷ us) ws h g = (h.0, waiting-append ts us ws h.1 g)

pub waiting-last : (ts : List ValueTree) (ws : List Waiting) (w : Waiting) → AreWaiting ts (ws ++ w ∷ []) → AreWaiting ts ws × AreFormulas ts w.added
waiting-last ts [] w h = (tt, h.0)
waiting-last ts (v ∷ ws) w h = let r = waiting-last ts ws w h.1 in ((h.0, r.0), r.1)

-- a branch that keeps all facts
all-kept : (ts : List ValueTree) (ks : List ℕ) (x : Nodes) → waiting_at ts ks (waits_with ks x) ≡ facts_at ts ks ++ formulas_at ts x
all-kept ts ks x = ap (λ zs. facts_at ts (zs ++ numbers x)) (take-length ks) ∙ facts-append ts ks (numbers x) ∙ ap (λ zs. facts_at ts ks ++ zs) (facts-numbers ts x)

-- The branches that a step opens stand before those that wait.
pub open-after : (ts : List ValueTree) (ks : List ℕ) (ws : List Waiting) (x : Adds) → open_at ts ks (ws ++ waits ks x) ≡ after (facts_at ts ks) (branches_at ts x) ++ open_at ts ks ws
unfolding waits branches_at
open-after ts ks ws a.Closes = ap (λ zs. open_at ts ks zs) (append-nil ws)
open-after ts ks ws (a.Goes x) = open-last ts ks ws (waits_with ks x) ∙ ap (λ z. z ∷ open_at ts ks ws) (all-kept ts ks x)
open-after ts ks ws (a.Splits x y) =
    ap (λ zs. open_at ts ks zs) (sym (append_assoc ws (waits_with ks y ∷ []) (waits_with ks x ∷ [])))
    ∙ open-last ts ks (ws ++ waits_with ks y ∷ []) (waits_with ks x)
    ∙ (λ i. all-kept ts ks x i ∷ (open-last ts ks ws (waits_with ks y) ∙ ap (λ z. z ∷ open_at ts ks ws) (all-kept ts ks y)) i)

pub waiting-after : (ts : List ValueTree) (ks : List ℕ) (x : Adds) → AreBranches ts x → AreWaiting ts (waits ks x)
unfolding waits AreBranches
waiting-after ts ks a.Closes h = tt
waiting-after ts ks (a.Goes x) h = (h, tt)
waiting-after ts ks (a.Splits x y) h = (h.1, (h.0, tt))

pub below-after : (ks : List ℕ) (x : Adds) → Below (length ks) (waits ks x)
unfolding waits
below-after ks a.Closes = tt
below-after ks (a.Goes x) = (omega arith, tt)
below-after ks (a.Splits x y) = (omega arith, (omega arith, tt))

pub rises-after : (ks : List ℕ) (x : Adds) (j : ℕ) → j ≤ length ks → Rises j (waits ks x)
unfolding waits
rises-after ks a.Closes j le = tt
rises-after ks (a.Goes x) j le = (le, tt)
rises-after ks (a.Splits x y) j le = (le, (omega arith, tt))
