-- Universals at hand over nodes, and what they were put at.
use Rattle.std.proofs.Common.{◌≡◌, refl, sym, ap, subst, ◌∙◌, ℕ, zero, suc, ◌+◌, ◌<◌, ◌≤◌, add-one, arith, List, [], ◌∷◌, ◌++◌, length, length-append, map, take, drop, slice_get, slice_set, Some}
use Rattle.std.proofs.lemmas.List.{take_all, append-nil}
use Rattle.jh_form.specs.Tree.{TermTree, of_truth}
use Rattle.jh_arena.specs.table.Entries.{Listing}
use Rattle.jh_arena.specs.table.Growth.{Extends}
use Rattle.jh_instantiation.specs.instance_count.Grouping.{AreFormulas}
use Rattle.jh_inst.specs.instances.Rounds as rounds
use Rattle.jh_inst.specs.instances.Rounds.{put_before}
use Rattle.jh_instantiation.specs.declared.instances.making.AtHand.{AtHand}
use Rattle.jh_instantiation.specs.instances.Progressing.{IsAtHand, AreAtHand, put_now, noted_at}
use Rattle.jh_instantiation.proofs.instances.Lists.{drop-all}

pub one-universal : (t : Listing) (ts : List TermTree) (xs : List AtHand) (hs : List rounds.AtHand) (x : AtHand) (h : rounds.AtHand) → AreAtHand t ts xs hs → IsAtHand t ts x h → AreAtHand t ts (xs ++ x ∷ []) (hs ++ (h ∷ []))
one-universal t ts [] [] x h g k = (k, tt)
one-universal t ts [] (j ∷ hs) x h g k = absurd g
one-universal t ts (y ∷ xs) [] x h g k = absurd g
one-universal t ts (y ∷ xs) (j ∷ hs) x h g k = (g.0, one-universal t ts xs hs x h g.1 k)

pub hand-at : (t : Listing) (ts : List TermTree) (xs : List AtHand) (hs : List rounds.AtHand) (i : ℕ) (x : AtHand) → AreAtHand t ts xs hs → slice_get xs i ≡ Some x → (h : rounds.AtHand) × (slice_get hs i ≡ Some h) × IsAtHand t ts x h
hand-at t ts [] hs i x g e = absurd (cc)
hand-at t ts (y ∷ xs) [] i x g e = absurd g
hand-at t ts (y ∷ xs) (h ∷ hs) zero x g e =
    let same : y ≡ x = cc in
    (h, refl, subst (λ (z : AtHand). IsAtHand t ts z h) same g.0)
hand-at t ts (y ∷ xs) (h ∷ hs) (suc i) x g e = hand-at t ts xs hs i x g.1 e

-- the one at a place is that of the definition
pub hand-is : (t : Listing) (ts : List TermTree) (xs : List AtHand) (hs : List rounds.AtHand) (i : ℕ) (x : AtHand) (h : rounds.AtHand) → AreAtHand t ts xs hs → slice_get xs i ≡ Some x → slice_get hs i ≡ Some h → IsAtHand t ts x h
hand-is t ts xs hs i x h g e f =
    let r = hand-at t ts xs hs i x g e in
    let at = r.1 in
    let same : r.0 ≡ h = cc in
    subst (λ (z : rounds.AtHand). IsAtHand t ts x z) same r.2

pub hand-length : (t : Listing) (ts : List TermTree) (xs : List AtHand) (hs : List rounds.AtHand) → AreAtHand t ts xs hs → length xs ≡ length hs
hand-length t ts [] [] g = refl
hand-length t ts [] (h ∷ hs) g = absurd g
hand-length t ts (x ∷ xs) [] g = absurd g
hand-length t ts (x ∷ xs) (h ∷ hs) g = ap suc (hand-length t ts xs hs g.1)

pub none-at-hand : (t : Listing) (ts : List TermTree) (hs : List rounds.AtHand) → AreAtHand t ts [] hs → hs ≡ []
none-at-hand t ts [] g = refl
none-at-hand t ts (h ∷ hs) g = absurd g

pub hand-grows : (t u : Listing) → Extends t u → (ts : List TermTree) (x : AtHand) (j : rounds.AtHand) → IsAtHand t ts x j → IsAtHand u ts x j
hand-grows t u g ts x j h = record { place = h.place; formula = g.nodes.keeps x.node (of_truth j.formula) h.formula; variables = h.variables; old = h.old; within = h.within }

pub hands-grow : (t u : Listing) → Extends t u → (ts : List TermTree) (xs : List AtHand) (hs : List rounds.AtHand) → AreAtHand t ts xs hs → AreAtHand u ts xs hs
hands-grow t u g ts [] [] h = h
hands-grow t u g ts [] (j ∷ hs) h = absurd h
hands-grow t u g ts (x ∷ xs) [] h = absurd h
hands-grow t u g ts (x ∷ xs) (j ∷ hs) h = (hand-grows t u g ts x j h.0, hands-grow t u g ts xs hs h.1)

-- the formulas of universals at hand, one more
pub formulas-pushed : (t : Listing) (ns : List ℕ) (hs : List rounds.AtHand) (n : ℕ) (h : rounds.AtHand) → AreFormulas t ns (map (λ (j : rounds.AtHand). j.formula) hs) → AreFormulas t (n ∷ []) (h.formula ∷ []) → AreFormulas t (ns ++ n ∷ []) (map (λ (j : rounds.AtHand). j.formula) (hs ++ (h ∷ [])))
formulas-pushed t [] [] n h g k = k
formulas-pushed t [] (j ∷ hs) n h g k = absurd g
formulas-pushed t (m ∷ ns) [] n h g k = absurd g
formulas-pushed t (m ∷ ns) (j ∷ hs) n h g k = (g.0, formulas-pushed t ns hs n h g.1 k)

take-front : {X : Type 0} (xs ys : List X) → take (length xs) (xs ++ ys) ≡ xs
take-front [] ys = refl
take-front (x ∷ xs) ys = ap (λ zs. x ∷ zs) (take-front xs ys)

-- Each was put at all choices of the terms, which are the first ones of those that there are then.
pub put-noted : (t : Listing) (ts more us : List TermTree) (n : ℕ) → n ≡ length ts → us ≡ ts ++ more → (xs : List AtHand) (hs : List rounds.AtHand) → AreAtHand t ts xs hs → AreAtHand t us (map (put_now n) xs) (put_before ts hs)
put-noted t ts more us n many is [] [] h = h
put-noted t ts more us n many is [] (j ∷ hs) h = absurd h
put-noted t ts more us n many is (x ∷ xs) [] h = absurd h
put-noted t ts more us n many is (x ∷ xs) (j ∷ hs) h = (
  record {
    place = h.0.place;
    formula = h.0.formula;
    variables = h.0.variables;
    old = sym (take-front ts more) ∙ (λ i. take (sym many i) (sym is i));
    within = let long : length us ≡ length ts + length more = ap length is ∙ length-append ts more in omega (arith, many, long);
  },
  put-noted t ts more us n many is xs hs h.1,
)

-- noting it, one by one
pub set-noted : (xs : List AtHand) (i n : ℕ) (x y : AtHand) → slice_get xs i ≡ Some x → y ≡ put_now n x → slice_set xs i y ≡ noted_at n xs i
set-noted [] i n x y e f = absurd (cc)
set-noted (z ∷ xs) zero n x y e f =
    let same : z ≡ x = cc in
    ap (λ w. w ∷ xs) (f ∙ ap (put_now n) (sym same))
set-noted (z ∷ xs) (suc i) n x y e f = ap (λ ws. z ∷ ws) (set-noted xs i n x y e f)

pub noted-length : (xs : List AtHand) (i n : ℕ) → length (map (put_now n) (take i xs) ++ drop i xs) ≡ length xs
noted-length xs zero n = refl
noted-length [] (suc i) n = refl
noted-length (x ∷ xs) (suc i) n = ap suc (noted-length xs i n)

noted-at : (xs : List AtHand) (i n : ℕ) → i < length xs → noted_at n (map (put_now n) (take i xs) ++ drop i xs) i ≡ map (put_now n) (take (suc i) xs) ++ drop (suc i) xs
noted-at [] i n h = absurd (omega (arith, h))
noted-at (x ∷ xs) zero n h = refl
noted-at (x ∷ xs) (suc i) n h = ap (λ ys. put_now n x ∷ ys) (noted-at xs i n (omega (arith, h)))

pub noted-next : (xs : List AtHand) (i n : ℕ) → i < length xs → noted_at n (map (put_now n) (take i xs) ++ drop i xs) i ≡ map (put_now n) (take (i + 1) xs) ++ drop (i + 1) xs
noted-next xs i n h = noted-at xs i n h ∙ ap (λ k. map (put_now n) (take k xs) ++ drop k xs) (sym (add-one i))

pub noted-all : (xs : List AtHand) (i n : ℕ) → length xs ≤ i → map (put_now n) (take i xs) ++ drop i xs ≡ map (put_now n) xs
noted-all xs i n h = (λ j. map (put_now n) (take_all i xs h j) ++ drop-all xs i h j) ∙ append-nil (map (put_now n) xs)
