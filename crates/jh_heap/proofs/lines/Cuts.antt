-- What is cut off at a byte, and the parts between such bytes.
use Rattle.std.proofs.Common.{◌≡◌, refl, sym, ap, ◌∙◌, rules, arith, ℕ, suc, ◌+◌, ◌<◌, ◌==◌, Bool, true, false, if◌then◌else◌, get_or, add-one, drop-cons, List, [], ◌∷◌, ◌++◌, length, take, drop, Option, None, Some, is_some, append_assoc, map}
use Rattle.std.specs.Borrow.{Bor}
use Rattle.std.proofs.lemmas.List.{map-append}
use Rattle.std.proofs.lemmas.Bool.{true≢false}
use Rattle.std.proofs.Math.Seq.{take-suc}
use Rattle.jh_heap.specs.lines.Bytes.{Cut, cut, cut_onto, split, split_onto}

abbrev the_cut : Option Cut → Cut
the_cut None = record { before = []; behind = [] }
the_cut (Some x) = x

-- a cut with more bytes before it
abbrev pub behind_more : List ℕ → Option Cut → Option Cut
behind_more xs None = None
behind_more xs (Some x) = Some (record { before = xs ++ x.before; behind = x.behind })

cut-next : (b c : ℕ) (cs xs : List ℕ) → (c == b) ≡ false → behind_more xs (cut b (c ∷ cs)) ≡ behind_more (xs ++ (c ∷ [])) (cut b cs)
cut-next b c cs xs other = ap (λ t. behind_more xs (if t then Some (record { before = []; behind = cs }) else cut_onto c (cut b cs))) other ∙ by (cut b cs)
  where
    by : (y : Option Cut) → behind_more xs (cut_onto c y) ≡ behind_more (xs ++ (c ∷ [])) y
    by None = refl
    by (Some x) = ap (λ ys. Some (record { before = ys; behind = x.behind })) (sym (append_assoc xs (c ∷ []) x.before))

cut-here : (b c : ℕ) (cs xs : List ℕ) → (c == b) ≡ true → behind_more xs (cut b (c ∷ cs)) ≡ Some (record { before = xs; behind = cs })
cut-here b c cs xs same = ap (λ t. behind_more xs (if t then Some (record { before = []; behind = cs }) else cut_onto c (cut b cs))) same ∙ search rules

-- the first byte of a value, where those before it aren't
pub cut_ends : (b : ℕ) (bs : List ℕ) (i : ℕ) → i < length bs → (get_or bs i 0 == b) ≡ true →
    behind_more (take i bs) (cut b (drop i bs)) ≡ Some (record { before = take i bs; behind = drop (i + 1) bs })
cut_ends b bs i inside same =
    rw add-one (ap (λ rest. behind_more (take i bs) (cut b rest)) (drop-cons bs i 0 inside) ∙ cut-here b (get_or bs i 0) (drop (suc i) bs) (take i bs) same)

-- a byte that isn't of the value
pub cut_goes_on : (b : ℕ) (bs : List ℕ) (i : ℕ) → i < length bs → (get_or bs i 0 == b) ≡ false →
    behind_more (take i bs) (cut b (drop i bs)) ≡ behind_more (take (i + 1) bs) (cut b (drop (i + 1) bs))
cut_goes_on b bs i inside other =
    rw add-one (ap (λ rest. behind_more (take i bs) (cut b rest)) (drop-cons bs i 0 inside) ∙ cut-next b (get_or bs i 0) (drop (suc i) bs) (take i bs) other
    ∙ ap (λ xs. behind_more xs (cut b (drop (suc i) bs))) (sym (take-suc bs i 0 inside)))

-- the bytes up to the first one of a value are the first part

pub split_cut : (b : ℕ) (bs : List ℕ) (x : Cut) → cut b bs ≡ Some x → split b bs ≡ x.before ∷ split b x.behind
split_cut b [] x h = absurd (true≢false (sym (ap is_some h)))
split_cut b (c ∷ cs) x h = by (c == b) (cut b cs) h (λ z e. split_cut b cs z e)
  where
    by : (t : Bool) (y : Option Cut) → (if t then Some (record { before = []; behind = cs }) else cut_onto c y) ≡ Some x →
        ((z : Cut) → y ≡ Some z → split b cs ≡ z.before ∷ split b z.behind) →
        (if t then [] ∷ split b cs else split_onto c (split b cs)) ≡ x.before ∷ split b x.behind
    by true y e more = ap (λ (x : Cut). x.before ∷ split b x.behind) (ap the_cut e)
    by false None e more = absurd (true≢false (sym (ap is_some e)))
    by false (Some z) e more = ap (split_onto c) (more z refl) ∙ ap (λ (x : Cut). x.before ∷ split b x.behind) (ap the_cut e)

-- where there is none, all bytes are one part

pub split_whole : (b : ℕ) (bs : List ℕ) → cut b bs ≡ None → split b bs ≡ bs ∷ []
split_whole b [] h = refl
split_whole b (c ∷ cs) h = by (c == b) (cut b cs) h (λ e. split_whole b cs e)
  where
    by : (t : Bool) (y : Option Cut) → (if t then Some (record { before = []; behind = cs }) else cut_onto c y) ≡ None →
        (y ≡ None → split b cs ≡ cs ∷ []) → (if t then [] ∷ split b cs else split_onto c (split b cs)) ≡ (c ∷ cs) ∷ []
    by true y e more = absurd (true≢false (ap is_some e))
    by false None e more = ap (split_onto c) (more refl)
    by false (Some z) e more = absurd (true≢false (ap is_some e))

-- what stands behind the cut is shorter

pub cut_shorter : (b : ℕ) (bs : List ℕ) (x : Cut) → cut b bs ≡ Some x → length x.behind < length bs
cut_shorter b [] x h = absurd (true≢false (sym (ap is_some h)))
cut_shorter b (c ∷ cs) x h = by (c == b) (cut b cs) h (λ z e. cut_shorter b cs z e)
  where
    by : (t : Bool) (y : Option Cut) → (if t then Some (record { before = []; behind = cs }) else cut_onto c y) ≡ Some x →
        ((z : Cut) → y ≡ Some z → length z.behind < length cs) → length x.behind < length (c ∷ cs)
    by true y e more = omega (arith, ap (λ (x : Cut). length x.behind) (ap the_cut e))
    by false None e more = absurd (true≢false (sym (ap is_some e)))
    by false (Some z) e more = omega (arith, more z refl, ap (λ (x : Cut). length x.behind) (ap the_cut e))

-- one more part
pub part_more : (ps qs : List (Bor (List ℕ))) (p : Bor (List ℕ)) (b : ℕ) (rest behind : List ℕ) (whole : List (List ℕ)) → qs ≡ ps ++ (p ∷ []) → split b rest ≡ p.now ∷ split b behind →
    map (λ x. x.now) ps ++ split b rest ≡ whole → map (λ x. x.now) qs ++ split b behind ≡ whole
part_more ps qs p b rest behind whole more cut h =
    ap (λ xs. map (λ x. x.now) xs ++ split b behind) more
    ∙ ap (λ xs. xs ++ split b behind) (map-append (λ x. x.now) ps (p ∷ []))
    ∙ append_assoc (map (λ x. x.now) ps) (p.now ∷ []) (split b behind)
    ∙ ap (λ xs. map (λ x. x.now) ps ++ xs) (sym cut)
    ∙ h

-- the last part
pub part_last : (ps qs : List (Bor (List ℕ))) (p : Bor (List ℕ)) (b : ℕ) (whole : List ℕ) → qs ≡ ps ++ (p ∷ []) → split b p.now ≡ p.now ∷ [] →
    map (λ x. x.now) ps ++ split b p.now ≡ split b whole → map (λ x. x.now) qs ≡ split b whole
part_last ps qs p b whole more cut h = ap (map (λ x. x.now)) more ∙ map-append (λ x. x.now) ps (p ∷ []) ∙ ap (λ xs. map (λ x. x.now) ps ++ xs) (sym cut) ∙ h

-- there is a part, and there are at most as many as bytes and one more
pub split_some : (b : ℕ) (bs : List ℕ) → 0 < length (split b bs)
split_some b [] = omega arith
split_some b (c ∷ cs) = by (c == b) (split b cs) (split_some b cs)
  where
    by : (t : Bool) (ws : List (List ℕ)) → 0 < length ws → 0 < length (if t then [] ∷ ws else split_onto c ws)
    by true ws h = omega arith
    by false [] h = omega arith
    by false (w ∷ ws) h = omega arith

pub split_few : (b : ℕ) (bs : List ℕ) → length (split b bs) < length bs + 2
split_few b [] = omega arith
split_few b (c ∷ cs) = by (c == b) (split b cs) (split_few b cs)
  where
    by : (t : Bool) (ws : List (List ℕ)) → length ws < length cs + 2 → length (if t then [] ∷ ws else split_onto c ws) < length (c ∷ cs) + 2
    by true ws h = omega (arith, h)
    by false [] h = omega arith
    by false (w ∷ ws) h = omega (arith, h)
