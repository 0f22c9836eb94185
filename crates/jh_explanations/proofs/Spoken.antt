-- What the classes are told of literals.
use Rattle.std.proofs.Common.{◌≡◌, refl, sym, ap, ◌∙◌, Bool, true, false, not, ℕ, zero, suc, List, [], ◌∷◌, ◌++◌, length, take, slice_get}
use Rattle.jh_form.specs.Tree.{FormulaTree, ValueTree}
use Rattle.jh_form.specs.Tree as t
use Rattle.jh_closure.specs.structures.Literals.{Says, Denies, MeetsOne, Meets}
use Rattle.jh_cong.specs.flattening.TreeValues.{NumberStructure}
use Rattle.jh_cong.specs.classes.Saying.{literals}
use Rattle.jh_cong.specs.classes.Saying as cong
use Rattle.jh_cong.specs.declared.classes.literal.Said.{Said}
use Rattle.jh_propagation.specs.declared.trail.decided.Decided.{Decided}
use Rattle.jh_propagation.specs.trail.Listing.{picked, one_more}
use Rattle.jh_propagation.specs.trail.Saying.{literals_at}
use Rattle.jh_propagation.specs.propagation.Speaking.{AreSpoken, Speaks}

pub spoken-more : (us ts : List ValueTree) (ds : List Decided) (es : List Said) (d : Decided) (e : Said) → AreSpoken us ts ds es → Speaks us ts e d → AreSpoken us ts (ds ++ d ∷ []) (es ++ e ∷ [])
spoken-more us ts [] [] d e h k = (k, tt)
spoken-more us ts [] (f ∷ es) d e h k = absurd h
spoken-more us ts (c ∷ ds) [] d e h k = absurd h
spoken-more us ts (c ∷ ds) (f ∷ es) d e h k = (h.0, spoken-more us ts ds es d e h.1 k)

pub spoken-taken : (us ts : List ValueTree) (n : ℕ) (ds : List Decided) (es : List Said) → AreSpoken us ts ds es → AreSpoken us ts (take n ds) (take n es)
spoken-taken us ts zero ds es h = tt
spoken-taken us ts (suc n) [] [] h = tt
spoken-taken us ts (suc n) [] (f ∷ es) h = absurd h
spoken-taken us ts (suc n) (c ∷ ds) [] h = absurd h
spoken-taken us ts (suc n) (c ∷ ds) (f ∷ es) h = (h.0, spoken-taken us ts n ds es h.1)

pub spoken-long : (us ts : List ValueTree) (ds : List Decided) (es : List Said) → AreSpoken us ts ds es → length es ≡ length ds
spoken-long us ts [] [] h = refl
spoken-long us ts [] (f ∷ es) h = absurd h
spoken-long us ts (c ∷ ds) [] h = absurd h
spoken-long us ts (c ∷ ds) (f ∷ es) h = ap suc (spoken-long us ts ds es h.1)

pub meets-told : (m : NumberStructure) (us ts : List ValueTree) (ds : List Decided) (es : List Said) → AreSpoken us ts ds es → Meets m (literals_at ts ds) → Meets m (literals us es)
meets-told m us ts [] [] h k = tt
meets-told m us ts [] (f ∷ es) h k = absurd h
meets-told m us ts (c ∷ ds) [] h k = absurd h
meets-told m us ts (c ∷ ds) (f ∷ es) h k = ((h.0.same m).1 k.0, meets-told m us ts ds es h.1 k.1)

pub told-meets : (m : NumberStructure) (us ts : List ValueTree) (ds : List Decided) (es : List Said) → AreSpoken us ts ds es → Meets m (literals us es) → Meets m (literals_at ts ds)
told-meets m us ts [] [] h k = tt
told-meets m us ts [] (f ∷ es) h k = absurd h
told-meets m us ts (c ∷ ds) [] h k = absurd h
told-meets m us ts (c ∷ ds) (f ∷ es) h k = ((h.0.same m).0 k.0, told-meets m us ts ds es h.1 k.1)

-- what stands at places of both
spoken-one : (us ts : List ValueTree) (ds : List Decided) (es : List Said) → AreSpoken us ts ds es → (n : ℕ) (xs : List Decided) (ys : List Said) → AreSpoken us ts xs ys → AreSpoken us ts (one_more (slice_get ds n) xs) (cong.one_more (slice_get es n) ys)
spoken-one us ts [] [] h n xs ys k = k
spoken-one us ts [] (f ∷ es) h n xs ys k = absurd h
spoken-one us ts (c ∷ ds) [] h n xs ys k = absurd h
spoken-one us ts (c ∷ ds) (f ∷ es) h zero xs ys k = (h.0, k)
spoken-one us ts (c ∷ ds) (f ∷ es) h (suc n) xs ys k = spoken-one us ts ds es h.1 n xs ys k

pub spoken-picked : (us ts : List ValueTree) (ds : List Decided) (es : List Said) → AreSpoken us ts ds es → (ns : List ℕ) → AreSpoken us ts (picked ds ns) (cong.picked es ns)
spoken-picked us ts ds es h [] = tt
spoken-picked us ts ds es h (n ∷ ns) = spoken-one us ts ds es h n (picked ds ns) (cong.picked es ns) (spoken-picked us ts ds es h ns)

-- no structure meets a literal and its opposite
never-both : (s : NumberStructure) (a : FormulaTree) → Says s a → Denies s a → ⊥
never-both s (t.eq_object a b) h d = d h
never-both s (t.eq_number a b) h d = d h
never-both s (t.eq_set a b) h d = d h
never-both s (t.iff a b) h d = d h
never-both s (t.mark k a) h d = never-both s a h d
never-both s _ h d = s.truths_differ (sym h ∙ d)

pub not-opposites : (s : NumberStructure) (a : FormulaTree) (p : Bool) → MeetsOne s p a → MeetsOne s (not p) a → ⊥
not-opposites s a true h k = never-both s a h k
not-opposites s a false k h = never-both s a h k
