-- Lists of fields and of formulas that stand in a table: as it grows, one more, one list behind another.
use Rattle.std.proofs.Common.{◌≡◌, refl, sym, ap, ◌∙◌, subst, ℕ, zero, suc, ◌+◌, ◌<◌, ◌≤◌, true, ◌&&◌, List, [], ◌∷◌, ◌++◌, map, take, drop, length, slice_get, get_or, Some, ◌-◌, add-one, append_assoc, length-drop, arith}
use Rattle.std.proofs.lemmas.List.{take_all, drop_all, append-nil}
use Rattle.std.proofs.lemmas.Option.{slice_get-get_or}
use Rattle.jh_form.specs.Tree.{TermTree, FieldTree, FormulaTree, more, or, of_field, of_truth}
use Rattle.jh_arena.specs.table.Entries.{Listing, is_field, is_truth, the_field, the_truth, are_fields, fields_at}
use Rattle.jh_arena.specs.table.Growth.{Extends}
use Rattle.jh_arena.specs.table.Nodes.{nodes}
use Rattle.jh_arena.specs.makers.Joined.{are_truths, truths_at}
use Rattle.jh_reach.specs.Axioms.{listed, disjoined, ways_on, ways_up, ways_compare, changed_one, changed_several, changed_ways, pairs_share_no_child, share_no_child}
use Rattle.jh_reach.specs.Standing.{AreFields, AreFormulas, HoldsField, IsAlong, fields_in}
use Rattle.jh_import.specs.entering.Entered.{IsList}
use Rattle.jh_form.proofs.ClosedLemmas.{both-left, both-right}
use Rattle.jh_arena.proofs.table.Growing.{are_fields-stay}
use Rattle.jh_path_formulas.proofs.NodeSteps.{it-is-field, it-is-truth, field-there, truth-there, holds-field}

pub fields-grow : (t u : Listing) (ns : List ℕ) (fs : List FieldTree) → Extends t u → AreFields t ns fs → AreFields u ns fs
unfolding AreFields
fields-grow t u [] [] g h = tt
fields-grow t u [] (f ∷ fs) g h = h
fields-grow t u (n ∷ ns) [] g h = h
fields-grow t u (n ∷ ns) (f ∷ fs) g h = (g.nodes.keeps n (of_field f) h.0, fields-grow t u ns fs g h.1)

pub formulas-grow : (t u : Listing) (ns : List ℕ) (done : List FormulaTree) → Extends t u → AreFormulas t ns done → AreFormulas u ns done
unfolding AreFormulas
formulas-grow t u [] [] g h = tt
formulas-grow t u [] (a ∷ done) g h = h
formulas-grow t u (n ∷ ns) [] g h = h
formulas-grow t u (n ∷ ns) (a ∷ done) g h = (g.nodes.keeps n (of_truth a) h.0, formulas-grow t u ns done g h.1)

pub formulas-append : (t : Listing) (ns ms : List ℕ) (done others : List FormulaTree) → AreFormulas t ns done → AreFormulas t ms others → AreFormulas t (ns ++ ms) (done ++ others)
unfolding AreFormulas
formulas-append t [] ms [] others h k = k
formulas-append t [] ms (a ∷ done) others h k = absurd h
formulas-append t (n ∷ ns) ms [] others h k = absurd h
formulas-append t (n ∷ ns) ms (a ∷ done) others h k = (h.0, formulas-append t ns ms done others h.1 k)

pub formulas-push : (t : Listing) (ns : List ℕ) (n : ℕ) (done : List FormulaTree) (a : FormulaTree) → AreFormulas t ns done → slice_get (nodes t) n ≡ Some (of_truth a) → AreFormulas t (ns ++ n ∷ []) (done ++ a ∷ [])
unfolding AreFormulas
formulas-push t ns n done a h k = formulas-append t ns (n ∷ []) done (a ∷ []) h (k, tt)

pub formulas-are : (t : Listing) (ns : List ℕ) (done : List FormulaTree) → AreFormulas t ns done → are_truths (nodes t) ns ≡ true
unfolding AreFormulas
formulas-are t [] done h = refl
formulas-are t (n ∷ ns) [] h = absurd h
formulas-are t (n ∷ ns) (a ∷ done) h = λ i. truth-there (slice_get (nodes t) n) a h.0 i && formulas-are t ns done h.1 i

pub formulas-at : (t : Listing) (ns : List ℕ) (done : List FormulaTree) → AreFormulas t ns done → truths_at (nodes t) ns ≡ done
unfolding AreFormulas the_truth
formulas-at t [] [] h = refl
formulas-at t [] (a ∷ done) h = absurd h
formulas-at t (n ∷ ns) [] h = absurd h
formulas-at t (n ∷ ns) (a ∷ done) h = λ i. the_truth (h.0 i) ∷ formulas-at t ns done h.1 i

pub fields-are : (t : Listing) (ns : List ℕ) (fs : List FieldTree) → AreFields t ns fs → are_fields (nodes t) ns ≡ true
unfolding AreFields are_fields
fields-are t [] fs h = refl
fields-are t (n ∷ ns) [] h = absurd h
fields-are t (n ∷ ns) (f ∷ fs) h = λ i. field-there (slice_get (nodes t) n) f h.0 i && fields-are t ns fs h.1 i

pub fields-at : (t : Listing) (ns : List ℕ) (fs : List FieldTree) → AreFields t ns fs → fields_at (nodes t) ns ≡ listed fs
unfolding AreFields fields_at the_field
fields-at t [] [] h = refl
fields-at t [] (f ∷ fs) h = absurd h
fields-at t (n ∷ ns) [] h = absurd h
fields-at t (n ∷ ns) (f ∷ fs) h = λ i. more (the_field (h.0 i)) (fields-at t ns fs h.1 i)

-- fields stand where fields are
pub fields-there : (t : Listing) (ns : List ℕ) → are_fields (nodes t) ns ≡ true → AreFields t ns (fields_in (nodes t) ns)
unfolding AreFields are_fields
fields-there t [] h = tt
fields-there t (n ∷ ns) h = (it-is-field (slice_get (nodes t) n) (both-left (is_field (slice_get (nodes t) n)) (are_fields (nodes t) ns) h), fields-there t ns (both-right (is_field (slice_get (nodes t) n)) (are_fields (nodes t) ns) h))

-- one field of a list
pub field-of : (t : Listing) (ns : List ℕ) (fs : List FieldTree) (i n : ℕ) → AreFields t ns fs → slice_get ns i ≡ Some n → (f : FieldTree) × (slice_get fs i ≡ Some f) × (slice_get (nodes t) n ≡ Some (of_field f))
unfolding AreFields
field-of t [] fs i n h at = absurd (cc)
field-of t (m ∷ ns) [] i n h at = absurd h
field-of t (m ∷ ns) (f ∷ fs) zero n h at = let same : m ≡ n = cc in (f, refl, subst (λ (k : ℕ). slice_get (nodes t) k ≡ Some (of_field f)) same h.0)
field-of t (m ∷ ns) (f ∷ fs) (suc i) n h at = field-of t ns fs i n h.1 at

pub fields-length : (t : Listing) (ns : List ℕ) (fs : List FieldTree) → AreFields t ns fs → length fs ≡ length ns
unfolding AreFields
fields-length t [] [] h = refl
fields-length t [] (f ∷ fs) h = absurd h
fields-length t (n ∷ ns) [] h = absurd h
fields-length t (n ∷ ns) (f ∷ fs) h = ap suc (fields-length t ns fs h.1)

pub fields-drop : (t : Listing) (ns : List ℕ) (fs : List FieldTree) (i : ℕ) → AreFields t ns fs → AreFields t (drop i ns) (drop i fs)
unfolding AreFields
fields-drop t ns fs zero h = h
fields-drop t [] [] (suc i) h = tt
fields-drop t [] (f ∷ fs) (suc i) h = absurd h
fields-drop t (n ∷ ns) [] (suc i) h = absurd h
fields-drop t (n ∷ ns) (f ∷ fs) (suc i) h = fields-drop t ns fs i h.1

-- what is said of the fields so far, and of one more
pub map-more : {X Y : Type 0} (part : X → Y) (gs : List X) (i : ℕ) (g : X) → slice_get gs i ≡ Some g → map part (take (suc i) gs) ≡ map part (take i gs) ++ part g ∷ []
map-more part [] i g at = absurd (cc)
map-more part (f ∷ gs) zero g at = let same : f ≡ g = cc in ap (λ z. part z ∷ []) same
map-more part (f ∷ gs) (suc i) g at = ap (λ zs. part f ∷ zs) (map-more part gs i g at)

pub more-parts : (part : FieldTree → FormulaTree) (gs : List FieldTree) (i : ℕ) (g : FieldTree) (done : List FormulaTree) → slice_get gs i ≡ Some g → (done ++ map part (take i gs)) ++ part g ∷ [] ≡ done ++ map part (take (i + 1) gs)
more-parts part gs i g done at = append_assoc done (map part (take i gs)) (part g ∷ []) ∙ ap (λ zs. done ++ zs) (sym (map-more part gs i g at)) ∙ ap (λ k. done ++ map part (take k gs)) (sym (add-one i))

pub all-parts : (part : FieldTree → FormulaTree) (gs : List FieldTree) (i : ℕ) (done : List FormulaTree) → length gs ≤ i → done ++ map part (take i gs) ≡ done ++ map part gs
all-parts part gs i done past = ap (λ zs. done ++ map part zs) (take_all i gs past)

pub no-parts : (part : FieldTree → FormulaTree) (gs : List FieldTree) (done : List FormulaTree) → done ++ map part (take 0 gs) ≡ done
no-parts part gs done = append-nil done

-- the pairs of the fields so far, with those that are left
pairs-at : (gs : List FieldTree) (i : ℕ) (g : FieldTree) → slice_get gs i ≡ Some g → pairs_share_no_child (drop i gs) ≡ map (share_no_child g) (drop (suc i) gs) ++ pairs_share_no_child (drop (suc i) gs)
pairs-at [] i g at = absurd (cc)
pairs-at (f ∷ gs) zero g at = let same : f ≡ g = cc in ap (λ z. map (share_no_child z) gs ++ pairs_share_no_child gs) same
pairs-at (f ∷ gs) (suc i) g at = pairs-at gs i g at

-- a list and its fields
pub along-list : (t : Listing) (l : ℕ) (ns : List ℕ) (fs : List FieldTree) → IsAlong t l ns → AreFields t ns fs → IsList t l (listed fs)
along-list t l ns fs h k = record { items = ns; listed = h.named; fields = h.are; trees = fields-at t ns fs k }

pub along-fields : (t : Listing) (l : ℕ) (ns : List ℕ) → IsAlong t l ns → AreFields t ns (fields_in (nodes t) ns)
along-fields t l ns h = fields-there t ns h.are

pub along-grows : (t u : Listing) (l : ℕ) (ns : List ℕ) → Extends t u → IsAlong t l ns → IsAlong u l ns
along-grows t u l ns g h = record {
  named = g.lists.keeps l ns h.named;
  are = are_fields-stay t.pools u.pools (nodes t) (nodes u) g.names g.marks g.lists g.nodes ns h.are ∙ h.are;
}

pub formulas-none : (t : Listing) (ns : List ℕ) → ns ≡ [] → AreFormulas t ns []
unfolding AreFormulas
formulas-none t ns e = subst (λ (ms : List ℕ). AreFormulas t ms []) (sym e) tt

pub formulas-as : (t : Listing) (ns ms : List ℕ) (done all : List FormulaTree) → AreFormulas t ns done → ns ≡ ms → done ≡ all → AreFormulas t ms all
formulas-as t ns ms done all h e k = subst (λ (z : List FormulaTree). AreFormulas t ms z) k (subst (λ (z : List ℕ). AreFormulas t z done) e h)

-- a field of a list of fields, also in a table that has grown
pub item-holds : (t u : Listing) (ns : List ℕ) (i : ℕ) → Extends t u → are_fields (nodes t) ns ≡ true → i < length ns → HoldsField u (get_or ns i 0)
item-holds t u ns i g h lt =
    let f = field-of t ns (fields_in (nodes t) ns) i (get_or ns i 0) (fields-there t ns h) (slice_get-get_or ns i 0 lt) in
    holds-field (slice_get (nodes u) (get_or ns i 0)) f.0 (g.nodes.keeps (get_or ns i 0) (of_field f.0) f.2)

-- one more part behind those of the fields so far
pub parts-step : (t u : Listing) (made now : List ℕ) (node i : ℕ) (part : FieldTree → FormulaTree) (gs : List FieldTree) (g : FieldTree) (done : List FormulaTree) →
    Extends t u → AreFormulas t made (done ++ map part (take i gs)) → slice_get gs i ≡ Some g → slice_get (nodes u) node ≡ Some (of_truth (part g)) → now ≡ made ++ node ∷ [] →
    AreFormulas u now (done ++ map part (take (i + 1) gs))
parts-step t u made now node i part gs g done grows h at there pushed =
    formulas-as u (made ++ node ∷ []) now ((done ++ map part (take i gs)) ++ part g ∷ []) (done ++ map part (take (i + 1) gs))
    (formulas-push u made node (done ++ map part (take i gs)) (part g) (formulas-grow t u made (done ++ map part (take i gs)) grows h) there)
    (sym pushed) (more-parts part gs i g done at)

pub parts-end : (t s : Listing) (ns made : List ℕ) (i : ℕ) (part : FieldTree → FormulaTree) (gs : List FieldTree) (done : List FormulaTree) → AreFields s ns gs → AreFormulas t made (done ++ map part (take i gs)) → length ns ≤ i → AreFormulas t made (done ++ map part gs)
parts-end t s ns made i part gs done fields h past =
    subst (λ (z : List FormulaTree). AreFormulas t made z) (all-parts part gs i done (let same = fields-length s ns gs fields in omega arith)) h

-- the rest of a slice from a place on
pub rest-is : (ns : List ℕ) (k : ℕ) → take (length ns - k) (drop k ns) ≡ drop k ns
rest-is ns k = take_all (length ns - k) (drop k ns) (omega (arith, length-drop k ns))

pub rest-fields : (t u : Listing) (ns : List ℕ) (k : ℕ) (gs : List FieldTree) → Extends t u → AreFields t ns gs → AreFields u (take (length ns - k) (drop k ns)) (drop k gs)
rest-fields t u ns k gs g h =
    subst (λ (ms : List ℕ). AreFields u ms (drop k gs)) (sym (rest-is ns k)) (fields-drop u ns gs k (fields-grow t u ns gs g h))

pub rest-are : (t u : Listing) (ns : List ℕ) (k : ℕ) → Extends t u → are_fields (nodes t) ns ≡ true → are_fields (nodes u) (take (length ns - k) (drop k ns)) ≡ true
rest-are t u ns k g h =
    let gs = fields_in (nodes t) ns in
    fields-are u (take (length ns - k) (drop k ns)) (drop k gs) (rest-fields t u ns k gs g (fields-there t ns h))

pub pairs-next : (gs : List FieldTree) (i : ℕ) (g : FieldTree) (now : List FormulaTree) → slice_get gs i ≡ Some g →
    (now ++ map (share_no_child g) (drop (i + 1) gs)) ++ pairs_share_no_child (drop (i + 1) gs) ≡ now ++ pairs_share_no_child (drop i gs)
pairs-next gs i g now at =
    append_assoc now (map (share_no_child g) (drop (i + 1) gs)) (pairs_share_no_child (drop (i + 1) gs))
    ∙ ap (λ zs. now ++ zs) (ap (λ k. map (share_no_child g) (drop k gs) ++ pairs_share_no_child (drop k gs)) (add-one i) ∙ sym (pairs-at gs i g at))

pub pairs-end : (t s : Listing) (ns made : List ℕ) (i : ℕ) (gs : List FieldTree) (now all : List FormulaTree) → AreFields s ns gs → AreFormulas t made now → now ++ pairs_share_no_child (drop i gs) ≡ all → length ns ≤ i → AreFormulas t made all
pairs-end t s ns made i gs now all fields h e past =
    let none_left : drop i gs ≡ [] = drop_all i gs (let same = fields-length s ns gs fields in omega arith) in
    subst (λ (z : List FormulaTree). AreFormulas t made z) (sym (append-nil now) ∙ ap (λ zs. now ++ pairs_share_no_child zs) (sym none_left) ∙ e) h

-- formulas joined by Or from their end
pub formulas-there : (t : Listing) (ns : List ℕ) → are_truths (nodes t) ns ≡ true → AreFormulas t ns (truths_at (nodes t) ns)
unfolding AreFormulas
formulas-there t [] h = tt
formulas-there t (n ∷ ns) h = (it-is-truth (slice_get (nodes t) n) (both-left (is_truth (slice_get (nodes t) n)) (are_truths (nodes t) ns) h), formulas-there t ns (both-right (is_truth (slice_get (nodes t) n)) (are_truths (nodes t) ns) h))

pub formula-of : (t : Listing) (ns : List ℕ) (all : List FormulaTree) (i n : ℕ) → AreFormulas t ns all → slice_get ns i ≡ Some n → (a : FormulaTree) × (slice_get all i ≡ Some a) × (slice_get (nodes t) n ≡ Some (of_truth a))
unfolding AreFormulas
formula-of t [] all i n h at = absurd (cc)
formula-of t (m ∷ ns) [] i n h at = absurd h
formula-of t (m ∷ ns) (a ∷ all) zero n h at = let same : m ≡ n = cc in (a, refl, subst (λ (k : ℕ). slice_get (nodes t) k ≡ Some (of_truth a)) same h.0)
formula-of t (m ∷ ns) (a ∷ all) (suc i) n h at = formula-of t ns all i n h.1 at

pub formulas-length : (t : Listing) (ns : List ℕ) (all : List FormulaTree) → AreFormulas t ns all → length all ≡ length ns
unfolding AreFormulas
formulas-length t [] [] h = refl
formulas-length t [] (a ∷ all) h = absurd h
formulas-length t (n ∷ ns) [] h = absurd h
formulas-length t (n ∷ ns) (a ∷ all) h = ap suc (formulas-length t ns all h.1)

pub no-formulas : (all : List FormulaTree) → length all ≡ 0 → all ≡ []
no-formulas [] h = refl
no-formulas (a ∷ all) h = absurd (omega arith)

pub disjoined-last : (all : List FormulaTree) (i : ℕ) (a : FormulaTree) → slice_get all i ≡ Some a → length all ≡ suc i → disjoined (drop i all) ≡ a
disjoined-last [] i a at long = absurd (cc)
disjoined-last (b ∷ []) zero a at long = cc
disjoined-last (b ∷ []) (suc i) a at long = absurd (cc)
disjoined-last (b ∷ d ∷ all) zero a at long = absurd (omega arith)
disjoined-last (b ∷ d ∷ all) (suc i) a at long = disjoined-last (d ∷ all) i a at (omega arith)

disjoined-before : (all : List FormulaTree) (i : ℕ) (a : FormulaTree) → slice_get all i ≡ Some a → suc i < length all → or a (disjoined (drop (suc i) all)) ≡ disjoined (drop i all)
disjoined-before [] i a at lt = absurd (cc)
disjoined-before (b ∷ []) i a at lt = absurd (omega arith)
disjoined-before (b ∷ d ∷ all) zero a at lt = let same : a ≡ b = cc in ap (λ z. or z (disjoined (d ∷ all))) same
disjoined-before (b ∷ d ∷ all) (suc i) a at lt = disjoined-before (d ∷ all) i a at (omega arith)

pub disjoined-step : (all : List FormulaTree) (i j : ℕ) (a : FormulaTree) → slice_get all i ≡ Some a → j ≡ suc i → j < length all → or a (disjoined (drop j all)) ≡ disjoined (drop i all)
disjoined-step all i j a at next lt =
    ap (λ k. or a (disjoined (drop k all))) next ∙ disjoined-before all i a at (omega arith)

-- along one field, and along several
pub compare-one : (fs : List FieldTree) → length fs ≡ 1 → ways_on fs ≡ ways_compare fs
compare-one [] e = absurd (omega arith)
compare-one (f ∷ []) e = refl
compare-one (f ∷ g ∷ fs) e = absurd (omega arith)

pub compare-several : (fs : List FieldTree) → (length fs ≡ 1 → ⊥) → ways_up fs ≡ ways_compare fs
compare-several [] ne = refl
compare-several (f ∷ []) ne = absurd (ne refl)
compare-several (f ∷ g ∷ fs) ne = refl

pub changed-one : (new old : List FieldTree) (f : FieldTree) (a v : TermTree) → length old ≡ 1 → changed_one new old a v ≡ changed_ways new old f a v
changed-one new [] f a v e = absurd (omega arith)
changed-one new (g ∷ []) f a v e = refl
changed-one new (g ∷ k ∷ old) f a v e = absurd (omega arith)

pub changed-several : (new old : List FieldTree) (f : FieldTree) (a v : TermTree) → (length old ≡ 1 → ⊥) → changed_several new old f a v ≡ changed_ways new old f a v
changed-several new [] f a v ne = refl
changed-several new (g ∷ []) f a v ne = absurd (ne refl)
changed-several new (g ∷ k ∷ old) f a v ne = refl
