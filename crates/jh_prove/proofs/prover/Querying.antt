-- The query of a sequent that is asked.
use Rattle.std.proofs.Common.{◌≡◌, refl, ap, ◌∙◌, ◌&&◌, ℕ, Bool, true, List, [], ◌∷◌, slice_get, Some}
use Rattle.jh_form.specs.Tree.{FormulaTree, ValueTree, of_truth}
use Rattle.jh_arena.specs.table.Entries.{is_truth, the_truth}
use Rattle.jh_arena.specs.table.Growth.{Grows}
use Rattle.jh_arena.specs.makers.Joined.{are_truths, truths_at}
use Rattle.jh_query.specs.queries.Tree.{QueryTree}
use Rattle.jh_approx.specs.definition.Shown.{shown}
use Rattle.jh_approx.specs.definition.Regions.{bapa_of, kept_facts, query_from, unlabelled}
use Rattle.jh_local.specs.jh_abstraction.choice_of_hypotheses.Asking.{AreNodes}
use Rattle.jh_seq.specs.sequent.Sequents.{SequentTree}

first-same : {X : Type 0} (x y : X) (xs ys : List X) → x ∷ xs ≡ y ∷ ys → x ≡ y
first-same x y xs ys e = cc

rest-same : {X : Type 0} (x y : X) (xs ys : List X) → x ∷ xs ≡ y ∷ ys → xs ≡ ys
rest-same x y xs ys e = cc

none-more : {X : Type 0} (y : X) (ys : List X) → [] ≡ y ∷ ys → ⊥
none-more y ys e = cc

more-none : {X : Type 0} (y : X) (ys : List X) → y ∷ ys ≡ [] → ⊥
more-none y ys e = cc

-- formulas at nodes stay while the table grows
pub nodes-grow : (ts us : List ValueTree) → Grows ts us → (ns : List ℕ) (trees : List FormulaTree) → AreNodes ts ns trees → AreNodes us ns trees
nodes-grow ts us g [] [] h = refl
nodes-grow ts us g [] (a ∷ trees) h = absurd (none-more _ _ h)
nodes-grow ts us g (n ∷ ns) [] h = absurd (more-none _ _ h)
nodes-grow ts us g (n ∷ ns) (a ∷ trees) h =
    let first : slice_get us n ≡ Some (of_truth a) = g.keeps n (of_truth a) (first-same _ _ _ _ h) in
    let rest : AreNodes us ns trees = nodes-grow ts us g ns trees (rest-same _ _ _ _ h) in
    λ i. first i ∷ rest i

pub nodes-truths : (ts : List ValueTree) (ns : List ℕ) (trees : List FormulaTree) → AreNodes ts ns trees → truths_at ts ns ≡ trees
unfolding the_truth
nodes-truths ts [] [] h = refl
nodes-truths ts [] (a ∷ trees) h = absurd (none-more _ _ h)
nodes-truths ts (n ∷ ns) [] h = absurd (more-none _ _ h)
nodes-truths ts (n ∷ ns) (a ∷ trees) h =
    let first : the_truth (slice_get ts n) ≡ a = ap the_truth (first-same _ _ _ _ h) in
    let rest : truths_at ts ns ≡ trees = nodes-truths ts ns trees (rest-same _ _ _ _ h) in
    λ i. first i ∷ rest i

pub nodes-are-truths : (ts : List ValueTree) (ns : List ℕ) (trees : List FormulaTree) → AreNodes ts ns trees → are_truths ts ns ≡ true
unfolding is_truth
nodes-are-truths ts [] [] h = refl
nodes-are-truths ts [] (a ∷ trees) h = absurd (none-more _ _ h)
nodes-are-truths ts (n ∷ ns) [] h = absurd (more-none _ _ h)
nodes-are-truths ts (n ∷ ns) (a ∷ trees) h = ap (λ (b : Bool). b && are_truths ts ns) (ap is_truth (first-same _ _ _ _ h)) ∙ nodes-are-truths ts ns trees (rest-same _ _ _ _ h)

-- the query over what was made of a sequent, node by node
pub query-is : (t u v w : List ValueTree) → Grows t u → Grows u v → Grows v w → (s : SequentTree) (kept : List ℕ) (asked goal : ℕ) → slice_get t asked ≡ Some (of_truth (unlabelled s).goal) →
    AreNodes u kept (kept_facts (unlabelled s)) → slice_get v goal ≡ Some (of_truth (shown (the_truth (slice_get u asked)) true)) →
    (q : QueryTree) → q ≡ query_from (truths_at w kept) (the_truth (slice_get w goal)) → q ≡ bapa_of s
unfolding bapa_of the_truth
query-is t u v w f g h s kept asked goal wanted facts said q is =
    let hyps : truths_at w kept ≡ kept_facts (unlabelled s) = nodes-truths w kept _ (nodes-grow v w h kept _ (nodes-grow u v g kept _ facts)) in
    let here : the_truth (slice_get u asked) ≡ (unlabelled s).goal = ap the_truth (f.keeps asked _ wanted) in
    let there : the_truth (slice_get w goal) ≡ shown (unlabelled s).goal true = ap the_truth (h.keeps goal _ said) ∙ ap (λ (a : FormulaTree). shown a true) here in
    is ∙ (λ i. query_from (hyps i) (there i))
