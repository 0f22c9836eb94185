-- The facts of a sequent whose formulas are boxed from nodes.
use Rattle.std.proofs.Common.{◌≡◌, refl, sym, ap, ◌∙◌, ℕ, ◌+◌, List, [], ◌∷◌, ◌++◌, map, take, slice_get, Some}
use Rattle.std.proofs.lemmas.List.{map_push, take_more}
use Rattle.std.proofs.lemmas.Option.{slice_get_within, get_or_from_slice_get}
use Rattle.jh_form.specs.Tree.{FormulaTree, ValueTree, of_truth}
use Rattle.jh_form.specs.Tree as t
use Rattle.jh_form.specs.Bare.{formula_tree}
use Rattle.jh_boxed_operations.specs.comparison.Unmarked.{unmarked_formula}
use Rattle.jh_arena.specs.table.Entries.{Listing, the_truth}
use Rattle.jh_arena.specs.table.Nodes.{nodes}
use Rattle.jh_deriv.specs.jh_reach.Standing.{AreFormulas}
use Rattle.jh_local_form.specs.declared.local_sequents.forming.LocalForm.{LocalForm}
use Rattle.jh_local_form.specs.local_sequents.Forming.{IsFormed}
use Rattle.jh_seq.specs.sequent.Sequents.{HypTree, SequentTree, hyp_tree, sequent_tree}
use Rattle.jh_seq.specs.declared.sequent.sequent.Hyp.{Hyp}
use Rattle.jh_seq.specs.declared.sequent.sequent.Sequent.{Sequent}
use Rattle.jh_derivation_rules.specs.Closes.{facts_of}
use Rattle.jh_instance_proofs.specs.derivations.Facts.{formula_at, formulas_at, hyp_fact, hyp_facts}

pub take-next : {X : Type 0} (xs : List X) (i : ℕ) (x : X) → slice_get xs i ≡ Some x → take (i + 1) xs ≡ take i xs ++ x ∷ []
take-next xs i x at = take_more xs i x (slice_get_within xs i x at) ∙ ap (λ y. take i xs ++ y ∷ []) (get_or_from_slice_get xs i x x at)

-- one more hypothesis
pub hyps-next : (ts : List ValueTree) (ns : List ℕ) (hs more : List Hyp) (i n : ℕ) (h : Hyp) → slice_get ns i ≡ Some n → more ≡ hs ++ h ∷ [] → hyp_facts hs ≡ formulas_at ts (take i ns) → hyp_fact h ≡ formula_at ts n →
    hyp_facts more ≡ formulas_at ts (take (i + 1) ns)
hyps-next ts ns hs more i n h at is before same =
    ap (λ zs. hyp_facts zs) is ∙ map_push hyp_fact hs h ∙ (λ j. before j ++ same j ∷ []) ∙ sym (map_push (formula_at ts) (take i ns) n) ∙ ap (λ zs. formulas_at ts zs) (sym (take-next ns i n at))

-- the formulas at the nodes of a form are the facts of its sequent
one-at : (ts : List ValueTree) (n : ℕ) (a : FormulaTree) → slice_get ts n ≡ Some (of_truth a) → formula_at ts n ≡ a
unfolding the_truth
one-at ts n a at = ap the_truth at

all-at : (l : Listing) (ns : List ℕ) (fs : List FormulaTree) → AreFormulas l ns fs → formulas_at (nodes l) ns ≡ fs
unfolding AreFormulas
all-at l [] [] h = refl
all-at l [] (a ∷ fs) h = absurd h
all-at l (n ∷ ns) [] h = absurd h
all-at l (n ∷ ns) (a ∷ fs) h = λ i. one-at (nodes l) n a h.0 i ∷ all-at l ns fs h.1 i

-- facts without labels depend on the formulas alone
boxed-facts : (hs : List Hyp) → map (λ (h : HypTree). unmarked_formula h.fact) (map hyp_tree hs) ≡ map unmarked_formula (hyp_facts hs)
unfolding hyp_tree
boxed-facts [] = refl
boxed-facts (h ∷ hs) = ap (λ fs. unmarked_formula (hyp_fact h) ∷ fs) (boxed-facts hs)

plain-facts : (hs : List HypTree) → map unmarked_formula (map (λ (h : HypTree). h.fact) hs) ≡ map (λ (h : HypTree). unmarked_formula h.fact) hs
plain-facts [] = refl
plain-facts (h ∷ hs) = ap (λ fs. unmarked_formula h.fact ∷ fs) (plain-facts hs)

pub facts-same : (l : Listing) (form : LocalForm) (made : Sequent) (s : SequentTree) → IsFormed l form s → hyp_facts made.hyps ≡ formulas_at (nodes l) form.facts → formula_tree made.goal ≡ formula_at (nodes l) form.goal →
    facts_of (sequent_tree made) ≡ facts_of s
unfolding sequent_tree
facts-same l form made s formed facts goal = λ i.
    (boxed-facts made.hyps
    ∙ ap (λ (fs : List FormulaTree). map unmarked_formula fs) (facts ∙ all-at l form.facts (map (λ (h : HypTree). h.fact) s.hyps) formed.facts)
    ∙ plain-facts s.hyps) i
    ++ (t.negation (unmarked_formula ((goal ∙ one-at (nodes l) form.goal s.goal formed.goal) i)) ∷ [])
