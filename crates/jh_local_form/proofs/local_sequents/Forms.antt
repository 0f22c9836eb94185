-- The formulas of a sequent, step by step, and where they stand.
use Rattle.std.proofs.Common.{◌≡◌, refl, sym, ap, subst, ◌∙◌, ℕ, zero, suc, ◌+◌, Bool, true, false, if◌then◌else◌, List, [], ◌∷◌, ◌++◌, map, take, length, ◌≤◌, slice_get, Option, Some, None, append-nil, arith}
use Rattle.std.specs.Prelude.{filter}
use Rattle.std.proofs.lemmas.List.{map-append, take_all}
use Rattle.std.proofs.lemmas.List.Elements.{filter-append}
use Rattle.jh_form.specs.Tree.{FormulaTree, ValueTree, of_truth}
use Rattle.jh_arena.specs.table.Entries.{Listing, is_truth, the_truth}
use Rattle.jh_arena.specs.table.Growth.{Extends}
use Rattle.jh_arena.specs.table.Nodes.{nodes}
use Rattle.jh_seq.specs.sequent.Sequents.{HypTree, SequentTree}
use Rattle.jh_reach.specs.Standing.{AreFormulas}
use Rattle.jh_reach.proofs.Standings.{formulas-grow, formulas-append, formulas-push, formula-of, formulas-length}
use Rattle.jh_fca.specs.local_form.Each.{over_facts, over_each, with_facts, formulas}
use Rattle.jh_local_form.specs.declared.local_sequents.forming.LocalForm.{LocalForm}
use Rattle.jh_local_form.specs.local_sequents.Forming.{IsFormed}
use Rattle.jh_local_form.proofs.updates.Places.{take-next, map-next}

-- ---- the facts of steps

-- the facts with f of each
pub over-facts : (f : FormulaTree → FormulaTree) (hs : List HypTree) → map (λ (h : HypTree). h.fact) (over_facts f hs) ≡ map f (map (λ (h : HypTree). h.fact) hs)
over-facts f [] = refl
over-facts f (h ∷ hs) = ap (λ fs. f h.fact ∷ fs) (over-facts f hs)

fresh-facts : (facts : List FormulaTree) → map (λ (h : HypTree). h.fact) (map (λ a. record { name = None; fact = a }) facts) ≡ facts
fresh-facts [] = refl
fresh-facts (a ∷ facts) = ap (λ fs. a ∷ fs) (fresh-facts facts)

-- more facts behind those of the hypotheses
pub more-facts : (facts : List FormulaTree) (s : SequentTree) → map (λ (h : HypTree). h.fact) (with_facts facts s).hyps ≡ map (λ (h : HypTree). h.fact) s.hyps ++ facts
more-facts facts s = map-append (λ (h : HypTree). h.fact) s.hyps (map (λ a. record { name = None; fact = a }) facts) ∙ ap (λ fs. map (λ (h : HypTree). h.fact) s.hyps ++ fs) (fresh-facts facts)

-- ---- where they stand

pub formed-grows : (t u : Listing) → Extends t u → (form : LocalForm) (s : SequentTree) → IsFormed t form s → IsFormed u form s
formed-grows t u g form s h = record { facts = formulas-grow t u form.facts (map (λ (x : HypTree). x.fact) s.hyps) g h.facts; goal = g.nodes.keeps form.goal (of_truth s.goal) h.goal }

pub formulas-stand : (t : Listing) (form : LocalForm) (s : SequentTree) (ns : List ℕ) → IsFormed t form s → ns ≡ form.facts ++ form.goal ∷ [] → AreFormulas t ns (formulas s)
formulas-stand t form s ns h e = subst (λ (ms : List ℕ). AreFormulas t ms (formulas s)) (sym e) (formulas-push t form.facts form.goal (map (λ (x : HypTree). x.fact) s.hyps) s.goal h.facts h.goal)

-- f of each fact and g of the goal
pub each-formed : (t : Listing) (f g : FormulaTree → FormulaTree) (s : SequentTree) (form : LocalForm) → AreFormulas t form.facts (map f (map (λ (h : HypTree). h.fact) s.hyps)) → slice_get (nodes t) form.goal ≡ Some (of_truth (g s.goal)) → IsFormed t form (over_each f g s)
each-formed t f g s form h k = record { facts = subst (λ (fs : List FormulaTree). AreFormulas t form.facts fs) (sym (over-facts f s.hyps)) h; goal = k }

-- more facts behind the others
pub more-formed : (t : Listing) (facts : List FormulaTree) (s : SequentTree) (form : LocalForm) → AreFormulas t form.facts (map (λ (h : HypTree). h.fact) s.hyps ++ facts) → slice_get (nodes t) form.goal ≡ Some (of_truth s.goal) → IsFormed t form (with_facts facts s)
more-formed t facts s form h k = record { facts = subst (λ (fs : List FormulaTree). AreFormulas t form.facts fs) (sym (more-facts facts s)) h; goal = k }

-- f of each fact, g of the goal, and more facts behind
pub each-more : (t : Listing) (f g : FormulaTree → FormulaTree) (more : List FormulaTree) (s : SequentTree) (form : LocalForm) → AreFormulas t form.facts (map f (map (λ (h : HypTree). h.fact) s.hyps) ++ more) → slice_get (nodes t) form.goal ≡ Some (of_truth (g s.goal)) → IsFormed t form (with_facts more (over_each f g s))
each-more t f g more s form h k = more-formed t more (over_each f g s) form (subst (λ (fs : List FormulaTree). AreFormulas t form.facts (fs ++ more)) (sym (over-facts f s.hyps)) h) k

-- two lists, one behind the other
pub joined-stand : (t : Listing) (ns ms all : List ℕ) (fs gs : List FormulaTree) → AreFormulas t ns fs → AreFormulas t ms gs → all ≡ ns ++ ms → AreFormulas t all (fs ++ gs)
joined-stand t ns ms all fs gs h k e = subst (λ (ks : List ℕ). AreFormulas t ks (fs ++ gs)) (sym e) (formulas-append t ns ms fs gs h k)

-- ---- the hypotheses that are chosen

module _ (test : HypTree → Bool) where
  one-more : (hs : List HypTree) (h : HypTree) → map (λ (x : HypTree). x.fact) (filter test (hs ++ h ∷ [])) ≡ map (λ (x : HypTree). x.fact) (filter test hs) ++ (if test h then h.fact ∷ [] else [])
  one-more hs h =
      ap (map (λ (x : HypTree). x.fact)) (filter-append test hs (h ∷ [])) ∙ map-append (λ (x : HypTree). x.fact) (filter test hs) (filter test (h ∷ [])) ∙ ap (λ fs. map (λ (x : HypTree). x.fact) (filter test hs) ++ fs) (chosen (test h))
    where
      chosen : (b : Bool) → map (λ (x : HypTree). x.fact) (if b then h ∷ [] else []) ≡ (if b then h.fact ∷ [] else [])
      chosen true = refl
      chosen false = refl

  chosen-if : (t : Listing) (b : Bool) (made more : List ℕ) (fact : ℕ) (fs : List FormulaTree) (a : FormulaTree) → AreFormulas t made fs → slice_get (nodes t) fact ≡ Some (of_truth a) → more ≡ (if b then made ++ fact ∷ [] else made) → AreFormulas t more (fs ++ (if b then a ∷ [] else []))
  chosen-if t true made more fact fs a h at e = subst (λ (ns : List ℕ). AreFormulas t ns (fs ++ a ∷ [])) (sym e) (formulas-push t made fact fs a h at)
  chosen-if t false made more fact fs a h at e = subst (λ (ns : List ℕ). AreFormulas t ns (fs ++ [])) (sym e) (subst (λ (bs : List FormulaTree). AreFormulas t made bs) (sym (append-nil fs)) h)

  -- one more hypothesis, which is chosen or not
  pub chosen-next : (t : Listing) (hs : List HypTree) (i fact : ℕ) (h : HypTree) (made more : List ℕ) → slice_get hs i ≡ Some h → slice_get (nodes t) fact ≡ Some (of_truth h.fact) →
      AreFormulas t made (map (λ (x : HypTree). x.fact) (filter test (take i hs))) → more ≡ (if test h then made ++ fact ∷ [] else made) → AreFormulas t more (map (λ (x : HypTree). x.fact) (filter test (take (i + 1) hs)))
  chosen-next t hs i fact h made more at there are e =
      subst (λ (fs : List FormulaTree). AreFormulas t more fs) (sym (ap (λ xs. map (λ (x : HypTree). x.fact) (filter test xs)) (take-next hs i h at) ∙ one-more (take i hs) h))
      (chosen-if t (test h) made more fact (map (λ (x : HypTree). x.fact) (filter test (take i hs))) h.fact are there e)

-- ---- one formula after another

pub truth-there : (t u : Listing) → Extends t u → (ns : List ℕ) (facts : List FormulaTree) (i n : ℕ) → AreFormulas t ns facts → slice_get ns i ≡ Some n → is_truth (slice_get (nodes u) n) ≡ true
unfolding is_truth
truth-there t u g ns facts i n are at = let there = formula-of t ns facts i n are at in ap is_truth (g.nodes.keeps n (of_truth there.0) there.2)

-- f of one more
pub each-next : (t u v : Listing) → Extends t u → Extends u v → (f : FormulaTree → FormulaTree) (ns : List ℕ) (facts : List FormulaTree) (i n m : ℕ) (made now : List ℕ) → AreFormulas t ns facts → slice_get ns i ≡ Some n →
    AreFormulas u made (map f (take i facts)) → ((a : FormulaTree) → slice_get (nodes u) n ≡ Some (of_truth a) → slice_get (nodes v) m ≡ Some (of_truth (f a))) → now ≡ made ++ m ∷ [] → AreFormulas v now (map f (take (i + 1) facts))
each-next t u v g h f ns facts i n m made now are at done new e =
    let there = formula-of t ns facts i n are at in
    subst (λ (ms : List ℕ). AreFormulas v ms (map f (take (i + 1) facts))) (sym e)
    (subst (λ (fs : List FormulaTree). AreFormulas v (made ++ m ∷ []) fs) (sym (map-next f facts i there.0 there.1))
    (formulas-push v made m (map f (take i facts)) (f there.0) (formulas-grow u v made (map f (take i facts)) h done) (new there.0 (g.nodes.keeps n (of_truth there.0) there.2))))

pub each-all : (t u : Listing) (f : FormulaTree → FormulaTree) (ns : List ℕ) (facts : List FormulaTree) (i : ℕ) (made : List ℕ) → AreFormulas t ns facts → length ns ≤ i → AreFormulas u made (map f (take i facts)) → AreFormulas u made (map f facts)
each-all t u f ns facts i made are past h =
    let long = formulas-length t ns facts are in
    subst (λ (fs : List FormulaTree). AreFormulas u made (map f fs)) (take_all i facts (omega (arith, long, past))) h

-- the formula at a node, whatever is asked of it
pub truth-of : (o : Option ValueTree) (a : FormulaTree) → o ≡ Some (of_truth a) → the_truth o ≡ a
unfolding the_truth
truth-of o a e = ap the_truth e

pub is-formula : (o : Option ValueTree) (a : FormulaTree) → o ≡ Some (of_truth a) → is_truth o ≡ true
unfolding is_truth
is-formula o a e = ap is_truth e

pub goal-truth : (t : Listing) (form : LocalForm) (s : SequentTree) → IsFormed t form s → is_truth (slice_get (nodes t) form.goal) ≡ true
goal-truth t form s h = is-formula (slice_get (nodes t) form.goal) s.goal h.goal

-- the same nodes, however they are lent
pub lent : (t : Listing) (ns ms : List ℕ) (fs : List FormulaTree) → ms ≡ ns → AreFormulas t ns fs → AreFormulas t ms fs
lent t ns ms fs e h = subst (λ (ks : List ℕ). AreFormulas t ks fs) (sym e) h
