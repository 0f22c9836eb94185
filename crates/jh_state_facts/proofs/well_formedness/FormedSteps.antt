-- The facts of a state in one list, and the formula that joins them.
use Rattle.std.proofs.Common.{◌≡◌, refl, sym, ap, ◌∙◌, subst, ℕ, true, ◌&&◌, List, [], ◌∷◌, ◌++◌, Option, append_assoc}
use Rattle.std.specs.List.{flat_map}
use Rattle.jh_form.specs.Tree.{FormulaTree}
use Rattle.jh_arena.specs.table.Entries.{Listing, is_truth, the_truth}
use Rattle.jh_arena.specs.table.Growth.{Extends}
use Rattle.jh_arena.specs.table.Nodes.{nodes}
use Rattle.jh_arena.specs.makers.Joined.{are_truths, truths_at}
use Rattle.jh_semantics.specs.Code.{Text, Local}
use Rattle.jh_semantics.specs.Program.{Program, Member}
use Rattle.jh_semantics.specs.WellFormed.{static_facts, local_facts, this_facts, field_facts, default_facts, well_formed_facts}
use Rattle.jh_state_facts.specs.well_formedness.Facts.{AreFacts, AddsFacts}
use Rattle.jh_state_facts.specs.well_formedness.Formed.{set_facts, formed_facts}
use Rattle.jh_state_facts.proofs.well_formedness.FactSteps.{facts-grow, facts-append, adds-two}

-- what was added to an empty list is all of it
pub added-to-none : (t : Listing) (ms : List ℕ) (fs : List FormulaTree) → AddsFacts t [] ms fs → AreFacts t ms fs
added-to-none t ms fs h = subst (λ (xs : List ℕ). AreFacts t xs fs) (sym h.list) h.are

pub facts-truths : (t : Listing) (ns : List ℕ) (fs : List FormulaTree) → AreFacts t ns fs → are_truths (nodes t) ns ≡ true
unfolding AreFacts is_truth
facts-truths t [] fs h = refl
facts-truths t (n ∷ ns) [] h = absurd h
facts-truths t (n ∷ ns) (f ∷ fs) h = λ i. is_truth (h.0 i) && facts-truths t ns fs h.1 i

pub facts-at : (t : Listing) (ns : List ℕ) (fs : List FormulaTree) → AreFacts t ns fs → truths_at (nodes t) ns ≡ fs
unfolding AreFacts the_truth
facts-at t [] [] h = refl
facts-at t [] (f ∷ fs) h = absurd h
facts-at t (n ∷ ns) [] h = absurd h
facts-at t (n ∷ ns) (f ∷ fs) h = λ i. the_truth (h.0 i) ∷ facts-at t ns fs h.1 i

-- a list of facts, with others added behind, and others still
pub facts-along : (t u v : Listing) (m0 m1 m2 m3 tail : List ℕ) (hs ls ss ts : List FormulaTree) →
    AreFacts t m0 hs → AreFacts t tail ts → Extends t u → AddsFacts u m0 m1 ls → Extends u v → AddsFacts v m1 m2 ss → Extends t v → m3 ≡ m2 ++ tail → AreFacts v m3 (hs ++ ls ++ ss ++ ts)
facts-along t u v m0 m1 m2 m3 tail hs ls ss ts head last g locals h this k e =
    let two = adds-two u v m0 m1 m2 ls ss locals h this in
    subst (λ (xs : List ℕ). AreFacts v xs (hs ++ ls ++ ss ++ ts)) (sym (e ∙ ap (λ xs. xs ++ tail) two.list))
    (facts-append v (m0 ++ two.added) tail (hs ++ ls ++ ss) ts
    (subst (λ fs. AreFacts v (m0 ++ two.added) fs) (sym (append_assoc hs ls ss)) (facts-append v m0 two.added hs (ls ++ ss) (facts-grow t v m0 hs k head) two.are))
    (facts-grow t v tail ts k last))

regroup : {X : Type 0} (b s l t f d : List X) → (((b ++ s) ++ l) ++ t) ++ (f ++ d) ≡ ((b ++ ((s ++ l) ++ t)) ++ f) ++ d
regroup b s l t f d =
    sym (append_assoc (((b ++ s) ++ l) ++ t) f d)
    ∙ ap (λ xs. (xs ++ f) ++ d) (ap (λ xs. xs ++ t) (append_assoc b s l) ∙ append_assoc b (s ++ l) t)

-- the facts so gathered are those of the definition
pub formed-are : (p : Program) (classes : List Text) (members : List Member) (scope : List Local) (this : Option ℕ) → p.classes ≡ classes → p.members ≡ members → formed_facts classes members scope this ≡ well_formed_facts p scope this
formed-are p classes members scope this e f =
    sym (λ i. formed_facts (e i) (f i) scope this)
    ∙ regroup (set_facts p.classes) (flat_map (static_facts p.classes) p.members) (flat_map (local_facts p.classes) scope) (this_facts p.classes this) (flat_map (field_facts p.classes) p.members) (flat_map default_facts p.members)

pub ruleset formed_steps = (added-to-none, facts-truths)
