-- The lists of what a method begins with and of what has to be true where it returns.
use Rattle.std.proofs.Common.{◌≡◌, refl, sym, ap, ◌∙◌, subst, ℕ, zero, suc, ◌+◌, ◌≤◌, arith, add-one, Bool, true, false, if◌then◌else◌, List, [], ◌∷◌, ◌++◌, map, take, length, Some, slice_get}
use Rattle.std.proofs.lemmas.List.{map-append, take_all}
use Rattle.std.specs.List.{flat_map}
use Rattle.jh_form.specs.Tree.{FormulaTree, ValueTree, of_truth}
use Rattle.jh_form.proofs.ClosedLemmas.{both-left, both-right}
use Rattle.jh_arena.specs.table.Entries.{Listing, is_truth}
use Rattle.jh_arena.specs.table.Growth.{Extends}
use Rattle.jh_arena.specs.table.Nodes.{nodes}
use Rattle.jh_arena.specs.makers.Joined.{are_truths}
use Rattle.jh_semantics.specs.Entry.{owed}
use Rattle.jh_guard.specs.Frames.{framed}
use Rattle.jh_semantics.specs.declared.typed_code.stmts.Local.{Local}
use Rattle.jh_semantics.specs.declared.typed_code.stmts.Claim.{Claim}
use Rattle.jh_semantics.specs.declared.typed_code.stmts.MethodCode.{MethodCode}
use Rattle.jh_semantics.specs.typed_code.Statements.{local_in, claim_in, method_in}
use Rattle.jh_state_facts.specs.changes.Added.{chosen}
use Rattle.jh_method_commands.specs.declared.environment.outline.Outline.{Outline}
use Rattle.jh_method_commands.specs.declared.environment.outline.Callable.{Callable}
use Rattle.jh_method_commands.specs.environment.Outlines.{IsOutline, IsCallable, callee_of, program_in, writes_in, source_of}
use Rattle.jh_method_commands.proofs.environment.OutlineSteps.{program-invariants}
use Rattle.jh_state_facts.specs.declared.well_formedness.state.Known.{Known}
use Rattle.jh_state_facts.specs.well_formedness.Facts.{AreFacts, AddsFacts}
use Rattle.jh_state_facts.specs.well_formedness.States.{local_of}
use Rattle.jh_state_facts.proofs.well_formedness.FactSteps.{adds-two}

-- one formula for each
pub singles : {X : Type 0} (f : X → FormulaTree) (xs : List X) → flat_map (λ x. f x ∷ []) xs ≡ map f xs
singles f [] = refl
singles f (x ∷ xs) = ap (λ ys. f x ∷ ys) (singles f xs)

pub known-pushed : (old new : List Known) (x : Known) (l : Local) → new ≡ old ++ x ∷ [] → x.text.now ≡ l.name.text → x.ty ≡ l.ty → map local_of new ≡ map local_of old ++ local_in l ∷ []
known-pushed old new x l e text type = ap (map local_of) e ∙ map-append local_of old (x ∷ []) ∙ (λ i. map local_of old ++ record { text = text i; type = type i } ∷ [])

taken-more : {X : Type 0} (xs : List X) (x : X) (i : ℕ) → slice_get xs i ≡ Some x → take (suc i) xs ≡ take i xs ++ x ∷ []
taken-more [] x i h = absurd (cc)
taken-more (y ∷ ys) x zero h = let same : y ≡ x = cc in ap (λ z. z ∷ []) same
taken-more (y ∷ ys) x (suc i) h = ap (λ zs. y ∷ zs) (taken-more ys x i h)

-- the formula of a node of a list
record FactAt (t : Listing) (n i : ℕ) (fs : List FormulaTree) : Type 0 where
  fact : FormulaTree
  at : slice_get fs i ≡ Some fact
  is : slice_get (nodes t) n ≡ Some (of_truth fact)

fact-of : (t : Listing) (ns : List ℕ) (fs : List FormulaTree) (n i : ℕ) → AreFacts t ns fs → slice_get ns i ≡ Some n → FactAt t n i fs
unfolding AreFacts
fact-of t [] fs n i h e = absurd (cc)
fact-of t (m ∷ ns) [] n i h e = absurd h
fact-of t (m ∷ ns) (f ∷ fs) n zero h e = let same : m ≡ n = cc in record { fact = f; at = refl; is = ap (λ k. slice_get (nodes t) k) (sym same) ∙ h.0 }
fact-of t (m ∷ ns) (f ∷ fs) n (suc i) h e = let rest = fact-of t ns fs n i h.1 e in record { fact = rest.fact; at = rest.at; is = rest.is }

facts-count : (t : Listing) (ns : List ℕ) (fs : List FormulaTree) → AreFacts t ns fs → length fs ≤ length ns
unfolding AreFacts
facts-count t [] [] h = omega arith
facts-count t [] (f ∷ fs) h = absurd h
facts-count t (n ∷ ns) [] h = omega arith
facts-count t (n ∷ ns) (f ∷ fs) h = let rest = facts-count t ns fs h.1 in omega (arith, rest)

-- what is made of the formulas before a place, and of one more
pub facts-next : (g : FormulaTree → FormulaTree) (t u v : Listing) (ns : List ℕ) (fs : List FormulaTree) (old mid new : List ℕ) (n i : ℕ) → AreFacts t ns fs → slice_get ns i ≡ Some n → Extends t u → Extends u v →
    AddsFacts u old mid (map g (take i fs)) → ((f : FormulaTree) → slice_get (nodes u) n ≡ Some (of_truth f) → AddsFacts v mid new (g f ∷ [])) → AddsFacts v old new (map g (take (i + 1) fs))
facts-next g t u v ns fs old mid new n i are e grows more h one =
    let told = fact-of t ns fs n i are e in
    let longer : take (i + 1) fs ≡ take i fs ++ told.fact ∷ [] = ap (λ k. take k fs) (add-one i) ∙ taken-more fs told.fact i told.at in
    subst (λ (gs : List FormulaTree). AddsFacts v old new gs) (sym (ap (map g) longer ∙ map-append g (take i fs) (told.fact ∷ [])))
    (adds-two u v old mid new (map g (take i fs)) (g told.fact ∷ []) h more (one told.fact (grows.nodes.keeps n (of_truth told.fact) told.is)))

pub facts-all : (g : FormulaTree → FormulaTree) (t u : Listing) (ns : List ℕ) (fs : List FormulaTree) (old new : List ℕ) (i : ℕ) → AreFacts t ns fs → length ns ≤ i → AddsFacts u old new (map g (take i fs)) → AddsFacts u old new (map g fs)
facts-all g t u ns fs old new i are le h =
    let count = facts-count t ns fs are in
    subst (λ (gs : List FormulaTree). AddsFacts u old new (map g gs)) (take_all i fs (omega (arith, le, count))) h

-- a node of a list of formulas is one
pub truth-of : (ts : List ValueTree) (ns : List ℕ) (n i : ℕ) → are_truths ts ns ≡ true → slice_get ns i ≡ Some n → is_truth (slice_get ts n) ≡ true
truth-of ts [] n i h e = absurd (cc)
truth-of ts (m ∷ ns) n zero h e = let same : m ≡ n = cc in ap (λ k. is_truth (slice_get ts k)) (sym same) ∙ both-left (is_truth (slice_get ts m)) (are_truths ts ns) h
truth-of ts (m ∷ ns) n (suc i) h e = truth-of ts ns n i (both-right (is_truth (slice_get ts m)) (are_truths ts ns) h) e

-- the invariants that a method is owed
pub owed-are : (o : Outline) (m : MethodCode) (claims : List Claim) → claims ≡ (if m.is_public then o.invariants.now else []) → map (claim_in (source_of o)) claims ≡ owed (program_in o) (method_in (source_of o) m)
owed-are o m claims e = ap (map (claim_in (source_of o))) e ∙ by_case m.is_public where
  by_case : (b : Bool) → map (claim_in (source_of o)) (if b then o.invariants.now else []) ≡ (if b then (program_in o).invariants else [])
  by_case true = sym (program-invariants o)
  by_case false = refl

-- the members that are framed
pub framed-are : (o : Outline) (t : Listing) (x : Callable) → IsOutline t o → IsCallable o x → chosen o.classes.now o.members.now x.framed.now ≡ framed (program_in o) (writes_in o) (callee_of x)
framed-are o t x h k = ap (chosen o.classes.now o.members.now) k.framed ∙ sym (h.frames (callee_of x))
