-- What the steps cite: asserted formulas, and checks one after another.
use Rattle.std.proofs.Common.{◌≡◌, refl, sym, ap, ◌∙◌, subst, ℕ, zero, suc, ◌+◌, ◌≤◌, arith, add-one, true, ◌&&◌, List, [], ◌∷◌, ◌++◌, take, length, Some, slice_get, is_some, Result, Ok, Err, IfOk, OnOk}
use Rattle.std.proofs.lemmas.List.{map-append, take_all}
use Rattle.jh_form.specs.Tree.{TermTree, FieldTree, FormulaTree, ValueTree, of_object, of_truth, of_field}
use Rattle.jh_form.proofs.ClosedLemmas.{both-left, both-right}
use Rattle.jh_arena.proofs.table.Children.{it-is-object, it-is-truth}
use Rattle.jh_arena.specs.table.Entries.{Listing, is_object, is_truth, is_field, the_object, the_truth, the_field, the_value}
use Rattle.jh_arena.specs.table.Growth.{Extends}
use Rattle.jh_arena.specs.table.Nodes.{nodes}
use Rattle.jh_wp.specs.Command.{CommandTree}
use Rattle.jh_wp.specs.Command as w
use Rattle.jh_command_terms.specs.declared.command.command.Command.{Command}
use Rattle.jh_command_terms.specs.declared.command.command.Command.TheVariants as c
use Rattle.jh_command_terms.specs.command.Code.{command_in, command_fits}
use Rattle.jh_guard.specs.Terms.{Check}
use Rattle.jh_guard.specs.Steps.{assert_check, assert_checks}
use Rattle.jh_command_terms.specs.declared.terms.checks.CheckNode.{CheckNode}
use Rattle.jh_command_terms.specs.terms.Checks.{AreChecks, are_facts}
use Rattle.jh_command_terms.proofs.terms.CheckSteps.{are-grows}
use Rattle.jh_state_facts.specs.changes.Added.{AddsCommands}
use Rattle.jh_state_facts.proofs.changes.AddedSteps.{adds-two}

pub if-ok : {A E : Type 0} {P Q : A → Type 0} (r : Result A E) → ((x : A) → P x → Q x) → IfOk r P → IfOk r Q
if-ok (Ok x) f h = f x h
if-ok (Err e) f h = tt

pub on-ok : {A E : Type 0} {P Q : Type 0} (r : Result A E) → (P → Q) → OnOk r P → OnOk r Q
on-ok (Ok x) f h = f h
on-ok (Err e) f h = tt

pub adds-assert : (t : Listing) (old new : List Command) (n : ℕ) (f : FormulaTree) → new ≡ old ++ c.Assert n ∷ [] → slice_get (nodes t) n ≡ Some (of_truth f) → AddsCommands t old new (w.assert f ∷ [])
unfolding command_in command_fits the_truth is_truth
adds-assert t old new n f e h = record {
  added = c.Assert n ∷ [];
  list = e;
  are = λ i. w.assert (the_truth (h i)) ∷ [];
  fits = λ i. is_truth (h i) && true;
}

-- a formula, and a value, that is listed
pub truth-there : (t : Listing) (n : ℕ) (f : FormulaTree) → slice_get (nodes t) n ≡ Some (of_truth f) → is_truth (slice_get (nodes t) n) ≡ true
unfolding is_truth
truth-there t n f h = ap is_truth h

pub truth-is : (t : Listing) (n : ℕ) (f : FormulaTree) → slice_get (nodes t) n ≡ Some (of_truth f) → the_truth (slice_get (nodes t) n) ≡ f
unfolding the_truth
truth-is t n f h = ap the_truth h

pub value-there : (t : Listing) (n : ℕ) (v : ValueTree) → slice_get (nodes t) n ≡ Some v → is_some (slice_get (nodes t) n) ≡ true
value-there t n v h = ap is_some h

taken-more : {X : Type 0} (xs : List X) (x : X) (i : ℕ) → slice_get xs i ≡ Some x → take (suc i) xs ≡ take i xs ++ x ∷ []
taken-more [] x i h = absurd (cc)
taken-more (y ∷ ys) x zero h = let same : y ≡ x = cc in ap (λ z. z ∷ []) same
taken-more (y ∷ ys) x (suc i) h = ap (λ zs. y ∷ zs) (taken-more ys x i h)

-- the check for a node of a list
record StandsAt (t : Listing) (n : CheckNode) (i : ℕ) (cs : List Check) : Type 0 where
  check : Check
  are : AreChecks t (n ∷ []) (check ∷ [])
  taken : take (suc i) cs ≡ take i cs ++ check ∷ []

check-at : (t : Listing) (ns : List CheckNode) (n : CheckNode) (i : ℕ) (cs : List Check) → AreChecks t ns cs → slice_get ns i ≡ Some n → StandsAt t n i cs
unfolding AreChecks
check-at t [] n i cs are e = absurd (cc)
check-at t (m ∷ ns) n i [] are e = absurd are
check-at t (m ∷ ns) n zero (c ∷ cs) are e =
    let same : m ≡ n = cc in
    record { check = c; are = subst (λ (k : CheckNode). AreChecks t (k ∷ []) (c ∷ [])) same (are.0, are.1, tt); taken = refl }
check-at t (m ∷ ns) n (suc i) (c ∷ cs) are e =
    let rest = check-at t ns n i cs are.2 e in
    record { check = rest.check; are = rest.are; taken = ap (λ ds. c ∷ ds) rest.taken }

-- the checks up to a place, and one more
pub checks-next : (t u v : Listing) (old mid new : List Command) (ns : List CheckNode) (n : CheckNode) (i : ℕ) (cs : List Check) →
    AreChecks t ns cs → slice_get ns i ≡ Some n → Extends t u → Extends u v →
    AddsCommands u old mid (assert_checks (take i cs)) →
    ((c : Check) → AreChecks u (n ∷ []) (c ∷ []) → AddsCommands v mid new (assert_check c ∷ [])) →
    AddsCommands v old new (assert_checks (take (i + 1) cs))
checks-next t u v old mid new ns n i cs are e g h before one =
    let told = check-at t ns n i cs are e in
    let c = told.check in
    let more : take (i + 1) cs ≡ take i cs ++ c ∷ [] = ap (λ k. take k cs) (add-one i) ∙ told.taken in
    subst (λ (fs : List CommandTree). AddsCommands v old new fs) (sym (ap assert_checks more ∙ map-append assert_check (take i cs) (c ∷ [])))
    (adds-two u v old mid new (assert_checks (take i cs)) (assert_check c ∷ []) before h (one c (are-grows t u (n ∷ []) (c ∷ []) g told.are)))

all-taken : (t : Listing) (ns : List CheckNode) (i : ℕ) (cs : List Check) → AreChecks t ns cs → length ns ≤ i → take i cs ≡ cs
unfolding AreChecks
all-taken t [] i [] are le = take_all i [] (omega arith)
all-taken t [] i (c ∷ cs) are le = absurd are
all-taken t (n ∷ ns) i [] are le = absurd are
all-taken t (n ∷ ns) zero (c ∷ cs) are le = absurd (omega arith)
all-taken t (n ∷ ns) (suc i) (c ∷ cs) are le = ap (λ ds. c ∷ ds) (all-taken t ns i cs are.2 (omega arith))

pub checks-all : (t u : Listing) (old new : List Command) (ns : List CheckNode) (i : ℕ) (cs : List Check) → AreChecks t ns cs → length ns ≤ i →
    AddsCommands u old new (assert_checks (take i cs)) → AddsCommands u old new (assert_checks cs)
checks-all t u old new ns i cs are le h = subst (λ (ds : List Check). AddsCommands u old new (assert_checks ds)) (all-taken t ns i cs are le) h

-- each fact of a list of checks is a formula, also when the table has grown
fact-of : (t : Listing) (ns : List CheckNode) (n : CheckNode) (i : ℕ) → are_facts t ns ≡ true → slice_get ns i ≡ Some n → is_truth (slice_get (nodes t) n.fact) ≡ true
unfolding are_facts
fact-of t [] n i h e = absurd (cc)
fact-of t (m ∷ ns) n zero h e =
    let same : m ≡ n = cc in
    ap (λ (k : CheckNode). is_truth (slice_get (nodes t) k.fact)) (sym same) ∙ both-left (is_truth (slice_get (nodes t) m.fact)) (are_facts t ns) h
fact-of t (m ∷ ns) n (suc i) h e = fact-of t ns n i (both-right (is_truth (slice_get (nodes t) m.fact)) (are_facts t ns) h) e

pub fact-stays : (t u : Listing) (ns : List CheckNode) (n : CheckNode) (i : ℕ) → are_facts t ns ≡ true → slice_get ns i ≡ Some n → Extends t u → is_truth (slice_get (nodes u) n.fact) ≡ true
fact-stays t u ns n i h e g =
    let there = fact-of t ns n i h e in
    truth-there u n.fact (the_truth (slice_get (nodes t) n.fact)) (g.nodes.keeps n.fact (of_truth (the_truth (slice_get (nodes t) n.fact))) (it-is-truth (slice_get (nodes t) n.fact) there))

-- a check that is one of a list of one
pub check-place : (t : Listing) (n : CheckNode) (c : Check) → AreChecks t (n ∷ []) (c ∷ []) → n.place ≡ c.place
unfolding AreChecks
check-place t n c h = h.0

pub check-fact : (t : Listing) (n : CheckNode) (c : Check) → AreChecks t (n ∷ []) (c ∷ []) → slice_get (nodes t) n.fact ≡ Some (of_truth c.fact)
unfolding AreChecks
check-fact t n c h = h.1

-- a field, an object and a value that are listed
pub field-there : (t : Listing) (n : ℕ) (a : FieldTree) → slice_get (nodes t) n ≡ Some (of_field a) → is_field (slice_get (nodes t) n) ≡ true
unfolding is_field
field-there t n a h = ap is_field h

pub object-there : (t : Listing) (n : ℕ) (a : TermTree) → slice_get (nodes t) n ≡ Some (of_object a) → is_object (slice_get (nodes t) n) ≡ true
unfolding is_object
object-there t n a h = ap is_object h

pub object-stays : (t u : Listing) (n : ℕ) → Extends t u → is_object (slice_get (nodes t) n) ≡ true → is_object (slice_get (nodes u) n) ≡ true
object-stays t u n g h =
    object-there u n (the_object (slice_get (nodes t) n)) (g.nodes.keeps n (of_object (the_object (slice_get (nodes t) n))) (it-is-object (slice_get (nodes t) n) h))

pub field-is : (t : Listing) (n : ℕ) (a : FieldTree) → slice_get (nodes t) n ≡ Some (of_field a) → the_field (slice_get (nodes t) n) ≡ a
unfolding the_field
field-is t n a h = ap the_field h

pub object-is : (t : Listing) (n : ℕ) (a : TermTree) → slice_get (nodes t) n ≡ Some (of_object a) → the_object (slice_get (nodes t) n) ≡ a
unfolding the_object
object-is t n a h = ap the_object h

pub value-is : (t : Listing) (n : ℕ) (v : ValueTree) → slice_get (nodes t) n ≡ Some v → the_value (slice_get (nodes t) n) ≡ v
unfolding the_value
value-is t n v h = ap the_value h

pub ruleset step_steps = (adds-assert, truth-there, truth-is, value-there)
