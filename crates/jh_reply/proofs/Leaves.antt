-- The budget of a search that words ask for isn't empty.
use Rattle.std.proofs.Common.{◌≡◌, refl, subst, ℕ, ◌≤◌, ◌<◌, nat_le, Bool, true, false, ◌&&◌, if◌then◌else◌, List, [], ◌∷◌, arith}
use Rattle.std.proofs.lemmas.Bool.Decides.{nat_tests}
use Rattle.std.specs.Prelude.{Option, None, Some, option_and_then, codes}
use Rattle.std.specs.Str.Parse.{digits_value}
use Rattle.jh_arena.proofs.of_jh_form.ClosedLemmas.{both-left}
use Rattle.jh_words.specs.CommandLine.{Gen, Given, Parts, Run, Setting, Verify, Word, are_options, called, cut_at, gen, gen_job, gen_source, generated, is_file, is_name, is_number, is_within, job_by, job_of, leaves, methods_in, number_given, number_in, number_of, number_within, parts, rounds, run, run_job, same_word, steps, verified, verify, verify_job, workers, value_for}

pub some-same : {X : Type 0} (x y : X) → Some x ≡ Some y → x ≡ y
some-same x y e = cc

pub none-some : {X P : Type 0} (y : X) → None ≡ Some y → P
none-some y e = cc

pub if-some : {X : Type 0} (b : Bool) (o : Option X) (y : X) → (if b then o else None) ≡ Some y → o ≡ Some y
if-some true o y e = e
if-some false o y e = none-some y e

-- a number that is meant for an option is one that may be given
within-least : (s : Setting) (n k : ℕ) (b : Bool) → is_within s n ≡ b → (if b then Some n else None) ≡ Some k → s.least ≤ k
within-least s n k true h e =
    let least : nat_le s.least n ≡ true = both-left (nat_le s.least n) (nat_le n s.most) h in
    let same : n ≡ k = some-same n k e in
    grind (arith, nat_tests)
within-least s n k false h e = none-some k e

given-least : (s : Setting) → s.least ≤ s.default → (o : Option Word) (k : ℕ) → number_given s o ≡ Some k → s.least ≤ k
given-least s low None k e = let same : s.default ≡ k = some-same s.default k e in omega (arith, low, same)
given-least s low (Some w) k e = within-least s (digits_value 10 w) k (is_within s (digits_value 10 w)) refl (if-some (is_number w) (number_within s (digits_value 10 w)) k e)

leaves-least : (gs : List Given) (k : ℕ) → number_of leaves gs ≡ Some k → 0 < k
leaves-least gs k e = let low : 1 ≤ k = given-least leaves (omega arith) (value_for leaves.name gs) k e in omega (arith, low)

verify-same : (v w : Verify) → Some (verify v) ≡ Some (verify w) → v ≡ w
verify-same v w e = cc

verified-leaves : (file : Word) (gs : List Given) (r k n : Option ℕ) (v : Verify) → number_of leaves gs ≡ k → verified file r k n ≡ Some (verify v) → 0 < v.leaves
verified-leaves file gs (Some r) (Some k) (Some n) v given e =
    subst (λ (w : Verify). 0 < w.leaves) (verify-same (record { file = file; rounds = r; leaves = k; workers = n }) v e) (leaves-least gs k given)
verified-leaves file gs None k n v given e = none-some (verify v) e
verified-leaves file gs (Some r) None n v given e = none-some (verify v) e
verified-leaves file gs (Some r) (Some k) None v given e = none-some (verify v) e

verify-leaves : (ws : List Word) (gs : List Given) (v : Verify) → verify_job ws gs ≡ Some (verify v) → 0 < v.leaves
verify-leaves [] gs v e = none-some (verify v) e
verify-leaves (file ∷ []) gs v e =
    verified-leaves file gs (number_of rounds gs) (number_of leaves gs) (number_of workers gs) v refl
    (if-some (is_file file && are_options (workers.name ∷ rounds.name ∷ leaves.name ∷ []) gs) (verified file (number_of rounds gs) (number_of leaves gs) (number_of workers gs)) (verify v) e)
verify-leaves (file ∷ other ∷ ws) gs v e = none-some (verify v) e

-- a run is no report
run-verify : {P : Type 0} (r : Run) (v : Verify) → Some (run r) ≡ Some (verify v) → P
run-verify r v e = cc

called-run : {P : Type 0} (file heap : Word) (halves : Option (Word × Word)) (n : Option ℕ) (v : Verify) → called file halves heap n ≡ Some (verify v) → P
called-run file heap None n v e = none-some (verify v) e
called-run file heap (Some (class, method)) None v e = none-some (verify v) e
called-run file heap (Some (class, method)) (Some n) v e =
    run-verify (record { file = file; class = class; method = method; heap = heap; steps = n }) v (if-some (is_name class && is_name method) (Some (run (record { file = file; class = class; method = method; heap = heap; steps = n }))) (verify v) e)

run-run : {P : Type 0} (ws : List Word) (gs : List Given) (v : Verify) → run_job ws gs ≡ Some (verify v) → P
run-run [] gs v e = none-some (verify v) e
run-run (file ∷ []) gs v e = none-some (verify v) e
run-run (file ∷ method ∷ []) gs v e = none-some (verify v) e
run-run (file ∷ method ∷ heap ∷ []) gs v e =
    called-run file heap (cut_at 46 method) (number_of steps gs) v
    (if-some (is_file file && is_file heap && are_options (steps.name ∷ []) gs) (called file (cut_at 46 method) heap (number_of steps gs)) (verify v) e)
run-run (file ∷ method ∷ heap ∷ other ∷ ws) gs v e = none-some (verify v) e

-- nor is a source that is made
gen-verify : {P : Type 0} (g : Gen) (v : Verify) → Some (gen g) ≡ Some (verify v) → P
gen-verify g v e = cc

generated-verify : {P : Type 0} (seed methods : Option ℕ) (v : Verify) → generated seed methods ≡ Some (verify v) → P
generated-verify None methods v e = none-some (verify v) e
generated-verify (Some seed) None v e = none-some (verify v) e
generated-verify (Some seed) (Some methods) v e = gen-verify (record { seed = seed; methods = methods }) v e

source-verify : {P : Type 0} (seed methods : Word) (gs : List Given) (v : Verify) → gen_source seed methods gs ≡ Some (verify v) → P
source-verify seed methods [] v e = generated-verify (number_in seed) (methods_in methods) v e
source-verify seed methods (g ∷ gs) v e = none-some (verify v) e

gen-gen : {P : Type 0} (ws : List Word) (gs : List Given) (v : Verify) → gen_job ws gs ≡ Some (verify v) → P
gen-gen [] gs v e = none-some (verify v) e
gen-gen (seed ∷ []) gs v e = none-some (verify v) e
gen-gen (seed ∷ methods ∷ []) gs v e = source-verify seed methods gs v e
gen-gen (seed ∷ methods ∷ other ∷ ws) gs v e = none-some (verify v) e

job-leaves : (p : Parts) (v : Verify) (first second third : Bool)
    → (if first then verify_job p.words p.options else (if second then run_job p.words p.options else (if third then gen_job p.words p.options else None))) ≡ Some (verify v) → 0 < v.leaves
job-leaves p v true second third e = verify-leaves p.words p.options v e
job-leaves p v false true third e = run-run p.words p.options v e
job-leaves p v false false true e = gen-gen p.words p.options v e
job-leaves p v false false false e = none-some (verify v) e

parts-leaves : (command : Word) (o : Option Parts) (v : Verify) → option_and_then (job_by command) o ≡ Some (verify v) → 0 < v.leaves
parts-leaves command None v e = none-some (verify v) e
parts-leaves command (Some p) v e = job-leaves p v (same_word command (codes "verify")) (same_word command (codes "run")) (same_word command (codes "gen")) e

pub has-leaves : (words : List Word) (v : Verify) → job_of words ≡ Some (verify v) → 0 < v.leaves
has-leaves [] v e = none-some (verify v) e
has-leaves (command ∷ ws) v e = parts-leaves command (parts ws) v e
