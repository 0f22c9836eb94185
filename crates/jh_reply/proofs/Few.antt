-- A source that words ask to be made has at most 200 methods.
use Rattle.std.proofs.Common.{◌≡◌, refl, subst, ℕ, ◌≤◌, nat_le, Bool, true, false, ◌&&◌, if◌then◌else◌, List, [], ◌∷◌, arith}
use Rattle.std.proofs.lemmas.Bool.Decides.{nat_tests}
use Rattle.std.specs.Prelude.{Option, None, Some, option_and_then, codes}
use Rattle.jh_words.specs.CommandLine.{Gen, Given, Parts, Run, Verify, Word, are_options, called, cut_at, gen, gen_job, gen_source, generated, is_file, is_name, job_by, job_of, leaves, methods_in, methods_within, number_in, number_of, parts, rounds, run, run_job, same_word, steps, verified, verify, verify_job, workers}
use Rattle.jh_reply.proofs.Leaves.{if-some, none-some, some-same}

within-few : (n k : ℕ) (b : Bool) → (nat_le 1 n && nat_le n 200) ≡ b → (if b then Some n else None) ≡ Some k → k ≤ 200
within-few n k true h e =
    let most : nat_le n 200 ≡ true = second-of (nat_le 1 n) (nat_le n 200) h in
    let same : n ≡ k = some-same n k e in
    grind (arith, nat_tests)
  where
    second-of : (a b : Bool) → (a && b) ≡ true → b ≡ true
    second-of true b h = h
    second-of false b h = cc
within-few n k false h e = none-some k e

number-few : (o : Option ℕ) (k : ℕ) → option_and_then methods_within o ≡ Some k → k ≤ 200
number-few None k e = none-some k e
number-few (Some n) k e = within-few n k (nat_le 1 n && nat_le n 200) refl e

gen-same : (g h : Gen) → Some (gen g) ≡ Some (gen h) → g ≡ h
gen-same g h e = cc

generated-few : (seed methods : Option ℕ) (g : Gen) → ((k : ℕ) → methods ≡ Some k → k ≤ 200) → generated seed methods ≡ Some (gen g) → g.methods ≤ 200
generated-few None methods g few e = none-some (gen g) e
generated-few (Some seed) None g few e = none-some (gen g) e
generated-few (Some seed) (Some methods) g few e = subst (λ (h : Gen). h.methods ≤ 200) (gen-same (record { seed = seed; methods = methods }) g e) (few methods refl)

source-few : (seed methods : Word) (gs : List Given) (g : Gen) → gen_source seed methods gs ≡ Some (gen g) → g.methods ≤ 200
source-few seed methods [] g e = generated-few (number_in seed) (methods_in methods) g (λ k is. number-few (number_in methods) k is) e
source-few seed methods (o ∷ os) g e = none-some (gen g) e

gen-few : (ws : List Word) (gs : List Given) (g : Gen) → gen_job ws gs ≡ Some (gen g) → g.methods ≤ 200
gen-few [] gs g e = none-some (gen g) e
gen-few (seed ∷ []) gs g e = none-some (gen g) e
gen-few (seed ∷ methods ∷ []) gs g e = source-few seed methods gs g e
gen-few (seed ∷ methods ∷ other ∷ ws) gs g e = none-some (gen g) e

-- neither a report nor a run is such a source
verify-gen : {P : Type 0} (v : Verify) (g : Gen) → Some (verify v) ≡ Some (gen g) → P
verify-gen v g e = cc

verified-gen : {P : Type 0} (file : Word) (r k n : Option ℕ) (g : Gen) → verified file r k n ≡ Some (gen g) → P
verified-gen file (Some r) (Some k) (Some n) g e = verify-gen (record { file = file; rounds = r; leaves = k; workers = n }) g e
verified-gen file None k n g e = none-some (gen g) e
verified-gen file (Some r) None n g e = none-some (gen g) e
verified-gen file (Some r) (Some k) None g e = none-some (gen g) e

report-gen : {P : Type 0} (ws : List Word) (gs : List Given) (g : Gen) → verify_job ws gs ≡ Some (gen g) → P
report-gen [] gs g e = none-some (gen g) e
report-gen (file ∷ []) gs g e =
    verified-gen file (number_of rounds gs) (number_of leaves gs) (number_of workers gs) g
    (if-some (is_file file && are_options (workers.name ∷ rounds.name ∷ leaves.name ∷ []) gs) (verified file (number_of rounds gs) (number_of leaves gs) (number_of workers gs)) (gen g) e)
report-gen (file ∷ other ∷ ws) gs g e = none-some (gen g) e

run-gen : {P : Type 0} (r : Run) (g : Gen) → Some (run r) ≡ Some (gen g) → P
run-gen r g e = cc

called-gen : {P : Type 0} (file heap : Word) (halves : Option (Word × Word)) (n : Option ℕ) (g : Gen) → called file halves heap n ≡ Some (gen g) → P
called-gen file heap None n g e = none-some (gen g) e
called-gen file heap (Some (class, method)) None g e = none-some (gen g) e
called-gen file heap (Some (class, method)) (Some n) g e =
    run-gen (record { file = file; class = class; method = method; heap = heap; steps = n }) g (if-some (is_name class && is_name method) (Some (run (record { file = file; class = class; method = method; heap = heap; steps = n }))) (gen g) e)

call-gen : {P : Type 0} (ws : List Word) (gs : List Given) (g : Gen) → run_job ws gs ≡ Some (gen g) → P
call-gen [] gs g e = none-some (gen g) e
call-gen (file ∷ []) gs g e = none-some (gen g) e
call-gen (file ∷ method ∷ []) gs g e = none-some (gen g) e
call-gen (file ∷ method ∷ heap ∷ []) gs g e =
    called-gen file heap (cut_at 46 method) (number_of steps gs) g
    (if-some (is_file file && is_file heap && are_options (steps.name ∷ []) gs) (called file (cut_at 46 method) heap (number_of steps gs)) (gen g) e)
call-gen (file ∷ method ∷ heap ∷ other ∷ ws) gs g e = none-some (gen g) e

job-few : (p : Parts) (g : Gen) (first second third : Bool)
    → (if first then verify_job p.words p.options else (if second then run_job p.words p.options else (if third then gen_job p.words p.options else None))) ≡ Some (gen g) → g.methods ≤ 200
job-few p g true second third e = report-gen p.words p.options g e
job-few p g false true third e = call-gen p.words p.options g e
job-few p g false false true e = gen-few p.words p.options g e
job-few p g false false false e = none-some (gen g) e

parts-few : (command : Word) (o : Option Parts) (g : Gen) → option_and_then (job_by command) o ≡ Some (gen g) → g.methods ≤ 200
parts-few command None g e = none-some (gen g) e
parts-few command (Some p) g e = job-few p g (same_word command (codes "verify")) (same_word command (codes "run")) (same_word command (codes "gen")) e

pub has-few : (words : List Word) (g : Gen) → job_of words ≡ Some (gen g) → g.methods ≤ 200
has-few [] g e = none-some (gen g) e
has-few (command ∷ ws) g e = parts-few command (parts ws) g e
