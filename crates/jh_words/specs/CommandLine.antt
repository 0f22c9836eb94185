-- What the words of a command line ask for. The words are those after the program's name, each as its bytes in UTF-8:
--
--     verify FILE [--workers n] [--rounds r] [--leaves k]
--     run FILE CLASS.METHOD HEAP [--steps n]
--     gen SEED METHODS
--
-- No other words ask for anything, `help` and `--help` among them.
use Rattle.std.specs.Prelude.{ℕ, ◌&&◌, ◌==◌, not, Bool, List, [], ◌∷◌, length, Option, None, Some, option_and_then, codes, if◌then◌else◌}
use Rattle.std.specs.List.{list_any}
pub use Rattle.jh_arguments.specs.Arguments.{Word, same_word, cut_at, Shape, after_hyphen, begins_with_hyphen, option_shape, long_shape, dashed_shape, shape_behind, shape, Given, Parts, given, with_option, with_word, parts_by, parts_from, parts, is_digit, are_digits, is_number, number_in, Setting, workers, rounds, leaves, steps, is_within, number_within, number_for, is_for, value_for, number_given, number_of, is_among, are_among, are_once, are_options, methods_within, methods_in, named, valued, end, dashed, plain}

abbrev pub is_empty : Word → Bool
is_empty w = length w == 0

-- a file is a word that isn't empty and isn't the single `-`
abbrev pub is_file : Word → Bool
is_file w = not (is_empty w) && not (same_word w (codes "-"))

abbrev pub has_dot : Word → Bool
has_dot w = list_any (λ b. b == 46) w

-- a class or a method is a word that isn't empty and has no dot (46)
abbrev pub is_name : Word → Bool
is_name w = not (is_empty w) && not (has_dot w)

-- the report on a file: how far the search for a proof goes, and how many sequents are proved at a time
pub record Verify : Type 0 where
  pub file : Word
  pub rounds : ℕ
  pub leaves : ℕ
  pub workers : ℕ

-- the run of a method: the file of the source, the class and the own name of the method, the file of the heap, and the most steps
pub record Run : Type 0 where
  pub file : Word
  pub class : Word
  pub method : Word
  pub heap : Word
  pub steps : ℕ

-- the source that is made from a number, with so many methods
pub record Gen : Type 0 where
  pub seed : ℕ
  pub methods : ℕ

pub data Job : Type 0 where
  verify : Verify → Job
  run : Run → Job
  gen : Gen → Job

-- `verify FILE`, by the numbers of its options
abbrev pub verified : Word → Option ℕ → Option ℕ → Option ℕ → Option Job
verified file (Some r) (Some k) (Some n) = Some (verify (record { file = file; rounds = r; leaves = k; workers = n }))
verified file _ _ _ = None

abbrev pub verify_file : Word → List Given → Option Job
verify_file file gs =
    if is_file file && are_options (workers.name ∷ rounds.name ∷ leaves.name ∷ []) gs then verified file (number_of rounds gs) (number_of leaves gs) (number_of workers gs) else None

abbrev pub verify_job : List Word → List Given → Option Job
verify_job (file ∷ []) gs = verify_file file gs
verify_job _ gs = None

-- `run FILE CLASS.METHOD HEAP`, by the two halves of the method's word and the number of its option
abbrev pub called_by : Word → Word → Word → Word → ℕ → Option Job
called_by file class method heap n = if is_name class && is_name method then Some (run (record { file = file; class = class; method = method; heap = heap; steps = n })) else None

abbrev pub called : Word → Option (Word × Word) → Word → Option ℕ → Option Job
called file (Some (class, method)) heap (Some n) = called_by file class method heap n
called file _ heap _ = None

abbrev pub run_method : Word → Word → Word → List Given → Option Job
run_method file method heap gs = if is_file file && is_file heap && are_options (steps.name ∷ []) gs then called file (cut_at 46 method) heap (number_of steps gs) else None

abbrev pub run_job : List Word → List Given → Option Job
run_job (file ∷ method ∷ heap ∷ []) gs = run_method file method heap gs
run_job _ gs = None

-- `gen SEED METHODS`, by its numbers; it has no options
abbrev pub generated : Option ℕ → Option ℕ → Option Job
generated (Some seed) (Some methods) = Some (gen (record { seed = seed; methods = methods }))
generated _ _ = None

abbrev pub gen_source : Word → Word → List Given → Option Job
gen_source seed methods [] = generated (number_in seed) (methods_in methods)
gen_source seed methods (g ∷ gs) = None

abbrev pub gen_job : List Word → List Given → Option Job
gen_job (seed ∷ methods ∷ []) gs = gen_source seed methods gs
gen_job _ gs = None

-- the command is the first word
abbrev pub job_by : Word → Parts → Option Job
job_by command p =
    if same_word command (codes "verify") then verify_job p.words p.options else
    (if same_word command (codes "run") then run_job p.words p.options else (if same_word command (codes "gen") then gen_job p.words p.options else None))

abbrev pub job_of : List Word → Option Job
job_of [] = None
job_of (command ∷ ws) = option_and_then (job_by command) (parts ws)
