-- Command lines, each with what it asks for: the definition tried by computing. A line is written with one space between its words, as a shell would
-- hand it over.
use Rattle.std.proofs.Common.{◌≡◌, refl, ℕ, List, [], ◌∷◌, ◌==◌}
use Rattle.std.specs.Prelude.{Option, None, Some, codes, if◌then◌else◌}
use Rattle.jh_words.specs.CommandLine.{Job, Word, gen, job_of, run, verify}

-- the words of a line
abbrev with_byte : ℕ → List Word → List Word
with_byte b [] = (b ∷ []) ∷ []
with_byte b (w ∷ ws) = (b ∷ w) ∷ ws

abbrev line : Word → List Word
line [] = [] ∷ []
line (b ∷ bs) = if b == 32 then [] ∷ line bs else with_byte b (line bs)

-- the jobs
abbrev report : Word → ℕ → ℕ → ℕ → Option Job
report file rounds leaves workers = Some (verify (record { file = file; rounds = rounds; leaves = leaves; workers = workers }))

abbrev plain_report : Word → Option Job
plain_report file = report file 1 5000 1

abbrev run_for : Word → Word → Word → Word → ℕ → Option Job
run_for file class method heap steps = Some (run (record { file = file; class = class; method = method; heap = heap; steps = steps }))

abbrev made : ℕ → ℕ → Option Job
made seed methods = Some (gen (record { seed = seed; methods = methods }))

abbrev nothing : Option Job
nothing = None

-- ---- commands

no_words : job_of [] ≡ None
no_words = refl

an_empty_word : job_of (line (codes "")) ≡ nothing
an_empty_word = refl

help_word : job_of (line (codes "help")) ≡ nothing
help_word = refl

help_option : job_of (line (codes "--help")) ≡ nothing
help_option = refl

help_letter : job_of (line (codes "-h")) ≡ nothing
help_letter = refl

help_behind : job_of (line (codes "verify a.j --help")) ≡ nothing
help_behind = refl

another_command : job_of (line (codes "verfy a.j")) ≡ nothing
another_command = refl

a_capital : job_of (line (codes "Verify a.j")) ≡ nothing
a_capital = refl

an_option_first : job_of (line (codes "--workers 2 verify a.j")) ≡ nothing
an_option_first = refl

an_end_first : job_of (line (codes "-- verify a.j")) ≡ nothing
an_end_first = refl

-- ---- verify

one_file : job_of (line (codes "verify a.j")) ≡ plain_report (codes "a.j")
one_file = refl

no_file : job_of (line (codes "verify")) ≡ nothing
no_file = refl

two_files : job_of (line (codes "verify a b")) ≡ nothing
two_files = refl

an_empty_file : job_of (codes "verify" ∷ [] ∷ []) ≡ nothing
an_empty_file = refl

a_hyphen : job_of (line (codes "verify -")) ≡ nothing
a_hyphen = refl

a_hyphen_behind_the_end : job_of (line (codes "verify -- -")) ≡ nothing
a_hyphen_behind_the_end = refl

a_dashed_file : job_of (line (codes "verify -a")) ≡ nothing
a_dashed_file = refl

a_dashed_file_behind_the_end : job_of (line (codes "verify -- -a")) ≡ plain_report (codes "-a")
a_dashed_file_behind_the_end = refl

an_option_behind_the_end : job_of (line (codes "verify -- --workers")) ≡ plain_report (codes "--workers")
an_option_behind_the_end = refl

the_end_behind_the_end : job_of (line (codes "verify -- --")) ≡ plain_report (codes "--")
the_end_behind_the_end = refl

a_file_before_the_end : job_of (line (codes "verify a --")) ≡ plain_report (codes "a")
a_file_before_the_end = refl

two_ends : job_of (line (codes "verify a -- --")) ≡ nothing
two_ends = refl

an_end_alone : job_of (line (codes "verify --")) ≡ nothing
an_end_alone = refl

a_command_as_file : job_of (line (codes "verify verify")) ≡ plain_report (codes "verify")
a_command_as_file = refl

-- ---- options of verify

workers_behind : job_of (line (codes "verify a --workers 2")) ≡ report (codes "a") 1 5000 2
workers_behind = refl

workers_before : job_of (line (codes "verify --workers 2 a")) ≡ report (codes "a") 1 5000 2
workers_before = refl

workers_with_equals : job_of (line (codes "verify --workers=16 a")) ≡ report (codes "a") 1 5000 16
workers_with_equals = refl

all_options : job_of (line (codes "verify --leaves 100000 a --rounds=4 --workers 3")) ≡ report (codes "a") 4 100000 3
all_options = refl

options_and_the_end : job_of (line (codes "verify --rounds 2 -- -a")) ≡ report (codes "-a") 2 5000 1
options_and_the_end = refl

no_workers : job_of (line (codes "verify a --workers 0")) ≡ nothing
no_workers = refl

many_workers : job_of (line (codes "verify a --workers=17")) ≡ nothing
many_workers = refl

no_rounds : job_of (line (codes "verify a --rounds 0")) ≡ nothing
no_rounds = refl

many_rounds : job_of (line (codes "verify a --rounds 5")) ≡ nothing
many_rounds = refl

no_leaves : job_of (line (codes "verify a --leaves 0")) ≡ nothing
no_leaves = refl

many_leaves : job_of (line (codes "verify a --leaves 100001")) ≡ nothing
many_leaves = refl

one_leaf : job_of (line (codes "verify a --leaves 1")) ≡ report (codes "a") 1 1 1
one_leaf = refl

twice : job_of (line (codes "verify a --workers 2 --workers 2")) ≡ nothing
twice = refl

twice_in_two_ways : job_of (line (codes "verify --workers=2 a --workers 2")) ≡ nothing
twice_in_two_ways = refl

no_value : job_of (line (codes "verify a --workers")) ≡ nothing
no_value = refl

an_empty_value : job_of (line (codes "verify a --workers=")) ≡ nothing
an_empty_value = refl

an_option_as_value : job_of (line (codes "verify a --workers --rounds 2")) ≡ nothing
an_option_as_value = refl

the_end_as_value : job_of (line (codes "verify a --workers -- 2")) ≡ nothing
the_end_as_value = refl

a_negative_value : job_of (line (codes "verify a --workers -2")) ≡ nothing
a_negative_value = refl

a_negative_value_with_equals : job_of (line (codes "verify a --workers=-2")) ≡ nothing
a_negative_value_with_equals = refl

a_sign : job_of (line (codes "verify a --workers +2")) ≡ nothing
a_sign = refl

two_equals : job_of (line (codes "verify a --workers==2")) ≡ nothing
two_equals = refl

no_name : job_of (line (codes "verify a --=2")) ≡ nothing
no_name = refl

a_part_of_a_name : job_of (line (codes "verify a --work 2")) ≡ nothing
a_part_of_a_name = refl

a_short_name : job_of (line (codes "verify a -w 2")) ≡ nothing
a_short_name = refl

an_option_of_run : job_of (line (codes "verify a --steps 2")) ≡ nothing
an_option_of_run = refl

-- ---- numbers

leading_zeros : job_of (line (codes "verify a --workers 002")) ≡ report (codes "a") 1 5000 2
leading_zeros = refl

eighteen_digits : job_of (line (codes "verify a --workers 000000000000000016")) ≡ report (codes "a") 1 5000 16
eighteen_digits = refl

nineteen_digits : job_of (line (codes "verify a --workers 0000000000000000016")) ≡ nothing
nineteen_digits = refl

a_letter : job_of (line (codes "verify a --workers 2x")) ≡ nothing
a_letter = refl

hexadecimal : job_of (line (codes "verify a --workers 0x2")) ≡ nothing
hexadecimal = refl

a_point : job_of (line (codes "verify a --workers 2.0")) ≡ nothing
a_point = refl

zeros : job_of (line (codes "verify a --workers 00")) ≡ nothing
zeros = refl

-- ---- run

a_run : job_of (line (codes "run a.j C.m h")) ≡ run_for (codes "a.j") (codes "C") (codes "m") (codes "h") 10000
a_run = refl

no_heap : job_of (line (codes "run a.j C.m")) ≡ nothing
no_heap = refl

too_much : job_of (line (codes "run a.j C.m h k")) ≡ nothing
too_much = refl

run_alone : job_of (line (codes "run")) ≡ nothing
run_alone = refl

no_steps : job_of (line (codes "run a.j C.m h --steps 0")) ≡ run_for (codes "a.j") (codes "C") (codes "m") (codes "h") 0
no_steps = refl

most_steps : job_of (line (codes "run --steps=1000000 a.j C.m h")) ≡ run_for (codes "a.j") (codes "C") (codes "m") (codes "h") 1000000
most_steps = refl

too_many_steps : job_of (line (codes "run a.j C.m h --steps 1000001")) ≡ nothing
too_many_steps = refl

steps_between : job_of (line (codes "run a.j --steps 7 C.m h")) ≡ run_for (codes "a.j") (codes "C") (codes "m") (codes "h") 7
steps_between = refl

steps_twice : job_of (line (codes "run a.j C.m h --steps 7 --steps 8")) ≡ nothing
steps_twice = refl

an_option_of_verify : job_of (line (codes "run a.j C.m h --workers 2")) ≡ nothing
an_option_of_verify = refl

no_dot : job_of (line (codes "run a.j Cm h")) ≡ nothing
no_dot = refl

two_dots : job_of (line (codes "run a.j A.B.m h")) ≡ nothing
two_dots = refl

no_class : job_of (line (codes "run a.j .m h")) ≡ nothing
no_class = refl

no_method : job_of (line (codes "run a.j C. h")) ≡ nothing
no_method = refl

a_dot_alone : job_of (line (codes "run a.j . h")) ≡ nothing
a_dot_alone = refl

a_hyphen_as_heap : job_of (line (codes "run a.j C.m -")) ≡ nothing
a_hyphen_as_heap = refl

a_hyphen_as_source : job_of (line (codes "run - C.m h")) ≡ nothing
a_hyphen_as_source = refl

a_dashed_heap : job_of (line (codes "run a.j C.m -- -h")) ≡ run_for (codes "a.j") (codes "C") (codes "m") (codes "-h") 10000
a_dashed_heap = refl

an_end_between : job_of (line (codes "run a.j -- C.m h")) ≡ run_for (codes "a.j") (codes "C") (codes "m") (codes "h") 10000
an_end_between = refl

a_dashed_class : job_of (line (codes "run -- a.j -C.m h")) ≡ run_for (codes "a.j") (codes "-C") (codes "m") (codes "h") 10000
a_dashed_class = refl

steps_behind_the_end : job_of (line (codes "run a.j C.m -- h --steps 7")) ≡ nothing
steps_behind_the_end = refl

one_file_for_both : job_of (line (codes "run a C.m a")) ≡ run_for (codes "a") (codes "C") (codes "m") (codes "a") 10000
one_file_for_both = refl

-- ---- gen

generate : job_of (line (codes "gen 5 6")) ≡ made 5 6
generate = refl

no_seed : job_of (line (codes "gen 0 1")) ≡ made 0 1
no_seed = refl

most_methods : job_of (line (codes "gen 1 200")) ≡ made 1 200
most_methods = refl

many_methods : job_of (line (codes "gen 1 201")) ≡ nothing
many_methods = refl

no_methods : job_of (line (codes "gen 0 0")) ≡ nothing
no_methods = refl

zeros_before : job_of (line (codes "gen 007 0012")) ≡ made 7 12
zeros_before = refl

the_greatest_seed : job_of (line (codes "gen 999999999999999999 3")) ≡ made 999999999999999999 3
the_greatest_seed = refl

a_seed_of_nineteen_digits : job_of (line (codes "gen 1000000000000000000 3")) ≡ nothing
a_seed_of_nineteen_digits = refl

methods_of_nineteen_digits : job_of (line (codes "gen 1 0000000000000000003")) ≡ nothing
methods_of_nineteen_digits = refl

a_seed_alone : job_of (line (codes "gen 5")) ≡ nothing
a_seed_alone = refl

three_numbers : job_of (line (codes "gen 5 6 7")) ≡ nothing
three_numbers = refl

a_seed_with_sign : job_of (line (codes "gen +5 6")) ≡ nothing
a_seed_with_sign = refl

a_seed_in_letters : job_of (line (codes "gen x 6")) ≡ nothing
a_seed_in_letters = refl

an_option_of_none : job_of (line (codes "gen 5 6 --rounds 2")) ≡ nothing
an_option_of_none = refl

an_end_before_numbers : job_of (line (codes "gen -- 5 6")) ≡ made 5 6
an_end_before_numbers = refl

a_negative_seed : job_of (line (codes "gen -- -5 6")) ≡ nothing
a_negative_seed = refl
