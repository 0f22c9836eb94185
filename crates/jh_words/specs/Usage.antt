-- What is said to words that ask for nothing.
use Rattle.std.specs.Prelude.{ℕ, ◌≡◌, ◌++◌, List, None, codes}
use Rattle.jh_words.specs.CommandLine.{Word, job_of}
use Rattle.jh_words.specs.declared.reading.WordsError.{WordsError}
use Rattle.jh_words.specs.declared.reading.WordsError.TheVariants as error

-- the page that says what may be asked for
unfoldable pub usage_page : List ℕ
usage_page =
    codes "Usage: jahob verify FILE [--workers n] [--rounds r] [--leaves k]\n"
    ++ (codes "       jahob run FILE CLASS.METHOD HEAP [--steps n]\n"
    ++ (codes "       jahob gen SEED METHODS\n"
    ++ (codes "\n"
    ++ (codes "Commands:\n"
    ++ (codes "  verify  Proves that each method of the program in FILE meets its\n"
    ++ (codes "          specification, and says so for each thing that is to be proved\n"
    ++ (codes "  run     Runs a method of the program in FILE from the heap in the file HEAP,\n"
    ++ (codes "          and prints its result and the heap at the end\n"
    ++ (codes "  gen     Makes a program with METHODS methods, 1 to 200, from the number SEED,\n"
    ++ (codes "          of at most 18 digits, proves it, and says how much is proved and how\n"
    ++ (codes "\n"
    ++ (codes "Options, anywhere behind the command, as --steps 5 or --steps=5:\n"
    ++ (codes "  --workers n  How many proofs are sought at a time: 1 to 16 [default: 1]\n"
    ++ (codes "  --rounds r   How often facts are put at objects: 1 to 4 [default: 1]\n"
    ++ (codes "  --leaves k   How many branches a proof may have: 1 to 100000 [default: 5000]\n"
    ++ (codes "  --steps n    How many steps a run may take: 0 to 1000000 [default: 10000]\n"
    ++ (codes "  --           Ends the options: a word behind it may begin with -\n"
    ++ (codes "The number of workers is read, and changes nothing yet.\n"
    ++ (codes "\n"
    ++ (codes "Status: 0 all is proved, or the run returned; 1 not all is proved; 2 the words\n"
    ++ (codes "ask for nothing, or there is no such method; 3 the program is refused; 4 a file\n"
    ++ (codes "can't be read; 5 the output can't be written; 6 there is no memory. Of a run:\n"
    ++ (codes "10 null dereferenced, 11 assert failed, 12 no free object, 13 no step left,\n"
    ++ (codes "14 a number too great, 15 the heap is refused.\n"
    ++ (codes "\n"
    ++ codes "Example: jahob verify examples/swap.j\n")))))))))))))))))))))))))

-- a text ends with that page; what stands before it, if anything, says what is wrong, and tests show it
abbrev pub IsUsage : List ℕ → Type 0
IsUsage text = (front : List ℕ) × (text ≡ front ++ usage_page)

-- words that ask for nothing are refused with such a text; want of memory says nothing of them
abbrev pub IsRefusal : List Word → WordsError → Type 0
IsRefusal ws (error.Usage text) = (job_of ws ≡ None) × IsUsage text
IsRefusal ws error.Memory = Unit {0}
