-- A source made from a number, the seed, with as many methods as are asked for; and the line that sums up what was proved of it.
use Rattle.std.specs.Prelude.{ℕ, zero, suc, ◌+◌, ◌*◌, ◌%◌, ◌==◌, if◌then◌else◌, List, [], ◌∷◌, ◌++◌, codes}
use Rattle.std.specs.Fmt.{decimal}
use Rattle.std.specs.List.{flat_map}
use Rattle.jh_gen.specs.declared.summing.Counts.{Counts}

-- ---- the source

-- the number that method i writes: 1 to 9
abbrev pub number_of : ℕ → ℕ → ℕ
number_of seed i = 1 + (seed + 7 * i) % 9

-- method i, which exchanges two statics
unfoldable pub swap_line : ℕ → List ℕ
swap_line i =
    codes "public static void m"
    ++ (decimal i
    ++ codes "() /*: modifies a, b ensures \"a = old b & b = old a\" */ { Object t = a; a = b; b = t; }")

-- method i, which adds k to a static
unfoldable pub sum_line : ℕ → ℕ → List ℕ
sum_line i k =
    codes "public static void m"
    ++ (decimal i
    ++ (codes "() /*: requires \"0 <= n\" modifies n ensures \""
    ++ (decimal k
    ++ (codes " <= n\" */ { n = n + "
    ++ (decimal k
    ++ codes "; }")))))

-- method i, which writes k and 2 into the fields of two cells
unfoldable pub cells_line : ℕ → ℕ → List ℕ
cells_line i k =
    codes "public static void m"
    ++ (decimal i
    ++ (codes "(Cell p, Cell q) /*: requires \"p ~= null & q ~= null & p ~= q\" modifies Cell.f ensures \"p..Cell.f = "
    ++ (decimal k
    ++ (codes " & q..Cell.f = 2\" */ { p.f = "
    ++ (decimal k
    ++ codes "; q.f = 2; }")))))

-- method i of a kind: 0, 1, or any other
abbrev pub line_of_kind : ℕ → ℕ → ℕ → List ℕ
line_of_kind kind i k = if kind == 0 then swap_line i else (if kind == 1 then sum_line i k else cells_line i k)

-- method i: the three kinds take turns, beginning at the seed
abbrev pub method_line : ℕ → ℕ → List ℕ
method_line seed i = line_of_kind ((seed + i) % 3) i (number_of seed i)

-- the methods 1 to n
abbrev pub method_lines : ℕ → ℕ → List (List ℕ)
method_lines seed zero = []
method_lines seed (suc n) = method_lines seed n ++ method_line seed (suc n) ∷ []

-- what stands before the methods
abbrev pub first_lines : List (List ℕ)
first_lines =
    codes "class Cell { int f; }"
    ∷ codes "class Gen {"
    ∷ codes "static Object a;"
    ∷ codes "static Object b;"
    ∷ codes "static int n;"
    ∷ []

abbrev pub lines : ℕ → ℕ → List (List ℕ)
lines seed methods = first_lines ++ (method_lines seed methods ++ codes "}" ∷ [])

-- each line with a line feed (10) behind it
abbrev pub ended : List ℕ → List ℕ
ended line = line ++ 10 ∷ []

abbrev pub text_of : List (List ℕ) → List ℕ
text_of ls = flat_map ended ls

-- the source of a seed with so many methods
unfoldable pub source : ℕ → ℕ → List ℕ
source seed methods = text_of (lines seed methods)

-- ---- the summary

-- of which source, with how many methods and sequents
unfoldable pub totals_text : ℕ → ℕ → Counts → List ℕ
totals_text seed methods counts =
    codes "gen "
    ++ (decimal seed
    ++ (codes " "
    ++ (decimal methods
    ++ (codes ": methods "
    ++ (decimal counts.methods
    ++ (codes ", sequents "
    ++ decimal counts.sequents))))))

-- how many of the sequents were proved in each way, and how many weren't; the line feed (10) ends the line
unfoldable pub verdicts_text : Counts → List ℕ
verdicts_text counts =
    codes ", trivial "
    ++ (decimal counts.trivial
    ++ (codes ", bapa "
    ++ (decimal counts.bapa
    ++ (codes ", local "
    ++ (decimal counts.local
    ++ (codes ", unproved "
    ++ (decimal counts.unproved
    ++ 10 ∷ [])))))))

-- the line that says how many methods and sequents the source of a seed has, and what became of its sequents
abbrev pub summary : ℕ → ℕ → Counts → List ℕ
summary seed methods counts = totals_text seed methods counts ++ verdicts_text counts
