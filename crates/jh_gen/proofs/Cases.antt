-- Sources and their lines, written out by hand: the definition tried by computing.
use Rattle.std.proofs.Common.{◌≡◌, refl, ◌++◌}
use Rattle.std.specs.Prelude.{codes}
use Rattle.std.specs.Fmt.{digits}
use Rattle.jh_gen.specs.Generated.{cells_line, method_line, number_of, source, sum_line, summary, swap_line, totals_text, verdicts_text}

no_methods : source 7 0 ≡ codes "class Cell { int f; }\nclass Gen {\nstatic Object a;\nstatic Object b;\nstatic int n;\n}\n"
unfolding source
no_methods = refl

-- each kind, twice
six_methods :
    source 5 6 ≡
    codes "class Cell { int f; }\n"
    ++ (codes "class Gen {\n"
    ++ (codes "static Object a;\n"
    ++ (codes "static Object b;\n"
    ++ (codes "static int n;\n"
    ++ (codes "public static void m1() /*: modifies a, b ensures \"a = old b & b = old a\" */ { Object t = a; a = b; b = t; }\n"
    ++ (codes "public static void m2() /*: requires \"0 <= n\" modifies n ensures \"2 <= n\" */ { n = n + 2; }\n"
    ++ (codes "public static void m3(Cell p, Cell q) /*: requires \"p ~= null & q ~= null & p ~= q\" modifies Cell.f ensures \"p..Cell.f = 9 & q..Cell.f = 2\" */ { p.f = 9; q.f = 2; }\n"
    ++ (codes "public static void m4() /*: modifies a, b ensures \"a = old b & b = old a\" */ { Object t = a; a = b; b = t; }\n"
    ++ (codes "public static void m5() /*: requires \"0 <= n\" modifies n ensures \"5 <= n\" */ { n = n + 5; }\n"
    ++ (codes "public static void m6(Cell p, Cell q) /*: requires \"p ~= null & q ~= null & p ~= q\" modifies Cell.f ensures \"p..Cell.f = 3 & q..Cell.f = 2\" */ { p.f = 3; q.f = 2; }\n"
    ++ codes "}\n"))))))))))
unfolding source swap_line sum_line cells_line digits
six_methods = refl

-- a method whose number has two digits, and one whose number has three
tenth_method : method_line 0 10 ≡ codes "public static void m10() /*: requires \"0 <= n\" modifies n ensures \"8 <= n\" */ { n = n + 8; }"
unfolding sum_line digits
tenth_method = refl

last_method : method_line 1 200 ≡ codes "public static void m200() /*: modifies a, b ensures \"a = old b & b = old a\" */ { Object t = a; a = b; b = t; }"
unfolding swap_line digits
last_method = refl

-- a seed of 18 digits
great_seed : method_line 999999999999999999 1 ≡ codes "public static void m1() /*: requires \"0 <= n\" modifies n ensures \"8 <= n\" */ { n = n + 8; }"
unfolding sum_line digits
great_seed = refl

-- the number is 1 at least and 9 at most
least_number : number_of 2 1 ≡ 1
least_number = refl

greatest_number : number_of 1 1 ≡ 9
greatest_number = refl

summed_up :
    summary 5 6 (record { methods = 6; sequents = 14; trivial = 8; bapa = 2; local = 4; unproved = 0 })
    ≡ codes "gen 5 6: methods 6, sequents 14, trivial 8, bapa 2, local 4, unproved 0\n"
unfolding totals_text verdicts_text digits
summed_up = refl
