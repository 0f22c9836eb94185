-- The locals that statements assign, gathered each once where it first stands. In `proofs/Firsts` it is shown that
-- these are the first ones of `locals_assigned`: what is declared inside is gathered where it is declared, so that
-- only the locals in scope before have to be looked up.
use Rattle.std.specs.Prelude.{Bool, List, [], ◌∷◌, ◌++◌, Option, Some, None, if◌then◌else◌, is_some}
use Rattle.std.specs.Option.{option_map_or}
use Rattle.jh_name.specs.declared.place.Sort.{Sort}
use Rattle.jh_rules.specs.Words.{same_text}
use Rattle.jh_semantics.specs.Code.{Text, Local, Target, Stmt, Stmts}
use Rattle.jh_semantics.specs.Code as c
use Rattle.jh_guard.specs.Items.{Sorted, sorted_local}
use Rattle.jh_guard.specs.Writes.{target_of_stmt}

-- the sort of a text among names, and whether it is one of them
abbrev pub sort_named : List Sorted → Text → Option Sort
sort_named [] x = None
sort_named (s ∷ xs) x = if same_text x s.text then Some s.sort else sort_named xs x

abbrev pub is_among : List Sorted → Text → Bool
is_among xs x = is_some (sort_named xs x)

-- a name behind others, unless its text is among them
abbrev pub with_one : List Sorted → Sorted → List Sorted
with_one xs s = if is_among xs s.text then xs else xs ++ s ∷ []

unfoldable pub with_all : List Sorted → List Local → List Sorted
with_all xs [] = xs
with_all xs (y ∷ ys) = with_all (with_one xs (sorted_local y)) ys

-- What a target adds: a local that is declared, or one that was in scope before.
abbrev pub target_adds : List Sorted → Target → List Sorted → List Sorted
target_adds scope (c.to_new y) xs = with_one xs (sorted_local y)
target_adds scope (c.to_name y) xs = option_map_or (λ s. with_one xs (record { text = y; sort = s })) (sort_named scope y) xs
target_adds scope _ xs = xs

unfoldable mutual
  pub stmt_adds : List Sorted → Stmt → List Sorted → List Sorted
  stmt_adds scope (c.block body) xs = stmts_add scope body xs
  stmt_adds scope (c.branch q e a b) xs = stmts_add scope b (stmt_adds scope a xs)
  stmt_adds scope (c.loop q invariants e body) xs = stmt_adds scope body xs
  stmt_adds scope s xs = target_adds scope (target_of_stmt s) xs

  pub stmts_add : List Sorted → Stmts → List Sorted → List Sorted
  stmts_add scope c.none xs = xs
  stmts_add scope (c.more s ss) xs = stmts_add scope ss (stmt_adds scope s xs)
