-- The nodes of the formulas of a program, as they come from unfolding and as outlines take them.
use Rattle.std.proofs.Common.{◌≡◌, ◌<◌, refl, ◌∙◌, ℕ, List, Option, None, Some, length, slice_get}
use Rattle.jh_ast.specs.Programs.{ProgramTree}
use Rattle.jh_arena.specs.table.Entries.{Listing}
use Rattle.jh_arena.specs.table.Nodes.{nodes}
use Rattle.jh_rules.specs.Names.{◌then◌}
use Rattle.jh_vars.specs.Opened.{opened}
use Rattle.jh_boxed_commands.specs.jh_command_statements.checks.Told.{AreFormulas, node_of, told_at}
use Rattle.jh_boxed_calls.specs.jh_unfolding.unfolder.Noted.{node_at}

told-then : (t : Listing) (o : Option ℕ) → told_at t o ≡ (o then slice_get (nodes t))
told-then t None = refl
told-then t (Some k) = refl

pub formulas-there : (p : ProgramTree) (t : Listing) (ns : List (Option ℕ)) → ((n k : ℕ) → node_at ns n ≡ Some k → k < length (nodes t)) → ((n : ℕ) → (node_at ns n then slice_get (nodes t)) ≡ opened p n) → AreFormulas p t ns
formulas-there p t ns inside value = record { inside = inside; is = λ n. told-then t (node_of ns n) ∙ value n }
