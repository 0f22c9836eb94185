-- What the answers of `solve` say.
use Rattle.std.specs.Prelude.{◌≡◌, ℕ, ◌<◌, ◌≤◌, min}
use Rattle.jh_digits.specs.declared.systems.system.System.{System}
use Rattle.jh_digits.specs.declared.systems.system.Solved.{Solved}
use Rattle.jh_digits.specs.declared.systems.system.Solved.TheVariants.{Solution, NoSolution, TooLarge}
use Rattle.jh_digits.specs.systems.Solution.{entry_of, right_of, weighted, IsSolution, HasColumns, spelled}
use Rattle.jh_digits.specs.systems.Nodes.{node_count, node_limit, count_max}

-- no natural numbers make a row equal to its right side
abbrev pub IsUnequal : System → ℕ → Type 0
IsUnequal s i = (v : ℕ → ℕ) → ¬ (weighted (entry_of s i) v s.columns ≡ right_of s i)

-- the digits of a solution have a digit for each column, and spell numbers that solve the system
abbrev pub IfSolution : System → Solved → Type 0
IfSolution s (Solution d) = HasColumns s.columns d.layers × IsSolution s (spelled d.layers)
IfSolution s _ = Unit {0}

-- no natural numbers solve a system that is said to have no solution
abbrev pub IfNoSolution : System → Solved → Type 0
IfNoSolution s NoSolution = (v : ℕ → ℕ) → ¬ IsSolution s v
IfNoSolution s _ = Unit {0}

-- a system is too large exactly where it has more nodes than the limit, and the answer has their
-- number, or the greatest number of 128 bits where there are more
abbrev pub IfTooLarge : System → Solved → Type 0
IfTooLarge s (TooLarge n) = (node_limit < node_count s) × (n ≡ min (node_count s) count_max)
IfTooLarge s _ = node_count s ≤ node_limit
