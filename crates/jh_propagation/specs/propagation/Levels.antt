-- Where a branch can be taken back to: what it was before a decision.
use Rattle.std.specs.Prelude.{◌≡◌, ◌≤◌, ℕ, [], length, take}
use Rattle.jh_arena.specs.table.Nodes.{nodes}
use Rattle.jh_closure.specs.congruence_closure.Nodes.{Has}
use Rattle.jh_cong.specs.classes.Saying.{Asserted}
use Rattle.jh_models.specs.ground_models.GroundModel.{IsMet}
use Rattle.jh_propagation.specs.declared.trail.decided.Decided.{Decided}
use Rattle.jh_propagation.specs.trail.Saying.{literals_at}
use Rattle.jh_propagation.specs.declared.propagation.problem.Problem.{Problem}
use Rattle.jh_propagation.specs.propagation.Branches.{Parts, AreParts}
use Rattle.jh_propagation.specs.propagation.Speaking.{AreSpoken}

-- The first decisions of a branch and the first literals of its trail, with these classes; no instance waits.
abbrev pub cut_to : Parts → Asserted → ℕ → ℕ → Parts
cut_to b classes count at = record { decisions = take count b.decisions; classes = classes; trail = take at b.trail; reasons = take at b.reasons; waiting = []; head = 0 }

-- Some structure meets the first literals of the trail; and with classes that were told these they are a branch in which every
-- instance is quiet.
pub record IsLevel (p : Problem) (b : Parts) (count at : ℕ) : Type 0 where
  pub counted : count ≤ length b.decisions
  pub inside : at ≤ length b.trail
  pub reasoned : at ≤ length b.reasons
  pub over_atoms : (d : Decided) → Has (take at b.trail) d → Has p.ground.atoms d.atom
  pub met : IsMet (literals_at (nodes p.table) (take at b.trail))
  pub stands : (classes : Asserted) → classes.table ≡ b.classes.table → AreSpoken (nodes b.classes.table) (nodes p.table) (take at b.trail) classes.said → AreParts p [] (cut_to b classes count at)
