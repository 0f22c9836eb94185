-- What a pass over the rules of propagation comes to.
use Rattle.std.specs.Prelude.{◌≡◌, ◌<◌, ◌≤◌, ℕ, List, [], drop}
use Rattle.jh_arena.specs.table.Nodes.{nodes}
use Rattle.jh_models.specs.ground_models.Fixpoints.{IsFixpoint}
use Rattle.jh_propagation.specs.trail.Saying.{literals_at}
use Rattle.jh_propagation.specs.declared.propagation.problem.Problem.{Problem}
use Rattle.jh_propagation.specs.declared.propagation.branch.Branch.{Branch}
use Rattle.jh_propagation.specs.declared.propagation.branch.Cause.{Cause}
use Rattle.jh_propagation.specs.declared.propagation.propagating.Passed.{Passed}
use Rattle.jh_propagation.specs.declared.propagation.propagating.Passed.TheVariants as passed
use Rattle.jh_propagation.specs.propagation.Problems.{instances_in}
use Rattle.jh_propagation.specs.propagation.Branches.{IsBranch, IsLonger, undecided_count}
use Rattle.jh_propagation.specs.propagation.Closings.{IsCause}
use Rattle.jh_propagation.specs.propagation.Resting.{IsAtRest}

-- the same table and decisions, a trail that goes on, and no more atoms that aren't decided
pub record GoesOn (p : Problem) (old new : Branch) : Type 0 where
  pub table : new.classes.table ≡ old.classes.table
  pub decisions : new.decisions.items ≡ old.decisions.items
  pub longer : IsLonger old new
  pub count : undecided_count p new ≤ undecided_count p old

pub record IsClosed (p : Problem) (new : Branch) (c : Cause) : Type 0 where
  pub busy : List ℕ
  pub branch : IsBranch p busy new
  pub cause : IsCause (nodes p.table) p new.trail c

pub record IsMore (p : Problem) (old new : Branch) : Type 0 where
  pub branch : IsBranch p [] new
  pub fewer : undecided_count p new < undecided_count p old
  pub rested : IsAtRest p new

pub record IsFixed (p : Problem) (new : Branch) : Type 0 where
  pub branch : IsBranch p [] new
  pub over : drop new.head new.waiting.items ≡ []
  pub rested : IsAtRest p new
  pub fixpoint : IsFixpoint (instances_in (nodes p.table) p) (literals_at (nodes p.table) new.decisions.items) (literals_at (nodes p.table) new.trail)

abbrev pub IsPassed : Problem → Branch → Branch → Passed → Type 0
IsPassed p old new (passed.Closed c) = GoesOn p old new × IsClosed p new c
IsPassed p old new passed.More = GoesOn p old new × IsMore p old new
IsPassed p old new passed.Fixed = GoesOn p old new × IsFixed p new
