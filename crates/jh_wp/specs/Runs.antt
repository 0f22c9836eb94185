-- Guarded runs of a command: where they lead from an interpretation. What is assumed and false ends a run
-- without an end, what is asserted and false fails it, and a choice goes both ways.
use Rattle.std.specs.Prelude.{if◌then◌else◌, List, [], ◌∷◌, ◌++◌}
use Rattle.std.specs.List.{flat_map}
use Rattle.jh_form.specs.Meaning.{Interp, truth, datum}
use Rattle.jh_form.specs.Assigned.{assigned}
use Rattle.jh_wp.specs.Renamed.{copied}
use Rattle.jh_wp.specs.Command.{CommandTree, CommandTrees, assume, assert, assign, havoc, leave, stop, seq, choice, none, more}

-- how a guarded run ends: after the command, where the method returns, or by a failure
pub data End : Type 0 where
  normal : Interp → End
  left : Interp → End
  failed : End

-- the ends that come where a run that ended as it should goes on
abbrev pub follow : (Interp → List End) → End → List End
follow next (normal n) = next n
follow next (left n) = left n ∷ []
follow next failed = failed ∷ []

abbrev mutual
  pub ends : CommandTree → Interp → List End
  ends (assume f) m = if truth f m [] then normal m ∷ [] else []
  ends (assert f) m = if truth f m [] then normal m ∷ [] else failed ∷ []
  ends (assign x v) m = normal (assigned m x (datum v m [])) ∷ []
  ends (havoc x y) m = normal (copied m x y) ∷ []
  ends leave m = left m ∷ []
  ends stop m = []
  ends (seq cs) m = ends_all cs m
  ends (choice c d) m = ends c m ++ ends d m

  pub ends_all : CommandTrees → Interp → List End
  ends_all none m = normal m ∷ []
  ends_all (more c cs) m = flat_map (follow (λ n. ends_all cs n)) (ends c m)
