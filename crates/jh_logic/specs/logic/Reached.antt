-- What has to be so where a command begins, for something to be so where its guarded runs end. These are weakest preconditions of
-- predicates on interpretations in place of formulas: a notion for proofs.
use Rattle.std.specs.Prelude.{◌≡◌, true, [], List, ◌∷◌}
use Rattle.jh_form.specs.Meaning.{Interp, truth, datum}
use Rattle.jh_form.specs.Assigned.{assigned}
use Rattle.jh_wp.specs.Command.{CommandTree, CommandTrees, assume, assert, assign, havoc, leave, stop, seq, choice, none, more}
use Rattle.jh_wp.specs.Renamed.{copied}

-- Q where a run ends after the command, R where it ends at a return
module _ (R : Interp → Type 0) where
  abbrev mutual
    pub Reached : CommandTree → (Interp → Type 0) → Interp → Type 0
    Reached (assume f) Q m = truth f m [] ≡ true → Q m
    Reached (assert f) Q m = (truth f m [] ≡ true) × Q m
    Reached (assign x v) Q m = Q (assigned m x (datum v m []))
    Reached (havoc x y) Q m = Q (copied m x y)
    Reached leave Q m = R m
    Reached stop Q m = Unit {0}
    Reached (seq cs) Q m = ReachedAll cs Q m
    Reached (choice a b) Q m = Reached a Q m × Reached b Q m

    pub ReachedAll : CommandTrees → (Interp → Type 0) → Interp → Type 0
    ReachedAll none Q m = Q m
    ReachedAll (more c cs) Q m = Reached c (λ n. ReachedAll cs Q n) m

  -- the same of a list
  abbrev pub After : List CommandTree → (Interp → Type 0) → Interp → Type 0
  After [] Q m = Q m
  After (c ∷ cs) Q m = Reached c (λ n. After cs Q n) m
