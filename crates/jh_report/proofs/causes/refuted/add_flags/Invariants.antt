use Rattle.std.proofs.Common.{◌≡◌, ℕ, ◌++◌, List, drop}
use Rattle.jh_report.specs.causes.Causes.{numbered, flag_pieces}
use Rattle.jh_report.specs.causes.Pieces.{Holds}
use Rattle.jh_report.proofs.causes.refuted.add_flags.Given as goal

-- what was added, with what is left, is all
abbrev pub invariant-loop-number : goal.invariant-loop-number
invariant-loop-number l = (ps : List (List ℕ)) → Holds l.initial.pieces ps → (done : List (List ℕ)) × Holds l.pieces done × (done ++ numbered flag_pieces l.number (drop l.number l.flags) ≡ ps ++ numbered flag_pieces 0 l.flags)
