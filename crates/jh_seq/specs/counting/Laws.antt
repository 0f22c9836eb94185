-- What counting gives.
use Rattle.std.specs.Prelude.{◌≡◌, ℕ, false, length}
use Rattle.jh_name.specs.declared.place.MethodId.{MethodId}
use Rattle.jh_form.specs.Tree.{FormulaTree}
use Rattle.jh_seq.specs.splitting.Split.{split_of}
use Rattle.jh_wp.specs.Command.{CommandTree}
use Rattle.jh_wp.specs.Wp.{wp}
use Rattle.jh_seq.specs.counting.Counted.{counted}
use Rattle.jh_seq.specs.counting.Goals.{goals, ones}

-- The list of the sequents of a weakest precondition is as long as is counted without it, by cases on the command.
abbrev pub CountedIsExact : Type 0
CountedIsExact =
    (c : CommandTree) (q r : FormulaTree) (method : MethodId) (k : ℕ) →
    length (split_of method (wp c q r) k) ≡ counted c (λ w. goals q w false) (λ w. goals r w false) ones
