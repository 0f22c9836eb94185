-- Which answers are proofs.
use Rattle.std.specs.Prelude.{not, ◌||◌, Bool, true, false, List}
use Rattle.std.specs.List.{list_all}
use Rattle.jh_local.specs.declared.answer.LocalCause.TheVariants as local_cause
use Rattle.jh_prove.specs.declared.prover.answer.Answer.{Answer}
use Rattle.jh_prove.specs.declared.prover.answer.Answer.TheVariants as answer
use Rattle.jh_prove.specs.declared.prover.answer.Verdict.{Verdict}
use Rattle.jh_prove.specs.declared.prover.answer.Verdict.TheVariants as verdict

abbrev pub verdict_of : Answer → Verdict
verdict_of answer.Trivial = verdict.Trivial
verdict_of (answer.Bapa q) = verdict.Bapa
verdict_of (answer.Local derivation) = verdict.Local
verdict_of (answer.Unproved bapa local) = verdict.Unproved

abbrev pub is_unproved : Answer → Bool
is_unproved (answer.Unproved bapa local) = true
is_unproved a = false

-- no answer is Unproved
abbrev pub all_proved : List Answer → Bool
all_proved answers = list_all (λ a. not (is_unproved a)) answers

-- the search for a ground model spent its budget
abbrev pub is_spent : Answer → Bool
is_spent (answer.Unproved bapa (local_cause.Budget closed)) = true
is_spent a = false

-- of each answer that is Unproved, it did
abbrev pub all_proved_or_spent : List Answer → Bool
all_proved_or_spent answers = list_all (λ a. not (is_unproved a) || is_spent a) answers
