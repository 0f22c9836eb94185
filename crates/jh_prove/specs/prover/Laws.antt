-- What right answers say.
use Rattle.std.specs.Prelude.{◌≡◌, ℕ, true, false, List}
use Rattle.jh_name.specs.declared.options.Options.{Options}
use Rattle.jh_seq.specs.sequent.Sequents.{SequentTree}
use Rattle.jh_seq.specs.splitting.Laws.{AllValid}
use Rattle.jh_prove.specs.declared.prover.answer.Answer.{Answer}
use Rattle.jh_prove.specs.prover.Answers.{verdict_of, all_proved, is_spent, all_proved_or_spent}
use Rattle.jh_prove.specs.prover.Right.{Right, AllRight, AllProvable}

-- Where all answers are right and no answer is Unproved, all sequents are valid.
abbrev pub ProvedIsValid : Type 0
ProvedIsValid = (o : Options) (ss : List SequentTree) (answers : List Answer) → AllRight o ss answers → all_proved answers ≡ true → AllValid ss

-- Where all sequents are provable and all answers right, no answer is Unproved but where the search spent its budget.
abbrev pub ProvableIsProved : Type 0
ProvableIsProved = (o : Options) (ss : List SequentTree) (answers : List Answer) → AllRight o ss answers → AllProvable o.rounds ss → all_proved_or_spent answers ≡ true

-- Right answers for one sequent have one verdict, but where the search spent its budget.
abbrev pub OneVerdictIsRight : Type 0
OneVerdictIsRight = (o : Options) (s : SequentTree) (a b : Answer) → Right o s a → Right o s b → is_spent a ≡ false → is_spent b ≡ false → verdict_of a ≡ verdict_of b
