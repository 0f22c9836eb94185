-- Where no answer is Unproved.
use Rattle.std.proofs.Common.{◌≡◌, refl, ap, ◌∙◌, List, [], ◌∷◌, ◌&&◌, nat_eq, eqb, cond, count_by}
use Rattle.std.proofs.lemmas.List.Folds.{list_all-append, sum_by-zero}
use Rattle.std.specs.Prelude.{not}
use Rattle.std.specs.List.{list_all}
use Rattle.jh_prove.specs.prover.Answers.{is_unproved, all_proved}
use Rattle.jh_prove.specs.declared.prover.answer.Answer.{Answer}
use Rattle.jh_prove.specs.declared.prover.answer.Answer.TheVariants as answer
use Rattle.jh_report.specs.report.Report.{Reported, all_answers, is_accepted}

-- an answer that counts nothing is a proof
proofs-count-nothing : (answers : List Answer) → list_all (λ a. eqb (cond (is_unproved a) 1 0) 0) answers ≡ all_proved answers
proofs-count-nothing [] = refl
proofs-count-nothing (answer.Trivial ∷ answers) = proofs-count-nothing answers
proofs-count-nothing (answer.Bapa q ∷ answers) = proofs-count-nothing answers
proofs-count-nothing (answer.Local d ∷ answers) = proofs-count-nothing answers
proofs-count-nothing (answer.Unproved bapa why ∷ answers) = refl

none-unproved : (answers : List Answer) → nat_eq (count_by is_unproved answers) 0 ≡ all_proved answers
none-unproved answers = sum_by-zero (λ a. cond (is_unproved a) 1 0) answers ∙ proofs-count-nothing answers

-- method by method
each-proved : (rs : List Reported) → all_proved (all_answers rs) ≡ is_accepted rs
each-proved [] = refl
each-proved (r ∷ rs) = list_all-append (λ a. not (is_unproved a)) r.answers (all_answers rs) ∙ ap (λ t. all_proved r.answers && t) (each-proved rs)

pub accepted-by-count : (rs : List Reported) → nat_eq (count_by is_unproved (all_answers rs)) 0 ≡ is_accepted rs
accepted-by-count rs = none-unproved (all_answers rs) ∙ each-proved rs
