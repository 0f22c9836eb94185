-- Counts of what is reported.
use Rattle.std.proofs.Common.{◌≡◌, refl, ap, ◌∙◌, ◌&&◌, List, [], ◌∷◌, nat_eq, eqb, cond}
use Rattle.std.proofs.lemmas.List.Folds.{list_all-append, sum_by-zero}
use Rattle.std.specs.Prelude.{not}
use Rattle.std.specs.List.{list_all}
use Rattle.jh_gen.specs.declared.summing.Counts.{Counts}
use Rattle.jh_report.specs.jh_prove.prover.Answers.{is_unproved, all_proved}
use Rattle.jh_report.specs.jh_prove.declared.prover.answer.Answer.{Answer}
use Rattle.jh_report.specs.jh_prove.declared.prover.answer.Answer.TheVariants as answer
use Rattle.jh_report.specs.report.Report.{Reported, all_answers, is_accepted}
use Rattle.jh_reply.specs.Made.{IsTally, counts_of}

-- counts that are those of what is reported are one
pub tally-is : (counts : Counts) (rs : List Reported) → IsTally counts rs → counts ≡ counts_of rs
tally-is counts rs h = λ i. record {
  methods = h.methods i;
  sequents = h.sequents i;
  trivial = h.trivial i;
  bapa = h.bapa i;
  local = h.local i;
  unproved = h.unproved i;
}

-- no answer is Unproved where none is counted as such
proofs-count-nothing : (answers : List Answer) → list_all (λ a. eqb (cond (is_unproved a) 1 0) 0) answers ≡ all_proved answers
proofs-count-nothing [] = refl
proofs-count-nothing (answer.Trivial ∷ answers) = proofs-count-nothing answers
proofs-count-nothing (answer.Bapa q ∷ answers) = proofs-count-nothing answers
proofs-count-nothing (answer.Local d ∷ answers) = proofs-count-nothing answers
proofs-count-nothing (answer.Unproved bapa why ∷ answers) = refl

each-proved : (rs : List Reported) → all_proved (all_answers rs) ≡ is_accepted rs
each-proved [] = refl
each-proved (r ∷ rs) = list_all-append (λ a. not (is_unproved a)) r.answers (all_answers rs) ∙ ap (λ t. all_proved r.answers && t) (each-proved rs)

pub tally-accepted : (counts : Counts) (rs : List Reported) → IsTally counts rs → nat_eq counts.unproved 0 ≡ is_accepted rs
tally-accepted counts rs h =
    ap (λ n. nat_eq n 0) h.unproved ∙ (sum_by-zero (λ a. cond (is_unproved a) 1 0) (all_answers rs) ∙ (proofs-count-nothing (all_answers rs) ∙ each-proved rs))
