use Rattle.jh_models.proofs.shortening.Stepping.{steps-more, steps-close, closed-atoms, most-begins, most-keeps, most-skips, most-needed}
use Rattle.jh_models.proofs.shortening.laws.most_is_kept.Goals as goal

pub returns : goal.returns
returns c = record {
  steps_more = steps-more;
  closes = steps-close;
  atoms = closed-atoms;
  begins = most-begins;
  keeps = λ is ds gone kept o l h at other may. most-keeps is ds gone kept o l h at other may;
  skips = λ is ds gone kept o l h why. most-skips is ds gone kept o l h why;
  is_needed = most-needed;
}
