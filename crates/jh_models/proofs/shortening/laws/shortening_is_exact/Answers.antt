use Rattle.jh_models.proofs.shortening.Shorter.{begun, with-needed, shorter, ended}
use Rattle.jh_models.proofs.shortening.laws.shortening_is_exact.Goals as goal

pub returns : goal.returns
returns c = record {
  begins = begun;
  absent = λ is ds tried ls l h never. with-needed is ds tried ls l h (λ g. absurd (never g));
  needed = λ is ds tried ls l h need. with-needed is ds tried ls l h (λ g. need);
  shorter = shorter;
  ends = ended;
}
