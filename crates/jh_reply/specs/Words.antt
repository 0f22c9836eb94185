-- The file of the source that a job reads, where it reads one.
use Rattle.std.specs.Prelude.{ℕ, List, Option, None, Some}
use Rattle.jh_words.specs.CommandLine.{Job, gen, run, verify}

abbrev pub source_of : Job → Option (List ℕ)
source_of (verify v) = Some v.file
source_of (run r) = Some r.file
source_of (gen g) = None
