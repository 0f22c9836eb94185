-- What words ask for is one job, and what a file tells is one text.
use Rattle.std.proofs.Common.{◌≡◌, ◌<◌, ℕ, List, length, ap, sym, ◌∙◌}
use Rattle.std.specs.Prelude.{Option, None, Some, IfSome}
use Rattle.jh_reply.specs.Verify.{Tells, source_limit}
use Rattle.jh_reply.specs.Words.{source_of}
use Rattle.jh_words.specs.CommandLine.{Gen, Job, Run, Verify, gen, run, verify}

pub one-job : (o : Option Job) (j k : Job) → o ≡ Some j → o ≡ Some k → j ≡ k
one-job o j k first second = let both : Some j ≡ Some k = sym first ∙ second in cc

pub none-job : {P : Type 0} (o : Option Job) (j : Job) → o ≡ None → o ≡ Some j → P
none-job o j none some = let both : None ≡ Some j = sym none ∙ some in cc

-- it isn't both
pub not-both : {P : Type 0} (v : Verify) (r : Run) → verify v ≡ run r → P
not-both v r e = cc

pub apart-jobs : {P : Type 0} (o : Option Job) (v : Verify) (r : Run) → o ≡ Some (verify v) → o ≡ Some (run r) → P
apart-jobs o v r first second = not-both v r (one-job o (verify v) (run r) first second)

-- no more is a source that is made one of them
not-verify-made : {P : Type 0} (v : Verify) (g : Gen) → verify v ≡ gen g → P
not-verify-made v g e = cc

not-run-made : {P : Type 0} (r : Run) (g : Gen) → run r ≡ gen g → P
not-run-made r g e = cc

pub apart-verify-made : {P : Type 0} (o : Option Job) (v : Verify) (g : Gen) → o ≡ Some (verify v) → o ≡ Some (gen g) → P
apart-verify-made o v g first second = not-verify-made v g (one-job o (verify v) (gen g) first second)

pub apart-run-made : {P : Type 0} (o : Option Job) (r : Run) (g : Gen) → o ≡ Some (run r) → o ≡ Some (gen g) → P
apart-run-made o r g first second = not-run-made r g (one-job o (run r) (gen g) first second)

pub one-gen : (g h : Gen) → gen g ≡ gen h → g ≡ h
one-gen g h e = cc

pub one-run : (r s : Run) → run r ≡ run s → r ≡ s
one-run r s e = cc

pub one-verify : (v w : Verify) → verify v ≡ verify w → v ≡ w
one-verify v w e = cc

pub tells-same : (held : Option (List ℕ)) (came bytes : List ℕ) → held ≡ Some bytes → Tells held came → came ≡ bytes
tells-same None came bytes is told = cc
tells-same (Some there) came bytes is told = let same : there ≡ bytes = cc in told ∙ same

-- a job reads one source, and none where it is made
pub one-file : (j k : Job) (f g : List ℕ) → j ≡ k → source_of j ≡ Some f → source_of k ≡ Some g → f ≡ g
one-file j k f g same first second = let both : Some f ≡ Some g = sym first ∙ (ap source_of same ∙ second) in cc

no-file : {P : Type 0} (f : List ℕ) → None ≡ Some f → P
no-file f e = cc

pub made-file : {P : Type 0} (j : Job) (g : Gen) (f : List ℕ) → j ≡ gen g → source_of j ≡ Some f → P
made-file j g f same reads = no-file f (sym (ap source_of same) ∙ reads)

-- the bytes that came are those that the file of the source holds
pub told-bytes : (holds : List ℕ → Option (List ℕ)) (f g bytes came : List ℕ) → f ≡ g → holds f ≡ Some bytes → Tells (holds g) came → came ≡ bytes
told-bytes holds f g bytes came same held told = tells-same (holds g) came bytes (ap holds (sym same) ∙ held) told

pub longer : (held : Option (List ℕ)) (bytes : List ℕ) → held ≡ Some bytes → IfSome held (λ there. source_limit < length there) → source_limit < length bytes
longer None bytes is long = cc
longer (Some there) bytes is long = let same : there ≡ bytes = cc in rw (sym same) long
