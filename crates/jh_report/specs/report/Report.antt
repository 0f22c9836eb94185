-- The report on a program: a line for each sequent, method by method, and a line that sums them up.
use Rattle.std.specs.Prelude.{ℕ, ◌+◌, ◌==◌, Bool, if◌then◌else◌, List, [], ◌∷◌, ◌++◌, length, codes, count_by}
use Rattle.std.specs.Fmt.{decimal}
use Rattle.std.specs.List.{flat_map, list_all}
use Rattle.jh_form.specs.declared.mark.Mark.{Mark}
use Rattle.jh_form.specs.declared.mark.MarkKind.{MarkKind}
use Rattle.jh_form.specs.declared.mark.MarkKind.TheVariants as kind
use Rattle.jh_seq.specs.sequent.Sequents.{SequentTree}
use Rattle.jh_prove.specs.prover.Answers.{verdict_of, is_unproved, all_proved}
use Rattle.jh_prove.specs.declared.prover.answer.Answer.{Answer}
use Rattle.jh_prove.specs.declared.prover.answer.Answer.TheVariants as answer
use Rattle.jh_bapa.specs.declared.answers.answer.BapaCause.{BapaCause}
use Rattle.jh_bapa.specs.declared.answers.answer.BapaCause.TheVariants as cause
use Rattle.jh_prove.specs.declared.prover.answer.Verdict.{Verdict}
use Rattle.jh_prove.specs.declared.prover.answer.Verdict.TheVariants as verdict
use Rattle.jh_report.specs.causes.Causes.{refuted_line, too_large_line}
use Rattle.jh_report.specs.causes.LocalCauses.{open_line, too_many_line, budget_line}
use Rattle.jh_prove.specs.jh_local.Answers.{literal_trees}
use Rattle.jh_prove.specs.jh_local.declared.answer.LocalCause.{LocalCause}
use Rattle.jh_prove.specs.jh_local.declared.answer.LocalCause.TheVariants as local

abbrev pub kind_word : MarkKind → List ℕ
kind_word kind.Null = codes "null"
kind_word kind.Pre = codes "pre"
kind_word kind.Post = codes "post"
kind_word kind.Inv = codes "inv"
kind_word kind.LoopEntry = codes "loop"
kind_word kind.LoopKept = codes "kept"
kind_word kind.Frame = codes "frame"
kind_word kind.Assert = codes "assert"
kind_word kind.Note = codes "note"
kind_word kind.Fact = codes "note"

abbrev pub verdict_word : Verdict → List ℕ
verdict_word verdict.Trivial = codes "trivial"
verdict_word verdict.Bapa = codes "bapa"
verdict_word verdict.Local = codes "local"
verdict_word verdict.Unproved = codes "unproved"

-- why regions don't prove a sequent
abbrev pub cause_line : BapaCause → List ℕ
cause_line (cause.Refuted z) = refuted_line z
cause_line (cause.TooLarge sets elements size) = too_large_line sets elements size

-- why the search for a ground model doesn't
abbrev pub local_line : LocalCause → List ℕ
local_line (local.Open branch) = open_line (literal_trees branch.literals)
local_line (local.TooMany n) = too_many_line n
local_line (local.Budget closed) = budget_line (length closed)

abbrev pub cause_lines : BapaCause → LocalCause → List ℕ
cause_lines bapa why = cause_line bapa ++ local_line why

-- the two lines below that of an unproved sequent
abbrev pub cause_of : Answer → List ℕ
cause_of (answer.Unproved bapa why) = cause_lines bapa why
cause_of a = []

-- the line of a sequent: class and name of its method, its number there, the kind and the place of its label, and the verdict
unfoldable pub line_of : List ℕ → List ℕ → ℕ → Mark → Verdict → List ℕ
line_of class name n mark v =
    class ++ (codes "." ++ (name ++ (codes " " ++ (decimal n ++ (codes " " ++ (kind_word mark.kind
    ++ (codes " " ++ (decimal mark.place.line ++ (codes ":" ++ (decimal mark.place.column ++ (codes " " ++ (verdict_word v ++ 10 ∷ []))))))))))))

-- what is said of a sequent: its line, and the causes where it is unproved
unfoldable pub lines_for : List ℕ → List ℕ → ℕ → Mark → Answer → List ℕ
lines_for class name n mark a = line_of class name n mark (verdict_of a) ++ cause_of a

-- the lines of sequents in turn, the first of which has number n
abbrev pub lines_from : List ℕ → List ℕ → ℕ → List SequentTree → List Answer → List ℕ
lines_from class name n [] answers = []
lines_from class name n (s ∷ ss) [] = []
lines_from class name n (s ∷ ss) (a ∷ more) = lines_for class name n s.mark a ++ lines_from class name (n + 1) ss more

-- a method, by its class and its own name, with its sequents and what is said of each
pub record Reported : Type 0 where
  pub class : List ℕ
  pub name : List ℕ
  pub sequents : List SequentTree
  pub answers : List Answer

-- the lines of a method, whose sequents are numbered from 1
abbrev pub lines_of : Reported → List ℕ
lines_of r = lines_from r.class r.name 1 r.sequents r.answers

abbrev pub all_lines : List Reported → List ℕ
all_lines rs = flat_map lines_of rs

abbrev pub all_answers : List Reported → List Answer
all_answers rs = flat_map (λ r. r.answers) rs

-- no answer is Unproved
abbrev pub is_accepted : List Reported → Bool
is_accepted rs = list_all (λ r. all_proved r.answers) rs

abbrev pub accepted_line : ℕ → ℕ → List ℕ
accepted_line methods sequents = codes "accepted: methods " ++ (decimal methods ++ (codes ", sequents " ++ (decimal sequents ++ 10 ∷ [])))

abbrev pub rejected_line : ℕ → ℕ → ℕ → List ℕ
rejected_line methods sequents unproved =
    codes "rejected: methods " ++ (decimal methods ++ (codes ", sequents " ++ (decimal sequents ++ (codes ", unproved " ++ (decimal unproved ++ 10 ∷ [])))))

-- the last line: accepted where no answer is Unproved
abbrev pub summary : ℕ → ℕ → ℕ → List ℕ
summary methods sequents unproved = if unproved == 0 then accepted_line methods sequents else rejected_line methods sequents unproved

-- the report on the methods of a program: the lines of all methods in order, and the last line
abbrev pub report_of : List Reported → List ℕ
report_of rs = all_lines rs ++ summary (length rs) (length (all_answers rs)) (count_by is_unproved (all_answers rs))
