-- What `gen` verifies: a source that is made from a number. And the summary of what is proved of it.
use Rattle.std.specs.Prelude.{ℕ, ◌≡◌, Bool, true, false, List, length, count_by, if◌then◌else◌, Option, Some}
use Rattle.jh_files.specs.Contents.{Appends}
use Rattle.jh_ast.specs.Programs.{ProgramTree}
use Rattle.jh_gen.specs.Generated.{source, summary}
use Rattle.jh_gen.specs.declared.summing.Counts.{Counts}
use Rattle.jh_semantics.specs.LoweredProgram.{IsSound}
use Rattle.jh_name.specs.declared.options.Options.{Options}
use Rattle.jh_report.specs.jh_prove.prover.Answers.{is_unproved}
use Rattle.jh_report.specs.jh_prove.declared.prover.answer.Answer.{Answer}
use Rattle.jh_report.specs.jh_prove.declared.prover.answer.Answer.TheVariants as answer
use Rattle.jh_report.specs.report.Report.{Reported, all_answers, is_accepted}
use Rattle.jh_reply.specs.Refusals.{Spells}
use Rattle.jh_reply.specs.Verify.{Judges, OwesProvable, are_proved_or_spent}
use Rattle.jh_words.specs.CommandLine.{Gen, gen, job_of, leaves, rounds}

-- how far the search for a proof goes where no option is given
abbrev pub default_options : Options
default_options = record { rounds = rounds.default; leaves = leaves.default }

-- the source that is made
abbrev pub made_source : Gen → List ℕ
made_source g = source g.seed g.methods

-- ---- the summary

abbrev pub is_trivial : Answer → Bool
is_trivial answer.Trivial = true
is_trivial a = false

abbrev pub is_bapa : Answer → Bool
is_bapa (answer.Bapa query) = true
is_bapa a = false

abbrev pub is_local : Answer → Bool
is_local (answer.Local derivation) = true
is_local a = false

-- how many methods are reported on, with how many sequents, and how many of these have each verdict
abbrev pub counts_of : List Reported → Counts
counts_of rs = record {
  methods = length rs;
  sequents = length (all_answers rs);
  trivial = count_by is_trivial (all_answers rs);
  bapa = count_by is_bapa (all_answers rs);
  local = count_by is_local (all_answers rs);
  unproved = count_by is_unproved (all_answers rs);
}

-- counts that are those of what is reported
pub record IsTally (counts : Counts) (rs : List Reported) : Type 0 where
  pub methods : counts.methods ≡ length rs
  pub sequents : counts.sequents ≡ length (all_answers rs)
  pub trivial : counts.trivial ≡ count_by is_trivial (all_answers rs)
  pub bapa : counts.bapa ≡ count_by is_bapa (all_answers rs)
  pub local : counts.local ≡ count_by is_local (all_answers rs)
  pub unproved : counts.unproved ≡ count_by is_unproved (all_answers rs)

-- counts are those of right answers for what a program owes
pub record IsTallied (o : Options) (p : ProgramTree) (counts : Counts) : Type 0 where
  pub reported : List Reported
  pub judges : Judges o p reported
  pub counts_are : IsTally counts reported

abbrev pub summary_of : Gen → List Reported → List ℕ
summary_of g rs = summary g.seed g.methods (counts_of rs)

-- a text is the summary of right answers for what a program owes, and says whether none is Unproved
pub record IsSummary (g : Gen) (p : ProgramTree) (text : List ℕ) (accepted : Bool) : Type 0 where
  pub reported : List Reported
  pub judges : Judges default_options p reported
  pub text_is : text ≡ summary_of g reported
  pub accepted_is : accepted ≡ is_accepted reported

-- The words ask for a source that is made, and it spells one program.
pub record IsMade (words : List (List ℕ)) (p : ProgramTree) : Type 0 where
  pub job : Gen
  pub asked : job_of words ≡ Some (gen job)
  pub spelled : Spells (made_source job) p
  pub only : (q : ProgramTree) → Spells (made_source job) q → q ≡ p

-- The words ask for a source that is made, it spells one program, and the summary of right answers for its sequents was written; the status is 0
-- where none is Unproved, and else 1. With 0 that program is sound. Where all that it owes is provable, an answer is Unproved only
-- where the search spent its budget.
pub record Sums (words : List (List ℕ)) (before after : Option (List ℕ)) (status : ℕ) : Type 0 where
  pub program : ProgramTree
  pub made : IsMade words program
  pub reported : List Reported
  pub judges : Judges default_options program reported
  pub spent : OwesProvable default_options.rounds program → are_proved_or_spent reported ≡ true
  pub written : Appends before (summary_of made.job reported) after
  pub status_is : status ≡ (if is_accepted reported then 0 else 1)
  pub sound : status ≡ 0 → IsSound program
