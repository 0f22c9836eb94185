-- From what was read and answered to the headline.
use Rattle.std.proofs.Common.{◌≡◌, ◌<◌, ◌≤◌, ℕ, List, [], ◌∷◌, length, ap, sym, subst, ◌∙◌, ◌&&◌, Bool, true, false, refl, arith}
use Rattle.std.specs.Prelude.{Option, Err, if◌then◌else◌}
use Rattle.jh_ast.specs.Programs.{ProgramTree}
use Rattle.jh_lex.specs.declared.lexer.error.LexError.{LexError}
use Rattle.jh_lex.specs.declared.lexer.token.Token.{Token}
use Rattle.jh_lex.specs.lexer.Lexes.{Lexes, IsFirstFault}
use Rattle.jh_lex.specs.lexer.Reports.{UnlessMemory}
use Rattle.jh_lex.proofs.lexer.Unique.{one_list, fault_or_list}
use Rattle.jh_name.specs.declared.place.Place.{Place}
use Rattle.jh_spec.specs.nesting.Nesting.{nesting_at}
use Rattle.jh_run.specs.jh_parse.programs.Members.{Spells as Spelled}
use Rattle.jh_run.specs.jh_parse.programs.Parsed.{ParsedProgram}
use Rattle.jh_spec.specs.declared.parser.error.ParseError.{ParseError}
use Rattle.jh_spec.specs.declared.parser.error.ParseError.TheVariants as parse
use Rattle.jh_run.proofs.of_jh_parse.programs.MemberComplete.{at_most_one_program}
use Rattle.jh_vars.specs.Reading.{IsFirstCyclic}
use Rattle.jh_rules.specs.Breaks.{Breaks}
use Rattle.jh_semantics.specs.LoweredProgram.{IsSound}
use Rattle.jh_gen_laws.specs.jh_seq.sequent.Sequents.{SequentTree}
use Rattle.jh_report.specs.jh_splitting.Pairs.{ArePaired}
use Rattle.jh_gen_laws.specs.jh_seq.splitting.Laws.{AllValid}
use Rattle.jh_run.specs.jh_logic.source.Laws.{IsAccepted}
use Rattle.jh_run.proofs.of_jh_logic.source.Lists.{and-left, and-right}
use Rattle.jh_run.specs.jh_type.checker.Refused.{IsRefused}
use Rattle.jh_run.specs.jh_type.declared.checker.typed.TypeError.{TypeError}
use Rattle.jh_run.specs.jh_type.declared.checker.typed.TypeError.TheVariants as type
use Rattle.jh_gen_laws.specs.jh_obligations.program_sequents.Laws.{EachValid, OwedIsSound, LittleIsNotMuch, OwedIsOne}
use Rattle.jh_gen_laws.specs.jh_obligations.program_sequents.Owed.{Debt}
use Rattle.jh_gen_laws.specs.jh_obligations.program_sequents.Sources.{OwesLittle, OwesMuch}
use Rattle.jh_report.specs.jh_prove.prover.Answers.{all_proved}
use Rattle.jh_report.specs.jh_prove.prover.Laws.{ProvedIsValid, ProvableIsProved}
use Rattle.jh_name.specs.declared.options.Options.{Options}
use Rattle.jh_report.specs.jh_prove.prover.Right.{AllProvable}
use Rattle.jh_report.specs.report.Report.{Reported, is_accepted}
use Rattle.jh_reply.specs.declared.error.Refusal.{Refusal}
use Rattle.jh_reply.specs.declared.error.Refusal.TheVariants as refusal
use Rattle.jh_reply.specs.Refusals.{Parses, Spells, RefusedAt, not_utf8, bad_char, open_comment, open_quote, too_wide, syntax, too_deep, IsTyped, IsMistyped, IsCircular, IsCrowded, IsLoopOf, IsWhy, refusal_of}
use Rattle.jh_reply.specs.Verify.{are_proved_or_spent, EachProvable, IsJudged, Judges, OwesProvable, Reports, Verifies}

-- bytes spell one tree at most
pub parses-one : (bytes : List ℕ) (t u : ProgramTree) → Parses bytes t → Parses bytes u → t ≡ u
parses-one bytes t u p q = at_most_one_program q.tokens t u (subst (λ ts. Spelled ts t) (one_list bytes p.tokens q.tokens p.cut q.cut) p.spelled) q.spelled

-- and one program at most
pub spells-one : (bytes : List ℕ) (p q : ProgramTree) → Spells bytes p → Spells bytes q → p ≡ q
spells-one bytes p q first second = parses-one bytes p q first.parsed second.parsed

-- bytes that break a type rule spell none
pub ill-spells : (bytes : List ℕ) (rule : ℕ) (place : Place) (p : ProgramTree) → IsMistyped bytes rule place → Spells bytes p → ⊥
ill-spells bytes rule place p ill spells = spells.typed rule place (subst (λ t. Breaks t rule place) (parses-one bytes ill.tree p ill.parsed spells.parsed) ill.least.breaks)

-- why a source that breaks a type rule is refused
pub ill-why : (bytes : List ℕ) (tree : ProgramTree) (fault : TypeError) → Parses bytes tree → IsRefused tree fault → IsWhy bytes (refusal_of fault)
ill-why bytes tree (type.TypeFault rule place) parsed least = record { tree = tree; parsed = parsed; least = least }
ill-why bytes tree type.Memory parsed least = tt

-- bytes that have a cyclic variable spell none
pub loop-spells : (bytes name : List ℕ) (p : ProgramTree) → IsCircular bytes name → Spells bytes p → ⊥
loop-spells bytes name p loop spells = spells.acyclic (record { class = loop.class; name = name }) (subst (λ t. IsFirstCyclic t (record { class = loop.class; name = name })) (parses-one bytes loop.tree p loop.parsed spells.parsed) loop.first).here

-- why a source with a cyclic variable is refused
pub loop-why : (bytes : List ℕ) (tree : ProgramTree) (r : Refusal) → Parses bytes tree → IsTyped tree → IsLoopOf tree r → IsWhy bytes r
loop-why bytes tree (refusal.At n place) parsed typed loop = absurd loop
loop-why bytes tree (refusal.Mistyped rule place) parsed typed loop = absurd loop
loop-why bytes tree (refusal.Cyclic name) parsed typed loop = record { tree = tree; parsed = parsed; typed = typed; class = loop.0; first = loop.1 }
loop-why bytes tree refusal.Memory parsed typed loop = tt

-- bytes that spell a program with a method of too many sequents spell none of which each method has few
pub crowded-spells : LittleIsNotMuch → (bytes class name : List ℕ) (n : ℕ) (p : ProgramTree) → IsCrowded bytes class name n → Spells bytes p → OwesLittle p → ⊥
crowded-spells law bytes class name n p crowd spells little = law p crowd.id n little (subst (λ (t : ProgramTree). OwesMuch t crowd.id n) (spells-one bytes crowd.tree p crowd.spelled spells) crowd.much)

-- bytes that are refused spell no tree
pub refused-parses : (bytes : List ℕ) (n : ℕ) (place : Place) (t : ProgramTree) → RefusedAt bytes n place → Parses bytes t → ⊥
refused-parses bytes n place t (not_utf8 f) p = fault_or_list bytes _ p.tokens f p.cut
refused-parses bytes n place t (bad_char f) p = fault_or_list bytes _ p.tokens f p.cut
refused-parses bytes n place t (open_comment f) p = fault_or_list bytes _ p.tokens f p.cut
refused-parses bytes n place t (open_quote f) p = fault_or_list bytes _ p.tokens f p.cut
refused-parses bytes n place t (too_wide f) p = fault_or_list bytes _ p.tokens f p.cut
refused-parses bytes n place t (syntax {ts = ts} cut shallow none start) p = none t (subst (λ us. Spelled us t) (one_list bytes p.tokens ts p.cut cut) p.spelled)
refused-parses bytes n place t (too_deep {ts = ts} cut deep) p = shallow-deep (p.shallow deep.index (subst (λ us. deep.index < length us) (sym same) deep.within)) (subst (λ us. 64 < nesting_at us deep.index) (sym same) deep.deep) where
  same : p.tokens ≡ ts
  same = one_list bytes p.tokens ts p.cut cut

  shallow-deep : {n : ℕ} → n ≤ 64 → 64 < n → ⊥
  shallow-deep low high = omega (arith, low, high)

-- why tokens that spell no program are refused
pub syntax-why : (bytes : List ℕ) (ts us : List Token) (e : ParseError) (p : Place) → us ≡ ts → Lexes bytes ts → ParsedProgram us (Err e) → e ≡ parse.Syntax p → RefusedAt bytes 6 p
syntax-why bytes ts us e p same cut parsed is = let why : ParsedProgram us (Err (parse.Syntax p)) = subst (λ d. ParsedProgram us (Err d)) is parsed in syntax (subst (λ l. Lexes bytes l) (sym same) cut) why.0 why.1 why.2

pub deep-why : (bytes : List ℕ) (ts us : List Token) (e : ParseError) (p : Place) → us ≡ ts → Lexes bytes ts → ParsedProgram us (Err e) → e ≡ parse.TooDeep p → RefusedAt bytes 7 p
deep-why bytes ts us e p same cut parsed is = let why : ParsedProgram us (Err (parse.TooDeep p)) = subst (λ d. ParsedProgram us (Err d)) is parsed in too_deep (subst (λ l. Lexes bytes l) (sym same) cut) why

-- a fault of the text
pub fault-is : (bytes : List ℕ) (e d : LexError) → e ≡ d → UnlessMemory e (IsFirstFault bytes e) → UnlessMemory d (IsFirstFault bytes d)
fault-is bytes e d is fault = subst (λ x. UnlessMemory x (IsFirstFault bytes x)) is fault

-- only accepted has status 0
accepted-by : (b : Bool) → ◌≡◌ {A = ℕ} (if b then 0 else 1) 0 → b ≡ true
accepted-by true h = refl
accepted-by false h = absurd (omega arith)

-- right answers of which none is Unproved leave all sequents valid
each-valid : ProvedIsValid → (o : Options) (p : ProgramTree) (ds : List Debt) (rs : List Reported) → ArePaired (IsJudged o p) ds rs → is_accepted rs ≡ true → EachValid ds
each-valid law o p [] [] h e = tt
each-valid law o p [] (r ∷ rs) h e = tt
each-valid law o p (d ∷ ds) [] h e = absurd h
each-valid law o p (d ∷ ds) (r ∷ rs) h e =
    (subst (λ (ss : List SequentTree). AllValid ss) h.0.sequents (law o r.sequents r.answers h.0.right (and-left (all_proved r.answers) (is_accepted rs) e)), each-valid law o p ds rs h.1 (and-right (all_proved r.answers) (is_accepted rs) e))

-- right answers for what is provable are proofs, but where the search spent its budget
each-spent : ProvableIsProved → (o : Options) (p : ProgramTree) (ds : List Debt) (rs : List Reported) → ArePaired (IsJudged o p) ds rs → EachProvable o.rounds ds → are_proved_or_spent rs ≡ true
each-spent law o p [] [] h k = refl
each-spent law o p [] (r ∷ rs) h k = absurd h
each-spent law o p (d ∷ ds) [] h k = absurd h
each-spent law o p (d ∷ ds) (r ∷ rs) h k =
    ap (λ (b : Bool). b && are_proved_or_spent rs) (law o r.sequents r.answers h.0.right (subst (λ (ss : List SequentTree). AllProvable o.rounds ss) (sym h.0.sequents) k.0))
    ∙ each-spent law o p ds rs h.1 k.1

-- the report on a program that owes what is provable has none Unproved but where the search spent its budget
pub provable-spent : OwedIsOne → ProvableIsProved → (o : Options) (p : ProgramTree) (rs : List Reported) → Judges o p rs → OwesProvable o.rounds p → are_proved_or_spent rs ≡ true
provable-spent one law o p rs judges owes =
    each-spent law o p judges.owed rs judges.judged (subst (λ (ds : List Debt). EachProvable o.rounds ds) (one p owes.owed judges.owed owes.owes judges.owes) owes.provable)

-- a program whose report has status 0 is sound
pub right-sound : ProvedIsValid → OwedIsSound → (o : Options) (p : ProgramTree) (rs : List Reported) (status : ℕ) → IsAccepted p → Judges o p rs → status ≡ (if is_accepted rs then 0 else 1) → status ≡ 0 → IsSound p
right-sound proved sound o p rs status ok judges is zero = sound p judges.owed ok judges.owes (each-valid proved o p judges.owed rs judges.judged (accepted-by (is_accepted rs) (sym is ∙ zero)))

-- the headline, where a report with status 0 was made
pub reports-verifies : (words : List (List ℕ)) (holds : List ℕ → Option (List ℕ)) (before after : Option (List ℕ)) (status : ℕ) → Reports words holds before after status → status ≡ 0 → Verifies words holds
reports-verifies words holds before after status report zero = record { program = report.program; read = report.read; sound = report.sound zero }
