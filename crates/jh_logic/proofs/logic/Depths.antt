-- Calls meet their contracts, however deep: by induction over the depth, where the formulas of all methods are valid.
use Rattle.std.proofs.Common.{◌≡◌, refl, sym, subst, ℕ, zero, suc, List, [], ◌∷◌, Option, None, Some}
use Rattle.std.specs.Option.{option_map_or}
use Rattle.jh_form.specs.Meaning.{Interp, Datum, an_object, a_number, a_truth, a_set, a_field}
use Rattle.jh_rules.specs.declared.types.Ty.{Ty}
use Rattle.jh_rules.specs.declared.types.Ty.TheVariants as ty
use Rattle.jh_vars.specs.Written.{Callee}
use Rattle.jh_semantics.specs.Program.{Program, Method}
use Rattle.jh_semantics.specs.State.{State, alloc_name}
use Rattle.jh_semantics.specs.Locals.{entered}
use Rattle.jh_semantics.specs.Progress.{Configuration, Progress, goes_on, returns, stops, pay, pay_from}
use Rattle.jh_semantics.specs.Execution.{exec_all, at_entry, calls}
use Rattle.jh_semantics.specs.Entry.{Entry, LiesIn}
use Rattle.jh_semantics.specs.Sound.{HasResult, with_result}
use Rattle.jh_semantics.specs.Laws.{Grew, ResultInside, ArePlain, IsPlain}
use Rattle.jh_semantics.specs.Typed.{NamesFit, ProgramFits}
use Rattle.jh_semantics.proofs.Keeping.{Ends}
use Rattle.jh_semantics.proofs.Inside.{Lies, whole-lies, lies-whole}
use Rattle.jh_semantics.proofs.Whole.{Stands}
use Rattle.jh_semantics.proofs.Growth.{Grown, GrownWith, calls-add}
use Rattle.jh_semantics.proofs.Facts.{facts-formed, formed-facts}
use Rattle.jh_semantics.proofs.Formed.{Formed}
use Rattle.jh_semantics.proofs.TypedRuns.{ResultLies, CallsGood}
use Rattle.jh_semantics.proofs.TypedCalls.{MethodEnds, calls-good}
use Rattle.jh_semantics.proofs.TypedMethods.{methods-good}
use Rattle.jh_guard.specs.Writes.{Writes}
use Rattle.jh_logic.specs.logic.MethodContracts.{IsValueType, LeavesUnwritten, ContractsFit, Met, Meets, CallsMeet, WritesCover, IsValid, AreClosed}
use Rattle.jh_logic.specs.logic.Histories.{viewed, Respects}
use Rattle.jh_logic.specs.logic.Sure.{Sure}
use Rattle.jh_logic.proofs.logic.Histories.{Outside, below-refl}
use Rattle.jh_logic.proofs.logic.Going.{sure-pay}
use Rattle.jh_logic.proofs.logic.Puts.{IsScalar, Leads, Returned}
use Rattle.jh_logic.proofs.logic.Loops.{loops-safe}
use Rattle.jh_logic.proofs.logic.StateNames.{AllScalar}
use Rattle.jh_logic.proofs.logic.Passings.{entered-last}
use Rattle.jh_logic.proofs.logic.Arguments.{lies-in}
use Rattle.jh_logic.proofs.logic.Closedness.{commands-closed}
use Rattle.jh_logic.proofs.logic.Confined.{calls-keep-all}
use Rattle.jh_logic.proofs.logic.Leavings.{changes, BodyKept, BodyKeptWith, body-keeps, outside-leaves, param-kept, this-kept}
use Rattle.jh_logic.proofs.logic.Returning.{returns-well}
use Rattle.jh_logic.proofs.logic.Entries.{Ended, ended-respects, body-safe, all-in, all-inside, all-scalar, this-in, this-inside}

-- a result in its type
no-result-in : (p : Program) (s : State) (t : Ty) → t ≡ ty.Void → HasResult p t s None
no-result-in p s t e = subst (λ (u : Ty). HasResult p u s None) (sym e) tt

some-result-in : (p : Program) (s : State) (t : Ty) (d : Datum) → LiesIn p t s d → HasResult p t s (Some d)
some-result-in p s ty.Void d h = h
some-result-in p s ty.Int d h = h
some-result-in p s ty.Boolean d h = h
some-result-in p s ty.Null d h = h
some-result-in p s ty.Object d h = h
some-result-in p s (ty.Class c) d h = h

value-type : (t : Ty) → (t ≡ ty.Null → ⊥) → (t ≡ ty.Void → ⊥) → IsValueType t
value-type ty.Int i j = tt
value-type ty.Boolean i j = tt
value-type ty.Object i j = tt
value-type (ty.Class n) i j = tt
value-type ty.Void i j = absurd (j refl)
value-type ty.Null i j = absurd (i refl)

result-in : (p : Program) (names : NamesFit p) (n : ℕ) (t : Ty) (s : State) (v : Option Datum) → (t ≡ ty.Null → ⊥) → ResultLies p names n t s v → HasResult p t s v
result-in p names n t s None i h = no-result-in p s t h
result-in p names n t s (Some d) i h = some-result-in p s t d (lies-in p names n t s d (value-type t i h.2) h.0 h.1)

scalar-plain : (ds : List Datum) → AllScalar ds → ArePlain ds
scalar-plain [] h = tt
scalar-plain (d ∷ ds) h = (one d h.0, scalar-plain ds h.1)
  where
    one : (d : Datum) → IsScalar d → IsPlain d
    one (an_object v) h = tt
    one (a_number v) h = tt
    one (a_truth v) h = tt
    one (a_set v) h = absurd h
    one (a_field v) h = absurd h

module _ (p : Program) (ws : Writes) (fitting : ProgramFits p) (contracts : ContractsFit p) (covers : WritesCover p ws)
    (valid : (m : Callee) (x : Method) → p.method m ≡ Some x → IsValid p ws m x) where
  abbrev names : NamesFit p
  names = fitting.names

  closed : AreClosed p ws
  closed = commands-closed p ws fitting

  -- what is known where a run of a method comes back
  module _ (m : Callee) (x : Method) (is : p.method m ≡ Some x) (this : ℕ) (args : List Datum) (s : State) (enters : Entry p x s this args) where
    abbrev n : ℕ
    n = s.last

    abbrev ended : Interp → Type 0
    ended = Ended p ws fitting contracts m x is (valid m x is) (closed m x is)

    scalar : AllScalar args
    scalar = all-scalar p x.params s args enters.arguments

    came-back : (r : Configuration) (v : Option Datum) → (time : ℕ) × Leads n time (with_result r.now v) r.entry ended → r.entry ≡ s → Outside (changes p ws fitting covers m x) (entered x this args s) r.now → Stands n r → Formed p r.now → HasResult p x.result r.now v →
        ResultInside n v → Grew s r.now → Met p ws m x this args s r.now v
    came-back r v leads entry out stands formed typed inside grew =
        let last : State = r.now in
        let lies : Lies n last = stands.now in
        let left : LeavesUnwritten p ws m s last = outside-leaves p ws fitting covers m x is this args s last scalar (entered-last x this args s scalar) out in
        let there : Leads n leads.0 (with_result last v) r.entry ended = leads.1 in
        let true-there : ended (viewed (with_result last v) s there.history) =
        subst (λ (o : State). ended (viewed (with_result last v) o there.history)) entry (there.holds there.history there.inner (below-refl leads.0 there.history)) in
        record {
          returns = returns-well p names ws m x s last v there.history lies.last typed (λ a h. enters.whole.sets alloc_name a h) left grew (fitting.methods m x is).contract contracts.invariants true-there;
          unwritten = left;
          own_this = this-kept p ws fitting covers m x is (entered x this args s) last out;
          own_params = λ y e. param-kept p ws fitting covers m x is (entered x this args s) last out y e;
          grew = grew;
          formed = formed-facts last p names formed;
          whole = lies-whole n last lies;
          inside = inside;
        }

    finish : (y : Progress) → Sure (λ u. (time : ℕ) × Leads n time u.now u.entry ended) (Returned n ended) y → Ends (BodyKept p ws fitting covers m x this args s) (BodyKeptWith p ws fitting covers m x this args s) y →
        MethodEnds p names n x.result y → Ends (Grown s) (GrownWith s) y → Meets p ws m x this args s y
    finish (goes_on r) safe kept good grew = came-back r None safe kept.1 kept.0 good.0 good.1 (no-result-in p r.now x.result good.2) tt grew
    finish (returns r v) safe kept good grew = came-back r v safe kept.1 kept.0 (good.0).0 (good.1).0 (result-in p names n x.result r.now v (fitting.methods m x is).result_value (good.1).1) (good.0).1 grew.0
    finish (stops why) safe kept good grew = safe

  pay-kept : (P : Configuration → Type 0) (R : Configuration → Option Datum → Type 0) (r : Configuration) (next : Configuration → Progress) → ((j : ℕ) → Ends P R (next (record r { steps = j }))) → Ends P R (pay r next)
  pay-kept P R r next f = from r.steps
    where
      from : (j : ℕ) → Ends P R (pay_from j r next)
      from zero = tt
      from (suc j) = f j

  pub calls-meet : (depth : ℕ) → CallsMeet p ws (calls depth p)
  calls-meet zero m x is this args r enters whole last = tt
  calls-meet (suc depth) m x is this args r enters whole last =
      let s : State = r.now in
      let n : ℕ = s.last in
      let call : Callee → ℕ → List Datum → Configuration → Progress = calls depth p in
      let ended : Interp → Type 0 = Ended p ws fitting contracts m x is (valid m x is) (closed m x is) in
      let respect : Respects ended = ended-respects p ws fitting contracts m x is (valid m x is) (closed m x is) in
      let stands : Stands n r = record { now = whole-lies s enters.whole; entry = subst (λ (k : ℕ). Lies k r.entry) last (whole-lies r.entry whole) } in
      let typed : CallsGood p names n call x.result = calls-good p names n call (λ c y g. (fitting.methods c y g).result_type) (methods-good p fitting n depth) (λ first. calls-add first p fitting depth) x.result in
      let body : Configuration → Progress = λ u. exec_all call x.body (at_entry x this args u) in
      let is-body : calls (suc depth) p m this args r ≡ pay r body =
      λ i. pay r (λ u. option_map_or (λ (y : Method). exec_all call y.body (at_entry y this args u)) (is i) (goes_on u)) in
      let safe : Sure (λ u. (time : ℕ) × Leads n time u.now u.entry ended) (Returned n ended) (pay r body) =
      sure-pay (λ u. (time : ℕ) × Leads n time u.now u.entry ended) (Returned n ended) r body (λ j paid.
      body-safe p ws fitting contracts m x is (valid m x is) (closed m x is) this args r enters call typed (calls-meet depth)
      (loops-safe p ws names n x.result x.this ended respect call typed (λ xs first. calls-keep-all p ws names fitting covers depth x.result xs first) (λ first. calls-add first p fitting depth)) j stands) in
      let kept : Ends (BodyKept p ws fitting covers m x this args s) (BodyKeptWith p ws fitting covers m x this args s) (pay r body) =
      pay-kept (BodyKept p ws fitting covers m x this args s) (BodyKeptWith p ws fitting covers m x this args s) r body (λ j. body-keeps p ws fitting covers depth m x is this args (record r { steps = j })) in
      let good : MethodEnds p names n x.result (calls (suc depth) p m this args r) =
      methods-good p fitting n (suc depth) m x is this args r stands (facts-formed s p names enters.well_formed) (this-in p names n x.this s this enters.this_lies) (this-inside p x.this s this enters.whole enters.this_lies)
      (all-in p names n x.params s args enters.arguments) (all-inside p x.params s args enters.whole enters.arguments) in
      let grew : Ends (Grown s) (GrownWith s) (calls (suc depth) p m this args r) = calls-add s p fitting (suc depth) m this args r (λ z h a j. j) (scalar-plain args (all-scalar p x.params s args enters.arguments)) in
      finish m x is this args s enters (calls (suc depth) p m this args r)
      (subst (λ (y : Progress). Sure (λ u. (time : ℕ) × Leads n time u.now u.entry ended) (Returned n ended) y) (sym is-body) safe)
      (subst (λ (y : Progress). Ends (BodyKept p ws fitting covers m x this args s) (BodyKeptWith p ws fitting covers m x this args s) y) (sym is-body) kept) good grew
