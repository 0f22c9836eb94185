-- Calls are safe under their commands, where what is called meets its contract.
use Rattle.std.proofs.Common.{◌≡◌, refl, sym, ap, ◌∙◌, subst, ℕ, suc, ◌+◌, ◌<◌, ◌≤◌, length, Bool, true, false, if◌then◌else◌, List, [], ◌∷◌, ◌++◌, map, Option, None, Some, codes, arith}
use Rattle.std.specs.Prelude.{is_some}
use Rattle.std.specs.List.{Contains}
use Rattle.std.specs.Option.{option_map_or}
use Rattle.std.proofs.lemmas.Bool.{true≢false}
use Rattle.std.proofs.lemmas.List.Elements.{Contains-append_left}
use Rattle.jh_name.specs.declared.naming.Name.{Name}
use Rattle.jh_name.specs.declared.place.Place.{Place}
use Rattle.jh_name.specs.declared.place.Sort.{Sort}
use Rattle.jh_name.specs.declared.place.Sort.TheVariants as sort
use Rattle.jh_form.specs.declared.mark.MarkKind.TheVariants as kind
use Rattle.jh_form.specs.Passing.{name_equal}
use Rattle.jh_form.proofs.Names.{name_equal-same}
use Rattle.jh_form.specs.Tree.{FormulaTree}
use Rattle.jh_form.specs.Tree as t
use Rattle.jh_form.specs.Meaning.{Interp, Datum, an_object, truth}
use Rattle.jh_form.specs.Assigned.{assigned}
use Rattle.jh_rules.specs.declared.types.Ty.{Ty}
use Rattle.jh_rules.specs.declared.types.Ty.TheVariants as ty
use Rattle.jh_rules.specs.Kinds.{is_void}
use Rattle.jh_vars.specs.Written.{Callee}
use Rattle.jh_wp.specs.Command.{CommandTree}
use Rattle.jh_wp.specs.Command as w
use Rattle.jh_semantics.specs.Code.{Text, ObjectCode, AnyCode, Local, Target, Claim}
use Rattle.jh_semantics.specs.Code as c
use Rattle.jh_semantics.specs.Program.{Program, Method, class_at}
use Rattle.jh_semantics.specs.State.{State, named, this_name, result_name, shown, stored}
use Rattle.jh_semantics.specs.Locals.{has_dot, with_locals_of, without_locals, entered}
use Rattle.jh_semantics.specs.WellFormed.{lies_in}
use Rattle.jh_semantics.specs.Objects.{target_of}
use Rattle.jh_semantics.specs.Objects as run
use Rattle.jh_semantics.specs.Progress.{Configuration, Progress, goes_on, returns, stops, with_value}
use Rattle.jh_semantics.specs.Execution.{with_values, receiver_of, called_on, result_of, back, exec}
use Rattle.jh_semantics.specs.Entry.{Entry, condition, owed}
use Rattle.jh_semantics.specs.Sound.{HasResult, with_result}
use Rattle.jh_semantics.specs.Laws.{AreInside, ResultInside}
use Rattle.jh_semantics.specs.Typed.{Surroundings, NamesFit, AllFit, ReceiverFits, ProgramFits}
use Rattle.jh_semantics.proofs.Inside.{Lies, whole-lies, lies-whole, back-lies, stored-lies, entered-lies}
use Rattle.jh_semantics.proofs.Whole.{target-lies}
use Rattle.jh_semantics.proofs.Facts.{facts-formed, formed-facts}
use Rattle.jh_semantics.proofs.Formed.{ObjectLies, Formed, lies-grow, names-formed, class-of}
use Rattle.jh_semantics.proofs.Typing.{ScopeLies, ScopeFits}
use Rattle.jh_semantics.proofs.TypedMethods.{params-scope}
use Rattle.jh_guard.specs.Terms.{Check}
use Rattle.jh_guard.specs.Items.{Item, item_text, items, items_where, sorted_item, Sorted}
use Rattle.jh_guard.specs.Writes.{Writes}
use Rattle.jh_guard.specs.Laws.{AllPass}
use Rattle.jh_guard.specs.Steps.{fresh, assert_checks, assert_claims, assume_claims, assume_named, changed, after_changed, growth, target_checks}
use Rattle.jh_guard.specs.Frames.{frame_facts}
use Rattle.jh_guard.specs.Calls.{CallTurns, at_call, this_text, result_text, target_text, target_count, receiver_value_checks, called_checks, all_checks, keep_receiver, keep_args, keep_target, assert_requires, assume_ensures, renamed_by, old_alloc, result_value, put_result, written_items, written_sorted, turns_of, after_call, call_commands}
use Rattle.jh_guard.specs.Statements.{wf_at}
use Rattle.jh_guard.proofs.Checking.{Has, has-one, pass-left, pass-right}
use Rattle.jh_logic.specs.logic.MethodContracts.{is_state, is_param, is_plain, names_now, speaks_before, speaks_after, Speaks, ContractFits, ContractsFit, SameValues, Met, Meets, CallsMeet}
use Rattle.jh_logic.specs.logic.Histories.{viewed, Gives, Below, Inner, Holds, Respects}
use Rattle.jh_logic.specs.logic.Reached.{After}
use Rattle.jh_logic.specs.logic.Sure.{Sure}
use Rattle.jh_logic.proofs.logic.Views.{viewed-fresh}
use Rattle.jh_logic.proofs.logic.Reaching.{after-append, after-checks}
use Rattle.jh_logic.proofs.logic.Histories.{gives-then, below-refl, below-trans, Outside, Led, LedWith, holds-changed}
use Rattle.jh_logic.proofs.logic.Going.{sure-pay, sure-value}
use Rattle.jh_logic.proofs.logic.Puts.{IsScalar, Leads, Returned, target_value, target-there}
use Rattle.jh_logic.proofs.logic.Written.{filter-has, map-has}
use Rattle.jh_logic.proofs.logic.Bodies.{SafeCalls}
use Rattle.jh_logic.proofs.logic.Statements.{InScope, Begins, after-changed-later}
use Rattle.jh_logic.proofs.logic.Renamings.{GivesAt, gives-at, at-then, at-back, truth-read}
use Rattle.jh_logic.proofs.logic.StateNames.{AllScalar, AllDotless, state-text, written-item, unwritten-text, filter-from, chosen-then, chosen-else, back-state, entered-state, unwritten-state, with-result-other, with-result-last}
use Rattle.jh_logic.proofs.logic.Outsides.{left-outside}
use Rattle.jh_logic.proofs.logic.WellFormed.{AllTrueIn, well-formed-there}
use Rattle.jh_logic.proofs.logic.Passings.{receiver_value, receiver-there, called-there, arg_values, args-scalar, AreValues, args-there, sure-values, KnowsReceiver, kept-receiver, KnowsTarget, kept-target, KnowsArgs, kept-args, Longer, longer-then, noted-name, nothing-noted, same-turn, noted-args, argument-gives, entered-this, entered-last}
use Rattle.jh_logic.proofs.logic.CallNames.{viewed-now, args-viewed, now-gives, before-gives, after-gives}
use Rattle.jh_logic.proofs.logic.CallFacts.{after-assumes, ClaimsTrue, after-asserted, after-claims, claims-seen, seen-claims, owed-speak, growth-true, frames-true}
use Rattle.jh_logic.proofs.logic.Arguments.{values-length, values-inside, dotless-params, no-such-param, args-lie-in, args-length, this-lies-in, receiver-inside, is-of-has}
use Rattle.jh_logic.proofs.logic.CallResults.{lies-scalar, result-value, given-result, result-state-lies, some-result, no-result, void-result, result-types, result-safe, void-safe}

-- seven lists of steps, one after the other
after-seven : (R : Interp → Type 0) (c0 c1 c2 c3 c4 c5 c6 : List CommandTree) (Q : Interp → Type 0) (m : Interp) → After R ((c0 ++ c1 ++ c2 ++ c3 ++ c4 ++ c5) ++ c6) Q m →
    After R c0 (λ n0. After R c1 (λ n1. After R c2 (λ n2. After R c3 (λ n3. After R c4 (λ n4. After R c5 (λ n5. After R c6 Q n5) n4) n3) n2) n1) n0) m
after-seven R c0 c1 c2 c3 c4 c5 c6 Q m h =
    let p6 : Interp → Type 0 = λ n. After R c6 Q n in
    let p5 : Interp → Type 0 = λ n. After R c5 p6 n in
    let p4 : Interp → Type 0 = λ n. After R c4 p5 n in
    let p3 : Interp → Type 0 = λ n. After R c3 p4 n in
    let p2 : Interp → Type 0 = λ n. After R c2 p3 n in
    after-append R c0 c1 p2 m
    (after-append R (c0 ++ c1) c2 p3 m
    (after-append R (c0 ++ c1 ++ c2) c3 p4 m
    (after-append R (c0 ++ c1 ++ c2 ++ c3) c4 p5 m
    (after-append R (c0 ++ c1 ++ c2 ++ c3 ++ c4) c5 p6 m
    (after-append R (c0 ++ c1 ++ c2 ++ c3 ++ c4 ++ c5) c6 Q m h)))))

-- `requires` is asked, and `ensures` known
abbrev pub Asked : (Name → Name) → Option Claim → Interp → Type 0
Asked f None m = Unit {0}
Asked f (Some claim) m = truth (renamed_by f claim.formula) m [] ≡ true

after-requires : (R : Interp → Type 0) (f : Name → Name) (q : Place) (claim : Option Claim) (Q : Interp → Type 0) (m : Interp) → After R (assert_requires f q claim) Q m → Asked f claim m × Q m
after-requires R f q None Q m h = (tt, h)
after-requires R f q (Some claim) Q m h = (h.0, h.1)

after-ensures : (R : Interp → Type 0) (f : Name → Name) (claim : Option Claim) (Q : Interp → Type 0) (m : Interp) → Asked f claim m → After R (assume_ensures f claim) Q m → Q m
after-ensures R f None Q m h g = g
after-ensures R f (Some claim) Q m h g = g h

-- a contract's formula at a call, and where the contract stands
asked-true : (test : Name → Sort → Bool) (f : Name → Name) (claim : Option Claim) (v m : Interp) → v.last ≡ m.last → ((z : Name) (a : Sort) → test z a ≡ true → GivesAt a v (f z) m z) → Speaks test claim → Asked f claim v → truth (condition claim) m [] ≡ true
asked-true test f None v m e g speaks h = refl
asked-true test f (Some claim) v m e g speaks h = sym (truth-read test f v m claim.formula e g speaks) ∙ h

true-asked : (test : Name → Sort → Bool) (f : Name → Name) (claim : Option Claim) (v m : Interp) → v.last ≡ m.last → ((z : Name) (a : Sort) → test z a ≡ true → GivesAt a v (f z) m z) → Speaks test claim → truth (condition claim) m [] ≡ true → Asked f claim v
true-asked test f None v m e g speaks h = tt
true-asked test f (Some claim) v m e g speaks h = truth-read test f v m claim.formula e g speaks ∙ h

-- `this` is passed where the method has it
receiver-some : (p : Program) (at : Surroundings) (receiver : Option ObjectCode) (this : Option ℕ) (k a : ℕ) (m : Interp) → ReceiverFits p at receiver this → KnowsReceiver receiver k a m → is_some this ≡ true → m.object (fresh this_text k) ≡ a
receiver-some p at None None k a m fits knows h = absurd (true≢false (sym h))
receiver-some p at (Some e) (Some j) k a m fits knows h = knows
receiver-some p at None (Some j) k a m fits knows h = absurd fits
receiver-some p at (Some e) None k a m fits knows h = absurd fits

noted-receiver : (n : ℕ) (receiver : Option ObjectCode) (k a : ℕ) (h : Interp) (s : State) → Inner n h → Lies n s → a < suc n → Longer n k ((if is_some receiver then 1 else 0) + k) h (λ m. KnowsReceiver receiver k a m)
noted-receiver n None k a h s inner lies lt = same-turn n k k ((if is_some {T = ObjectCode} None then 1 else 0) + k) h (λ m. Unit {0}) (omega arith) (nothing-noted n k h (λ m. Unit {0}) inner (λ m. tt))
noted-receiver n (Some e) k a h s inner lies lt =
    let u : State = stored s this_text (an_object a) in
    let one : Longer n k (suc k) h (λ m. Gives m (fresh this_text k) u this_name) = noted-name n h this_text k u this_name inner (stored-lies n s this_text (an_object a) lies lt) in
    record {
      history = one.history;
      inner = one.inner;
      below = one.below;
      holds = λ m l. (one.holds m (λ z i. l z (omega (arith, i)))).object ∙ chosen-then (name_equal this_name this_name) a (s.object this_name) (name_equal-same this_name this_name refl);
    }

noted-target : (n : ℕ) (target : Target) (k a : ℕ) (h : Interp) (s : State) → Inner n h → Lies n s → a < suc n → Longer n k (target_count target + k) h (λ m. KnowsTarget target k a m)
noted-target n c.nowhere k a h s inner lies lt = same-turn n k k (target_count c.nowhere + k) h (λ m. Unit {0}) (omega arith) (nothing-noted n k h (λ m. Unit {0}) inner (λ m. tt))
noted-target n (c.to_new x) k a h s inner lies lt = same-turn n k k (target_count (c.to_new x) + k) h (λ m. Unit {0}) (omega arith) (nothing-noted n k h (λ m. Unit {0}) inner (λ m. tt))
noted-target n (c.to_name x) k a h s inner lies lt = same-turn n k k (target_count (c.to_name x) + k) h (λ m. Unit {0}) (omega arith) (nothing-noted n k h (λ m. Unit {0}) inner (λ m. tt))
noted-target n (c.to_field f e q) k a h s inner lies lt =
    let u : State = stored s target_text (an_object a) in
    let z : Name = named target_text in
    let one : Longer n k (suc k) h (λ m. Gives m (fresh target_text k) u z) = noted-name n h target_text k u z inner (stored-lies n s target_text (an_object a) lies lt) in
    record {
      history = one.history;
      inner = one.inner;
      below = one.below;
      holds = λ m l. (one.holds m (λ y i. l y (omega (arith, i)))).object ∙ chosen-then (name_equal z z) a (s.object z) (name_equal-same z z refl);
    }

-- the result stands under a turn where there is one
abbrev pub KnowsResult : Ty → ℕ → State → Interp → Type 0
KnowsResult type k s m = is_void type ≡ false → Gives m (fresh result_text k) s result_name

noted-result : (n : ℕ) (type : Ty) (k : ℕ) (h : Interp) (s : State) → Inner n h → Lies n s → Longer n k ((if is_void type then 0 else 1) + k) h (λ m. KnowsResult type k s m)
noted-result n type k h s inner lies = from (is_void type)
  where
    from : (b : Bool) → Longer n k ((if b then 0 else 1) + k) h (λ m. b ≡ false → Gives m (fresh result_text k) s result_name)
    from true = same-turn n k k ((if true then 0 else 1) + k) h (λ m. true ≡ false → Gives m (fresh result_text k) s result_name) (omega arith)
        (nothing-noted n k h (λ m. true ≡ false → Gives m (fresh result_text k) s result_name) inner (λ m e. absurd (true≢false e)))
    from false =
        let one : Longer n k (suc k) h (λ m. Gives m (fresh result_text k) s result_name) = noted-name n h result_text k s result_name inner lies in
        record { history = one.history; inner = one.inner; below = one.below; holds = λ m l e. one.holds m (λ z i. l z (omega (arith, i))) }

state-inner : (n : ℕ) (s : State) → Lies n s → Inner n s
state-inner n s l = record { object = λ z. l.object z; field = λ z b lt. (l.field z).objects b lt }

module _ (p : Program) (ws : Writes) (fits : ProgramFits p) (contracts : ContractsFit p) (n : ℕ) (result : Ty) (this : Option ℕ) (R : Interp → Type 0) (respect : Respects R) (call : Callee → ℕ → List Datum → Configuration → Progress) (meets : CallsMeet p ws call) where
  abbrev names : NamesFit p
  names = fits.names

  -- One call, of a method x, in a scope, from a state `s` of a run that was entered in `o`, at turn k.
  module _ (scope : List Local) (at : Surroundings) (q : Place) (target : Target) (receiver : Option ObjectCode) (place : Place) (m : Callee) (x : Method) (args : List AnyCode) (k : ℕ) (is : p.method m ≡ Some x)
      (receiver_fits : ReceiverFits p at receiver x.this) (args_fit : AllFit p at args x.params) (s o : State) (lies_now : Lies n s) (lies_entry : Lies n o) (formed : Formed p s) (scope_lies : ScopeLies p names at s) (scoped : InScope this scope at) (scope_fits : ScopeFits p names at) (late : 2 ≤ k) where
    abbrev turns : CallTurns
    turns = turns_of p ws t.true_formula target receiver m x args k

    abbrev written : List Sorted
    written = written_sorted p ws t.true_formula m

    abbrev reading : Name → Name
    reading = at_call turns x.params (ws.written m)

    abbrev contract : ContractFits p x
    contract = contracts.methods m x is

    abbrev here : Interp → Interp
    here g = viewed s o g

    -- what is passed
    module _ (a rv : ℕ) (ds : List Datum) (receiver_is : Has (receiver_of receiver s) rv) (args_are : AreValues args s ds) (called_is : Has (called_on receiver place rv) rv) (scalar : AllScalar ds) where
      abbrev begun : State
      begun = assigned (without_locals s) this_name (an_object rv)

      abbrev callee : State
      callee = entered x rv ds s

      dotless : AllDotless x.params
      dotless = dotless-params x.params (λ y i. (params-scope p names x (fits.methods m x is)).no_state y (Contains-append_left x.params [] y i))

      not-this : is_param x.params this_text ≡ false
      not-this = no-such-param x.params this_text (λ y i e. (params-scope p names x (fits.methods m x is)).not_this y (Contains-append_left x.params [] y i) e)

      same-length : length x.params ≡ length ds
      same-length = args-length p names n at x.params args args_fit ∙ values-length args s ds args_are

      callee-this : callee.object this_name ≡ rv
      callee-this = entered-this x.params ds begun scalar not-this ∙ chosen-then (name_equal this_name this_name) rv ((without_locals s).object this_name) (name_equal-same this_name this_name refl)

      -- what a history that goes on from here knows
      abbrev Knows : Interp → Type 0
      Knows g = (KnowsReceiver receiver turns.receiver rv g × KnowsArgs x.params ds turns.args begun g) × KnowsTarget target turns.target a g

      first-turn : 2 ≤ turns.args
      first-turn = omega (arith, late)

      target-turn : 2 ≤ turns.target
      target-turn = omega (arith, late)

      copies-turn : 2 ≤ turns.copies
      copies-turn = omega (arith, late)

      -- `requires` at the call
      before-names : (g : Interp) → Knows g → (y : Text) (b : Sort) → names_now p x false y b ≡ true → GivesAt b (here g) (reading (named y)) callee (named y)
      before-names g knows = now-gives p x turns (ws.written m) false (here g) callee
          (λ h. (viewed-fresh s o g (fresh this_text turns.receiver) late).object ∙ receiver-some p at receiver x.this turns.receiver rv g receiver_fits (knows.0).0 h ∙ sym callee-this)
          (λ h. absurd (true≢false (sym h)))
          (λ y b h e i. gives-at b (here g) _ callee (named y) (argument-gives x.params ds turns.args begun (here g) y same-length scalar (args-viewed x.params ds turns.args begun s o g first-turn (knows.0).1) h))
          (λ y b h e. at-then b (here g) s callee (named y) (named y) (named y) (viewed-now b s o g y) (at-back b callee s (named y) (named y) (entered-state x rv ds s y b scalar dotless (state-text p names y b h))))

      requires-true : (g : Interp) → Knows g → Asked reading x.requires (here g) → truth (condition x.requires) (shown callee s) [] ≡ true
      requires-true g knows h = asked-true (speaks_before p x) reading x.requires (here g) (shown callee s) (sym (entered-last x rv ds s scalar)) (before-gives p x turns (ws.written m) (here g) callee s (before-names g knows)) contract.requires h

      entry : (g : Interp) → Knows g → Asked reading x.requires (here g) → ClaimsTrue (owed p x) (here g) → Entry p x s rv ds
      entry g knows asked owes = record {
        whole = lies-whole n s lies_now;
        well_formed = formed-facts s p names formed;
        this_lies = this-lies-in p names n at receiver x.this place s rv rv receiver_fits formed scope_lies lies_now receiver_is called_is;
        arguments = args-lie-in p names n at x.params args s ds args_fit scope_fits formed scope_lies lies_now contract.param_types args_are;
        requires = requires-true g knows asked;
        invariants = claims-seen p (here g) s s refl (λ y b h. viewed-now b s o g y) (owed p x) (owed-speak p x contracts.invariants) owes;
      }

      -- where the method returned, with the state that it left and its result
      module _ (last : State) (v : Option Datum) (met : Met p ws m x rv ds s last v) (lies_last : Lies n last) where
        abbrev after : State
        after = with_locals_of last s

        abbrev answered : State
        answered = with_result last v

        abbrev then-here : Interp → Interp
        then-here g = viewed after o g

        lies-after : Lies n after
        lies-after = back-lies n last s lies_last lies_now

        -- it changed only what it may write
        outside : Outside written s after
        outside = left-outside p ws m s last met.unwritten

        -- the state is well formed, with the caller's scope
        formed-after : Formed p after
        formed-after =
            let f : Formed p last = facts-formed last p names met.formed in
            names-formed p names last after.object after.number after.truth f (λ y type i e h.
            subst (λ (z : ℕ). ObjectLies p type last z) (sym (chosen-then (has_dot y.text) (last.object (named y.text)) (s.object (named y.text)) (names.dots y i))) (f.statics y type i e h))

        scope-after-lies : ScopeLies p names at after
        scope-after-lies = record {
          locals = λ y i. subst (λ (z : ℕ). ObjectLies p y.type after z) (sym (chosen-else (has_dot y.text) (last.object (named y.text)) (s.object (named y.text)) (scope_fits.no_state y i)))
              (lies-grow p names y.type s after (s.object (named y.text)) (scope_fits.types y i) met.grew (scope_lies.locals y i));
          this = λ j e. met.grew (class_at p.classes j) (names.dotless (class_at p.classes j) (class-of p names (class_at p.classes j) (scope_fits.of_class j e))) (s.object this_name) (scope_lies.this j e);
        }

        wf-true : (g : Interp) → truth (wf_at p ws this scope) (then-here g) [] ≡ true
        wf-true g = well-formed-there p names after scope this at scoped formed-after scope-after-lies o g

        -- what is known of the fresh names
        pub record KnowsAll (g : Interp) : Type 0 where
          pub passed : Knows g
          pub copied : (y : Item) → Contains (items p) y → ws.written m (item_text y) ≡ true → Gives g (fresh (item_text y) turns.copies) s (named (item_text y))
          pub answer : KnowsResult x.result turns.result answered g

        result-turn : 2 ≤ turns.result
        result-turn = let later = after-changed-later written turns.copies in omega (arith, copies-turn, later)

        plain-same : (u w : State) (y : Text) (b : Sort) → is_plain b ≡ true → SameValues u w y → GivesAt b w (named y) u (named y)
        plain-same u w y sort.Obj i h = h.object
        plain-same u w y sort.Int i h = h.number
        plain-same u w y sort.Bool i h = h.truth
        plain-same u w y sort.Set i h = absurd (true≢false (sym i))
        plain-same u w y sort.Field i h = absurd (true≢false (sym i))

        after-names : (g : Interp) → KnowsAll g → (y : Text) (b : Sort) → names_now p x true y b ≡ true → GivesAt b (then-here g) (reading (named y)) answered (named y)
        after-names g knows = now-gives p x turns (ws.written m) true (then-here g) answered
            (λ h. (viewed-fresh after o g (fresh this_text turns.receiver) late).object ∙ receiver-some p at receiver x.this turns.receiver rv g receiver_fits (knows.passed.0).0 h ∙ sym callee-this ∙ sym met.own_this
            ∙ sym (with-result-other last v this_text sort.Obj refl))
            (λ h e. gives-then (then-here g) g answered (fresh result_text turns.result) (fresh result_text turns.result) result_name (viewed-fresh after o g (fresh result_text turns.result) result-turn) (knows.answer e))
            (λ y b h e i.
            at-then b (then-here g) callee answered _ (named y) (named y)
            (gives-at b (then-here g) _ callee (named y) (argument-gives x.params ds turns.args begun (then-here g) y same-length scalar (args-viewed x.params ds turns.args begun after o g first-turn (knows.passed.0).1) h))
            (at-then b callee last answered (named y) (named y) (named y) (at-back b last callee (named y) (named y) (plain-same callee last y b i (met.own_params y h)))
            (at-back b answered last (named y) (named y) (with-result-other last v y b e))))
            (λ y b h e.
            at-then b (then-here g) after answered (named y) (named y) (named y) (viewed-now b after o g y)
            (at-then b after last answered (named y) (named y) (named y) (back-state last s y b (state-text p names y b h)) (at-back b answered last (named y) (named y) (with-result-other last v y b e))))

        old-names : (g : Interp) → KnowsAll g → (y : Text) (b : Sort) → is_state p y b ≡ true → GivesAt b (then-here g) (if ws.written m y then fresh y turns.copies else named y) s (named y)
        old-names g knows y b h = from (ws.written m y) refl
          where
            copy : (z : Item) × Contains (items p) z × (y ≡ item_text z) → ws.written m y ≡ true → GivesAt b (then-here g) (fresh y turns.copies) s (named y)
            copy found e =
                subst (λ (z : Text). GivesAt b (then-here g) (fresh z turns.copies) s (named z)) (sym found.2)
                (gives-at b (then-here g) (fresh (item_text found.0) turns.copies) s (named (item_text found.0))
                (gives-then (then-here g) g s (fresh (item_text found.0) turns.copies) (fresh (item_text found.0) turns.copies) (named (item_text found.0)) (viewed-fresh after o g (fresh (item_text found.0) turns.copies) copies-turn)
                (knows.copied found.0 found.1 (ap (ws.written m) (sym found.2) ∙ e))))

            from : (w : Bool) → ws.written m y ≡ w → GivesAt b (then-here g) (if w then fresh y turns.copies else named y) s (named y)
            from true e = copy (written-item p names ws m y b h e) e
            from false e =
                at-then b (then-here g) after s (named y) (named y) (named y) (viewed-now b after o g y)
                (at-then b after last s (named y) (named y) (named y) (back-state last s y b (state-text p names y b h)) (unwritten-state p ws m s last y b met.unwritten (state-text p names y b h) (unwritten-text p ws m y b e)))

        ensures-asked : (g : Interp) → KnowsAll g → Asked reading x.ensures (then-here g)
        ensures-asked g knows = true-asked (speaks_after p x) reading x.ensures (then-here g) (shown answered s) (sym (with-result-last last v)) (after-gives p x turns (ws.written m) (then-here g) answered s (after-names g knows) (old-names g knows)) contract.ensures met.returns.ensures

        state-now : (g : Interp) (y : Text) (b : Sort) → is_state p y b ≡ true → GivesAt b (then-here g) (named y) last (named y)
        state-now g y b h = at-then b (then-here g) after last (named y) (named y) (named y) (viewed-now b after o g y) (back-state last s y b (state-text p names y b h))

        owed-true : (g : Interp) → ClaimsTrue (owed p x) (then-here g)
        owed-true g = seen-claims p (then-here g) last s refl (state-now g) (owed p x) (owed-speak p x contracts.invariants) met.returns.invariants

        type-true : (g : Interp) → KnowsAll g → AllTrueIn (then-here g) (lies_in p.classes x.result (t.free_object (fresh result_text turns.result)))
        type-true g knows = result-types p x.result last v (then-here g) (fresh result_text turns.result) met.returns.typed
            (λ e. gives-then (then-here g) g answered (fresh result_text turns.result) (fresh result_text turns.result) result_name (viewed-fresh after o g (fresh result_text turns.result) result-turn) (knows.answer e)) (λ c. refl)

        -- what the command assumes is so, and the result is put
        abbrev put-steps : List CommandTree
        put-steps = put_result target turns.target (result_value x.result turns.result)

        abbrev rest-of : (Interp → Type 0) → Interp → Type 0
        rest-of Q z =
            After R (assume_named (codes "wf") q (wf_at p ws this scope) ∷ growth turns.copies (written_items p ws t.true_formula m)) (λ z.
            After R (map (λ f. w.assume f) (frame_facts p ws m (old_alloc (ws.written m) turns.copies) turns.copies)) (λ z.
            After R (assume_ensures reading x.ensures) (λ z.
            After R (assume_claims (owed p x)) (λ z.
            After R (map (λ f. w.assume f) (lies_in p.classes x.result (t.free_object (fresh result_text turns.result)))) (λ z.
            After R put-steps Q z) z) z) z) z) z

        arrived : (Q : Interp → Type 0) (g : Interp) → KnowsAll g → rest-of Q (then-here g) → After R put-steps Q (then-here g)
        arrived Q g knows h =
            let p5 : Interp → Type 0 = λ z. After R put-steps Q z in
            let p4 : Interp → Type 0 = λ z. After R (map (λ f. w.assume f) (lies_in p.classes x.result (t.free_object (fresh result_text turns.result)))) p5 z in
            let p3 : Interp → Type 0 = λ z. After R (assume_claims (owed p x)) p4 z in
            let p2 : Interp → Type 0 = λ z. After R (assume_ensures reading x.ensures) p3 z in
            let p1 : Interp → Type 0 = λ z. After R (map (λ f. w.assume f) (frame_facts p ws m (old_alloc (ws.written m) turns.copies) turns.copies)) p2 z in
            let h1 : p1 (then-here g) =
            growth-true p names ws m s last o g turns.copies copies-turn knows.copied met.returns.frame met.unwritten (written_items p ws t.true_formula m)
            (λ y i. filter-from (λ z. ws.written m (item_text z)) (items p) y i) R p1 (h (wf-true g)) in
            let h2 : p2 (then-here g) = after-assumes R (frame_facts p ws m (old_alloc (ws.written m) turns.copies) turns.copies) p2 (then-here g)
            (frames-true p names ws m s last o g turns.copies copies-turn knows.copied met.returns.frame met.unwritten) h1 in
            let h3 : p3 (then-here g) = after-ensures R reading x.ensures p3 (then-here g) (ensures-asked g knows) h2 in
            let h4 : p4 (then-here g) = after-claims R (owed p x) p4 (then-here g) (owed-true g) h3 in
            after-assumes R (lies_in p.classes x.result (t.free_object (fresh result_text turns.result))) p5 (then-here g) (type-true g knows) h4

        -- the result goes to its target
        to-target : (Q : Interp → Type 0) (h : Interp) (r : Configuration) (z : Option Datum) → HasResult p x.result last z → (is_void x.result ≡ true → target ≡ c.nowhere) → Inner n h →
            ((g : Interp) → Below turns.next h g → KnowsResult x.result turns.result (with_result last z) g) → ((g : Interp) → Below turns.next h g → KnowsTarget target turns.target a g) →
            Holds n turns.next h r.now r.entry (λ u. After R put-steps Q u) → Sure (λ u. Leads n turns.next u.now u.entry Q) (Returned n R) (run.put target a (result_of z) r)
        to-target Q h r None has nowhere inner answer aimed H = void-safe n R turns.next h r target turns.target a (an_object 0) (result_value x.result turns.result) Q (nowhere (no-result p x.result last has)) inner H
        to-target Q h r (Some d) has nowhere inner answer aimed H =
            let lies = some-result p x.result last d has in
            let plain : IsScalar d = lies-scalar p x.result last d lies in
            let y : Name = fresh result_text turns.result in
            result-safe n R turns.next h r target turns.target a d (result_value x.result turns.result) Q target-turn inner plain
            (λ g i l. result-value p x.result last d (viewed r.now r.entry g) y lies (given-result last d (viewed r.now r.entry g) y plain
            (gives-then (viewed r.now r.entry g) g (with_result last (Some d)) y y result_name (viewed-fresh r.now r.entry g y result-turn) (answer g l (void-result p x.result last d has)))))
            (λ g i l. aimed g l) H

        -- back in the caller, whatever is to hold after the command holds under some history
        returned-safe : (Q : Interp → Type 0) (h : Interp) (r : Configuration) → r.now ≡ after → r.entry ≡ o → Inner n h → Inner n s → Inner n after → ((g : Interp) → Below turns.copies h g → Knows g) →
            (is_void x.result ≡ true → target ≡ c.nowhere) → Holds n turns.copies h s o (λ z. After R (changed written turns.copies) (rest-of Q) z) →
            Sure (λ u. Leads n turns.next u.now u.entry Q) (Returned n R) (run.put target a (result_of v) r)
        returned-safe Q h r now-is entry-is inner inner-s inner-after passed nowhere H =
            let there : LedWith n turns.copies turns.result turns.copies h written s after o (rest-of Q) =
            holds-changed R n written turns.copies h s after o (rest-of Q) copies-turn inner inner-s inner-after outside H in
            let led : Led n turns.copies turns.result h after o (rest-of Q) = there.led in
            let answer : Longer n turns.result turns.next led.history (λ g. KnowsResult x.result turns.result answered g) =
            noted-result n x.result turns.result led.history answered led.inner (result-state-lies n p x.result last last v lies_last met.returns.typed (subst (λ (z : ℕ). ResultInside z v) lies_now.last met.inside)) in
            let first : turns.copies ≤ turns.result = after-changed-later written turns.copies in
            let second : turns.result ≤ turns.next = later-next (if is_void x.result then 0 else 1) turns.result in
            let back-led : (g : Interp) → Below turns.next answer.history g → Below turns.result led.history g = λ g l. below-trans turns.result turns.next led.history answer.history g second answer.below l in
            let knows : (g : Interp) → Below turns.next answer.history g → Knows g = λ g l. passed g (below-trans turns.copies turns.result h led.history g first led.below (back-led g l)) in
            let copied : (g : Interp) → Below turns.next answer.history g → (y : Item) → Contains (items p) y → ws.written m (item_text y) ≡ true → Gives g (fresh (item_text y) turns.copies) s (named (item_text y)) = λ g l y i e.
            let among : Contains written (sorted_item y) = map-has sorted_item (items_where p (ws.written m)) y (filter-has (λ z. ws.written m (item_text z)) (items p) y i e) in
            let name : Name = fresh (item_text y) turns.copies in
            gives-then g led.history s name name (named (item_text y)) (back-led g l name (changed-later written (sorted_item y) turns.copies among)) (there.copied (sorted_item y) among) in
            let known : (g : Interp) → Below turns.next answer.history g → KnowsAll g = λ g l. record { passed = knows g l; copied = copied g l; answer = answer.holds g l } in
            let done : Holds n turns.next answer.history after o (λ z. After R put-steps Q z) = λ g i l. arrived Q g (known g l) (led.holds g i (back-led g l)) in
            let done' : Holds n turns.next answer.history r.now r.entry (λ z. After R put-steps Q z) = subst (λ (u : State). Holds n turns.next answer.history u r.entry (λ z. After R put-steps Q z)) (sym now-is)
            (subst (λ (u : State). Holds n turns.next answer.history after u (λ z. After R put-steps Q z)) (sym entry-is) done) in
            to-target Q answer.history r v met.returns.typed nowhere answer.inner answer.holds (λ g l. (knows g l).1) done'
          where
            later-next : (i t : ℕ) → t ≤ i + t
            later-next i t = omega arith

            changed-later : (xs : List Sorted) (y : Sorted) (t : ℕ) → Contains xs y → t < after_changed xs t
            changed-later [] y t i = absurd (none i.0 i.1)
              where
                none : (j : ℕ) → j < 0 → ⊥
                none j lt = omega arith
            changed-later (z ∷ zs) y t i = omega arith

      -- what is asserted before the call
      abbrev asserted-rest : (Interp → Type 0) → Interp → Type 0
      asserted-rest Q z =
          After R (keep_receiver receiver turns.receiver) (λ z. After R (keep_args x.params args turns.args) (λ z. After R (keep_target target turns.target) (λ z.
          After R (assert_requires reading q x.requires) (λ z. After R (assert_claims kind.Inv (owed p x)) Q z) z) z) z) z

      asked-all : (Q : Interp → Type 0) (g : Interp) → Knows g → receiver_value receiver (here g) ≡ rv → target_value target (here g) ≡ a → AllPass (all_checks args) (here g) → asserted-rest Q (here g) →
          Asked reading x.requires (here g) × (ClaimsTrue (owed p x) (here g) × Q (here g))
      asked-all Q g knows rv-is a-is pass h =
          let p4 : Interp → Type 0 = λ z. After R (assert_claims kind.Inv (owed p x)) Q z in
          let p3 : Interp → Type 0 = λ z. After R (assert_requires reading q x.requires) p4 z in
          let p2 : Interp → Type 0 = λ z. After R (keep_target target turns.target) p3 z in
          let p1 : Interp → Type 0 = λ z. After R (keep_args x.params args turns.args) p2 z in
          let h1 : p1 (here g) = kept-receiver R receiver turns.receiver rv s o g p1 late (knows.0).0 rv-is h in
          let h2 : p2 (here g) = kept-args R x.params args ds turns.args s o g begun p2 first-turn scalar (knows.0).1 args_are pass h1 in
          let h3 : p3 (here g) = kept-target R target turns.target a s o g p3 target-turn knows.1 a-is h2 in
          let r1 : Asked reading x.requires (here g) × p4 (here g) = after-requires R reading q x.requires p4 (here g) h3 in
          let r2 : ClaimsTrue (owed p x) (here g) × Q (here g) = after-asserted R kind.Inv (owed p x) Q (here g) r1.1 in
          (r1.0, (r2.0, r2.1))

      -- the history in which the fresh names have these values
      passing : (h : Interp) → Inner n h → a < suc n → rv < suc n → AreInside n ds → Longer n k turns.copies h Knows
      passing h inner in-a in-rv in-ds =
          let begun-lies : Lies n begun = entered-lies n (record x { params = [] }) rv [] s lies_now in-rv tt in
          let one : Longer n k turns.args h (λ g. KnowsReceiver receiver turns.receiver rv g) = noted-receiver n receiver k rv h s inner lies_now in-rv in
          let two : Longer n turns.args turns.target one.history (λ g. KnowsArgs x.params ds turns.args begun g) = noted-args n x.params ds turns.args one.history begun one.inner begun-lies in-ds in
          let both : Longer n k turns.target h (λ g. KnowsReceiver receiver turns.receiver rv g × KnowsArgs x.params ds turns.args begun g) =
          longer-then n k turns.args turns.target h (λ g. KnowsReceiver receiver turns.receiver rv g) (λ g. KnowsArgs x.params ds turns.args begun g) one (omega arith) (omega arith) two in
          let three : Longer n turns.target turns.copies both.history (λ g. KnowsTarget target turns.target a g) = noted-target n target turns.target a both.history s both.inner lies_now in-a in
          longer-then n k turns.target turns.copies h (λ g. KnowsReceiver receiver turns.receiver rv g × KnowsArgs x.params ds turns.args begun g) (λ g. KnowsTarget target turns.target a g) both (omega arith) (omega arith) three

      came-back : (Q : Interp → Type 0) (h : Interp) → Inner n h → ((g : Interp) → Below turns.copies h g → Knows g) → (is_void x.result ≡ true → target ≡ c.nowhere) → Holds n turns.copies h s o (λ z. After R (changed written turns.copies) (λ z.
          After R (assume_named (codes "wf") q (wf_at p ws this scope) ∷ growth turns.copies (written_items p ws t.true_formula m)) (λ z.
          After R (map (λ f. w.assume f) (frame_facts p ws m (old_alloc (ws.written m) turns.copies) turns.copies)) (λ z.
          After R (assume_ensures reading x.ensures) (λ z.
          After R (assume_claims (owed p x)) (λ z.
          After R (map (λ f. w.assume f) (lies_in p.classes x.result (t.free_object (fresh result_text turns.result)))) (λ z.
          After R (put_result target turns.target (result_value x.result turns.result)) Q z) z) z) z) z) z) z) →
          (r : Configuration) → r.now ≡ s → r.entry ≡ o → (z : Configuration) (v : Option Datum) → Met p ws m x rv ds s z.now v →
          Sure (λ u. Leads n turns.next u.now u.entry Q) (Returned n R) (run.put target a (result_of v) (record z { now = with_locals_of z.now r.now; entry = r.entry }))
      came-back Q h inner passed nowhere H r now-is entry-is z v met =
          let lies-last : Lies n z.now = subst (λ (j : ℕ). Lies j z.now) (met.returns.frame.universe ∙ lies_now.last) (whole-lies z.now met.whole) in
          returned-safe z.now v met lies-last Q h (record z { now = with_locals_of z.now r.now; entry = r.entry }) (λ i. with_locals_of z.now (now-is i)) entry-is inner
          (state-inner n s lies_now) (state-inner n (with_locals_of z.now s) (back-lies n z.now s lies-last lies_now)) passed nowhere H

      -- what the call came to
      ended : (Q : Interp → Type 0) (h : Interp) → Inner n h → ((g : Interp) → Below turns.copies h g → Knows g) → (is_void x.result ≡ true → target ≡ c.nowhere) → Holds n turns.copies h s o (λ z. After R (changed written turns.copies) (λ z.
          After R (assume_named (codes "wf") q (wf_at p ws this scope) ∷ growth turns.copies (written_items p ws t.true_formula m)) (λ z.
          After R (map (λ f. w.assume f) (frame_facts p ws m (old_alloc (ws.written m) turns.copies) turns.copies)) (λ z.
          After R (assume_ensures reading x.ensures) (λ z.
          After R (assume_claims (owed p x)) (λ z.
          After R (map (λ f. w.assume f) (lies_in p.classes x.result (t.free_object (fresh result_text turns.result)))) (λ z.
          After R (put_result target turns.target (result_value x.result turns.result)) Q z) z) z) z) z) z) z) →
          (r : Configuration) → r.now ≡ s → r.entry ≡ o → (y : Progress) → Meets p ws m x rv ds s y → Sure (λ u. Leads n turns.next u.now u.entry Q) (Returned n R) (back r target a y)
      ended Q h inner passed nowhere H r now-is entry-is (goes_on z) met = came-back Q h inner passed nowhere H r now-is entry-is z None met
      ended Q h inner passed nowhere H r now-is entry-is (returns z v) met = came-back Q h inner passed nowhere H r now-is entry-is z v met
      ended Q h inner passed nowhere H r now-is entry-is (stops why) met = met

  four-pass : (c0 c1 c2 c3 : List Check) (g : Interp) → AllPass (c0 ++ c1 ++ c2 ++ c3) g → AllPass c0 g × (AllPass c1 g × (AllPass c2 g × AllPass c3 g))
  four-pass c0 c1 c2 c3 g h =
      let h2 = pass-left (c0 ++ c1 ++ c2) c3 g h in
      let h1 = pass-left (c0 ++ c1) c2 g h2 in
      (pass-left c0 c1 g h1, (pass-right c0 c1 g h1, (pass-right (c0 ++ c1) c2 g h2, pass-right (c0 ++ c1 ++ c2) c3 g h)))

  -- One call, where a void method's result goes nowhere.
  pub call-at : (q : Place) (target : Target) (receiver : Option ObjectCode) (place : Place) (m : Callee) (x : Method) (args : List AnyCode) (scope : List Local) (at : Surroundings) (k : ℕ) (h : Interp) (r : Configuration) (Q : Interp → Type 0) →
      p.method m ≡ Some x → ReceiverFits p at receiver x.this → AllFit p at args x.params → (is_void x.result ≡ true → target ≡ c.nowhere) → Begins p ws names n result this R respect scope at k h r →
      Holds n k h r.now r.entry (λ v. After R (call_commands p ws (wf_at p ws this scope) q target receiver place m x args (turns_of p ws t.true_formula target receiver m x args k)) Q v) →
      Sure (λ u. Leads n (turns_of p ws t.true_formula target receiver m x args k).next u.now u.entry Q) (Returned n R) (exec call (c.call q target receiver place m args) r)
  call-at q target receiver place m x args scope at k h r Q is receiver_fits args_fit nowhere b H =
      let s : State = r.now in
      let o : State = r.entry in
      let V : Interp → Interp = λ g. viewed s o g in
      let lies : Lies n s = (b.good.0).now in
      let lies-o : Lies n o = (b.good.0).entry in
      let formed : Formed p s = (b.good.1).0 in
      let scope-lies : ScopeLies p names at s = (b.good.1).1 in
      let turns : CallTurns = turns_of p ws t.true_formula target receiver m x args k in
      let written : List Sorted = written_sorted p ws t.true_formula m in
      let reading : Name → Name = at_call turns x.params (ws.written m) in
      let checks : List Check = target_checks target ++ receiver_value_checks receiver ++ all_checks args ++ called_checks receiver place in
      let end : List CommandTree = after_call p ws (wf_at p ws this scope) q target m x turns in
      let After-call : Interp → Type 0 = λ z. After R end Q z in
      let Asserted : Interp → Type 0 = λ z.
      After R (keep_receiver receiver turns.receiver) (λ z. After R (keep_args x.params args turns.args) (λ z. After R (keep_target target turns.target) (λ z.
      After R (assert_requires reading q x.requires) (λ z. After R (assert_claims kind.Inv (owed p x)) After-call z) z) z) z) z in
      let peeled : (g : Interp) → Inner n g → Below k h g → AllPass checks (V g) × Asserted (V g) = λ g i l.
      after-checks R checks Asserted (V g)
      (after-seven R (assert_checks checks) (keep_receiver receiver turns.receiver) (keep_args x.params args turns.args) (keep_target target turns.target) (assert_requires reading q x.requires) (assert_claims kind.Inv (owed p x)) end Q (V g) (H g i l)) in
      let pass : (g : Interp) → Inner n g → Below k h g → AllPass (target_checks target) (V g) × (AllPass (receiver_value_checks receiver) (V g) × (AllPass (all_checks args) (V g) × AllPass (called_checks receiver place) (V g))) = λ g i l.
      four-pass (target_checks target) (receiver_value_checks receiver) (all_checks args) (called_checks receiver place) (V g) (peeled g i l).0 in
      let here : Below k h h = below-refl k h in
      let now = pass h b.inner here in
      let a : ℕ = target_value target (V h) in
      let rv : ℕ = receiver_value receiver (V h) in
      let ds : List Datum = arg_values args (V h) in
      let target-is : Has (target_of target s) a = target-there target s o h now.0 in
      let receiver-is : Has (receiver_of receiver s) rv = receiver-there receiver s o h (now.1).0 in
      let args-are : AreValues args s ds = args-there args s o h ((now.1).1).0 in
      let called-is : Has (called_on receiver place rv) rv = called-there receiver place (V h) ((now.1).1).1 in
      let plain : AllScalar ds = args-scalar args (V h) in
      let in-a : a < suc n = is-of-has (λ z. z < suc n) (target_of target s) a (target-lies n target s lies) target-is in
      let in-rv : rv < suc n = receiver-inside p names n receiver s rv lies receiver-is in
      let in-ds : AreInside n ds = values-inside n args s ds lies args-are in
      let all : Longer n k turns.copies h (λ g. (KnowsReceiver receiver turns.receiver rv g × KnowsArgs x.params ds turns.args (assigned (without_locals s) this_name (an_object rv)) g) × KnowsTarget target turns.target a g) =
      passing scope at q target receiver place m x args k is receiver_fits args_fit s o lies lies-o formed scope-lies b.scoped b.fit b.late a rv ds receiver-is args-are called-is plain h b.inner in-a in-rv in-ds in
      let copies : k ≤ turns.copies = later (if is_some receiver then 1 else 0) (length x.params) (target_count target) in
      let asked : (g : Interp) → Inner n g → Below turns.copies all.history g → Asked reading x.requires (V g) × (ClaimsTrue (owed p x) (V g) × After-call (V g)) = λ g i l.
      let l' : Below k h g = below-trans k turns.copies h all.history g copies all.below l in
      let then-pass = pass g i l' in
      asked-all scope at q target receiver place m x args k is receiver_fits args_fit s o lies lies-o formed scope-lies b.scoped b.fit b.late a rv ds receiver-is args-are called-is plain After-call g (all.holds g l)
      (has-one (receiver_of receiver s) (receiver_value receiver (V g)) rv (receiver-there receiver s o g (then-pass.1).0) receiver-is)
      (has-one (target_of target s) (target_value target (V g)) a (target-there target s o g then-pass.0) target-is)
      ((then-pass.1).1).0 (peeled g i l').1 in
      let there : Below turns.copies all.history all.history = below-refl turns.copies all.history in
      let first = asked all.history all.inner there in
      let enters : Entry p x s rv ds =
      entry scope at q target receiver place m x args k is receiver_fits args_fit s o lies lies-o formed scope-lies b.scoped b.fit b.late a rv ds receiver-is args-are called-is plain all.history (all.holds all.history there) first.0 (first.1).0 in
      let back-safe : (j : ℕ) (y : Progress) → Meets p ws m x rv ds s y → Sure (λ u. Leads n turns.next u.now u.entry Q) (Returned n R) (back (record r { steps = j }) target a y) = λ j y met.
      ended scope at q target receiver place m x args k is receiver_fits args_fit s o lies lies-o formed scope-lies b.scoped b.fit b.late a rv ds receiver-is args-are called-is plain Q all.history all.inner all.holds nowhere
      (λ g i l. after-seven R (changed written turns.copies) (assume_named (codes "wf") q (wf_at p ws this scope) ∷ growth turns.copies (written_items p ws t.true_formula m))
      (map (λ f. w.assume f) (frame_facts p ws m (old_alloc (ws.written m) turns.copies) turns.copies)) (assume_ensures reading x.ensures) (assume_claims (owed p x))
      (map (λ f. w.assume f) (lies_in p.classes x.result (t.free_object (fresh result_text turns.result)))) (put_result target turns.target (result_value x.result turns.result)) Q (V g) ((asked g i l).1).1)
      (record r { steps = j }) refl refl y met in
      sure-pay (λ u. Leads n turns.next u.now u.entry Q) (Returned n R) r
      (λ u. with_value (target_of target u.now) (λ a. with_value (receiver_of receiver u.now) (λ y. with_values args u.now (λ ds. with_value (called_on receiver place y) (λ this. back u target a (call m this ds u)))))) (λ j paid.
      let u : Configuration = record r { steps = j } in
      sure-value (λ u. Leads n turns.next u.now u.entry Q) (Returned n R) (target_of target s) a (λ a. with_value (receiver_of receiver s) (λ y. with_values args s (λ ds. with_value (called_on receiver place y) (λ this. back u target a (call m this ds u))))) target-is
      (sure-value (λ u. Leads n turns.next u.now u.entry Q) (Returned n R) (receiver_of receiver s) rv (λ y. with_values args s (λ ds. with_value (called_on receiver place y) (λ this. back u target a (call m this ds u)))) receiver-is
      (sure-values (λ u. Leads n turns.next u.now u.entry Q) (Returned n R) args s ds (λ ds. with_value (called_on receiver place rv) (λ this. back u target a (call m this ds u))) args-are
      (sure-value (λ u. Leads n turns.next u.now u.entry Q) (Returned n R) (called_on receiver place rv) rv (λ this. back u target a (call m this ds u)) called-is
      (back-safe j (call m rv ds u) (meets m x is rv ds u enters (lies-whole n o lies-o) (lies-o.last ∙ sym lies.last)))))))
    where
      later : (i j e : ℕ) → k ≤ e + (j + (i + k))
      later i j e = omega arith

-- Typed calls are safe.
module _ (p : Program) (ws : Writes) (fitting : ProgramFits p) (contracts : ContractsFit p) (n : ℕ) (result : Ty) (this : Option ℕ) (R : Interp → Type 0) (respect : Respects R) (call : Callee → ℕ → List Datum → Configuration → Progress) (meets : CallsMeet p ws call) where
  pub calls-safe : SafeCalls p ws fitting.names n result this R respect call
  calls-safe place target receiver of m args scope at fits k h r Q q b H =
      subst (λ (o : Option Method). Holds n k h r.now r.entry (λ z. After R (option_map_or (λ x. call_commands p ws (wf_at p ws this scope) place target receiver of m x args (turns_of p ws (wf_at p ws this scope) target receiver m x args k)) o []) Q z) →
      Sure (λ u. Leads n (option_map_or (λ x. (turns_of p ws t.true_formula target receiver m x args k).next) o k) u.now u.entry Q) (Returned n R) (exec call (c.call place target receiver of m args) r)) (sym fits.is)
      (λ G. call-at p ws fitting contracts n result this R respect call meets place target receiver of m fits.method args scope at k h r Q fits.is fits.receiver_fits fits.args_fit fits.void b G) H
