-- Where the formula of a method is valid and the method may be entered, its body runs without a fault, and what has to be true where it
-- returns is true.
use Rattle.std.proofs.Common.{◌≡◌, refl, sym, ap, ◌∙◌, subst, ℕ, zero, suc, ◌<◌, ◌⊎◌, inl, inr, Bool, true, false, if◌then◌else◌, List, [], ◌∷◌, ◌++◌, map, Option, None, Some, codes, arith}
use Rattle.std.specs.List.{Contains}
use Rattle.std.proofs.lemmas.Bool.{true≢false}
use Rattle.std.proofs.lemmas.List.Elements.{Contains-append_left, Contains-append_right}
use Rattle.jh_name.specs.declared.naming.Name.{Name}
use Rattle.jh_name.specs.declared.place.Sort.{Sort}
use Rattle.jh_name.specs.declared.place.Sort.TheVariants as sort
use Rattle.jh_form.specs.Passing.{name_equal}
use Rattle.jh_form.proofs.Names.{name_equal-true}
use Rattle.jh_form.specs.Tree.{FormulaTree}
use Rattle.jh_form.specs.Tree as t
use Rattle.jh_form.specs.Meaning.{Interp, InUniverse, Datum, Fields, an_object, a_number, a_truth, a_set, a_field, truth, datum}
use Rattle.jh_form.specs.Assigned.{assigned}
use Rattle.jh_rules.specs.declared.types.Ty.{Ty}
use Rattle.jh_rules.specs.declared.types.Ty.TheVariants as ty
use Rattle.jh_rules.specs.Kinds.{is_void}
use Rattle.jh_vars.specs.Written.{Callee}
use Rattle.jh_vars.specs.Resolved.{own}
use Rattle.jh_wp.specs.Command.{CommandTree, is_closed_command}
use Rattle.jh_wp.specs.Command as w
use Rattle.jh_semantics.specs.Code.{Text, Local, Claim}
use Rattle.jh_semantics.specs.Program.{Program, Method, class_at}
use Rattle.jh_semantics.specs.State.{State, IsWhole, named, alloc_name, shown}
use Rattle.jh_semantics.specs.Locals.{entered}
use Rattle.jh_semantics.specs.WellFormed.{well_formed}
use Rattle.jh_semantics.specs.Progress.{Configuration, Progress}
use Rattle.jh_semantics.specs.Execution.{exec_all, at_entry}
use Rattle.jh_semantics.specs.Entry.{Entry, LiesIn, AllLieIn, ThisLiesIn, condition, owed}
use Rattle.jh_semantics.specs.Laws.{IsInside, AreInside}
use Rattle.jh_semantics.specs.Typed.{Surroundings, NamesFit, MethodFits, ProgramFits, IsOfStates, AreOfStates, listed}
use Rattle.jh_semantics.proofs.Whole.{Stands, entry-stands}
use Rattle.jh_semantics.proofs.Facts.{facts-formed}
use Rattle.jh_semantics.proofs.Formed.{Formed}
use Rattle.jh_semantics.proofs.Typing.{ScopeLies, DatumLies}
use Rattle.jh_semantics.proofs.TypedRuns.{CallsGood}
use Rattle.jh_semantics.proofs.TypedCalls.{ThisLies, ArgsLie}
use Rattle.jh_semantics.proofs.TypedMethods.{params-scope}
use Rattle.jh_guard.specs.Items.{Item, items, item_text, item_sort, sorted_item, free_of}
use Rattle.jh_guard.specs.Writes.{Writes}
use Rattle.jh_guard.specs.Steps.{fresh, assume_claims, assume_named, copies}
use Rattle.jh_guard.specs.Statements.{stmts_commands, next_turns}
use Rattle.jh_guard.specs.Methods.{assume_requires, end_commands, method_command}
use Rattle.jh_logic.specs.logic.MethodContracts.{ContractsFit, CallsMeet, IsValid}
use Rattle.jh_logic.specs.logic.Histories.{viewed, by_turns, Inner, Respects}
use Rattle.jh_logic.specs.logic.Reached.{After}
use Rattle.jh_logic.specs.logic.Sure.{Sure}
use Rattle.jh_logic.proofs.logic.Views.{HasValue}
use Rattle.jh_logic.proofs.logic.Reaching.{True, wp-reached, after-steps, after-append}
use Rattle.jh_logic.proofs.logic.Respecting.{alike-truth, after-respects}
use Rattle.jh_logic.proofs.logic.Going.{sure-map}
use Rattle.jh_logic.proofs.logic.Stated.{truth-stated}
use Rattle.jh_logic.proofs.logic.Puts.{Leads, Returned}
use Rattle.jh_logic.proofs.logic.Statements.{InScope}
use Rattle.jh_logic.proofs.logic.Bodies.{SafeLoops, all-safe}
use Rattle.jh_logic.proofs.logic.Ghosts.{lies-inner}
use Rattle.jh_logic.proofs.logic.Renamings.{GivesAt, at-then, at-back}
use Rattle.jh_logic.proofs.logic.StateNames.{AllScalar, AllDotless, item-text, state-text, entered-state, StateText}
use Rattle.jh_logic.proofs.logic.WellFormed.{well-formed-there}
use Rattle.jh_logic.proofs.logic.Passings.{entered-last}
use Rattle.jh_logic.proofs.logic.CallNames.{viewed-now}
use Rattle.jh_logic.proofs.logic.CallFacts.{seen-claims, after-claims, owed-speak}
use Rattle.jh_logic.proofs.logic.Arguments.{dotless-params}
use Rattle.jh_logic.proofs.logic.CallResults.{lies-scalar}
use Rattle.jh_logic.proofs.logic.Entering.{entry_scope, entry-good}
use Rattle.jh_logic.proofs.logic.Calls.{calls-safe}

-- an assignment of the value that a name has changes nothing
same-value : {X : Type 0} (f : Name → X) (y z : Name) (v : X) (b : Bool) → name_equal z y ≡ b → f y ≡ v → (if b then v else f z) ≡ f z
same-value f y z v true e h = sym h ∙ ap f (sym (name_equal-true z y e))
same-value f y z v false e h = refl

assigned-known : (m : Interp) (y : Name) (d : Datum) → HasValue m y d → assigned m y d ≡ m
assigned-known m y (an_object v) h = λ i. record m { object = λ z. same-value m.object y z v (name_equal z y) refl h i }
assigned-known m y (a_number v) h = λ i. record m { number = λ z. same-value m.number y z v (name_equal z y) refl h i }
assigned-known m y (a_truth v) h = λ i. record m { truth = λ z. same-value m.truth y z v (name_equal z y) refl h i }
assigned-known m y (a_set v) h = λ i. record m { set = λ z. same-value m.set y z v (name_equal z y) refl h i }
assigned-known m y (a_field v) h = λ i. record m { field = λ z. same-value m.field y z v (name_equal z y) refl h i }

-- the copies at entry are of what was there
copy-known : (a : Sort) (y : Text) (s o g : Interp) → GivesAt a o (named y) s (named y) → HasValue (viewed s o g) (fresh y 1) (datum (free_of a (named y)) (viewed s o g) [])
copy-known sort.Obj y s o g h = h
copy-known sort.Int y s o g h = h
copy-known sort.Bool y s o g h = h
copy-known sort.Set y s o g h = h
copy-known sort.Field y s o g h = h

copied-entry : (R : Interp → Type 0) (xs : List Item) (s o g : Interp) (Q : Interp → Type 0) → ((x : Item) → Contains xs x → GivesAt (item_sort x) o (named (item_text x)) s (named (item_text x))) →
    After R (copies (map sorted_item xs) 1) Q (viewed s o g) → Q (viewed s o g)
copied-entry R [] s o g Q same h = h
copied-entry R (x ∷ xs) s o g Q same h =
    copied-entry R xs s o g Q (λ y i. same y (Contains-append_right (x ∷ []) xs y i))
    (subst (λ (v : Interp). After R (copies (map sorted_item xs) 1) Q v)
    (assigned-known (viewed s o g) (fresh (item_text x) 1) (datum (free_of (item_sort x) (named (item_text x))) (viewed s o g) []) (copy-known (item_sort x) (item_text x) s o g (same x (0, omega arith, refl)))) h)

-- what is in the universe of n is in that of the view (a copy of what Ghosts shows for itself)
view-universe : (n : ℕ) (s o m : Interp) → s.last ≡ n → Inner n s → Inner n o → Inner n m → InUniverse (viewed s o m)
view-universe n s o m e a b d = subst (λ (k : ℕ). Inner k s → Inner k o → Inner k m → InUniverse (viewed s o m)) e (λ a b d. record {
  object = λ x. objects x.turn (s.object x) (o.object (own x.text 0)) (m.object x) (a.object x) (b.object (own x.text 0)) (d.object x);
  field = λ x. fields x.turn (s.field x) (o.field (own x.text 0)) (m.field x) (a.field x) (b.field (own x.text 0)) (d.field x);
}) a b d
  where
    objects : (i v w y : ℕ) → v < suc s.last → w < suc s.last → y < suc s.last → by_turns i v w y < suc s.last
    objects zero v w y g h l = g
    objects (suc zero) v w y g h l = h
    objects (suc (suc i)) v w y g h l = l

    fields : (i : ℕ) (v w y : Fields) → ((a : ℕ) → a < suc s.last → v.objects a < suc s.last) → ((a : ℕ) → a < suc s.last → w.objects a < suc s.last) → ((a : ℕ) → a < suc s.last → y.objects a < suc s.last) →
        (a : ℕ) → a < suc s.last → (by_turns i v w y).objects a < suc s.last
    fields zero v w y g h l = g
    fields (suc zero) v w y g h l = h
    fields (suc (suc i)) v w y g h l = l

-- what lies in a type, in other words (copies of what jh_semantics shows for itself)
value-in : (p : Program) (names : NamesFit p) (t : Ty) (s : State) (d : Datum) → LiesIn p t s d → DatumLies p names t s d
value-in p names ty.Int s (a_number z) h = refl
value-in p names ty.Boolean s (a_truth b) h = refl
value-in p names ty.Object s (an_object a) h = h
value-in p names (ty.Class n) s (an_object a) h = h
value-in p names ty.Int s (an_object a) h = tt
value-in p names ty.Int s (a_truth b) h = absurd h
value-in p names ty.Boolean s (an_object a) h = tt
value-in p names ty.Boolean s (a_number z) h = absurd h
value-in p names ty.Object s (a_number z) h = absurd h
value-in p names ty.Object s (a_truth b) h = absurd h
value-in p names (ty.Class n) s (a_number z) h = absurd h
value-in p names (ty.Class n) s (a_truth b) h = absurd h
value-in p names ty.Void s d h = absurd h
value-in p names ty.Null s d h = absurd h
value-in p names ty.Int s (a_set v) h = absurd h
value-in p names ty.Boolean s (a_set v) h = absurd h
value-in p names ty.Object s (a_set v) h = absurd h
value-in p names (ty.Class n) s (a_set v) h = absurd h
value-in p names ty.Int s (a_field f) h = absurd h
value-in p names ty.Boolean s (a_field f) h = absurd h
value-in p names ty.Object s (a_field f) h = absurd h
value-in p names (ty.Class n) s (a_field f) h = absurd h

object-inside : (s : State) (x : Name) (a : ℕ) → IsWhole s → (a ≡ 0) ⊎ (s.set x a ≡ true) → a < suc s.last
object-inside s x a w (inl e) = subst (λ (b : ℕ). b < suc s.last) (sym e) (omega arith)
object-inside s x a w (inr h) = w.sets x a h

inside-in : (p : Program) (t : Ty) (s : State) (d : Datum) → IsWhole s → LiesIn p t s d → IsInside s.last d
inside-in p ty.Object s (an_object a) w h = object-inside s alloc_name a w h
inside-in p (ty.Class n) s (an_object a) w h = object-inside s (named (class_at p.classes n)) a w h
inside-in p ty.Int s (an_object a) w h = absurd h
inside-in p ty.Boolean s (an_object a) w h = absurd h
inside-in p ty.Void s (an_object a) w h = absurd h
inside-in p ty.Null s (an_object a) w h = absurd h
inside-in p t s (a_number z) w h = tt
inside-in p t s (a_truth b) w h = tt
inside-in p t s (a_set v) w h = tt
inside-in p t s (a_field f) w h = tt

pub all-in : (p : Program) (names : NamesFit p) (n : ℕ) (xs : List Local) (s : State) (ds : List Datum) → AllLieIn p xs s ds → ArgsLie p names n xs s ds
all-in p names n [] s [] h = tt
all-in p names n (x ∷ xs) s (d ∷ ds) h = (value-in p names x.type s d h.0, all-in p names n xs s ds h.1)
all-in p names n [] s (d ∷ ds) h = absurd h
all-in p names n (x ∷ xs) s [] h = absurd h

pub all-inside : (p : Program) (xs : List Local) (s : State) (ds : List Datum) → IsWhole s → AllLieIn p xs s ds → AreInside s.last ds
all-inside p [] s [] w h = tt
all-inside p (x ∷ xs) s (d ∷ ds) w h = (inside-in p x.type s d w h.0, all-inside p xs s ds w h.1)
all-inside p [] s (d ∷ ds) w h = absurd h
all-inside p (x ∷ xs) s [] w h = absurd h

pub all-scalar : (p : Program) (xs : List Local) (s : State) (ds : List Datum) → AllLieIn p xs s ds → AllScalar ds
all-scalar p [] s [] h = tt
all-scalar p (x ∷ xs) s (d ∷ ds) h = (lies-scalar p x.type s d h.0, all-scalar p xs s ds h.1)
all-scalar p [] s (d ∷ ds) h = absurd h
all-scalar p (x ∷ xs) s [] h = absurd h

pub this-in : (p : Program) (names : NamesFit p) (n : ℕ) (this : Option ℕ) (s : State) (a : ℕ) → ThisLiesIn p this s a → ThisLies p names n this s a
this-in p names n None s a h = tt
this-in p names n (Some k) s a h = h

pub this-inside : (p : Program) (this : Option ℕ) (s : State) (a : ℕ) → IsWhole s → ThisLiesIn p this s a → a < suc s.last
this-inside p None s a w h = subst (λ (b : ℕ). b < suc s.last) (sym h) (omega arith)
this-inside p (Some k) s a w h = w.sets (named (class_at p.classes k)) a h

-- `requires` is known at entry
first-states : (r : Option Claim) (e : List Claim) → AreOfStates (listed r ++ e) → (claim : Claim) → r ≡ Some claim → IsOfStates (t.of_truth claim.formula)
first-states None e h claim is = absurd (true≢false (sym (ap some is)))
  where
    some : Option Claim → Bool
    some None = false
    some (Some claim) = true
first-states (Some r) e h claim is = subst (λ (z : Claim). IsOfStates (t.of_truth z.formula)) (ap the is) h.0
  where
    the : Option Claim → Claim
    the None = r
    the (Some z) = z

after-requires-known : (R : Interp → Type 0) (r : Option Claim) (s o g : Interp) (Q : Interp → Type 0) → ((claim : Claim) → r ≡ Some claim → IsOfStates (t.of_truth claim.formula)) → truth (condition r) (shown s o) [] ≡ true →
    After R (assume_requires r) Q (viewed s o g) → Q (viewed s o g)
after-requires-known R None s o g Q states e h = h
after-requires-known R (Some claim) s o g Q states e h = h (truth-stated s o g claim.formula (states claim refl) ∙ e)

module _ (p : Program) (ws : Writes) (fitting : ProgramFits p) (contracts : ContractsFit p) (m : Callee) (x : Method) (is : p.method m ≡ Some x) (valid : IsValid p ws m x) (closed : is_closed_command (method_command p ws m x).body ≡ true) where
  abbrev names : NamesFit p
  names = fitting.names

  -- what has to be true where the method returns
  abbrev pub Ended : Interp → Type 0
  Ended = True (method_command p ws m x).returned

  pub ended-respects : Respects Ended
  ended-respects a b u same h = sym (alike-truth (method_command p ws m x).returned a b u same) ∙ h

  abbrev pub body-at : Surroundings
  body-at = entry_scope p names x.this x.params

  -- the state in which the body begins, in the universe of n
  module _ (this : ℕ) (args : List Datum) (r : Configuration) (enters : Entry p x r.now this args) where
    abbrev pub s : State
    s = r.now

    abbrev pub begun : State
    begun = entered x this args s

    fit : MethodFits p x
    fit = fitting.methods m x is

    scalar : AllScalar args
    scalar = all-scalar p x.params s args enters.arguments

    dotless : AllDotless x.params
    dotless = dotless-params x.params (λ y i. (params-scope p names x fit).no_state y (Contains-append_left x.params [] y i))

    pub begun-good : Formed p begun × ScopeLies p names body-at begun
    begun-good = entry-good p names s.last x fit this args s (facts-formed s p names enters.well_formed) (this-in p names s.last x.this s this enters.this_lies) (all-in p names s.last x.params s args enters.arguments)

    begun-stands : (j : ℕ) → Stands s.last r → Stands s.last (at_entry x this args (record r { steps = j }))
    begun-stands j stands =
        entry-stands s.last x this args (record r { steps = j }) (record { now = stands.now; entry = stands.entry }) (this-inside p x.this s this enters.whole enters.this_lies) (all-inside p x.params s args enters.whole enters.arguments)

    state-begun : (y : Text) (a : Sort) → StateText y a → GivesAt a begun (named y) s (named y)
    state-begun y a h = entered-state x this args s y a scalar dotless h

    in-scope : InScope x.this x.params body-at
    in-scope = record { this_is = refl; locals = λ y i. Contains-append_left x.params [] y i; back = λ y i. absurd (none i.0 i.1) }
      where
        none : (j : ℕ) → j < 0 → ⊥
        none j lt = omega arith

    -- the facts of the entry are so
    begun-holds : (g : Interp) → Inner s.last begun → Inner s.last s → Inner s.last g → After Ended (stmts_commands p ws x.this x.params x.body 2) (λ z. After Ended (end_commands p ws m x) Ended z) (viewed begun s g)
    begun-holds g inner inner-s inner-g =
        let V : Interp = viewed begun s g in
        let body : List CommandTree = stmts_commands p ws x.this x.params x.body 2 in
        let ends : List CommandTree = end_commands p ws m x in
        let facts : List CommandTree = assume_named (codes "wf") x.place (well_formed p x.params x.this) ∷ assume_requires x.requires in
        let owes : List CommandTree = assume_claims (owed p x) in
        let copy : List CommandTree = copies (map sorted_item (items p)) 1 in
        let p4 : Interp → Type 0 = λ z. After Ended ends Ended z in
        let p3 : Interp → Type 0 = λ z. After Ended body p4 z in
        let p2 : Interp → Type 0 = λ z. After Ended copy p3 z in
        let p1 : Interp → Type 0 = λ z. After Ended owes p2 z in
        let returned : FormulaTree = (method_command p ws m x).returned in
        let universe : InUniverse V = view-universe s.last begun s g (entered-last x this args s scalar) inner inner-s inner-g in
        let h0 : After Ended (facts ++ owes ++ copy ++ body ++ ends) Ended V =
        after-steps Ended (facts ++ owes ++ copy ++ body ++ ends) Ended V (wp-reached (method_command p ws m x).body closed returned returned Ended (λ z h. h) V (valid V universe)) in
        let h1 : After Ended facts p1 V =
        after-append Ended facts owes p2 V (after-append Ended (facts ++ owes) copy p3 V (after-append Ended (facts ++ owes ++ copy) body p4 V (after-append Ended (facts ++ owes ++ copy ++ body) ends Ended V h0))) in
        let good : Formed p begun × ScopeLies p names body-at begun = begun-good in
        let wf : After Ended (assume_requires x.requires) p1 V = h1 (well-formed-there p names begun x.params x.this body-at in-scope good.0 good.1 s g) in
        let h2 : p1 V = after-requires-known Ended x.requires begun s g p1 (first-states x.requires (listed x.ensures) fit.contract) enters.requires wf in
        let h3 : p2 V = after-claims Ended (owed p x) p2 V
        (seen-claims p V s s (entered-last x this args s scalar) (λ y a h. at-then a V begun s (named y) (named y) (named y) (viewed-now a begun s g y) (state-begun y a (state-text p names y a h))) (owed p x) (owed-speak p x contracts.invariants) enters.invariants) h2 in
        copied-entry Ended (items p) begun s g p3 (λ y i. at-back (item_sort y) begun s (named (item_text y)) (named (item_text y)) (state-begun (item_text y) (item_sort y) (item-text p names y i))) h3

    -- the body of a void method ends as at a return
    end-void : (b : Bool) (z : Interp) → After Ended (if b then w.leave ∷ [] else []) Ended z → Ended z
    end-void true z h = h
    end-void false z h = h

    -- so the body runs without a fault
    module _ (call : Callee → ℕ → List Datum → Configuration → Progress) (typed : CallsGood p names s.last call x.result) (meets : CallsMeet p ws call) (loops : SafeLoops p ws names s.last x.result x.this Ended ended-respects call) where
      pub body-safe : (j : ℕ) → Stands s.last r → Sure (λ u. (time : ℕ) × Leads s.last time u.now u.entry Ended) (Returned s.last Ended) (exec_all call x.body (at_entry x this args (record r { steps = j })))
      body-safe j stands =
          let n : ℕ = s.last in
          let start : Configuration = at_entry x this args (record r { steps = j }) in
          let there : Stands n start = begun-stands j stands in
          let ends : Interp → Type 0 = λ z. After Ended (end_commands p ws m x) Ended z in
          let inner : Inner n begun = lies-inner n begun there.now in
          let inner-s : Inner n s = lies-inner n s there.entry in
          sure-map (λ u. (time : ℕ) × Leads n time u.now u.entry Ended) (Returned n Ended) (λ u. Leads n (next_turns p ws x.this x.params x.body 2) u.now u.entry ends) (Returned n Ended) (exec_all call x.body start)
          (λ u l. (next_turns p ws x.this x.params x.body 2, record { history = l.history; inner = l.inner; holds = λ g i b. end-void (is_void x.result) (viewed u.now u.entry g) (l.holds g i b) })) (λ u v g. g)
          (all-safe p ws names n x.result x.this Ended ended-respects call typed (calls-safe p ws fitting contracts n x.result x.this Ended ended-respects call meets) loops x.body x.params body-at fit.body 2 s start ends (after-respects Ended ended-respects (end_commands p ws m x) Ended ended-respects)
          (record { late = omega arith; inner = inner-s; good = (there, begun-good); scoped = in-scope; fit = params-scope p names x fit })
          (λ g i b. begun-holds g inner inner-s i))
