-- Loops are safe under their commands: by induction on the turns, each of which goes back to the head of the loop and picks the history
-- of the state where it begins.
use Rattle.std.proofs.Common.{◌≡◌, refl, sym, ap, ◌∙◌, subst, ℕ, zero, suc, ◌<◌, ◌≤◌, Bool, true, false, not, ◌||◌, if◌then◌else◌, List, [], ◌∷◌, ◌++◌, map, filter, Option, None, Some, codes, arith, ◌⊎◌, inl, inr}
use Rattle.std.specs.Option.{option_map_or}
use Rattle.std.specs.List.{Contains}
use Rattle.std.proofs.lemmas.Bool.{true≢false}
use Rattle.std.proofs.lemmas.List.Elements.{Contains-append_left, Contains-append_right, Contains-append_cases}
use Rattle.jh_name.specs.declared.naming.Name.{Name}
use Rattle.jh_name.specs.declared.place.Place.{Place}
use Rattle.jh_form.specs.declared.mark.MarkKind.{MarkKind}
use Rattle.jh_form.specs.declared.mark.MarkKind.TheVariants as kind
use Rattle.jh_form.specs.Tree.{FormulaTree}
use Rattle.jh_form.specs.Tree as t
use Rattle.jh_form.specs.Meaning.{Interp, Datum, all_below, truth}
use Rattle.jh_rules.specs.declared.types.Ty.{Ty}
use Rattle.jh_vars.specs.Written.{Callee}
use Rattle.jh_wp.specs.Command.{CommandTree}
use Rattle.jh_wp.specs.Command as w
use Rattle.jh_semantics.specs.Code.{Text, TruthCode, Local, Claim, Stmt, Stmts}
use Rattle.jh_semantics.specs.Code as c
use Rattle.jh_semantics.specs.Program.{Program}
use Rattle.jh_semantics.specs.State.{State, named}
use Rattle.jh_semantics.specs.Locals.{has_dot}
use Rattle.jh_semantics.specs.Values.{truth_of}
use Rattle.jh_semantics.specs.Progress.{Configuration, Progress, goes_on, returns, stops, choose, pay, then_run}
use Rattle.jh_semantics.specs.Execution.{exec, turns, loop}
use Rattle.jh_semantics.specs.Entry.{AllTrue}
use Rattle.jh_semantics.specs.Typed.{Surroundings, NamesFit, AreOfStates, StmtFits}
use Rattle.jh_semantics.specs.WellFormed.{all_classes}
use Rattle.jh_semantics.proofs.Keeping.{Ends, exec-keeps}
use Rattle.jh_semantics.proofs.Growth.{CallsAdd}
use Rattle.jh_semantics.proofs.Typing.{ScopeFits}
use Rattle.jh_semantics.proofs.TypedRuns.{ends-both, Good, GoodWith, CallsGood, all-good}
use Rattle.jh_guard.specs.Items.{Item, all_objects, objects_of, of_member, item_text, is_of_objects, items, Sorted, sorted_item, sorted_local}
use Rattle.jh_guard.specs.Terms.{truth_formula, truth_checks}
use Rattle.jh_guard.specs.Laws.{AllPass}
use Rattle.jh_guard.specs.Writes.{Writes, stmt_writes, locals_assigned, first_ones}
use Rattle.jh_guard.specs.Steps.{fresh, sequence, assert_checks, assert_claims, assume_claims, claim_fact, assume_named, changed, after_changed, growth}
use Rattle.jh_guard.specs.Loops.{written_by, changed_by, loop_turn}
use Rattle.jh_guard.specs.Statements.{wf_at, next_turn, stmt_commands}
use Rattle.jh_guard.proofs.Checking.{Has, has-one}
use Rattle.jh_logic.specs.logic.Histories.{viewed, Below, Inner, Holds, Respects}
use Rattle.jh_logic.specs.logic.Reached.{Reached, After}
use Rattle.jh_logic.specs.logic.Sure.{Sure}
use Rattle.jh_logic.proofs.logic.Reaching.{after-steps, after-append, after-checks}
use Rattle.jh_logic.proofs.logic.Views.{viewed-fresh}
use Rattle.jh_logic.proofs.logic.Histories.{below-refl, holds-later, Outside, outside-refl, LedWith}
use Rattle.jh_logic.proofs.logic.Respecting.{after-respects}
use Rattle.jh_logic.proofs.logic.Going.{sure-pay, sure-value, sure-then, sure-map, sure-both, sure-choose}
use Rattle.jh_logic.proofs.logic.Stated.{truth-there, truth-stated}
use Rattle.jh_logic.proofs.logic.Puts.{Leads, Returned}
use Rattle.jh_logic.proofs.logic.Statements.{InScope, SafeStmt, next-later, call-later, after-changed-later}
use Rattle.jh_logic.proofs.logic.Ghosts.{lies-inner}
use Rattle.jh_logic.proofs.logic.Bodies.{SafeLoops}
use Rattle.jh_logic.proofs.logic.Writing.{Kept, KeptWith, paid-kept}
use Rattle.jh_logic.proofs.logic.Written.{filter-has, map-has, Covers, CallsKeep, simple-keeps}
use Rattle.jh_logic.proofs.logic.Growing.{Onward, exec-onward}
use Rattle.jh_logic.proofs.logic.Lists.{no-place, filter-from, map-from}
use Rattle.jh_logic.proofs.logic.WellFormed.{both-true, well-formed-there}
use Rattle.jh_logic.proofs.logic.Havocs.{is_text, text-front, text-back, both-texts, first-texts, outside-apart, holds-all-changed}

-- claims that are true in an interpretation
abbrev pub AllClaims : List Claim → Interp → Type 0
AllClaims [] m = Unit {0}
AllClaims (claim ∷ more) m = (truth claim.formula m [] ≡ true) × AllClaims more m

-- claims of states are true in a view where they are true in its states
pub claims-stated : (s o m : Interp) (claims : List Claim) → AreOfStates claims → AllClaims claims (viewed s o m) → AllTrue claims s o
claims-stated s o m [] states h = tt
claims-stated s o m (claim ∷ more) states h = (sym (truth-stated s o m claim.formula states.0) ∙ h.0, claims-stated s o m more states.1 h.1)

pub stated-claims : (s o m : Interp) (claims : List Claim) → AreOfStates claims → AllTrue claims s o → AllClaims claims (viewed s o m)
stated-claims s o m [] states h = tt
stated-claims s o m (claim ∷ more) states h = (truth-stated s o m claim.formula states.0 ∙ h.0, stated-claims s o m more states.1 h.1)

-- what claims are as facts
fact-true : (claim : Claim) (m : Interp) → truth claim.formula m [] ≡ true → truth (claim_fact claim) m [] ≡ true
fact-true claim m e = labelled claim.label
  where
    labelled : (x : Option Name) → truth (option_map_or (λ y. t.mark (record { kind = kind.Fact; place = claim.place; name = Some y; from = [] }) claim.formula) x claim.formula) m [] ≡ true
    labelled None = e
    labelled (Some y) = e

module _ (R : Interp → Type 0) where
  -- asserted claims are true
  pub claims-asserted : (mark : MarkKind) (claims : List Claim) (P : Interp → Type 0) (m : Interp) → After R (assert_claims mark claims) P m → AllClaims claims m × P m
  claims-asserted mark [] P m h = (tt, h)
  claims-asserted mark (claim ∷ more) P m h = let rest = claims-asserted mark more P m h.1 in ((h.0, rest.0), rest.1)

  -- true claims may be assumed
  pub claims-assumed : (claims : List Claim) (P : Interp → Type 0) (m : Interp) → AllClaims claims m → After R (assume_claims claims) P m → P m
  claims-assumed [] P m k h = h
  claims-assumed (claim ∷ more) P m k h = claims-assumed more P m k.1 (h (fact-true claim m k.0))

  -- and so may growth, where sets of objects grew
  abbrev pub GrownSince : ℕ → Item → Interp → Type 0
  GrownSince k x m = truth (t.subset (t.free_set (fresh (item_text x) k)) (t.free_set (named (item_text x)))) m [] ≡ true

  pub growth-assumed : (k : ℕ) (xs : List Item) (P : Interp → Type 0) (m : Interp) → ((x : Item) → Contains xs x → is_of_objects x ≡ true → GrownSince k x m) → After R (growth k xs) P m → P m
  growth-assumed k [] P m f h = h
  growth-assumed k (x ∷ xs) P m f h = from (is_of_objects x) refl h (λ g. growth-assumed k xs P m (λ y i e. f y (Contains-append_right (x ∷ []) xs y i) e) g)
    where
      from : (b : Bool) → is_of_objects x ≡ b →
          After R (map (λ (y : Item). w.assume (t.subset (t.free_set (fresh (item_text y) k)) (t.free_set (named (item_text y))))) (if b then x ∷ filter is_of_objects xs else filter is_of_objects xs)) P m →
          (After R (growth k xs) P m → P m) → P m
      from true is g rest = rest (g (f x (0, omega arith, refl) is))
      from false is g rest = rest g

-- the texts of sets of objects have no dot
objects-dotless : (p : Program) → NamesFit p → (x : Item) → Contains (items p) x → is_of_objects x ≡ true → has_dot (item_text x) ≡ false
objects-dotless p names x i e = from (Contains-append_cases (all_objects ∷ map (λ y. objects_of y) (all_classes p.classes)) (map (λ y. of_member y) p.members) x i)
  where
    of-class : (y : Item) → (z : Text) × Contains (all_classes p.classes) z × (objects_of z ≡ y) → has_dot (item_text y) ≡ false
    of-class y r = subst (λ (z : Item). has_dot (item_text z) ≡ false) r.2 (names.dotless r.0 r.1)

    of-objects : Contains (all_objects ∷ []) x ⊎ Contains (map (λ y. objects_of y) (all_classes p.classes)) x → has_dot (item_text x) ≡ false
    of-objects (inl (zero, lt, q)) = subst (λ (z : Item). has_dot (item_text z) ≡ false) q refl
    of-objects (inl (suc j, lt, q)) = absurd (beyond lt)
      where
        beyond : suc j < 1 → ⊥
        beyond l = omega (l, arith)
    of-objects (inr j) = of-class x (map-from (λ y. objects_of y) (all_classes p.classes) x j)

    from : Contains (all_objects ∷ map (λ y. objects_of y) (all_classes p.classes)) x ⊎ Contains (map (λ y. of_member y) p.members) x → has_dot (item_text x) ≡ false
    from (inl j) = of-objects (Contains-append_cases (all_objects ∷ []) (map (λ y. objects_of y) (all_classes p.classes)) x j)
    from (inr j) = let r = map-from (λ y. of_member y) p.members x j in absurd (true≢false (sym e ∙ ap is_of_objects (sym r.2)))

-- copies take a turn before what comes after them
copied-before : (xs : List Sorted) (x : Sorted) (k : ℕ) → Contains xs x → k < after_changed xs k
copied-before [] x k i = absurd (no-place i.0 i.1)
copied-before (y ∷ ys) x k i = omega arith

-- one set in another, over the objects below a number
subset-true : (n : ℕ) (a b : ℕ → Bool) → ((x : ℕ) → a x ≡ true → b x ≡ true) → all_below n (λ x. not (a x) || b x) ≡ true
subset-true zero a b h = refl
subset-true (suc n) a b h = both-true (all_below n (λ x. not (a x) || b x)) (not (a n) || b n) (subset-true n a b h) (implies (a n) (b n) (h n))
  where
    implies : (u v : Bool) → (u ≡ true → v ≡ true) → (not u || v) ≡ true
    implies true v f = f refl
    implies false v f = refl

-- where nothing comes after it, a statement alone ends as it does
ends-alone : (P : Configuration → Type 0) (S : Configuration → Option Datum → Type 0) (x : Progress) → Ends P S (then_run x goes_on) → Ends P S x
ends-alone P S (goes_on r) h = h
ends-alone P S (returns r v) h = h
ends-alone P S (stops why) h = h

-- What a loop needs of the calls in its body, beside that they are good: whatever a method may write, they keep all else of each state,
-- and they only add to `alloc` and to the sets of classes.
abbrev pub CallsKeepAll : (p : Program) → Writes → NamesFit p → (Callee → ℕ → List Datum → Configuration → Progress) → Ty → Type 0
CallsKeepAll p ws names call result = (xs : List Sorted) (first : State) → CallsKeep p ws names xs first call result

abbrev pub CallsOnlyAdd : (Callee → ℕ → List Datum → Configuration → Progress) → Type 0
CallsOnlyAdd call = (first : State) → CallsAdd first call

module _ (p : Program) (ws : Writes) (names : NamesFit p) (n : ℕ) (result : Ty) (this : Option ℕ) (R : Interp → Type 0) (respect : Respects R) (call : Callee → ℕ → List Datum → Configuration → Progress) where
  module _ (typed : CallsGood p names n call result) (keep : CallsKeepAll p ws names call result) (adds : CallsOnlyAdd call) where
    -- one loop
    module _ (place : Place) (invariants : List Claim) (e : TruthCode) (body : Stmt) (body-safe : SafeStmt p ws names n result this R respect call body) (scope : List Local) (at : Surroundings)
        (states : AreOfStates invariants) (fits : StmtFits p result body at) (scoped : InScope this scope at) (fit : ScopeFits p names at) (k : ℕ) (late : 2 ≤ k) (Q : Interp → Type 0) (q : Respects Q) where
      -- What the body may write, as it is copied and havocked: each text once. And all of it, with a local's sort wherever one is declared.
      abbrev changes : List Sorted
      changes = changed_by p ws scope body

      abbrev wide : List Sorted
      wide = map sorted_item (written_by p ws body) ++ map sorted_local (locals_assigned scope body)

      -- the first turns that are free in the body, and after it
      abbrev body_turn : ℕ
      body_turn = after_changed changes k

      abbrev after_turn : ℕ
      after_turn = next_turn p ws this scope body body_turn

      abbrev facts : List CommandTree
      facts = assume_named (codes "wf") place (wf_at p ws this scope) ∷ growth k (written_by p ws body)

      abbrev body_steps : List CommandTree
      body_steps = stmt_commands p ws this scope body body_turn

      abbrev kept_claims : List CommandTree
      kept_claims = assert_claims kind.LoopKept invariants

      abbrev one_turn : CommandTree
      one_turn = sequence (assume_named (codes "cond") place (truth_formula e) ∷ body_steps ++ kept_claims ++ (w.stop ∷ []))

      abbrev no_turn : CommandTree
      no_turn = assume_named (codes "cond") place (t.negation (truth_formula e))

      -- what has to be so where the test is checked, behind the havocs, and behind the body
      abbrev AtTest : Interp → Type 0
      AtTest m = After R (assert_checks (truth_checks e)) (λ v. After R (loop_turn place invariants e body_steps ∷ []) Q v) m

      abbrev AtHead : Interp → Type 0
      AtHead m = After R facts (λ v. After R (assume_claims invariants) AtTest v) m

      abbrev ClaimsKept : Interp → Type 0
      ClaimsKept m = After R kept_claims (λ v. After R (w.stop ∷ []) Q v) m

      covers : Covers p ws names wide scope body
      covers = record {
        items_in = λ y i e. Contains-append_left (map sorted_item (written_by p ws body)) (map sorted_local (locals_assigned scope body)) (sorted_item y)
            (map-has sorted_item (written_by p ws body) y (filter-has (λ x. stmt_writes ws body (item_text x)) (items p) y i e));
        locals_in = λ x i. Contains-append_right (map sorted_item (written_by p ws body)) (map sorted_local (locals_assigned scope body)) (sorted_local x) (map-has sorted_local (locals_assigned scope body) x i);
      }

      wide-texts : (z : Name) → is_text z changes ≡ false → is_text z wide ≡ false
      wide-texts z h =
          let written : List Sorted = map sorted_item (written_by p ws body) in
          let firsts : List Sorted = map sorted_local (first_ones (locals_assigned scope body)) in
          both-texts z written (map sorted_local (locals_assigned scope body)) (text-front z written firsts h) (first-texts z (locals_assigned scope body) (text-back z written firsts h))

      -- over the history and the state at the head
      module _ (h : Interp) (head : Configuration) (inner : Inner n h) (whole : Inner n head.now) (H : Holds n k h head.now head.entry (λ m. After R (changed changes k) AtHead m)) where
        -- what stays so along the turns, since the head was reached
        record Stays (u : Configuration) : Type 0 where
          good : Good p names n at u
          kept : Outside wide head.now u.now
          onward : Onward head.now head.entry u
          claims : AllTrue invariants u.now u.entry

        -- a turn begins with a history of its own
        abbrev Begun : Configuration → Type 0
        Begun u = LedWith n k body_turn k h changes head.now u.now u.entry AtHead

        begun : (u : Configuration) → Stays u → Begun u
        begun u s =
            subst (λ (o : State). LedWith n k body_turn k h changes head.now u.now o AtHead) (sym (s.onward).entered)
            (holds-all-changed R n changes k h head.now u.now head.entry AtHead late inner whole (lies-inner n u.now ((s.good).0).now) (outside-apart wide changes head.now u.now wide-texts s.kept) H)

        -- what is assumed at the head is true there
        grown : (u : Configuration) (s : Stays u) (b : Begun u) (m : Interp) → Below body_turn b.led.history m → (x : Item) → Contains (written_by p ws body) x → is_of_objects x ≡ true → GrownSince R k x (viewed u.now u.entry m)
        grown u s b m l x i is =
            let name : Name = fresh (item_text x) k in
            let in-changes : Contains changes (sorted_item x) =
            Contains-append_left (map sorted_item (written_by p ws body)) (map sorted_local (first_ones (locals_assigned scope body))) (sorted_item x) (map-has sorted_item (written_by p ws body) x i) in
            let copy : (viewed u.now u.entry m).set name ≡ head.now.set (named (item_text x)) =
            (viewed-fresh u.now u.entry m name late).set ∙ (l name (copied-before changes (sorted_item x) k in-changes)).set ∙ (b.copied (sorted_item x) in-changes).set in
            subset-true (suc u.now.last) ((viewed u.now u.entry m).set name) (u.now.set (named (item_text x))) (λ a g.
            (s.onward).grew (item_text x) (objects-dotless p names x (filter-from (λ y. stmt_writes ws body (item_text y)) (items p) x i) is) a (ap (λ (f : ℕ → Bool). f a) (sym copy) ∙ g))

        -- so the test's checks pass, and both ways on from it are as they have to be
        tested : (u : Configuration) (s : Stays u) (b : Begun u) (m : Interp) → Inner n m → Below body_turn b.led.history m →
            AllPass (truth_checks e) (viewed u.now u.entry m) × (Reached R one_turn Q (viewed u.now u.entry m) × Reached R no_turn Q (viewed u.now u.entry m))
        tested u s b m i l =
            let V : Interp = viewed u.now u.entry m in
            let wf : truth (wf_at p ws this scope) V [] ≡ true = well-formed-there p names u.now scope this at scoped ((s.good).1).0 ((s.good).1).1 u.entry m in
            let claimed : After R (assume_claims invariants) AtTest V =
            growth-assumed R k (written_by p ws body) (λ v. After R (assume_claims invariants) AtTest v) V (grown u s b m l) (b.led.holds m i l wf) in
            after-checks R (truth_checks e) (λ v. After R (loop_turn place invariants e body_steps ∷ []) Q v) V
            (claims-assumed R invariants AtTest V (stated-claims u.now u.entry m invariants states s.claims) claimed)

        -- Where the body ends, the claims are due, and all stays so that stays along the turns.
        abbrev Behind : Configuration → Type 0
        Behind u = Leads n after_turn u.now u.entry ClaimsKept × (Good p names n at u × (Outside wide head.now u.now × Onward head.now head.entry u))

        abbrev Ended : Configuration → Option Datum → Type 0
        Ended u v = GoodWith p names n result u v × (Outside wide head.now u.now × Unit {0})

        body-ends : (u : Configuration) → Stays u → Ends (λ v. Good p names n at v × (Outside wide head.now v.now × Onward head.now head.entry v)) Ended (exec call body u)
        body-ends u s =
            ends-both (Good p names n at) (λ v. Outside wide head.now v.now × Onward head.now head.entry v) (GoodWith p names n result) (λ v y. Outside wide head.now v.now × Unit {0}) (exec call body u)
            (ends-alone (Good p names n at) (GoodWith p names n result) (exec call body u) (all-good p names n call result typed (c.more body c.none) at (fits, tt) fit u s.good))
            (ends-both (Kept wide head.now) (Onward head.now head.entry) (KeptWith wide head.now) (λ v y. Unit {0}) (exec call body u)
            (exec-keeps (Kept wide head.now) (KeptWith wide head.now) (paid-kept wide head.now) call body
            (simple-keeps p ws names wide head.now call result (keep wide head.now) body scope at this scoped fits covers) u s.kept)
            (exec-onward head.now head.entry p names call (adds head.now) result body at fits u s.onward))

        body-behind : (u : Configuration) (s : Stays u) (b : Begun u) → ((m : Interp) → Inner n m → Below body_turn b.led.history m → After R body_steps ClaimsKept (viewed u.now u.entry m)) →
            Sure Behind (Returned n R) (exec call body u)
        body-behind u s b G =
            sure-map Behind (Returned n R) Behind (λ v y. Returned n R v y × Ended v y) (exec call body u) (λ v g. g) (λ v y g. g.0)
            (sure-both (λ v. Leads n after_turn v.now v.entry ClaimsKept) (Returned n R) (λ v. Good p names n at v × (Outside wide head.now v.now × Onward head.now head.entry v)) Ended (exec call body u)
            (body-safe scope at fits body_turn b.led.history u ClaimsKept (after-respects R respect kept_claims (λ v. After R (w.stop ∷ []) Q v) (after-respects R respect (w.stop ∷ []) Q q))
            (record { late = later-than-two k body_turn late (after-changed-later changes k); inner = b.led.inner; good = s.good; scoped = scoped; fit = fit }) G)
            (body-ends u s))
          where
            later-than-two : (k k' : ℕ) → 2 ≤ k → k ≤ k' → 2 ≤ k'
            later-than-two k k' a b = omega (arith, a, b)

        -- behind the body the loop goes on
        stays-behind : (u : Configuration) → Behind u → Stays u
        stays-behind u g =
            let there : Leads n after_turn u.now u.entry ClaimsKept = g.0 in
            record {
              good = (g.1).0;
              kept = ((g.1).1).0;
              onward = ((g.1).1).1;
              claims = claims-stated u.now u.entry there.history invariants states
                  (claims-asserted R kind.LoopKept invariants (λ v. After R (w.stop ∷ []) Q v) (viewed u.now u.entry there.history) (there.holds there.history there.inner (below-refl after_turn there.history))).0;
            }

        stays-paid : (u : Configuration) (j : ℕ) → Stays u → Stays (record u { steps = j })
        stays-paid u j s = record {
          good = (record { now = ((s.good).0).now; entry = ((s.good).0).entry }, (s.good).1);
          kept = s.kept;
          onward = record { grew = (s.onward).grew; entered = (s.onward).entered };
          claims = s.claims;
        }

        -- so many turns at most
        turns-safe : (limit : ℕ) (u : Configuration) → Stays u → Sure (λ v. Leads n after_turn v.now v.entry Q) (Returned n R) (turns limit e (λ v. exec call body v) u)
        turns-safe zero u s = tt
        turns-safe (suc limit) u s =
            let b : Begun u = begun u s in
            let j : Interp = b.led.history in
            let f : FormulaTree = truth_formula e in
            let V : Interp → Interp = λ m. viewed u.now u.entry m in
            let here : Below body_turn j j = below-refl body_turn j in
            let valued : (m : Interp) → Inner n m → Below body_turn j m → Has (truth_of e u.now) (truth f (V m) []) = λ m i l. truth-there u.now u.entry m e (tested u s b m i l).0 in
            let x : Bool = truth f (V j) [] in
            let same : (m : Interp) → Inner n m → Below body_turn j m → truth f (V m) [] ≡ x = λ m i l. has-one (truth_of e u.now) (truth f (V m) []) x (valued m i l) (valued j b.led.inner here) in
            let P : Configuration → Type 0 = λ v. Leads n after_turn v.now v.entry Q in
            let more : Configuration → Progress = λ v. pay v (λ y. then_run (exec call body y) (turns limit e (λ z. exec call body z))) in
            sure-value P (Returned n R) (truth_of e u.now) x (λ y. choose y more goes_on u) (valued j b.led.inner here)
            (sure-choose P (Returned n R) x more goes_on u
            (λ is. sure-pay P (Returned n R) u (λ y. then_run (exec call body y) (turns limit e (λ z. exec call body z))) (λ i paid.
            let y : Configuration = record u { steps = i } in
            let before : (m : Interp) → Inner n m → Below body_turn j m → After R body_steps ClaimsKept (V m) = λ m i l.
            after-append R (assume_named (codes "cond") place f ∷ body_steps) kept_claims (λ v. After R (w.stop ∷ []) Q v) (V m)
            (after-append R (assume_named (codes "cond") place f ∷ body_steps ++ kept_claims) (w.stop ∷ []) Q (V m)
            (after-steps R (assume_named (codes "cond") place f ∷ body_steps ++ kept_claims ++ (w.stop ∷ [])) Q (V m) ((tested u s b m i l).1).0))
            (same m i l ∙ is) in
            sure-then P (Returned n R) Behind (exec call body y) (turns limit e (λ z. exec call body z))
            (body-behind y (stays-paid u i s) b before) (λ v g. turns-safe limit v (stays-behind v g))))
            (λ is. record {
              history = j;
              inner = b.led.inner;
              holds = holds-later n body_turn after_turn j j u.now u.entry Q (next-later p ws names n result this R respect body scope body_turn (call-later p ws names n result this R respect)) here
                  (λ m i l. ((tested u s b m i l).1).1 (ap not (same m i l ∙ is)));
            }))

    -- at the head the invariants are true, and the turns body_turn
    pub loops-safe : SafeLoops p ws names n result this R respect call
    loops-safe place invariants e body body-safe scope at fits k h r Q q b H =
        let changes : List Sorted = changed_by p ws scope body in
        let body_turn : ℕ = after_changed changes k in
        let head : List CommandTree = assert_claims kind.LoopEntry invariants in
        let facts : List CommandTree = assume_named (codes "wf") place (wf_at p ws this scope) ∷ growth k (written_by p ws body) in
        let assumed : List CommandTree = assume_claims invariants in
        let checks : List CommandTree = assert_checks (truth_checks e) in
        let last : List CommandTree = loop_turn place invariants e (stmt_commands p ws this scope body body_turn) ∷ [] in
        let V : Interp → Interp = λ m. viewed r.now r.entry m in
        let Last : Interp → Type 0 = λ m. After R last Q m in
        let Checked : Interp → Type 0 = λ m. After R checks Last m in
        let Assumed : Interp → Type 0 = λ m. After R assumed Checked m in
        let All : Interp → Type 0 = λ m. After R facts Assumed m in
        let opened : (m : Interp) → Inner n m → Below k h m → AllClaims invariants (V m) × After R (changed changes k) All (V m) = λ m i l.
        claims-asserted R kind.LoopEntry invariants (λ v. After R (changed changes k) All v) (V m)
        (after-append R head (changed changes k) All (V m)
        (after-append R (head ++ changed changes k) facts Assumed (V m)
        (after-append R (head ++ changed changes k ++ facts) assumed Checked (V m)
        (after-append R (head ++ changed changes k ++ facts ++ assumed) checks Last (V m)
        (after-append R (head ++ changed changes k ++ facts ++ assumed ++ checks) last Q (V m) (H m i l)))))) in
        let stands = b.good.0 in
        sure-pay (λ u. Leads n (next_turn p ws this scope body body_turn) u.now u.entry Q) (Returned n R) r (λ u. loop e (λ v. exec call body v) u) (λ j paid.
        turns-safe place invariants e body body-safe scope at fits.0 fits.1 b.scoped b.fit k b.late Q q h r b.inner (lies-inner n r.now stands.now) (λ m i l. (opened m i l).1) (suc j) (record r { steps = j })
        (record {
          good = (record { now = stands.now; entry = stands.entry }, b.good.1);
          kept = outside-refl (map sorted_item (written_by p ws body) ++ map sorted_local (locals_assigned scope body)) r.now;
          onward = record { grew = λ x d a m. m; entered = refl };
          claims = claims-stated r.now r.entry h invariants fits.0 (opened h b.inner (below-refl k h)).0;
        }))
