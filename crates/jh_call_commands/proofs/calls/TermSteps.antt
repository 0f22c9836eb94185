-- The nodes of arguments and their checks, one after another.
use Rattle.std.proofs.Common.{◌≡◌, sym, ap, ◌∙◌, subst, ℕ, zero, suc, ◌+◌, ◌≤◌, add-one, List, [], ◌∷◌, ◌++◌, map, take, length, Option, Some, None, slice_get, append_assoc, append-nil, Result, Ok, Err, IfOk, OnOk}
use Rattle.std.proofs.lemmas.List.{map-append, take_all}
use Rattle.jh_form.specs.Tree.{ValueTree, of_object}
use Rattle.jh_arena.specs.table.Entries.{Listing}
use Rattle.jh_arena.specs.table.Growth.{Extends}
use Rattle.jh_arena.specs.table.Nodes.{nodes}
use Rattle.jh_semantics.specs.Code as code
use Rattle.jh_guard.specs.Terms.{Check, object_term, value_term, value_checks}
use Rattle.jh_guard.specs.Calls.{all_checks}
use Rattle.jh_semantics.specs.declared.typed_code.code.AnyCode.{AnyCode}
use Rattle.jh_semantics.specs.typed_code.Codes.{any_code}
use Rattle.jh_command_terms.specs.declared.terms.checks.CheckNode.{CheckNode}
use Rattle.jh_command_terms.specs.terms.Checks.{AddsChecks, IsReceiver}
use Rattle.jh_command_terms.proofs.terms.CheckSteps.{adds-two}
use Rattle.jh_call_commands.specs.calls.Called.{IsKept, AreValues}

pub if-ok : {A E : Type 0} {P Q : A → Type 0} (r : Result A E) → ((x : A) → P x → Q x) → IfOk r P → IfOk r Q
if-ok (Ok x) f h = f x h
if-ok (Err e) f h = tt

pub on-ok : {A E : Type 0} {P Q : Type 0} (r : Result A E) → (P → Q) → OnOk r P → OnOk r Q
on-ok (Ok x) f h = f h
on-ok (Err e) f h = tt

pub values-grow : (t u : Listing) (ns : List ℕ) (vs : List ValueTree) → Extends t u → AreValues t ns vs → AreValues u ns vs
unfolding AreValues
values-grow t u [] [] g h = tt
values-grow t u [] (v ∷ vs) g h = h
values-grow t u (n ∷ ns) [] g h = h
values-grow t u (n ∷ ns) (v ∷ vs) g h = (g.nodes.keeps n v h.0, values-grow t u ns vs g h.1)

pub receiver-grows : (t u : Listing) (o : Option ℕ) (x : code.Target) → Extends t u → IsReceiver t o x → IsReceiver u o x
unfolding IsReceiver
receiver-grows t u (Some n) (code.to_field f r p) g h = g.nodes.keeps n (of_object (object_term r)) h
receiver-grows t u None (code.to_field f r p) g h = absurd h
receiver-grows t u None code.nowhere g h = tt
receiver-grows t u None (code.to_new x) g h = tt
receiver-grows t u None (code.to_name x) g h = tt
receiver-grows t u (Some n) code.nowhere g h = absurd h
receiver-grows t u (Some n) (code.to_new x) g h = absurd h
receiver-grows t u (Some n) (code.to_name x) g h = absurd h

pub kept-grows : (t u : Listing) (o : Option ℕ) (r : Option code.ObjectCode) → Extends t u → IsKept t o r → IsKept u o r
unfolding IsKept
kept-grows t u None None g h = tt
kept-grows t u (Some n) (Some r) g h = g.nodes.keeps n (of_object (object_term r)) h
kept-grows t u None (Some r) g h = absurd h
kept-grows t u (Some n) None g h = absurd h

values-more : (t : Listing) (ns : List ℕ) (vs : List ValueTree) (n : ℕ) (v : ValueTree) → AreValues t ns vs → slice_get (nodes t) n ≡ Some v → AreValues t (ns ++ n ∷ []) (vs ++ v ∷ [])
unfolding AreValues
values-more t [] [] n v h k = (k, tt)
values-more t [] (w ∷ vs) n v h k = absurd h
values-more t (m ∷ ns) [] n v h k = absurd h
values-more t (m ∷ ns) (w ∷ vs) n v h k = (h.0, values-more t ns vs n v h.1 k)

pub no-values : (t : Listing) → AreValues t [] []
unfolding AreValues
no-values t = tt

taken-more : {X : Type 0} (xs : List X) (x : X) (i : ℕ) → slice_get xs i ≡ Some x → take (suc i) xs ≡ take i xs ++ x ∷ []
taken-more [] x i h = absurd (cc)
taken-more (y ∷ ys) x zero h = let same : y ≡ x = cc in ap (λ z. z ∷ []) same
taken-more (y ∷ ys) x (suc i) h = ap (λ zs. y ∷ zs) (taken-more ys x i h)

codes-more : (xs : List AnyCode) (x : AnyCode) (i : ℕ) → slice_get xs i ≡ Some x → map any_code (take (i + 1) xs) ≡ map any_code (take i xs) ++ any_code x ∷ []
codes-more xs x i h = ap (λ k. map any_code (take k xs)) (add-one i) ∙ ap (map any_code) (taken-more xs x i h) ∙ map-append any_code (take i xs) (x ∷ [])

checks-more : (es : List code.AnyCode) (e : code.AnyCode) → all_checks (es ++ e ∷ []) ≡ all_checks es ++ value_checks e
checks-more [] e = append-nil (value_checks e)
checks-more (d ∷ es) e = ap (λ cs. value_checks d ++ cs) (checks-more es e) ∙ sym (append_assoc (value_checks d) (all_checks es) (value_checks e))

module _ (args : List AnyCode) (x : AnyCode) (i : ℕ) (at : slice_get args i ≡ Some x) (t u : Listing) (g : Extends t u) where
  pub nodes-next : (ns ms : List ℕ) (n : ℕ) → ms ≡ ns ++ n ∷ [] → AreValues t ns (map value_term (map any_code (take i args))) → slice_get (nodes u) n ≡ Some (value_term (any_code x)) →
      AreValues u ms (map value_term (map any_code (take (i + 1) args)))
  nodes-next ns ms n e h k =
      let before = map value_term (map any_code (take i args)) in
      let after : map value_term (map any_code (take (i + 1) args)) ≡ before ++ value_term (any_code x) ∷ [] = ap (map value_term) (codes-more args x i at) ∙ map-append value_term (map any_code (take i args)) (any_code x ∷ []) in
      subst (λ (vs : List ValueTree). AreValues u ms vs) (sym after)
      (subst (λ (ks : List ℕ). AreValues u ks (before ++ value_term (any_code x) ∷ [])) (sym e) (values-more u ns before n (value_term (any_code x)) (values-grow t u ns before g h) k))

  pub arg-checks-next : (old mid new : List CheckNode) → AddsChecks t old mid (all_checks (map any_code (take i args))) → AddsChecks u mid new (value_checks (any_code x)) →
      AddsChecks u old new (all_checks (map any_code (take (i + 1) args)))
  arg-checks-next old mid new h k =
      subst (λ (cs : List Check). AddsChecks u old new cs) (sym (ap all_checks (codes-more args x i at) ∙ checks-more (map any_code (take i args)) (any_code x)))
      (adds-two t u old mid new (all_checks (map any_code (take i args))) (value_checks (any_code x)) h g k)

pub all-codes : (args : List AnyCode) (i : ℕ) → length args ≤ i → map any_code (take i args) ≡ map any_code args
all-codes args i le = ap (map any_code) (take_all i args le)
