-- New objects.
use Rattle.std.proofs.Common.{◌≡◌, refl, sym, ap, ◌∙◌, subst, ℕ, suc, ◌<◌, ◌≤◌, ◌==◌, nat_lt, Bool, true, false, not, ◌&&◌, ◌||◌, List, [], ◌∷◌, Option, codes, arith}
use Rattle.std.proofs.lemmas.Bool.{true≢false}
use Rattle.jh_name.specs.declared.naming.Name.{Name}
use Rattle.jh_name.specs.declared.place.Place.{Place}
use Rattle.jh_form.specs.Tree.{FormulaTree, ValueTree, TermTree}
use Rattle.jh_form.specs.Tree as t
use Rattle.jh_form.specs.Meaning.{Interp, Datum, an_object, a_set, truth, datum, term_value}
use Rattle.jh_form.specs.Assigned.{assigned}
use Rattle.jh_rules.specs.declared.types.Ty.{Ty}
use Rattle.jh_vars.specs.Written.{Callee}
use Rattle.jh_wp.specs.Command.{CommandTree}
use Rattle.jh_wp.specs.Command as w
use Rattle.jh_wp.specs.Renamed.{copied}
use Rattle.jh_semantics.specs.Code.{Text, ObjectCode, Target}
use Rattle.jh_semantics.specs.Code as c
use Rattle.jh_semantics.specs.Program.{Program}
use Rattle.jh_semantics.specs.State.{State, named, alloc_name}
use Rattle.jh_semantics.specs.Objects.{is_free, joining, created, pick, target_of, put}
use Rattle.jh_semantics.specs.Progress.{Configuration, Progress, with_value}
use Rattle.jh_semantics.specs.Typed.{NamesFit}
use Rattle.jh_semantics.proofs.Inside.{Lies, free-lies}
use Rattle.jh_guard.specs.Terms.{object_term}
use Rattle.jh_guard.specs.Laws.{AllPass}
use Rattle.jh_guard.specs.Writes.{Writes}
use Rattle.jh_guard.specs.Steps.{fresh, target_checks}
use Rattle.jh_guard.specs.Steps as step
use Rattle.jh_guard.specs.Statements.{new_text, new_steps, is_new, joins}
use Rattle.jh_guard.proofs.Checking.{Has, has-one}
use Rattle.jh_logic.specs.logic.Histories.{viewed, Gives, Below, Inner, Holds, Respects}
use Rattle.jh_logic.specs.logic.Reached.{After}
use Rattle.jh_logic.specs.logic.Sure.{Sure}
use Rattle.jh_logic.proofs.logic.Views.{viewed-assigned, copied-known, viewed-fresh}
use Rattle.jh_logic.proofs.logic.Reaching.{checked}
use Rattle.jh_logic.proofs.logic.Histories.{gives-then, gives-back, below-refl, below-trans, noting, noting-below, noting-gives, noting-inner}
use Rattle.jh_logic.proofs.logic.Going.{sure-pay, sure-value, sure-pick}
use Rattle.jh_logic.proofs.logic.Puts.{Leads, Returned, target_value, target-there, put-safe}
use Rattle.jh_logic.proofs.logic.Statements.{SafeStmt}

-- an interpretation in which every name is one object
abbrev only_object : Interp → ℕ → Interp
only_object h a = record h { object = λ x. a }

-- terms of code look at no set
object-sets : (e : ObjectCode) (m : Interp) (f : Name → ℕ → Bool) → term_value (object_term e) (record m { set = f }) [] ≡ term_value (object_term e) m []
object-sets c.null m f = refl
object-sets c.this m f = refl
object-sets (c.object x) m f = refl
object-sets (c.read_object g r p) m f = λ i. (m.field (named g)).objects (object-sets r m f i)

target-sets : (target : Target) (m : Interp) (f : Name → ℕ → Bool) → target_value target (record m { set = f }) ≡ target_value target m
target-sets c.nowhere m f = refl
target-sets (c.to_new x) m f = refl
target-sets (c.to_name x) m f = refl
target-sets (c.to_field g r p) m f = object-sets r m f

free-new : (a b d : Bool) → (not a && b && not d) ≡ true → (not a && not d) ≡ true
free-new false true false h = refl
free-new true b d h = absurd (true≢false (sym h))
free-new false false d h = absurd (true≢false (sym h))
free-new false true true h = absurd (true≢false (sym h))

module _ (p : Program) (ws : Writes) (names : NamesFit p) (n : ℕ) (result : Ty) (this : Option ℕ) (R : Interp → Type 0) (respect : Respects R) (call : Callee → ℕ → List Datum → Configuration → Progress) where
  -- the steps of a new object, from the state where it is made
  made-safe : (target : Target) (class : Text) (k : ℕ) (h : Interp) (r : Configuration) (a b : ℕ) (rest : List ℕ) (Q : Interp → Type 0) → 2 ≤ k → Inner n h → Lies n r.now → is_free r.now b ≡ true →
      ((m : Interp) → Inner n m → Below k h m → target_value target (viewed r.now r.entry m) ≡ a) →
      Holds n k h r.now r.entry (λ m. After R (new_steps target class (fresh new_text k) (fresh new_text (suc k))) Q m) →
      Sure (λ u. Leads n (suc (suc k)) u.now u.entry Q) (Returned n R) (put target a (an_object b) (record r { picks = rest; now = created r.now class b }))
  made-safe target class k h r a b rest Q le inner lies free aimed H =
      let x : Name = fresh new_text k in
      let y : Name = fresh new_text (suc k) in
      let only : Interp = only_object h b in
      let first : Interp = noting h x only x in
      let j : Interp = noting first y only x in
      let in-n : b < suc n = free-lies n r.now b lies free in
      let first-inner : Inner n first = noting-inner n h x only x inner in-n (inner.field x) in
      let j-inner : Inner n j = noting-inner n first y only x first-inner in-n (inner.field x) in
      let below : Below k h j = below-trans k (suc k) h first j (omega arith) (noting-below h x only x) (noting-below first y only x) in
      let at-x : (m : Interp) → Below (suc (suc k)) j m → Gives m x only x =
      λ m l. gives-then m j only x x x (l x (omega arith)) (gives-then j first only x x x (noting-below first y only x x (omega arith)) (noting-gives h x only x)) in
      let at-y : (m : Interp) → Below (suc (suc k)) j m → Gives m y only x = λ m l. gives-then m j only y y x (l y (omega arith)) (noting-gives first y only x) in
      let s : State = r.now in
      let o : State = r.entry in
      let u : Configuration = record r { picks = rest; now = created s class b } in
      let named-b : (m : Interp) → Inner n m → Below (suc (suc k)) j m → datum (t.of_object (t.free_object x)) (viewed (created s class b) o m) [] ≡ an_object b =
      λ m i l. ap (λ v. an_object v) ((viewed-fresh (created s class b) o m x le).object ∙ (at-x m l).object) in
      let still : (m : Interp) → Inner n m → Below (suc (suc k)) j m → target_value target (viewed (created s class b) o m) ≡ a =
      λ m i l. target-sets target (viewed s o m) (viewed (created s class b) o m).set ∙ aimed m i (below-trans k (suc (suc k)) h j m (omega arith) below l) in
      let after : (m : Interp) → Inner n m → Below (suc (suc k)) j m → After R (step.put target (t.of_object (t.free_object x))) Q (viewed (created s class b) o m) =
      λ m i l.
      let V : Interp = viewed s o m in
      let is-b : V.object x ≡ b = (viewed-fresh s o m x le).object ∙ (at-x m l).object in
      let gone : copied V x y ≡ V = copied-known V x y
      (gives-then V only V y x x (gives-then V m only y y x (viewed-fresh s o m y (omega (arith, le))) (at-y m l)) (gives-back V only x x (gives-then V m only x x x (viewed-fresh s o m x le) (at-x m l)))) in
      let steps : List CommandTree = w.assume (is_new (t.free_object x)) ∷ joins alloc_name (t.free_object x) ∷ joins (named class) (t.free_object x) ∷ step.put target (t.of_object (t.free_object x)) in
      let begun : After R steps Q V = subst (λ (z : Interp). After R steps Q z) gone (H m i (below-trans k (suc (suc k)) h j m (omega arith) below l)) in
      let new : truth (is_new (t.free_object x)) V [] ≡ true = (λ q. not (is-b q == 0) && not (s.set alloc_name (is-b q))) ∙ free-new (b == 0) (nat_lt b (suc s.last)) (s.set alloc_name b) free in
      let one : assigned V alloc_name (a_set (λ z. s.set alloc_name z || z == V.object x)) ≡ viewed (joining s alloc_name b) o m =
      (λ q. assigned V alloc_name (a_set (λ z. s.set alloc_name z || z == is-b q))) ∙ viewed-assigned s o m (codes "alloc") (a_set (λ z. s.set alloc_name z || z == b)) in
      let t1 : State = joining s alloc_name b in
      let two : assigned (viewed t1 o m) (named class) (a_set (λ z. t1.set (named class) z || z == V.object x)) ≡ viewed (joining t1 (named class) b) o m =
      (λ q. assigned (viewed t1 o m) (named class) (a_set (λ z. t1.set (named class) z || z == is-b q))) ∙ viewed-assigned t1 o m class (a_set (λ z. t1.set (named class) z || z == b)) in
      subst (λ (z : Interp). After R (step.put target (t.of_object (t.free_object x))) Q z) two
      (subst (λ (z : Interp). After R (joins (named class) (t.free_object x) ∷ step.put target (t.of_object (t.free_object x))) Q z) one (begun new)) in
      put-safe n R (suc (suc k)) j u target a (an_object b) (t.of_object (t.free_object x)) Q j-inner tt named-b still after

  pub new-safe : (q : Place) (target : Target) (class : Text) → SafeStmt p ws names n result this R respect call (c.new_object q target class)
  new-safe place target class scope at fits k h r Q q b H =
      let rest : List CommandTree = new_steps target class (fresh new_text k) (fresh new_text (suc k)) in
      let V : Interp → Interp = λ m. viewed r.now r.entry m in
      let split : (m : Interp) → Inner n m → Below k h m → AllPass (target_checks target) (V m) × After R rest Q (V m) = λ m i l. checked R (target_checks target) rest Q (V m) (H m i l) in
      let aimed : (m : Interp) → Inner n m → Below k h m → Has (target_of target r.now) (target_value target (V m)) = λ m i l. target-there target r.now r.entry m (split m i l).0 in
      let here : Below k h h = below-refl k h in
      let a : ℕ = target_value target (V h) in
      sure-pay (λ u. Leads n (suc (suc k)) u.now u.entry Q) (Returned n R) r (λ u. with_value (target_of target u.now) (λ z. pick place u.picks u (λ y v. put target z (an_object y) (record v { now = created v.now class y })))) (λ j paid.
      let u : Configuration = record r { steps = j } in
      sure-value (λ u. Leads n (suc (suc k)) u.now u.entry Q) (Returned n R) (target_of target r.now) a (λ z. pick place u.picks u (λ y v. put target z (an_object y) (record v { now = created v.now class y }))) (aimed h b.inner here)
      (sure-pick (λ u. Leads n (suc (suc k)) u.now u.entry Q) (Returned n R) place u.picks u (λ y v. put target a (an_object y) (record v { now = created v.now class y })) (λ y more free.
      made-safe target class k h u a y more Q b.late b.inner ((b.good).0).now free
      (λ m i l. has-one (target_of target r.now) (target_value target (V m)) a (aimed m i l) (aimed h b.inner here)) (λ m i l. (split m i l).1))))
