-- A step that meets its rule from facts that are true together leads to a branch whose facts are.
use Rattle.std.proofs.Common.{◌≡◌, refl, sym, subst, ◌∙◌, ℕ, zero, suc, ◌<◌, ◌==◌, Bool, true, false, not, ◌&&◌, if◌then◌else◌, List, [], ◌∷◌, ◌++◌, ◌⊎◌, inl, inr, Option, Some, None, slice_get}
use Rattle.std.proofs.lemmas.Bool.{true≢false, eqb-true}
use Rattle.jh_name.specs.declared.naming.Name.{Name}
use Rattle.jh_form.specs.Tree.{TermTree, FieldTree, ValueTree, FormulaTree}
use Rattle.jh_form.specs.Tree as t
use Rattle.jh_form.specs.Closed.{is_closed_term, is_closed_value, is_closed_formula, is_closed_fields}
use Rattle.jh_form.specs.Passing.{formula_passes, name_equal}
use Rattle.jh_form.specs.Agreement.{AgreeOn}
use Rattle.jh_form.specs.Assigned.{assigned}
use Rattle.jh_form.specs.Meaning.{Interp, InUniverse, an_object, term_value, datum, truth}
use Rattle.jh_form.proofs.ClosedLemmas.{both-left, both-right}
use Rattle.jh_form.proofs.Coincidences.{truth-agrees}
use Rattle.jh_form.proofs.Names.{name_equal-same}
use Rattle.jh_form.proofs.Universes.{term_inside}
use Rattle.jh_seq.specs.jh_boxed_operations.substitution.Opened.{opened}
use Rattle.jh_seq.proofs.of_jh_boxed_operations.substitution.Openings.{truth-opened}
use Rattle.jh_seq.proofs.of_jh_boxed_operations.comparison.Equalities.{equal_trees-true}
use Rattle.jh_seq.proofs.of_jh_boxed_operations.comparison.ExchangeMeanings.{exchange-keeps}
use Rattle.jh_reach.specs.Axioms.{BaseTree, axioms_of_list}
use Rattle.jh_reach.specs.Truths.{AreClosed, AxiomsAreTrue}
use Rattle.jh_derivation_rules.specs.Cited.{members, are_one, has_axioms, update_of, is_closed_base}
use Rattle.jh_derivation_rules.specs.Steps.{StepTree}
use Rattle.jh_derivation_rules.specs.Steps as s
use Rattle.jh_derivation_rules.specs.Rules.{Rule, equation, pushed, leads_as, described, fact_opened, rule_adds, rule_from, rule_from_two, conjunction_rule, disjunction_rule, implication_rule, equivalence_rule, negation_rule, instance_rule, witness_rule, update_rule, base_needs, base_rule, numbered_rule, axiom_rule, rule_of, is_closed_step, Has, HasAll, IsFresh, Suits, Meets}
use Rattle.jh_derivation_rules.specs.Closes.{AllHold, AreUnsatisfiable}
use Rattle.jh_derivation_rules.proofs.Truths.{true-or-false, both-true, either-true, implies-true, agree-either, not-true, not-false, some-found, every-at}
use Rattle.jh_derivation_rules.proofs.Equations.{Holds, HoldsIf, inside-none, equation-same, same-equation, same-sym, same-trans, reads-true, refuted-false}
use Rattle.jh_derivation_rules.proofs.Openings.{pushed-true, described-true, opened-true}
use Rattle.jh_derivation_rules.proofs.Citing.{LeadsThere, members-closed, holds-if, is-update-leads, leads-as-told, listed-true, update-true}

pub hold-has : (m : Interp) (fs : List FormulaTree) (a : FormulaTree) → AllHold m fs → Has fs a → truth a m [] ≡ true
hold-has m [] a h has = absurd has
hold-has m (b ∷ fs) a h (inl e) = subst (λ c. truth c m [] ≡ true) e h.0
hold-has m (b ∷ fs) a h (inr later) = hold-has m fs a h.1 later

pub hold-all : (m : Interp) (fs needs : List FormulaTree) → AllHold m fs → HasAll fs needs → AllHold m needs
hold-all m fs [] h all = tt
hold-all m fs (a ∷ needs) h all = (hold-has m fs a h all.0, hold-all m fs needs h all.1)

pub hold-append : (m : Interp) (fs more : List FormulaTree) → AllHold m fs → AllHold m more → AllHold m (fs ++ more)
hold-append m [] more h k = k
hold-append m (a ∷ fs) more h k = (h.0, hold-append m fs more h.1 k)

-- the facts of one of the branches are true
abbrev pub SomeHold : Interp → List (List FormulaTree) → Type 0
SomeHold m [] = ⊥
SomeHold m (added ∷ rest) = AllHold m added ⊎ SomeHold m rest

abbrev Sound : Interp → Option Rule → Type 0
Sound m (Some r) = AllHold m r.needs → SomeHold m r.adds
Sound m None = Unit {0}

adds-sound : (m : Interp) (needs : List FormulaTree) (made : Option FormulaTree) → (AllHold m needs → HoldsIf m made) → Sound m (rule_adds needs made)
unfolding rule_adds
adds-sound m needs (Some a) h = λ hold. inl (h hold, tt)
adds-sound m needs None h = tt

from-sound : (m : Interp) (e : Option FormulaTree) (needs : List FormulaTree) (made : Option FormulaTree) → (Holds m e → AllHold m needs → HoldsIf m made) → Sound m (rule_from e needs made)
unfolding rule_from
from-sound m (Some e) needs made h = adds-sound m (e ∷ needs) made (λ hold. h hold.0 hold.1)
from-sound m None needs made h = tt

two-sound : (m : Interp) (e f made : Option FormulaTree) → (Holds m e → Holds m f → HoldsIf m made) → Sound m (rule_from_two e f made)
unfolding rule_from_two
two-sound m (Some e) f made h = from-sound m f (e ∷ []) made (λ k hold. h hold.0 k)
two-sound m None f made h = tt

conjunction-sound : (m : Interp) (a : FormulaTree) → Sound m (conjunction_rule a)
unfolding conjunction_rule
conjunction-sound m (t.and a b) = λ hold. let r = both-true (truth a m []) (truth b m []) hold.0 in inl (r.0, (r.1, tt))
conjunction-sound m _ = tt

disjunction-sound : (m : Interp) (a : FormulaTree) → Sound m (disjunction_rule a)
unfolding disjunction_rule
disjunction-sound m (t.or a b) = λ hold. elim (either-true (truth a m []) (truth b m []) hold.0) [ inl l ↦ inl (l, tt) | inr r ↦ inr (inl (r, tt)) ]
disjunction-sound m _ = tt

implication-sound : (m : Interp) (a : FormulaTree) → Sound m (implication_rule a)
unfolding implication_rule
implication-sound m (t.implies a b) = λ hold. elim (implies-true (truth a m []) (truth b m []) hold.0) [ inl l ↦ inl (l, tt) | inr r ↦ inr (inl (r, tt)) ]
implication-sound m _ = tt

equivalence-sound : (m : Interp) (a : FormulaTree) → Sound m (equivalence_rule a)
unfolding equivalence_rule
equivalence-sound m (t.iff a b) = λ hold. elim (agree-either (truth a m []) (truth b m []) hold.0) [ inl l ↦ inl (l.0, (l.1, tt)) | inr r ↦ inr (inl (r.0, (r.1, tt))) ]
equivalence-sound m _ = tt

negation-sound : (m : Interp) (a : FormulaTree) → Sound m (negation_rule a)
unfolding negation_rule
negation-sound m (t.negation a) = adds-sound m (t.negation a ∷ []) (pushed a) (λ hold. pushed-true m a hold.0)
negation-sound m _ = tt

instance-sound : (m : Interp) → InUniverse m → (a : FormulaTree) (b : TermTree) → is_closed_term b 0 ≡ true → Sound m (instance_rule a b)
unfolding instance_rule
instance-sound m inside (t.all a) b closed = λ hold. inl (truth-opened a b closed m [] ∙ every-at m.last (λ x. truth a m (x ∷ [])) hold.0 (term_value b m []) (term_inside m inside [] (inside-none m.last) b), tt)
instance-sound m inside _ b closed = tt

update-sound : (m : Interp) (f : FieldTree) → Sound m (update_rule f)
unfolding update_rule
update-sound m (t.update f a v) = adds-sound m [] (described (t.update f a v) f a v) (λ hold. described-true m f a v)
update-sound m (t.free_field x) = tt

-- the axioms of reachability that steps cite
if-sound : (m : Interp) (c : Bool) (r : Option Rule) → Sound m r → Sound m (if c then r else None)
if-sound m true r h = h
if-sound m false r h = tt

module _ (m : Interp) (inside : InUniverse m) (truths : AxiomsAreTrue) (fs : List FieldTree) (closed : AreClosed fs) where
  -- where what the axiom needs is true, the member leads where the update leads
  needs-lead : (u : BaseTree) (g : FieldTree) → slice_get fs u.place ≡ Some g → is_closed_base (Some u) ≡ true → (same : Bool) → are_one g (update_of u) ≡ same →
      AllHold m (if same then [] else leads_as g u.field u.at u.value ∷ []) → LeadsThere m g u
  needs-lead u g e base true is hold = is-update-leads m g u (equal_trees-true (t.of_field g) (t.of_field (update_of u)) is)
  needs-lead u g e base false is hold = leads-as-told m fs u g closed e base hold.0

  base-sound : (u : BaseTree) → is_closed_base (Some u) ≡ true → (o : Option FieldTree) → slice_get fs u.place ≡ o → Sound m (base_rule fs u o)
  unfolding base_rule base_needs
  base-sound u base None e = tt
  base-sound u base (Some g) e = λ hold. inl (update-true m inside truths fs closed u g e base (needs-lead u g e base (are_one g (update_of u)) refl hold), tt)

  numbered-sound : (n : ℕ) (base : Option BaseTree) → is_closed_base base ≡ true → Sound m (numbered_rule n fs base)
  unfolding numbered_rule
  numbered-sound zero base h = tt
  numbered-sound (suc k) None h = adds-sound m [] (slice_get (axioms_of_list fs) k) (λ hold. holds-if m (slice_get (axioms_of_list fs) k) (listed-true m inside truths fs closed k))
  numbered-sound (suc k) (Some u) h = if-sound m (k == 9) (base_rule fs u (slice_get fs u.place)) (base-sound u h (slice_get fs u.place) refl)

  axiom-sound : (n : ℕ) (base : Option BaseTree) → is_closed_base base ≡ true → Sound m (axiom_rule n fs base)
  unfolding axiom_rule
  axiom-sound n base h = if-sound m (has_axioms fs) (numbered_rule n fs base) (numbered-sound n base h)

cut-sound : (m : Interp) (a : FormulaTree) → AllHold m (a ∷ []) ⊎ (AllHold m (t.negation a ∷ []) ⊎ ⊥)
cut-sound m a = elim (true-or-false (truth a m [])) [ inl l ↦ inl (l, tt) | inr r ↦ inr (inl (not-false (truth a m []) r, tt)) ]

equal-terms : (m : Interp) (a b : TermTree) → truth (t.eq_object a b) m [] ≡ true → term_value a m [] ≡ term_value b m []
equal-terms m a b h = eqb-true (term_value a m []) (term_value b m []) h

closed-third : (a b : FormulaTree) (v w : ValueTree) → (is_closed_formula a 0 && is_closed_formula b 0 && is_closed_value v 0 && is_closed_value w 0) ≡ true → is_closed_value v 0 ≡ true
closed-third a b v w h = both-right (is_closed_formula a 0 && is_closed_formula b 0) (is_closed_value v 0) (both-left (is_closed_formula a 0 && is_closed_formula b 0 && is_closed_value v 0) (is_closed_value w 0) h)

closed-fourth : (a b : FormulaTree) (v w : ValueTree) → (is_closed_formula a 0 && is_closed_formula b 0 && is_closed_value v 0 && is_closed_value w 0) ≡ true → is_closed_value w 0 ≡ true
closed-fourth a b v w h = both-right (is_closed_formula a 0 && is_closed_formula b 0 && is_closed_value v 0) (is_closed_value w 0) h

-- every step but one that takes a witness, which changes the interpretation
abbrev IsPlain : StepTree → Type 0
IsPlain (s.witness a x) = ⊥
IsPlain _ = Unit {0}

plain-sound : AxiomsAreTrue → (m : Interp) → InUniverse m → (fs : List FormulaTree) (x : StepTree) → IsPlain x → is_closed_step x ≡ true → Suits fs x → Sound m (rule_of x)
unfolding rule_of is_closed_step
plain-sound truths m inside fs s.absurdity plain closed suits = λ hold. true≢false (sym hold.0)
plain-sound truths m inside fs (s.pair a) plain closed suits = λ hold. not-true (truth a m []) hold.1.0 hold.0
plain-sound truths m inside fs (s.reflexive a) plain closed suits = λ hold. refuted-false m a suits hold.0
plain-sound truths m inside fs (s.symmetric v w) plain closed suits =
    from-sound m (equation v w) [] (equation w v) (λ h hold. same-equation m w v (same-sym m.last (datum v m []) (datum w m []) (equation-same m v w h)))
plain-sound truths m inside fs (s.transitive v w x) plain closed suits =
    two-sound m (equation v w) (equation w x) (equation v x)
    (λ h k. same-equation m v x (same-trans m.last (datum v m []) (datum w m []) (datum x m []) (equation-same m v w h) (equation-same m w x k)))
plain-sound truths m inside fs (s.reading k f a b) plain closed suits = λ hold. inl (reads-true m k f a b (equal-terms m a b hold.0), tt)
plain-sound truths m inside fs (s.replacing a b v w) plain closed suits =
    from-sound m (equation v w) (a ∷ []) (Some b)
    (λ h hold. sym (exchange-keeps a b v w suits (closed-third a b v w closed) (closed-fourth a b v w closed) m inside (equation-same m v w h) [] (inside-none m.last)) ∙ hold.0)
plain-sound truths m inside fs (s.conjuncts a) plain closed suits = conjunction-sound m a
plain-sound truths m inside fs (s.disjuncts a) plain closed suits = disjunction-sound m a
plain-sound truths m inside fs (s.implication a) plain closed suits = implication-sound m a
plain-sound truths m inside fs (s.equivalence a) plain closed suits = equivalence-sound m a
plain-sound truths m inside fs (s.inward a) plain closed suits = negation-sound m a
plain-sound truths m inside fs (s.instance_at a b) plain closed suits = instance-sound m inside a b (both-right (is_closed_formula a 0) (is_closed_term b 0) closed)
plain-sound truths m inside fs (s.witness a x) plain closed suits = absurd plain
plain-sound truths m inside fs (s.cut a) plain closed suits = λ hold. cut-sound m a
plain-sound truths m inside fs (s.updating f) plain closed suits = update-sound m f
plain-sound truths m inside fs (s.axiom_of n gs base) plain closed suits =
    axiom-sound m inside truths (members gs) (members-closed gs (both-left (is_closed_fields gs 0) (is_closed_base base) closed)) n base (both-right (is_closed_fields gs 0) (is_closed_base base) closed)
plain-sound truths m inside fs (s.relation a) plain closed suits = adds-sound m (a ∷ []) (fact_opened a) (λ hold. opened-true m a closed hold.0)

-- A witness: the interpretation with an object for the name makes the old facts and the new one true.
fresh-holds : (m n : Interp) (fs : List FormulaTree) (x : Name) → AgreeOn (λ y u. not (name_equal y x)) m n → IsFresh fs x → AllHold m fs → AllHold n fs
fresh-holds m n [] x both fresh h = tt
fresh-holds m n (a ∷ fs) x both fresh h = (sym (truth-agrees (λ y u. not (name_equal y x)) m n both a [] fresh.0) ∙ h.0, fresh-holds m n fs x both fresh.1 h.1)

fresh-has : (fs : List FormulaTree) (x : Name) (a : FormulaTree) → IsFresh fs x → Has fs a → formula_passes a (λ y u. not (name_equal y x)) ≡ true
fresh-has [] x a fresh has = absurd has
fresh-has (b ∷ fs) x a fresh (inl e) = subst (λ c. formula_passes c (λ y u. not (name_equal y x)) ≡ true) e fresh.0
fresh-has (b ∷ fs) x a fresh (inr later) = fresh-has fs x a fresh.1 later

unchosen : (v w : ℕ) (b : Bool) → not b ≡ true → w ≡ (if b then v else w)
unchosen v w true h = absurd (true≢false (sym h))
unchosen v w false h = refl

chosen-inside : (v w n : ℕ) (b : Bool) → v < suc n → w < suc n → (if b then v else w) < suc n
chosen-inside v w n true h k = h
chosen-inside v w n false h k = k

assigned-agrees : (m : Interp) (x : Name) (v : ℕ) → AgreeOn (λ y u. not (name_equal y x)) m (assigned m x (an_object v))
assigned-agrees m x v = record {
  last = refl;
  object = λ y h. unchosen v (m.object y) (name_equal y x) h;
  number = λ y h. refl;
  truth = λ y h. refl;
  set = λ y h. refl;
  field = λ y h. refl;
}

assigned-inside : (m : Interp) (x : Name) (v : ℕ) → v < suc m.last → InUniverse m → InUniverse (assigned m x (an_object v))
assigned-inside m x v lt inside = record {
  object = λ y. chosen-inside v (m.object y) m.last (name_equal y x) lt (inside.object y);
  field = inside.field;
}

is-object : (m : Interp) (x : Name) (v : ℕ) → (assigned m x (an_object v)).object x ≡ v
is-object m x v = λ i. if name_equal-same x x refl i then v else m.object x

witness-clash : (fs : List FormulaTree) (a : FormulaTree) (x : Name) → IsFresh fs x → Has fs (t.ex a) → AreUnsatisfiable (fs ++ opened a (t.free_object x) ∷ []) → AreUnsatisfiable fs
unfolding formula_passes is_closed_term
witness-clash fs a x fresh has clash m inside hold =
    let found = some-found m.last (λ y. truth a m (y ∷ [])) (hold-has m fs (t.ex a) hold has) in
    let n = assigned m x (an_object found.0) in
    let both : AgreeOn (λ y u. not (name_equal y x)) m n = assigned-agrees m x found.0 in
    let passes : formula_passes a (λ y u. not (name_equal y x)) ≡ true = fresh-has fs x (t.ex a) fresh has in
    let here : truth (opened a (t.free_object x)) n [] ≡ true =
    truth-opened a (t.free_object x) refl n [] ∙ (λ i. truth a n (is-object m x found.0 i ∷ [])) ∙ sym (truth-agrees (λ y u. not (name_equal y x)) m n both a (found.0 ∷ []) passes) ∙ found.2 in
    clash n (assigned-inside m x found.0 found.1 inside) (hold-append n fs (opened a (t.free_object x) ∷ []) (fresh-holds m n fs x both fresh hold) (here, tt))

-- each branch clashes
abbrev pub BranchesClash : List FormulaTree → List (List FormulaTree) → Type 0
BranchesClash fs [] = Unit {0}
BranchesClash fs (added ∷ rest) = AreUnsatisfiable (fs ++ added) × BranchesClash fs rest

some-clash : (m : Interp) (fs : List FormulaTree) (adds : List (List FormulaTree)) → InUniverse m → AllHold m fs → BranchesClash fs adds → SomeHold m adds → ⊥
some-clash m fs [] inside hold clash found = found
some-clash m fs (added ∷ rest) inside hold clash (inl here) = clash.0 m inside (hold-append m fs added hold here)
some-clash m fs (added ∷ rest) inside hold clash (inr later) = some-clash m fs rest inside hold clash.1 later

plain-clash : AxiomsAreTrue → (fs : List FormulaTree) (x : StepTree) (r : Rule) → IsPlain x → Meets fs x r → BranchesClash fs r.adds → AreUnsatisfiable fs
plain-clash truths fs x r plain meets clash m inside hold =
    let sound : Sound m (Some r) = subst (λ (o : Option Rule). Sound m o) meets.form (plain-sound truths m inside fs x plain meets.closed meets.suits) in
    some-clash m fs r.adds inside hold clash (sound (hold-all m fs r.needs hold meets.facts))

-- the rule of a witness, where its formula is existential
abbrev IsWitness : List FormulaTree → FormulaTree → Name → Option Rule → Type 0
IsWitness fs a x (Some r) = HasAll fs r.needs → BranchesClash fs r.adds → IsFresh fs x → AreUnsatisfiable fs
IsWitness fs a x None = Unit {0}

witness-rule : (fs : List FormulaTree) (a : FormulaTree) (x : Name) → IsWitness fs a x (witness_rule a x)
unfolding witness_rule
witness-rule fs (t.ex a) x = λ has clash fresh. witness-clash fs a x fresh has.0 clash.0
witness-rule fs _ x = tt

taken-clash : (fs : List FormulaTree) (a : FormulaTree) (x : Name) (r : Rule) → Meets fs (s.witness a x) r → BranchesClash fs r.adds → AreUnsatisfiable fs
unfolding rule_of
taken-clash fs a x r meets clash =
    let taken : IsWitness fs a x (Some r) = subst (λ (o : Option Rule). IsWitness fs a x o) meets.form (witness-rule fs a x) in
    taken meets.facts clash meets.suits

pub step-clash : AxiomsAreTrue → (fs : List FormulaTree) (x : StepTree) (r : Rule) → Meets fs x r → BranchesClash fs r.adds → AreUnsatisfiable fs
step-clash truths fs (s.witness a x) r meets clash = taken-clash fs a x r meets clash
step-clash truths fs x r meets clash = plain-clash truths fs x r tt meets clash
