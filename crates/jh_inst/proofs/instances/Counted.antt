-- What is made of a sequent is no more than its facts and what is counted.
use Rattle.std.proofs.Common.{◌≡◌, refl, sym, ap, subst, ℕ, suc, ◌+◌, ◌≤◌, arith, length, true, ◌&&◌, List, [], ◌∷◌, ◌++◌, inl, inr, map}
use Rattle.std.specs.List.{list_all}
use Rattle.jh_name.specs.declared.naming.Name.{Name}
use Rattle.std.proofs.lemmas.Bool.{true≢false}
use Rattle.jh_form.specs.Tree.{TermTree, IntTree, SetTree, FieldTree, FormulaTree, FieldTrees}
use Rattle.jh_form.specs.Tree as t
use Rattle.jh_form.specs.Closed.{is_closed_term}
use Rattle.jh_form.proofs.ClosedLemmas.{both-left, both-right}
use Rattle.jh_normal_forms.specs.negation_normal_form.Normal.{normal}
use Rattle.jh_boxed_operations.specs.comparison.Unmarked.{unmarked_term, unmarked_int, unmarked_set, unmarked_field, unmarked_formula, unmarked_fields}
use Rattle.jh_seq.specs.sequent.Sequents.{HypTree, SequentTree}
use Rattle.jh_seq.specs.splitting.Local.{is_field_name, are_field_names, is_local_term, is_local_number, is_local_set, has_local_shape, is_local}
use Rattle.jh_inst.specs.instances.Witnesses.{witnesses, witnessed, constants_from}
use Rattle.jh_inst.specs.instances.Terms.{terms_in}
use Rattle.jh_inst.specs.instances.Entries.{Entry, formulas, conjuncts, part_of, parts_of, taken}
use Rattle.jh_inst.specs.instances.Rounds.{begun, rounds, all_made}
use Rattle.jh_inst.specs.instances.Instances.{normal_facts, made}
use Rattle.jh_inst.specs.instances.Count.{tally, tally_rounds, count_all, count}
use Rattle.jh_inst.proofs.instances.Growth.{Has, has-all, Whole, AllLocal, whole-all}
use Rattle.jh_inst.proofs.instances.Lengths.{In}
use Rattle.jh_inst.proofs.instances.Putting.{formulas-both}
use Rattle.jh_inst.proofs.instances.Shaped.{witnessed-shaped, prenex-shaped, normal-shaped}
use Rattle.jh_inst.proofs.instances.Tallies.{Cover, Bounded, universals-hand, groups-cover, local-both, local-universal, has-universal, rounds-bounded, ended-bounded}

conjuncts-local : (a : FormulaTree) → has_local_shape a ≡ true → AllLocal (conjuncts a)
conjuncts-local (t.and a b) l = local-both (conjuncts a) (conjuncts b) (conjuncts-local a (both-left (has_local_shape a) (has_local_shape b) l)) (conjuncts-local b (both-right (has_local_shape a) (has_local_shape b) l))
conjuncts-local a l = (l, tt)

parts-local : (n : ℕ) (fresh : List Name) (xs : List FormulaTree) → AllLocal xs → AllLocal (formulas (map (part_of n fresh) xs))
parts-local n fresh [] l = tt
parts-local n fresh (a ∷ xs) l = (prenex-shaped a l.0, parts-local n fresh xs l.1)

pub taken-local : (facts : List FormulaTree) (n k : ℕ) → AllLocal facts → AllLocal (formulas (taken facts n k))
taken-local [] n k l = tt
taken-local (a ∷ more) n k l =
    subst AllLocal (sym (formulas-both (parts_of n a k) (taken more (suc n) (k + witnesses a))))
    (local-both (formulas (parts_of n a k)) (formulas (taken more (suc n) (k + witnesses a)))
    (parts-local n (constants_from k (witnesses a)) (conjuncts (witnessed a [] k)) (conjuncts-local (witnessed a [] k) (witnessed-shaped a [] k l.0))) (taken-local more (suc n) (k + witnesses a) l.1))

pub null-whole : Whole (t.null ∷ [])
unfolding is_closed_term
null-whole w (inl e) = (ap (λ z. is_closed_term z 0) e, ap is_local_term e, inl e, λ x h. subst (λ z. In x (terms_in z)) e h)
null-whole w (inr h) = absurd h

begun-bounded : (facts : List FormulaTree) (k : ℕ) → AllLocal facts → Bounded (length (taken facts 0 k)) (begun facts k) (tally (begun facts k))
begun-bounded facts k l =
    let es : List Entry = taken facts 0 k in
    let local : AllLocal (formulas es) = taken-local facts 0 k l in
    let hands = universals-hand 0 es in record {
      entries = omega arith;
      terms = omega arith;
      cover = subst (λ z. Cover z (tally (begun facts k)).at_hand) (sym hands) (groups-cover es);
      local = subst AllLocal (sym hands) (local-universal (formulas es) local);
      has = subst (λ z. Has (begun facts k).terms z) (sym hands) (has-universal (begun facts k).terms (formulas es) (has-all (t.null ∷ []) (formulas es)));
      whole = whole-all (t.null ∷ []) (formulas es) local null-whole;
    }

pub made-counted : (facts : List FormulaTree) (k r : ℕ) → AllLocal facts → length (all_made facts k r) ≤ length (taken facts 0 k) + count_all facts k r
made-counted facts k r l = ended-bounded (length (taken facts 0 k)) (rounds r (begun facts k)) (tally_rounds r (tally (begun facts k))) (rounds-bounded (length (taken facts 0 k)) r (begun facts k) (tally (begun facts k)) (begun-bounded facts k l))

-- a formula without its labels
field-bare : (f : FieldTree) → is_field_name f ≡ true → is_field_name (unmarked_field f) ≡ true
unfolding unmarked_field
field-bare (t.free_field x) h = refl
field-bare (t.update f a v) h = absurd (true≢false (sym h))

fields-bare : (fs : FieldTrees) → are_field_names fs ≡ true → are_field_names (unmarked_fields fs) ≡ true
unfolding unmarked_fields
fields-bare t.none h = refl
fields-bare (t.more f fs) h = λ i. field-bare f (both-left (is_field_name f) (are_field_names fs) h) i && fields-bare fs (both-right (is_field_name f) (are_field_names fs) h) i

term-bare : (a : TermTree) → is_local_term a ≡ true → is_local_term (unmarked_term a) ≡ true
unfolding unmarked_term
term-bare (t.bound k) h = refl
term-bare (t.free_object x) h = refl
term-bare t.null h = refl
term-bare (t.read_object f a) h = λ i. field-bare f (both-left (is_field_name f) (is_local_term a) h) i && term-bare a (both-right (is_field_name f) (is_local_term a) h) i

number-bare : (a : IntTree) → is_local_number a ≡ true → is_local_number (unmarked_int a) ≡ true
unfolding unmarked_int
number-bare (t.const z) h = refl
number-bare (t.free_number x) h = refl
number-bare (t.read_number f a) h = λ i. field-bare f (both-left (is_field_name f) (is_local_term a) h) i && term-bare a (both-right (is_field_name f) (is_local_term a) h) i
number-bare _ h = absurd (true≢false (sym h))

set-bare : (a : SetTree) → is_local_set a ≡ true → is_local_set (unmarked_set a) ≡ true
unfolding unmarked_set
set-bare (t.free_set x) h = refl
set-bare (t.read_set f a) h = λ i. field-bare f (both-left (is_field_name f) (is_local_term a) h) i && term-bare a (both-right (is_field_name f) (is_local_term a) h) i
set-bare _ h = absurd (true≢false (sym h))

bare-shaped : (a : FormulaTree) → has_local_shape a ≡ true → has_local_shape (unmarked_formula a) ≡ true
unfolding unmarked_formula
bare-shaped t.true_formula h = refl
bare-shaped t.false_formula h = refl
bare-shaped (t.free_truth x) h = refl
bare-shaped (t.read_truth f a) h = λ i. field-bare f (both-left (is_field_name f) (is_local_term a) h) i && term-bare a (both-right (is_field_name f) (is_local_term a) h) i
bare-shaped (t.negation a) h = bare-shaped a h
bare-shaped (t.and a b) h = λ i. bare-shaped a (both-left (has_local_shape a) (has_local_shape b) h) i && bare-shaped b (both-right (has_local_shape a) (has_local_shape b) h) i
bare-shaped (t.or a b) h = λ i. bare-shaped a (both-left (has_local_shape a) (has_local_shape b) h) i && bare-shaped b (both-right (has_local_shape a) (has_local_shape b) h) i
bare-shaped (t.implies a b) h = λ i. bare-shaped a (both-left (has_local_shape a) (has_local_shape b) h) i && bare-shaped b (both-right (has_local_shape a) (has_local_shape b) h) i
bare-shaped (t.iff a b) h = λ i. bare-shaped a (both-left (has_local_shape a) (has_local_shape b) h) i && bare-shaped b (both-right (has_local_shape a) (has_local_shape b) h) i
bare-shaped (t.all a) h = bare-shaped a h
bare-shaped (t.ex a) h = bare-shaped a h
bare-shaped (t.eq_object a b) h = λ i. term-bare a (both-left (is_local_term a) (is_local_term b) h) i && term-bare b (both-right (is_local_term a) (is_local_term b) h) i
bare-shaped (t.eq_number a b) h = λ i. number-bare a (both-left (is_local_number a) (is_local_number b) h) i && number-bare b (both-right (is_local_number a) (is_local_number b) h) i
bare-shaped (t.member a b) h = λ i. term-bare a (both-left (is_local_term a) (is_local_set b) h) i && set-bare b (both-right (is_local_term a) (is_local_set b) h) i
bare-shaped (t.reach fs a b) h = λ i.
    fields-bare fs (both-left (are_field_names fs) (is_local_term a) (both-left (are_field_names fs && is_local_term a) (is_local_term b) h)) i
    && term-bare a (both-right (are_field_names fs) (is_local_term a) (both-left (are_field_names fs && is_local_term a) (is_local_term b) h)) i
    && term-bare b (both-right (are_field_names fs && is_local_term a) (is_local_term b) h) i
bare-shaped (t.tree fs) h = fields-bare fs h
bare-shaped (t.mark k a) h = bare-shaped a h
bare-shaped _ h = absurd (true≢false (sym h))

hyps-local : (hs : List HypTree) (rest : List FormulaTree) → list_all (λ h. has_local_shape h.fact) hs ≡ true → AllLocal (map (λ a. normal a true) rest) →
    AllLocal (map (λ a. normal a true) (map (λ (h : HypTree). unmarked_formula h.fact) hs ++ rest))
hyps-local [] rest l g = g
hyps-local (h ∷ hs) rest l g = (
  normal-shaped (unmarked_formula h.fact) true (bare-shaped h.fact (both-left (has_local_shape h.fact) (list_all (λ k. has_local_shape k.fact) hs) l)),
  hyps-local hs rest (both-right (has_local_shape h.fact) (list_all (λ k. has_local_shape k.fact) hs) l) g,
)

pub facts-local : (s : SequentTree) → is_local s ≡ true → AllLocal (normal_facts s)
facts-local s l =
    hyps-local s.hyps (t.negation (unmarked_formula s.goal) ∷ []) (both-left (list_all (λ h. has_local_shape h.fact) s.hyps) (has_local_shape s.goal) l)
    (normal-shaped (t.negation (unmarked_formula s.goal)) true (bare-shaped s.goal (both-right (list_all (λ h. has_local_shape h.fact) s.hyps) (has_local_shape s.goal) l)), tt)

pub sequent-counted : (s : SequentTree) (k r : ℕ) → is_local s ≡ true → length (made s k r) ≤ length (taken (normal_facts s) 0 k) + count s k r
sequent-counted s k r l = made-counted (normal_facts s) k r (facts-local s l)
