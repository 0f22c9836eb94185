-- What has to be so before a command can't tell interpretations apart that say the same of a universe.
use Rattle.std.proofs.Common.{◌≡◌, sym, ◌∙◌, ℕ, suc, ◌<◌, Bool, true, false, if◌then◌else◌, List, [], ◌∷◌, arith}
use Rattle.jh_name.specs.declared.naming.Name.{Name}
use Rattle.jh_form.specs.Tree.{ValueTree, FormulaTree}
use Rattle.jh_form.specs.Tree as t
use Rattle.jh_form.specs.Meaning.{Interp, InUniverse, Datum, Fields, an_object, a_number, a_truth, a_set, a_field, truth, datum}
use Rattle.jh_form.specs.Assigned.{assigned}
use Rattle.jh_form.specs.Passing.{name_equal}
use Rattle.jh_form.proofs.Universes.{term_inside, field_inside}
use Rattle.jh_boxed_operations.specs.comparison.Inside.{SameMembers, SameFields, SameIn, AreInside}
use Rattle.jh_wp.specs.Renamed.{copied}
use Rattle.jh_wp.specs.Command.{CommandTree, CommandTrees, assume, assert, assign, havoc, leave, stop, seq, choice, none, more}
use Rattle.jh_logic.specs.logic.Reached.{Reached, ReachedAll, After}
use Rattle.jh_logic.specs.logic.Histories.{Alike, Respects}
use Rattle.jh_logic.proofs.logic.Alikes.{truth-alike, datum-alike}

no-objects : (n : ℕ) → AreInside n []
no-objects n k = omega arith

pub alike-truth : (f : FormulaTree) (m w : Interp) → InUniverse m → Alike m w → truth f m [] ≡ truth f w []
alike-truth f m w u same = truth-alike m w u same f [] (no-objects m.last)

pub alike-datum : (v : ValueTree) (m w : Interp) → InUniverse m → Alike m w → SameIn m.last (datum v m []) (datum v w [])
alike-datum v m w u same = datum-alike m w u same v [] (no-objects m.last)

one-object : (n : ℕ) (v w : ℕ) (b : Bool) → v < suc n → w < suc n → (if b then v else w) < suc n
one-object n v w true h k = h
one-object n v w false h k = k

one-field : (n : ℕ) (f g : Fields) (b : Bool) → ((a : ℕ) → a < suc n → f.objects a < suc n) → ((a : ℕ) → a < suc n → g.objects a < suc n) → (a : ℕ) → a < suc n → (if b then f else g).objects a < suc n
one-field n f g true h k = h
one-field n f g false h k = k

-- an object or a field that is in the universe
abbrev pub DatumInside : ℕ → Datum → Type 0
DatumInside n (an_object v) = v < suc n
DatumInside n (a_field f) = (a : ℕ) → a < suc n → f.objects a < suc n
DatumInside n _ = Unit {0}

pub datum-inside : (v : ValueTree) (m : Interp) → InUniverse m → DatumInside m.last (datum v m [])
datum-inside (t.of_object a) m u = term_inside m u [] (no-objects m.last) a
datum-inside (t.of_number a) m u = tt
datum-inside (t.of_truth a) m u = tt
datum-inside (t.of_set a) m u = tt
datum-inside (t.of_field a) m u = field_inside m u [] (no-objects m.last) a

pub assigned-universe : (m : Interp) (x : Name) (d : Datum) → InUniverse m → DatumInside m.last d → InUniverse (assigned m x d)
assigned-universe m x (an_object v) u h = record { object = λ y. one-object m.last v (m.object y) (name_equal y x) h (u.object y); field = λ y. u.field y }
assigned-universe m x (a_number v) u h = record { object = λ y. u.object y; field = λ y. u.field y }
assigned-universe m x (a_truth v) u h = record { object = λ y. u.object y; field = λ y. u.field y }
assigned-universe m x (a_set v) u h = record { object = λ y. u.object y; field = λ y. u.field y }
assigned-universe m x (a_field v) u h = record { object = λ y. u.object y; field = λ y. one-field m.last v (m.field y) (name_equal y x) h (u.field y) }

pub copied-universe : (m : Interp) (x y : Name) → InUniverse m → InUniverse (copied m x y)
copied-universe m x y u = record { object = λ z. u.object (if name_equal z x then y else z); field = λ z. u.field (if name_equal z x then y else z) }

same-set : (n : ℕ) (p q u v : ℕ → Bool) (b : Bool) → SameMembers n p q → SameMembers n u v → SameMembers n (if b then p else u) (if b then q else v)
same-set n p q u v true h k = h
same-set n p q u v false h k = k

same-field : (n : ℕ) (f g u v : Fields) (b : Bool) → SameFields n f g → SameFields n u v → SameFields n (if b then f else u) (if b then g else v)
same-field n f g u v true h k = h
same-field n f g u v false h k = k

pub assigned-alike : (m w : Interp) (x : Name) (d e : Datum) → Alike m w → SameIn m.last d e → Alike (assigned m x d) (assigned w x e)
assigned-alike m w x (an_object v) (an_object u) a h = record { last = a.last; object = λ y i. if name_equal y x then h i else a.object y i; number = λ y. a.number y; truth = λ y. a.truth y; set = λ y. a.set y; field = λ y. a.field y }
assigned-alike m w x (a_number v) (a_number u) a h = record { last = a.last; object = λ y. a.object y; number = λ y i. if name_equal y x then h i else a.number y i; truth = λ y. a.truth y; set = λ y. a.set y; field = λ y. a.field y }
assigned-alike m w x (a_truth v) (a_truth u) a h = record { last = a.last; object = λ y. a.object y; number = λ y. a.number y; truth = λ y i. if name_equal y x then h i else a.truth y i; set = λ y. a.set y; field = λ y. a.field y }
assigned-alike m w x (a_set v) (a_set u) a h = record { last = a.last; object = λ y. a.object y; number = λ y. a.number y; truth = λ y. a.truth y; set = λ y. same-set m.last v u (m.set y) (w.set y) (name_equal y x) h (a.set y); field = λ y. a.field y }
assigned-alike m w x (a_field v) (a_field u) a h = record { last = a.last; object = λ y. a.object y; number = λ y. a.number y; truth = λ y. a.truth y; set = λ y. a.set y; field = λ y. same-field m.last v u (m.field y) (w.field y) (name_equal y x) h (a.field y) }
assigned-alike m w x _ _ a h = absurd h

pub copied-alike : (m w : Interp) (x y : Name) → Alike m w → Alike (copied m x y) (copied w x y)
copied-alike m w x y a = record {
  last = a.last;
  object = λ z. a.object (if name_equal z x then y else z);
  number = λ z. a.number (if name_equal z x then y else z);
  truth = λ z. a.truth (if name_equal z x then y else z);
  set = λ z. a.set (if name_equal z x then y else z);
  field = λ z. a.field (if name_equal z x then y else z);
}

module _ (R : Interp → Type 0) (respect : Respects R) where
  mutual
    pub reached-respects : (c : CommandTree) (Q : Interp → Type 0) → Respects Q → Respects (λ m. Reached R c Q m)
    reached-respects (assume f) Q q m w u a h = λ e. q m w u a (h (alike-truth f m w u a ∙ e))
    reached-respects (assert f) Q q m w u a h = (sym (alike-truth f m w u a) ∙ h.0, q m w u a h.1)
    reached-respects (assign x v) Q q m w u a h = q _ _ (assigned-universe m x (datum v m []) u (datum-inside v m u)) (assigned-alike m w x (datum v m []) (datum v w []) a (alike-datum v m w u a)) h
    reached-respects (havoc x y) Q q m w u a h = q _ _ (copied-universe m x y u) (copied-alike m w x y a) h
    reached-respects leave Q q m w u a h = respect m w u a h
    reached-respects stop Q q m w u a h = tt
    reached-respects (seq cs) Q q m w u a h = all-respect cs Q q m w u a h
    reached-respects (choice c d) Q q m w u a h = (reached-respects c Q q m w u a h.0, reached-respects d Q q m w u a h.1)

    all-respect : (cs : CommandTrees) (Q : Interp → Type 0) → Respects Q → Respects (λ m. ReachedAll R cs Q m)
    all-respect none Q q m w u a h = q m w u a h
    all-respect (more c cs) Q q m w u a h = reached-respects c (λ n. ReachedAll R cs Q n) (all-respect cs Q q) m w u a h

  pub after-respects : (cs : List CommandTree) (Q : Interp → Type 0) → Respects Q → Respects (λ m. After R cs Q m)
  after-respects [] Q q m w u a h = q m w u a h
  after-respects (c ∷ cs) Q q m w u a h = reached-respects c (λ n. After R cs Q n) (after-respects cs Q q) m w u a h
