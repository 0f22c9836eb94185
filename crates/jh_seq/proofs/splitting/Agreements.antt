-- Interpretations that agree on the names before a turn, and constants that are free from it on.
use Rattle.std.proofs.Common.{◌≡◌, refl, sym, ap, ◌∙◌, ℕ, suc, ◌<◌, ◌≤◌, nat_lt, arith, Bool, true, false, if◌then◌else◌, List, [], ◌∷◌, ◌++◌}
use Rattle.std.proofs.lemmas.Bool.Decides.{nat_tests}
use Rattle.jh_name.specs.declared.naming.Name.{Name}
use Rattle.jh_form.specs.Tree.{FormulaTree}
use Rattle.jh_form.specs.Passing.{name_equal, formula_passes}
use Rattle.jh_form.specs.Agreement.{AgreeOn}
use Rattle.jh_form.specs.Meaning.{Interp, InUniverse, an_object, truth}
use Rattle.jh_form.specs.Assigned.{assigned}
use Rattle.jh_form.proofs.Coincidences.{truth-agrees}
use Rattle.jh_form.proofs.Names.{name_equal-same, name_equal-true}
use Rattle.jh_seq.specs.sequent.Sequents.{HypTree, AllTrue}
use Rattle.jh_seq.specs.splitting.Split.{constant, before}
use Rattle.jh_seq.proofs.splitting.Closings.{values}

pub lower : (n j k : ℕ) → j ≤ k → nat_lt n j ≡ true → nat_lt n k ≡ true
lower n j k le h = grind (arith, nat_tests)

pub agree-lower : (j k : ℕ) (m n : Interp) → j ≤ k → AgreeOn (before k) m n → AgreeOn (before j) m n
agree-lower j k m n le a = record {
  last = a.last;
  object = λ x h. a.object x (lower x.turn j k le h);
  number = λ x h. a.number x (lower x.turn j k le h);
  truth = λ x h. a.truth x (lower x.turn j k le h);
  set = λ x h. a.set x (lower x.turn j k le h);
  field = λ x h. a.field x (lower x.turn j k le h);
}

pub agree-refl : (k : ℕ) (m : Interp) → AgreeOn (before k) m m
agree-refl k m = record { last = refl; object = λ x h. refl; number = λ x h. refl; truth = λ x h. refl; set = λ x h. refl; field = λ x h. refl }

pub agree-trans : (k : ℕ) (m n o : Interp) → AgreeOn (before k) m n → AgreeOn (before k) n o → AgreeOn (before k) m o
agree-trans k m n o a b = record {
  last = a.last ∙ b.last;
  object = λ x h. a.object x h ∙ b.object x h;
  number = λ x h. a.number x h ∙ b.number x h;
  truth = λ x h. a.truth x h ∙ b.truth x h;
  set = λ x h. a.set x h ∙ b.set x h;
  field = λ x h. a.field x h ∙ b.field x h;
}

abbrev pub AllBefore : ℕ → List Name → Type 0
AllBefore k [] = Unit {0}
AllBefore k (w ∷ ws) = (nat_lt w.turn k ≡ true) × AllBefore k ws

pub before-lower : (j k : ℕ) (ws : List Name) → j ≤ k → AllBefore j ws → AllBefore k ws
before-lower j k [] le h = tt
before-lower j k (w ∷ ws) le h = (lower w.turn j k le h.0, before-lower j k ws le h.1)

pub values-agree : (k : ℕ) (m n : Interp) (ws : List Name) → AgreeOn (before k) m n → AllBefore k ws → values m ws ≡ values n ws
values-agree k m n [] a h = refl
values-agree k m n (w ∷ ws) a h = λ i. a.object w h.0 i ∷ values-agree k m n ws a h.1 i

-- a formula behind binders means the same in interpretations that agree
pub same-truth : (j k : ℕ) (m n : Interp) (a : FormulaTree) (ws : List Name) → j ≤ k → formula_passes a (before j) ≡ true → AllBefore k ws → AgreeOn (before k) m n →
    truth a m (values m ws) ≡ truth a n (values n ws)
same-truth j k m n a ws le passes ws_before both =
    truth-agrees (before j) m n (agree-lower j k m n le both) a (values m ws) passes ∙ ap (truth a n) (values-agree k m n ws both ws_before)

-- hypotheses that hang on names before a turn alone
abbrev pub AllHang : ℕ → List HypTree → Type 0
AllHang k [] = Unit {0}
AllHang k (h ∷ hs) = ((m n : Interp) → AgreeOn (before k) m n → truth h.fact m [] ≡ truth h.fact n []) × AllHang k hs

pub hang-lower : (j k : ℕ) (hs : List HypTree) → j ≤ k → AllHang j hs → AllHang k hs
hang-lower j k [] le h = tt
hang-lower j k (x ∷ hs) le h = (λ m n a. h.0 m n (agree-lower j k m n le a), hang-lower j k hs le h.1)

pub hang-both : (k : ℕ) (hs gs : List HypTree) → AllHang k hs → AllHang k gs → AllHang k (hs ++ gs)
hang-both k [] gs h g = g
hang-both k (x ∷ hs) gs h g = (h.0, hang-both k hs gs h.1 g)

pub true-moves : (k : ℕ) (hs : List HypTree) (m n : Interp) → AllHang k hs → AgreeOn (before k) m n → AllTrue hs m → AllTrue hs n
true-moves k [] m n hang a h = tt
true-moves k (x ∷ hs) m n hang a h = (sym (hang.0 m n a) ∙ h.0, true-moves k hs m n hang.1 a h.1)

-- a fresh constant
pub is_fresh : (y : Name) (k x v : ℕ) (b : Bool) → name_equal y (constant k) ≡ b → nat_lt y.turn k ≡ true → v ≡ (if b then x else v)
is_fresh y k x v true e lt = absurd (apart y.turn k (ap (λ z. z.turn) (name_equal-true y (constant k) e)) lt)
  where
    apart : (n k : ℕ) → n ≡ k → nat_lt n k ≡ true → ⊥
    apart n k e lt = grind (arith, nat_tests)
is_fresh y k x v false e lt = refl

pub agree-fresh : (k x : ℕ) (m : Interp) → AgreeOn (before k) m (assigned m (constant k) (an_object x))
agree-fresh k x m = record { last = refl; object = λ y h. is_fresh y k x (m.object y) (name_equal y (constant k)) refl h; number = λ y h. refl; truth = λ y h. refl; set = λ y h. refl; field = λ y h. refl }

pub inside_at : (b : Bool) (x v n : ℕ) → x < n → v < n → (if b then x else v) < n
inside_at true x v n h k = h
inside_at false x v n h k = k

pub inside-fresh : (k x : ℕ) (m : Interp) → x < suc m.last → InUniverse m → InUniverse (assigned m (constant k) (an_object x))
inside-fresh k x m lt u = record { object = λ y. inside_at (name_equal y (constant k)) x (m.object y) (suc m.last) lt (u.object y); field = u.field }

pub value-fresh : (k x : ℕ) (m : Interp) → (assigned m (constant k) (an_object x)).object (constant k) ≡ x
value-fresh k x m = ap (λ b. if b then x else m.object (constant k)) (name_equal-same (constant k) (constant k) refl)

pub is_below : (k : ℕ) → nat_lt k (suc k) ≡ true
is_below k = grind (arith, nat_tests)
