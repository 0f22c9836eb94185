-- Where each constraint is deterministic, the sequent is valid exactly where the one without its derived fields is.
use Rattle.std.proofs.Common.{◌≡◌, refl, sym, ap, ◌∙◌, ℕ, suc, ◌<◌, ◌==◌, nat_lt, Bool, true, false, not, ◌&&◌, ◌||◌, if◌then◌else◌, List, [], ◌∷◌, Option, None, Some, arith}
use Rattle.std.specs.List.{list_any}
use Rattle.std.proofs.lemmas.Bool.{true≢false, ltb-true, lt-ltb, eqb-true}
use Rattle.jh_name.specs.declared.naming.Name.{Name}
use Rattle.jh_form.specs.Tree.{TermTree, FormulaTree}
use Rattle.jh_form.specs.Tree as t
use Rattle.jh_form.specs.Meaning.{Fields, Interp, InUniverse, term_value, truth}
use Rattle.jh_form.specs.Closed.{is_closed_formula}
use Rattle.jh_form.specs.Passing.{name_equal}
use Rattle.jh_form.proofs.Names.{name_equal-same, name_equal-true}
use Rattle.jh_form.proofs.Universes.{term_inside}
use Rattle.jh_boxed_operations.specs.comparison.Inside.{AreInside}
use Rattle.jh_boxed_operations.proofs.comparison.Insides.{every-same, some-same}
use Rattle.jh_substitution.specs.exchange.Under.{varied}
use Rattle.jh_substitution.proofs.exchange.Meanings.{inside-more}
use Rattle.jh_substitution.proofs.exchange.Keeping.{varied-keeps}
use Rattle.jh_normal_forms.specs.declared.parts.order.Order.TheVariants as order
use Rattle.jh_normal_forms.specs.parts.Standing.{formula_parts}
use Rattle.jh_seq.specs.sequent.Sequents.{HypTree, SequentTree, AllTrue, IsValid}
use Rattle.jh_fca.specs.elimination.Constraints.{Constraint, constraint_tree, constraint_in}
use Rattle.jh_fca.specs.elimination.Derived.{is_listed, is_of, is_listed_in, derived, first_for, without_first}
use Rattle.jh_fca.specs.elimination.Reads.{holds_read, formula_reads}
use Rattle.jh_fca.specs.elimination.Exchanged.{said, read_at, varied_term, quantified, terms_once, exchanged, atom_exchanged, eliminated}
use Rattle.jh_fca.specs.elimination.Eliminated.{facts_eliminated, step, at_turn, step_by, step_of, all_steps, eliminate}
use Rattle.jh_fca.specs.elimination.Exact.{HasOne, stands_within, stands_within_any, IsExactStep, IsExactBy, AreExact}
use Rattle.jh_fca.specs.elimination.Laws.{EliminatedIsExact}
use Rattle.jh_fca.proofs.elimination.Bools.{implied, all-made, all-one, any-one}
use Rattle.jh_fca.proofs.elimination.Found.{IsConstraint, constraint-is, first-is}
use Rattle.jh_fca.proofs.elimination.Sound.{said-means, two-ways, eliminated-valid}
use Rattle.jh_fca.proofs.elimination.Absences.{formula-apart}
use Rattle.jh_fca.proofs.elimination.Unread.{Alike, formula-same}
use Rattle.jh_fca.proofs.elimination.Gathered.{Bare, or-none-left, or-none-right}
use Rattle.jh_fca.proofs.elimination.Gone.{eliminated-gone}

-- ---- formulas, where the constraint leaves what the field gives alone

module _ (c : Constraint) (m : Interp) (universe : InUniverse m) (closed : is_closed_formula c.says 2 ≡ true)
    (holds : (x : ℕ) → x < suc m.last → truth c.says m ((m.field c.field).objects x ∷ x ∷ []) ≡ true)
    (alone : (x y : ℕ) → x < suc m.last → y < suc m.last → truth c.says m (y ∷ x ∷ []) ≡ true → y ≡ (m.field c.field).objects x) where
  abbrev there : TermTree → List ℕ → ℕ
  there a e = term_value (read_at c a) m e

  quantified-same : (a : TermTree) (positive : Bool) (p : FormulaTree) (e : List ℕ) → AreInside m.last e → truth (quantified c a positive p) m e ≡ truth p m (there a e ∷ e)
  unfolding quantified
  quantified-same a true p e inside =
      all-one (suc m.last) (there a e) (term_inside m universe e inside (read_at c a)) (λ y. truth (said c a) m (y ∷ e)) (λ y. truth p m (y ∷ e))
      (said-means c m closed a (there a e) e ∙ holds (term_value a m e) (term_inside m universe e inside a))
      (λ y lt h. alone (term_value a m e) y (term_inside m universe e inside a) lt (sym (said-means c m closed a y e) ∙ h))
  quantified-same a false p e inside =
      any-one (suc m.last) (there a e) (term_inside m universe e inside (read_at c a)) (λ y. truth (said c a) m (y ∷ e)) (λ y. truth p m (y ∷ e))
      (said-means c m closed a (there a e) e ∙ holds (term_value a m e) (term_inside m universe e inside a))
      (λ y lt h. alone (term_value a m e) y (term_inside m universe e inside a) lt (sym (said-means c m closed a y e) ∙ h))

  exchanged-same : (more : List TermTree) (now : TermTree → TermTree) (p : FormulaTree) (positive : Bool) (e : List ℕ) → AreInside m.last e → truth (exchanged c more now p positive) m e ≡ truth p m e
  unfolding exchanged
  exchanged-same [] now p positive e inside = refl
  exchanged-same (a ∷ more) now p positive e inside =
      let x : ℕ = there (now a) e in
      quantified-same (now a) positive (exchanged c more (λ b. varied_term (now b) (read_at c (now a))) (varied p (read_at c (now a))) positive) e inside
      ∙ exchanged-same more (λ b. varied_term (now b) (read_at c (now a))) (varied p (read_at c (now a))) positive (x ∷ e) (inside-more m.last x e (term_inside m universe e inside (read_at c (now a))) inside)
      ∙ varied-keeps p (read_at c (now a)) m e universe inside

  atom-same : (p : FormulaTree) (positive : Bool) (e : List ℕ) → AreInside m.last e → truth (atom_exchanged c p positive) m e ≡ truth p m e
  unfolding atom_exchanged
  atom-same p positive e inside = exchanged-same (terms_once (formula_reads p c.field)) (λ a. a) p positive e inside

  iff-same : (e : List ℕ) (opened : Bool) (a b na pa nb pb : FormulaTree) → truth na m e ≡ truth a m e → truth pa m e ≡ truth a m e → truth nb m e ≡ truth b m e → truth pb m e ≡ truth b m e →
      truth (if opened then t.and (t.implies na pb) (t.implies nb pa) else t.iff a b) m e ≡ truth (t.iff a b) m e
  iff-same e true a b na pa nb pb h i j k = (λ l. (not (h l) || k l) && (not (j l) || i l)) ∙ two-ways (truth a m e) (truth b m e)
  iff-same e false a b na pa nb pb h i j k = refl

  eliminated-same : (a : FormulaTree) (positive : Bool) (e : List ℕ) → AreInside m.last e → truth (eliminated c a positive) m e ≡ truth a m e
  unfolding eliminated
  eliminated-same (t.negation a) s e inside = ap not (eliminated-same a (not s) e inside)
  eliminated-same (t.and a b) s e inside = λ i. eliminated-same a s e inside i && eliminated-same b s e inside i
  eliminated-same (t.or a b) s e inside = λ i. eliminated-same a s e inside i || eliminated-same b s e inside i
  eliminated-same (t.implies a b) s e inside = λ i. not (eliminated-same a (not s) e inside i) || eliminated-same b s e inside i
  eliminated-same (t.iff a b) s e inside =
      iff-same e (holds_read c.field a || holds_read c.field b) a b (eliminated c a (not s)) (eliminated c a s) (eliminated c b (not s)) (eliminated c b s)
      (eliminated-same a (not s) e inside) (eliminated-same a s e inside) (eliminated-same b (not s) e inside) (eliminated-same b s e inside)
  eliminated-same (t.all a) s e inside = every-same m.last (λ x. truth (eliminated c a s) m (x ∷ e)) (λ x. truth a m (x ∷ e)) (λ x lt. eliminated-same a s (x ∷ e) (inside-more m.last x e lt inside))
  eliminated-same (t.ex a) s e inside = some-same m.last (λ x. truth (eliminated c a s) m (x ∷ e)) (λ x. truth a m (x ∷ e)) (λ x lt. eliminated-same a s (x ∷ e) (inside-more m.last x e lt inside))
  eliminated-same (t.mark k a) s e inside = eliminated-same a s e inside
  eliminated-same p s e inside = atom-same p s e inside

-- ---- the hypotheses of a sequent

is-of-named : (f : Name) (o : Option Constraint) (c : Constraint) → is_of f o ≡ true → o ≡ Some c → c.field ≡ f
unfolding is_of
is-of-named f None c h e = absurd (cc)
is-of-named f (Some d) c h e = let same : d ≡ c = cc in ap (λ k. k.field) (sym same) ∙ name_equal-true d.field f h

chosen-named : (f : Name) (h : HypTree) (hs : List HypTree) (c : Constraint) (b : Bool) → is_of f (constraint_in h.fact) ≡ b → (if b then constraint_in h.fact else first_for f hs) ≡ Some c → (first_for f hs ≡ Some c → c.field ≡ f) → c.field ≡ f
chosen-named f h hs c true o e rest = is-of-named f (constraint_in h.fact) c o e
chosen-named f h hs c false o e rest = rest e

first-named : (f : Name) (hs : List HypTree) (c : Constraint) → first_for f hs ≡ Some c → c.field ≡ f
unfolding first_for
first-named f [] c e = absurd (cc)
first-named f (h ∷ hs) c e = chosen-named f h hs c (is_of f (constraint_in h.fact)) refl e (λ k. first-named f hs c k)

-- with the first hypothesis that constrains the field all are true
with-first : (f : Name) (h : HypTree) (hs : List HypTree) (c : Constraint) (m : Interp) (b : Bool) → (if b then constraint_in h.fact else first_for f hs) ≡ Some c → truth (constraint_tree c) m [] ≡ true →
    AllTrue (if b then hs else h ∷ without_first f hs) m → (first_for f hs ≡ Some c → AllTrue (without_first f hs) m → AllTrue hs m) → AllTrue (h ∷ hs) m
with-first f h hs c m true e is k rest = (ap (λ a. truth a m []) (constraint-is h.fact c e).at ∙ is, k)
with-first f h hs c m false e is k rest = (k.0, rest e k.1)

all-with : (f : Name) (hs : List HypTree) (c : Constraint) (m : Interp) → first_for f hs ≡ Some c → truth (constraint_tree c) m [] ≡ true → AllTrue (without_first f hs) m → AllTrue hs m
unfolding first_for without_first
all-with f [] c m e is k = k
all-with f (h ∷ hs) c m e is k = with-first f h hs c m (is_of f (constraint_in h.fact)) e is k (λ l n. all-with f hs c m l is n)

-- the field stands barely in each hypothesis
abbrev AllBare : Name → List HypTree → Type 0
AllBare f [] = Unit {0}
AllBare f (h ∷ hs) = Bare f (formula_parts h.fact order.InnerFirst) × AllBare f hs

bare-of : (f : Name) (a : FormulaTree) → stands_within f a ≡ false → is_listed f a ≡ false → Bare f (formula_parts a order.InnerFirst)
unfolding stands_within is_listed
bare-of f a h k = record { within = h; along = k }

all-bare : (f : Name) (hs : List HypTree) → list_any (λ h. stands_within f h.fact) hs ≡ false → list_any (λ h. is_listed f h.fact) hs ≡ false → AllBare f hs
all-bare f [] h k = tt
all-bare f (x ∷ hs) h k = (
  bare-of f x.fact (or-none-left (stands_within f x.fact) (list_any (λ y. stands_within f y.fact) hs) h) (or-none-left (is_listed f x.fact) (list_any (λ y. is_listed f y.fact) hs) k),
  all-bare f hs (or-none-right (stands_within f x.fact) (list_any (λ y. stands_within f y.fact) hs) h) (or-none-right (is_listed f x.fact) (list_any (λ y. is_listed f y.fact) hs) k),
)

bare-if : (f : Name) (b : Bool) (h : HypTree) (hs gs : List HypTree) → AllBare f hs → Bare f (formula_parts h.fact order.InnerFirst) → AllBare f gs → AllBare f (if b then hs else h ∷ gs)
bare-if f true h hs gs k l n = k
bare-if f false h hs gs k l n = (l, n)

without-bare : (f g : Name) (hs : List HypTree) → AllBare f hs → AllBare f (without_first g hs)
unfolding without_first
without-bare f g [] h = tt
without-bare f g (x ∷ hs) h = bare-if f (is_of g (constraint_in x.fact)) x hs (without_first g hs) h.1 h.0 (without-bare f g hs h.1)

-- ---- an interpretation in which the field gives what its constraint leaves

changed : Bool → Fields → (ℕ → ℕ) → Fields
changed true f g = record { objects = g; numbers = f.numbers; truths = f.truths; sets = f.sets }
changed false f g = f

numbers-kept : (b : Bool) (f : Fields) (g : ℕ → ℕ) → f.numbers ≡ (changed b f g).numbers
unfolding changed
numbers-kept true f g = refl
numbers-kept false f g = refl

truths-kept : (b : Bool) (f : Fields) (g : ℕ → ℕ) → f.truths ≡ (changed b f g).truths
unfolding changed
truths-kept true f g = refl
truths-kept false f g = refl

sets-kept : (b : Bool) (f : Fields) (g : ℕ → ℕ) → f.sets ≡ (changed b f g).sets
unfolding changed
sets-kept true f g = refl
sets-kept false f g = refl

other-kept : (b : Bool) (f : Fields) (g : ℕ → ℕ) → (b ≡ true → ⊥) → f ≡ changed b f g
unfolding changed
other-kept true f g h = absurd (h refl)
other-kept false f g h = refl

changed-inside : (n : ℕ) (b : Bool) (f : Fields) (g : ℕ → ℕ) (x : ℕ) → f.objects x < suc n → g x < suc n → (changed b f g).objects x < suc n
unfolding changed
changed-inside n true f g x h k = k
changed-inside n false f g x h k = h

changed-is : (b : Bool) (f : Fields) (g : ℕ → ℕ) (x : ℕ) → b ≡ true → (changed b f g).objects x ≡ g x
unfolding changed
changed-is true f g x e = refl
changed-is false f g x e = absurd (true≢false (sym e))

module _ (c : Constraint) (is : IsConstraint c) (m : Interp) (universe : InUniverse m) (one : (x : ℕ) → x < suc m.last → HasOne c m x) where
  pick : (x : ℕ) (b : Bool) → nat_lt x (suc m.last) ≡ b → ℕ
  pick x true e = (one x (ltb-true x (suc m.last) e)).one
  pick x false e = 0

  chosen : ℕ → ℕ
  chosen x = pick x (nat_lt x (suc m.last)) refl

  pick-inside : (x : ℕ) (b : Bool) (e : nat_lt x (suc m.last) ≡ b) → pick x b e < suc m.last
  unfolding pick
  pick-inside x true e = (one x (ltb-true x (suc m.last) e)).inside
  pick-inside x false e = omega arith

  pick-is : (x : ℕ) (b : Bool) (e : nat_lt x (suc m.last) ≡ b) → x < suc m.last → truth c.says m (pick x b e ∷ x ∷ []) ≡ true
  unfolding pick
  pick-is x true e lt = (one x (ltb-true x (suc m.last) e)).is
  pick-is x false e lt = absurd (true≢false (sym (lt-ltb x (suc m.last) lt) ∙ e))

  pick-alone : (x : ℕ) (b : Bool) (e : nat_lt x (suc m.last) ≡ b) → x < suc m.last → (y : ℕ) → y < suc m.last → truth c.says m (y ∷ x ∷ []) ≡ true → y ≡ pick x b e
  unfolding pick
  pick-alone x true e lt y less h = (one x (ltb-true x (suc m.last) e)).alone y less h
  pick-alone x false e lt y less h = absurd (true≢false (sym (lt-ltb x (suc m.last) lt) ∙ e))

  abbrev n : Interp
  n = record { last = m.last; object = m.object; number = m.number; truth = m.truth; set = m.set; field = λ x. changed (name_equal x c.field) (m.field x) chosen }

  alike : Alike c.field m n
  alike = record {
    last = refl;
    object = λ x. refl;
    number = λ x. refl;
    truth = λ x. refl;
    set = λ x. refl;
    other = λ x h. other-kept (name_equal x c.field) (m.field x) chosen h;
    numbers = λ x. numbers-kept (name_equal x c.field) (m.field x) chosen;
    truths = λ x. truths-kept (name_equal x c.field) (m.field x) chosen;
    sets = λ x. sets-kept (name_equal x c.field) (m.field x) chosen;
  }

  new-inside : InUniverse n
  unfolding chosen
  new-inside = record { object = λ x. universe.object x; field = λ x a lt. changed-inside m.last (name_equal x c.field) (m.field x) chosen a (universe.field x a lt) (pick-inside a (nat_lt a (suc m.last)) refl) }

  gives : (x : ℕ) → (n.field c.field).objects x ≡ chosen x
  gives x = changed-is (name_equal c.field c.field) (m.field c.field) chosen x (name_equal-same c.field c.field refl)

  same-says : (e : List ℕ) → truth c.says m e ≡ truth c.says n e
  same-says e = formula-same c.field m n alike c.says true e (formula-apart c.field c.says true is.free)

  new-holds : (x : ℕ) → x < suc m.last → truth c.says n ((n.field c.field).objects x ∷ x ∷ []) ≡ true
  unfolding chosen
  new-holds x lt = ap (λ y. truth c.says n (y ∷ x ∷ [])) (gives x) ∙ sym (same-says (chosen x ∷ x ∷ [])) ∙ pick-is x (nat_lt x (suc m.last)) refl lt

  new-alone : (x y : ℕ) → x < suc m.last → y < suc m.last → truth c.says n (y ∷ x ∷ []) ≡ true → y ≡ (n.field c.field).objects x
  unfolding chosen
  new-alone x y lt less h = pick-alone x (nat_lt x (suc m.last)) refl lt y less (same-says (y ∷ x ∷ []) ∙ h) ∙ sym (gives x)

  nothing-bound : AreInside m.last []
  nothing-bound k = omega arith

  -- a formula is true there where it is true without the field here
  there-as-here : (a : FormulaTree) (positive : Bool) → Bare c.field (formula_parts a order.InnerFirst) → truth (eliminated c a positive) m [] ≡ truth a n []
  there-as-here a positive bare =
      formula-same c.field m n alike (eliminated c a positive) true [] (eliminated-gone c is.free a positive bare)
      ∙ eliminated-same c n new-inside is.closed new-holds new-alone a positive [] nothing-bound

  facts-there : (hs : List HypTree) → AllBare c.field hs → AllTrue (facts_eliminated c hs) m → AllTrue hs n
  facts-there [] bare h = tt
  facts-there (x ∷ hs) bare h = (sym (there-as-here x.fact false bare.0) ∙ h.0, facts-there hs bare.1 h.1)

  constraint-there : truth (constraint_tree c) n [] ≡ true
  constraint-there =
      all-made (suc m.last) (λ x. truth (t.all (t.implies (t.eq_object (t.read_object (t.free_field c.field) (t.bound 1)) (t.bound 0)) c.says)) n (x ∷ []))
      (λ x lt. all-made (suc m.last) (λ y. not ((n.field c.field).objects x == y) || truth c.says n (y ∷ x ∷ []))
      (λ y less. implied ((n.field c.field).objects x == y) (truth c.says n (y ∷ x ∷ [])) (λ e. ap (λ z. truth c.says n (z ∷ x ∷ [])) (sym (eqb-true ((n.field c.field).objects x) y e)) ∙ new-holds x lt)))

  goal-here : (s : SequentTree) → first_for c.field s.hyps ≡ Some c → AllBare c.field s.hyps → Bare c.field (formula_parts s.goal order.InnerFirst) → IsValid s → AllTrue (step c s).hyps m → truth (step c s).goal m [] ≡ true
  goal-here s found bare last valid hold =
      there-as-here s.goal true last
      ∙ valid n new-inside (all-with c.field s.hyps c n found constraint-there (facts-there (without_first c.field s.hyps) (without-bare c.field c.field s.hyps bare) hold))

-- ---- a sequent

step-exact : (c : Constraint) (s : SequentTree) → first_for c.field s.hyps ≡ Some c → is_listed_in c.field s ≡ false → IsExactStep c s → IsValid s → IsValid (step c s)
unfolding is_listed_in stands_within_any
step-exact c s found listed exact valid m universe hold =
    goal-here c (first-is c.field s.hyps c found) m universe (exact.one m universe hold) s found
    (all-bare c.field s.hyps (or-none-left (list_any (λ h. stands_within c.field h.fact) s.hyps) (stands_within c.field s.goal) exact.bare) (or-none-left (list_any (λ h. is_listed c.field h.fact) s.hyps) (is_listed c.field s.goal) listed))
    (bare-of c.field s.goal (or-none-right (list_any (λ h. stands_within c.field h.fact) s.hyps) (stands_within c.field s.goal) exact.bare) (or-none-right (list_any (λ h. is_listed c.field h.fact) s.hyps) (is_listed c.field s.goal) listed))
    valid hold

turn-exact : (f : Name) (s : SequentTree) (listed : Bool) (o : Option Constraint) → is_listed_in f s ≡ listed → first_for f s.hyps ≡ o → IsExactBy (if listed then None else o) s → IsValid s → IsValid (step_by (if listed then None else o) s)
unfolding step_by
turn-exact f s true o l found exact valid = valid
turn-exact f s false None l found exact valid = valid
turn-exact f s false (Some c) l found exact valid =
    let name : c.field ≡ f = first-named f s.hyps c found in
    step-exact c s (ap (λ x. first_for x s.hyps) name ∙ found) (ap (λ x. is_listed_in x s) name ∙ l) exact valid

steps-exact : (fs : List Name) (s : SequentTree) → AreExact fs s → IsValid s → IsValid (all_steps fs s)
unfolding all_steps at_turn
steps-exact [] s exact valid = valid
steps-exact (f ∷ fs) s exact valid = steps-exact fs (step_of f s) exact.1 (turn-exact f s (is_listed_in f s) (first_for f s.hyps) refl refl exact.0 valid)

pub eliminated-exact : EliminatedIsExact
unfolding eliminate
eliminated-exact s exact = (steps-exact (derived s) s exact, eliminated-valid s)
