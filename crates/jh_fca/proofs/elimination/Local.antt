-- A sequent of local shape keeps it while derived fields are eliminated.
use Rattle.std.proofs.Common.{◌≡◌, refl, sym, ap, ◌∙◌, Bool, true, false, not, ◌&&◌, ◌||◌, if◌then◌else◌, List, [], ◌∷◌, ◌++◌, Option, None, Some}
use Rattle.std.specs.Prelude.{filter}
use Rattle.std.specs.List.{list_all}
use Rattle.std.proofs.lemmas.Bool.{true≢false}
use Rattle.jh_name.specs.declared.naming.Name.{Name}
use Rattle.jh_form.specs.Tree.{TermTree, IntTree, SetTree, FieldTree, FieldTrees, FormulaTree}
use Rattle.jh_form.specs.Tree as t
use Rattle.jh_form.proofs.ClosedLemmas.{both-left, both-right}
use Rattle.jh_boxed.specs.Mapped.{mapped_term}
use Rattle.jh_substitution.specs.exchange.Under.{varied}
use Rattle.jh_substitution.specs.simultaneous.Lifted.{lifting}
use Rattle.jh_substitution.specs.instantiation.Putting.{put}
use Rattle.jh_seq.specs.sequent.Sequents.{HypTree, SequentTree}
use Rattle.jh_seq.specs.splitting.Local.{is_field_name, are_field_names, is_local_term, is_local_number, is_local_set, has_local_shape, is_local}
use Rattle.jh_fca.specs.elimination.Constraints.{Constraint, constraint_tree, is_name, constraint_in}
use Rattle.jh_fca.specs.elimination.Derived.{is_of, is_listed_in, derived, first_for, without_first}
use Rattle.jh_fca.specs.elimination.Reads.{holds_read, term_reads, int_reads, set_reads, field_reads, formula_reads, fields_reads}
use Rattle.jh_fca.specs.elimination.Exchanged.{said, read_at, varied_term, quantified, terms_once, exchanged, atom_exchanged, eliminated}
use Rattle.jh_fca.specs.elimination.Eliminated.{facts_eliminated, step, at_turn, step_by, step_of, all_steps, eliminate}
use Rattle.jh_fca.specs.elimination.Laws.{EliminatedHasShape}
use Rattle.jh_fca.proofs.elimination.Bools.{both-true}
use Rattle.jh_fca.proofs.elimination.Found.{constraint-is}
use Rattle.jh_fca.proofs.elimination.Shapes.{lifted-local, put-local, varied-local, varied-term-local}

abbrev IsLocal : FormulaTree → Type 0
IsLocal a = has_local_shape a ≡ true

-- ---- the reads of an atom

abbrev AllLocal : List TermTree → Type 0
AllLocal [] = Unit {0}
AllLocal (a ∷ rest) = (is_local_term a ≡ true) × AllLocal rest

all-both : (xs bs : List TermTree) → AllLocal xs → AllLocal bs → AllLocal (xs ++ bs)
all-both [] bs h k = k
all-both (a ∷ rest) bs h k = (h.0, all-both rest bs h.1 k)

-- a list without some of its terms
if-local : (c : Bool) (a : TermTree) (rest : List TermTree) → is_local_term a ≡ true → AllLocal rest → AllLocal (if c then a ∷ rest else rest)
if-local true a rest h k = (h, k)
if-local false a rest h k = k

filter-local : (p : TermTree → Bool) (xs : List TermTree) → AllLocal xs → AllLocal (filter p xs)
filter-local p [] h = tt
filter-local p (a ∷ rest) h = if-local (p a) a (filter p rest) h.0 (filter-local p rest h.1)

once-local : (xs : List TermTree) → AllLocal xs → AllLocal (terms_once xs)
unfolding terms_once
once-local [] h = tt
once-local (a ∷ rest) h = (h.0, filter-local _ (terms_once rest) (once-local rest h.1))

field-none : (a : FieldTree) (f : Name) → is_field_name a ≡ true → field_reads a f ≡ []
unfolding field_reads
field-none (t.free_field x) f h = refl
field-none (t.update a b c) f h = absurd (true≢false (sym h))

fields-none : (a : FieldTrees) (f : Name) → are_field_names a ≡ true → fields_reads a f ≡ []
unfolding fields_reads
fields-none t.none f h = refl
fields-none (t.more a b) f h = λ i. field-none a f (both-left (is_field_name a) (are_field_names b) h) i ++ fields-none b f (both-right (is_field_name a) (are_field_names b) h) i

behind : (xs ys : List TermTree) → xs ≡ [] → AllLocal ys → AllLocal (xs ++ ys)
behind [] ys e h = h
behind (a ∷ rest) ys e h = absurd (cc)

term-local : (a : TermTree) (f : Name) → is_local_term a ≡ true → AllLocal (term_reads a f)
unfolding term_reads
term-local (t.bound k) f h = tt
term-local (t.free_object x) f h = tt
term-local t.null f h = tt
term-local (t.read_object a b) f h =
    let inner : is_local_term b ≡ true = both-right (is_field_name a) (is_local_term b) h in
    behind (field_reads a f) (term_reads b f ++ (if is_name f a then b ∷ [] else [])) (field-none a f (both-left (is_field_name a) (is_local_term b) h))
    (all-both (term_reads b f) (if is_name f a then b ∷ [] else []) (term-local b f inner) (if-local (is_name f a) b [] inner tt))

read-local : (a : FieldTree) (b : TermTree) (f : Name) → (is_field_name a && is_local_term b) ≡ true → AllLocal (field_reads a f ++ term_reads b f)
read-local a b f h = behind (field_reads a f) (term_reads b f) (field-none a f (both-left (is_field_name a) (is_local_term b) h)) (term-local b f (both-right (is_field_name a) (is_local_term b) h))

int-local : (a : IntTree) (f : Name) → is_local_number a ≡ true → AllLocal (int_reads a f)
unfolding int_reads
int-local (t.const z) f h = tt
int-local (t.free_number x) f h = tt
int-local (t.read_number a b) f h = read-local a b f h
int-local a f h = absurd (true≢false (sym h))

set-local : (a : SetTree) (f : Name) → is_local_set a ≡ true → AllLocal (set_reads a f)
unfolding set_reads
set-local (t.free_set x) f h = tt
set-local (t.read_set a b) f h = read-local a b f h
set-local a f h = absurd (true≢false (sym h))

-- ---- an atom with its reads exchanged

abbrev NowLocal : (TermTree → TermTree) → List TermTree → Type 0
NowLocal now [] = Unit {0}
NowLocal now (a ∷ more) = (is_local_term (now a) ≡ true) × NowLocal now more

now-first : (more : List TermTree) → AllLocal more → NowLocal (λ a. a) more
now-first [] h = tt
now-first (a ∷ more) h = (h.0, now-first more h.1)

now-varied : (b : TermTree) (now : TermTree → TermTree) (more : List TermTree) → NowLocal now more → NowLocal (λ a. varied_term (now a) b) more
now-varied b now [] h = tt
now-varied b now (a ∷ more) h = (varied-term-local (now a) b h.0, now-varied b now more h.1)

iff-local : (opened : Bool) (a b na pa nb pb : FormulaTree) → IsLocal (t.iff a b) → IsLocal na → IsLocal pa → IsLocal nb → IsLocal pb → IsLocal (if opened then t.and (t.implies na pb) (t.implies nb pa) else t.iff a b)
iff-local true a b na pa nb pb h i j k l = both-true (has_local_shape na && has_local_shape pb) (has_local_shape nb && has_local_shape pa) (both-true (has_local_shape na) (has_local_shape pb) i l) (both-true (has_local_shape nb) (has_local_shape pa) k j)
iff-local false a b na pa nb pb h i j k l = h

module _ (c : Constraint) (shaped : IsLocal c.says) where
  said-local : (a : TermTree) → is_local_term a ≡ true → IsLocal (said c a)
  said-local a h = put-local (put c.says (t.bound 1)) (mapped_term a (lifting 1) 0) (put-local c.says (t.bound 1) shaped refl) (lifted-local 1 a h)

  quantified-local : (a : TermTree) (positive : Bool) (p : FormulaTree) → is_local_term a ≡ true → IsLocal p → IsLocal (quantified c a positive p)
  unfolding quantified
  quantified-local a true p h k = both-true (has_local_shape (said c a)) (has_local_shape p) (said-local a h) k
  quantified-local a false p h k = both-true (has_local_shape (said c a)) (has_local_shape p) (said-local a h) k

  exchanged-local : (more : List TermTree) (now : TermTree → TermTree) (p : FormulaTree) (positive : Bool) → NowLocal now more → IsLocal p → IsLocal (exchanged c more now p positive)
  unfolding exchanged
  exchanged-local [] now p positive h k = k
  exchanged-local (a ∷ more) now p positive h k =
      quantified-local (now a) positive (exchanged c more (λ b. varied_term (now b) (read_at c (now a))) (varied p (read_at c (now a))) positive) h.0
      (exchanged-local more (λ b. varied_term (now b) (read_at c (now a))) (varied p (read_at c (now a))) positive (now-varied (read_at c (now a)) now more h.1) (varied-local p (read_at c (now a)) k))

  atom-local : (p : FormulaTree) (positive : Bool) → AllLocal (formula_reads p c.field) → IsLocal p → IsLocal (atom_exchanged c p positive)
  unfolding atom_exchanged
  atom-local p positive h k = exchanged-local (terms_once (formula_reads p c.field)) (λ a. a) p positive (now-first (terms_once (formula_reads p c.field)) (once-local (formula_reads p c.field) h)) k

  -- ---- a formula

  pub eliminated-local : (a : FormulaTree) (positive : Bool) → IsLocal a → IsLocal (eliminated c a positive)
  unfolding eliminated formula_reads
  eliminated-local (t.negation a) s h = eliminated-local a (not s) h
  eliminated-local (t.and a b) s h = both-true (has_local_shape (eliminated c a s)) (has_local_shape (eliminated c b s)) (eliminated-local a s (both-left (has_local_shape a) (has_local_shape b) h)) (eliminated-local b s (both-right (has_local_shape a) (has_local_shape b) h))
  eliminated-local (t.or a b) s h = both-true (has_local_shape (eliminated c a s)) (has_local_shape (eliminated c b s)) (eliminated-local a s (both-left (has_local_shape a) (has_local_shape b) h)) (eliminated-local b s (both-right (has_local_shape a) (has_local_shape b) h))
  eliminated-local (t.implies a b) s h = both-true (has_local_shape (eliminated c a (not s))) (has_local_shape (eliminated c b s)) (eliminated-local a (not s) (both-left (has_local_shape a) (has_local_shape b) h)) (eliminated-local b s (both-right (has_local_shape a) (has_local_shape b) h))
  eliminated-local (t.iff a b) s h =
      let left : IsLocal a = both-left (has_local_shape a) (has_local_shape b) h in
      let right : IsLocal b = both-right (has_local_shape a) (has_local_shape b) h in
      iff-local (holds_read c.field a || holds_read c.field b) a b (eliminated c a (not s)) (eliminated c a s) (eliminated c b (not s)) (eliminated c b s) h
      (eliminated-local a (not s) left) (eliminated-local a s left) (eliminated-local b (not s) right) (eliminated-local b s right)
  eliminated-local (t.all a) s h = eliminated-local a s h
  eliminated-local (t.ex a) s h = eliminated-local a s h
  eliminated-local (t.mark m a) s h = eliminated-local a s h
  eliminated-local t.true_formula s h = atom-local t.true_formula s tt h
  eliminated-local t.false_formula s h = atom-local t.false_formula s tt h
  eliminated-local (t.free_truth x) s h = atom-local (t.free_truth x) s tt h
  eliminated-local (t.read_truth a b) s h = atom-local (t.read_truth a b) s (read-local a b c.field h) h
  eliminated-local (t.eq_object a b) s h = atom-local (t.eq_object a b) s (all-both (term_reads a c.field) (term_reads b c.field) (term-local a c.field (both-left (is_local_term a) (is_local_term b) h)) (term-local b c.field (both-right (is_local_term a) (is_local_term b) h))) h
  eliminated-local (t.eq_number a b) s h = atom-local (t.eq_number a b) s (all-both (int_reads a c.field) (int_reads b c.field) (int-local a c.field (both-left (is_local_number a) (is_local_number b) h)) (int-local b c.field (both-right (is_local_number a) (is_local_number b) h))) h
  eliminated-local (t.member a b) s h = atom-local (t.member a b) s (all-both (term_reads a c.field) (set_reads b c.field) (term-local a c.field (both-left (is_local_term a) (is_local_set b) h)) (set-local b c.field (both-right (is_local_term a) (is_local_set b) h))) h
  eliminated-local (t.reach fs a b) s h =
      let front : (are_field_names fs && is_local_term a) ≡ true = both-left (are_field_names fs && is_local_term a) (is_local_term b) h in
      atom-local (t.reach fs a b) s
      (behind (fields_reads fs c.field) (term_reads a c.field ++ term_reads b c.field) (fields-none fs c.field (both-left (are_field_names fs) (is_local_term a) front))
      (all-both (term_reads a c.field) (term_reads b c.field) (term-local a c.field (both-right (are_field_names fs) (is_local_term a) front)) (term-local b c.field (both-right (are_field_names fs && is_local_term a) (is_local_term b) h)))) h
  eliminated-local (t.tree fs) s h = atom-local (t.tree fs) s (none (fields_reads fs c.field) (fields-none fs c.field h)) h
    where
      none : (xs : List TermTree) → xs ≡ [] → AllLocal xs
      none [] e = tt
      none (x ∷ xs) e = absurd (cc)
  eliminated-local a s h = absurd (true≢false (sym h))

  facts-local : (hs : List HypTree) → list_all (λ h. has_local_shape h.fact) hs ≡ true → list_all (λ h. has_local_shape h.fact) (facts_eliminated c hs) ≡ true
  facts-local [] h = refl
  facts-local (x ∷ hs) h =
      both-true (has_local_shape (eliminated c x.fact false)) (list_all (λ y. has_local_shape y.fact) (facts_eliminated c hs))
      (eliminated-local x.fact false (both-left (has_local_shape x.fact) (list_all (λ y. has_local_shape y.fact) hs) h)) (facts-local hs (both-right (has_local_shape x.fact) (list_all (λ y. has_local_shape y.fact) hs) h))

-- ---- a sequent

abbrev are_local : List HypTree → Bool
are_local hs = list_all (λ h. has_local_shape h.fact) hs

if-hyps : (b : Bool) (h : HypTree) (hs gs : List HypTree) → are_local hs ≡ true → has_local_shape h.fact ≡ true → are_local gs ≡ true → are_local (if b then hs else h ∷ gs) ≡ true
if-hyps true h hs gs k l n = k
if-hyps false h hs gs k l n = both-true (has_local_shape h.fact) (are_local gs) l n

without-local : (f : Name) (hs : List HypTree) → are_local hs ≡ true → are_local (without_first f hs) ≡ true
unfolding without_first
without-local f [] h = refl
without-local f (x ∷ hs) h =
    let rest : are_local hs ≡ true = both-right (has_local_shape x.fact) (are_local hs) h in
    if-hyps (is_of f (constraint_in x.fact)) x hs (without_first f hs) rest (both-left (has_local_shape x.fact) (are_local hs) h) (without-local f hs rest)

says-local : (c : Constraint) → has_local_shape (constraint_tree c) ≡ true → IsLocal c.says
says-local c h = h

chosen-local : (f : Name) (x : HypTree) (hs : List HypTree) (c : Constraint) (b : Bool) → are_local (x ∷ hs) ≡ true → (if b then constraint_in x.fact else first_for f hs) ≡ Some c → (first_for f hs ≡ Some c → IsLocal c.says) → IsLocal c.says
chosen-local f x hs c true h k rest = says-local c (ap has_local_shape (sym (constraint-is x.fact c k).at) ∙ both-left (has_local_shape x.fact) (are_local hs) h)
chosen-local f x hs c false h k rest = rest k

first-local : (f : Name) (hs : List HypTree) (c : Constraint) → are_local hs ≡ true → first_for f hs ≡ Some c → IsLocal c.says
unfolding first_for
first-local f [] c h e = absurd (cc)
first-local f (x ∷ hs) c h e = chosen-local f x hs c (is_of f (constraint_in x.fact)) h e (λ k. first-local f hs c (both-right (has_local_shape x.fact) (are_local hs) h) k)

step-local : (f : Name) (c : Constraint) (s : SequentTree) → first_for f s.hyps ≡ Some c → is_local s ≡ true → is_local (step c s) ≡ true
step-local f c s found h =
    let facts : are_local s.hyps ≡ true = both-left (are_local s.hyps) (has_local_shape s.goal) h in
    let shaped : IsLocal c.says = first-local f s.hyps c facts found in
    both-true (are_local (facts_eliminated c (without_first c.field s.hyps))) (has_local_shape (eliminated c s.goal true))
    (facts-local c shaped (without_first c.field s.hyps) (without-local c.field s.hyps facts)) (eliminated-local c shaped s.goal true (both-right (are_local s.hyps) (has_local_shape s.goal) h))

turn-local : (f : Name) (s : SequentTree) (listed : Bool) (o : Option Constraint) → first_for f s.hyps ≡ o → is_local s ≡ true → is_local (step_by (if listed then None else o) s) ≡ true
unfolding step_by
turn-local f s true o found h = h
turn-local f s false None found h = h
turn-local f s false (Some c) found h = step-local f c s found h

-- the step of a field
pub step-of-local : (f : Name) (s : SequentTree) → is_local s ≡ true → is_local (step_of f s) ≡ true
unfolding at_turn
step-of-local f s h = turn-local f s (is_listed_in f s) (first_for f s.hyps) refl h

steps-local : (fs : List Name) (s : SequentTree) → is_local s ≡ true → is_local (all_steps fs s) ≡ true
unfolding all_steps
steps-local [] s h = h
steps-local (f ∷ fs) s h = steps-local fs (step_of f s) (step-of-local f s h)

pub eliminated-has-shape : EliminatedHasShape
unfolding eliminate
eliminated-has-shape s h = steps-local (derived s) s h
