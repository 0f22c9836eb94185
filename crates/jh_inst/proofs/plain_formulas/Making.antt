-- What is made of plain facts is plain.
use Rattle.std.proofs.Common.{◌≡◌, refl, ℕ, zero, suc, ◌+◌, ◌==◌, Bool, true, false, ◌&&◌, if◌then◌else◌, List, [], ◌∷◌, ◌++◌, map, length}
use Rattle.std.specs.List.{list_all}
use Rattle.jh_name.specs.declared.naming.Name.{Name}
use Rattle.jh_form.specs.Tree.{TermTree, FormulaTree}
use Rattle.jh_form.specs.Tree as t
use Rattle.jh_form.proofs.ClosedLemmas.{both-left, both-right}
use Rattle.jh_inst.specs.instances.Prenex.{in_front}
use Rattle.jh_inst.specs.instances.Choices.{new_choices}
use Rattle.jh_inst.specs.instances.Entries.{Entry, formulas, conjuncts, part_of, parts_of, taken}
use Rattle.jh_inst.specs.instances.Rounds.{AtHand, Progress, put_at, puts, new_puts, all_puts, universals, begun, put_before, round, rounds, of_one, all_made, made_constants}
use Rattle.jh_inst.specs.instances.Witnesses.{witnesses, witnessed, constants_from}
use Rattle.jh_inst.specs.instances.Instances.{is_ground, instances_of}
use Rattle.jh_inst.specs.plain_formulas.Plain.{is_plain, are_literals}
use Rattle.jh_inst.proofs.plain_formulas.Keeping.{witnessed-plain, prenex-plain, put-plain, ground-literals}

abbrev Entries : List Entry → Type 0
Entries [] = Unit {0}
Entries (e ∷ es) = (is_plain e.formula ≡ true) × Entries es

abbrev Hands : List AtHand → Type 0
Hands [] = Unit {0}
Hands (h ∷ hs) = (is_plain h.formula ≡ true) × Hands hs

entries-both : (es fs : List Entry) → Entries es → Entries fs → Entries (es ++ fs)
entries-both [] fs h k = k
entries-both (e ∷ es) fs h k = (h.0, entries-both es fs h.1 k)

hands-both : (hs js : List AtHand) → Hands hs → Hands js → Hands (hs ++ js)
hands-both [] js h k = k
hands-both (x ∷ hs) js h k = (h.0, hands-both hs js h.1 k)

conjuncts-plain : (n : ℕ) (fresh : List Name) (a : FormulaTree) → is_plain a ≡ true → Entries (map (part_of n fresh) (conjuncts a))
conjuncts-plain n fresh (t.and a b) h =
    both-mapped n fresh (conjuncts a) (conjuncts b) (conjuncts-plain n fresh a (both-left (is_plain a) (is_plain b) h)) (conjuncts-plain n fresh b (both-right (is_plain a) (is_plain b) h))
  where
    both-mapped : (n : ℕ) (fresh : List Name) (xs ys : List FormulaTree) → Entries (map (part_of n fresh) xs) → Entries (map (part_of n fresh) ys) → Entries (map (part_of n fresh) (xs ++ ys))
    both-mapped n fresh [] ys h k = k
    both-mapped n fresh (x ∷ xs) ys h k = (h.0, both-mapped n fresh xs ys h.1 k)
conjuncts-plain n fresh a h = (prenex-plain a h, tt)

taken-plain : (facts : List FormulaTree) (n k : ℕ) → list_all is_plain facts ≡ true → Entries (taken facts n k)
taken-plain [] n k h = tt
taken-plain (a ∷ facts) n k h =
    entries-both (parts_of n a k) (taken facts (suc n) (k + witnesses a))
    (conjuncts-plain n (constants_from k (witnesses a)) (witnessed a [] k) (witnessed-plain a [] k (both-left (is_plain a) (list_all is_plain facts) h)))
    (taken-plain facts (suc n) (k + witnesses a) (both-right (is_plain a) (list_all is_plain facts) h))

puts-plain : (h : AtHand) (cs : List (List TermTree)) (k : ℕ) → is_plain h.formula ≡ true → Entries (puts h cs k)
puts-plain h [] k e = tt
puts-plain h (c ∷ cs) k e =
    (prenex-plain (witnessed (put_at h.formula c) [] k) (witnessed-plain (put_at h.formula c) [] k (put-plain h.formula c e)), puts-plain h cs (k + witnesses (put_at h.formula c)) e)

all-puts-plain : (hs : List AtHand) (ts : List TermTree) (k : ℕ) → Hands hs → Entries (all_puts hs ts k)
all-puts-plain [] ts k e = tt
all-puts-plain (h ∷ hs) ts k e =
    entries-both (new_puts h ts k) (all_puts hs ts (k + made_constants (new_puts h ts k)))
    (puts-plain h (new_choices (in_front h.formula) ts h.old) k e.0)
    (all-puts-plain hs ts (k + made_constants (new_puts h ts k)) e.1)

hands-if : (b : Bool) (x : AtHand) (hs : List AtHand) → is_plain x.formula ≡ true → Hands hs → Hands (if b then hs else x ∷ hs)
hands-if true x hs e h = h
hands-if false x hs e h = (e, h)

universals-plain : (n : ℕ) (es : List Entry) → Entries es → Hands (universals n es)
universals-plain n [] h = tt
universals-plain n (e ∷ es) h = hands-if (in_front e.formula == 0) (record { place = n; formula = e.formula; old = [] }) (universals (suc n) es) h.0 (universals-plain (suc n) es h.1)

before-plain : (ts : List TermTree) (hs : List AtHand) → Hands hs → Hands (put_before ts hs)
before-plain ts [] h = tt
before-plain ts (x ∷ hs) h = (h.0, before-plain ts hs h.1)

hands-kept : (b : Bool) (x : AtHand) (hs : List AtHand) → is_plain x.formula ≡ true → Hands hs → Hands (if b then x ∷ hs else hs)
hands-kept true x hs e h = (e, h)
hands-kept false x hs e h = h

one-plain : (hs : List AtHand) → Hands hs → Hands (of_one hs)
one-plain [] h = tt
one-plain (x ∷ hs) h = hands-kept (in_front x.formula == 1) x (of_one hs) h.0 (one-plain hs h.1)

record Plain (p : Progress) : Type 0 where
  entries : Entries p.entries
  hands : Hands p.at_hand

round-plain : (p : Progress) → Plain p → Plain (round p)
round-plain p h =
    let es = all_puts p.at_hand p.terms p.next in
    let more = all-puts-plain p.at_hand p.terms p.next h.hands in
    record {
      entries = entries-both p.entries es h.entries more;
      hands = hands-both (put_before p.terms p.at_hand) (universals (length p.entries) es) (before-plain p.terms p.at_hand h.hands) (universals-plain (length p.entries) es more);
    }

rounds-plain : (r : ℕ) (p : Progress) → Plain p → Plain (rounds r p)
rounds-plain zero p h = h
rounds-plain (suc r) p h = rounds-plain r (round p) (round-plain p h)

made-plain : (facts : List FormulaTree) (k r : ℕ) → list_all is_plain facts ≡ true → Entries (all_made facts k r)
made-plain facts k r h =
    let es = taken facts 0 k in
    let first = taken-plain facts 0 k h in
    let p = rounds r (begun facts k) in
    let end = rounds-plain r (begun facts k) (record { entries = first; hands = universals-plain 0 es first }) in
    entries-both p.entries (all_puts (of_one p.at_hand) p.terms p.next) end.entries (all-puts-plain (of_one p.at_hand) p.terms p.next (one-plain p.at_hand end.hands))

listed-plain : (es : List Entry) → Entries es → list_all is_plain (formulas es) ≡ true
listed-plain [] h = refl
listed-plain (e ∷ es) h = λ i. h.0 i && listed-plain es h.1 i

pub entries-plain : (facts : List FormulaTree) (k r : ℕ) → list_all is_plain facts ≡ true → list_all is_plain (formulas (all_made facts k r)) ≡ true
entries-plain facts k r h = listed-plain (all_made facts k r) (made-plain facts k r h)

literals-if : (b : Bool) (a : FormulaTree) (fs : List FormulaTree) → is_ground a ≡ b → is_plain a ≡ true → list_all are_literals fs ≡ true → list_all are_literals (if b then a ∷ fs else fs) ≡ true
literals-if true a fs g e h = λ i. ground-literals a e g i && h i
literals-if false a fs g e h = h

ground-ones : (es : List Entry) → Entries es → list_all are_literals (instances_of es) ≡ true
ground-ones [] h = refl
ground-ones (e ∷ es) h = literals-if (is_ground e.formula) e.formula (instances_of es) refl h.0 (ground-ones es h.1)

pub instances-literals : (facts : List FormulaTree) (k r : ℕ) → list_all is_plain facts ≡ true → list_all are_literals (instances_of (all_made facts k r)) ≡ true
instances-literals facts k r h = ground-ones (all_made facts k r) (made-plain facts k r h)
