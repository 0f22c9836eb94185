-- Rounds and passes of the definition, step by step.
use Rattle.std.proofs.Common.{◌≡◌, refl, sym, ap, ◌∙◌, ℕ, zero, suc, ◌+◌, ◌-◌, ◌<◌, ◌≤◌, ◌==◌, min, Bool, true, false, if◌then◌else◌, arith, append_assoc, List, [], ◌∷◌, ◌++◌, length, map, take, slice_get, Some}
use Rattle.std.proofs.lemmas.List.{append-nil}
use Rattle.jh_form.specs.Tree.{TermTree, FormulaTree}
use Rattle.jh_query.specs.queries.Size.{capped, count_max}
use Rattle.jh_inst.specs.instances.Prenex.{in_front}
use Rattle.jh_inst.specs.instances.Entries.{Entry}
use Rattle.jh_inst.specs.instances.Rounds.{AtHand, Progress, made_constants, new_puts, all_puts, universals, put_before, of_one, round, ended}
use Rattle.jh_inst.specs.instances.Rounds as spec
use Rattle.jh_inst.specs.instances.Count.{group, groups}
use Rattle.jh_instantiation.specs.instance_count.Grouping.{single_groups}
use Rattle.jh_instantiation.specs.instances.Progressing.{put_each_of, after_puts}
use Rattle.jh_instantiation.proofs.instances.Choices.{filter-both}
use Rattle.jh_instantiation.proofs.instances.Lists.{take-next}
use Rattle.jh_instantiation.proofs.instances.Sequences.{constants-both, all-puts-both}

-- a universal is put where it is to be put
pub put-if : (b : Bool) (h : AtHand) (ts : List TermTree) (k n : ℕ) (r : Bool) → n ≡ in_front h.formula → r ≡ (if b then n == 1 else true) → all_puts (put_each_of b (h ∷ [])) ts k ≡ (if r then new_puts h ts k else [])
put-if true h ts k n r e f = (λ i. all_puts (if sym e i == 1 then h ∷ [] else []) ts k) ∙ one (n == 1) h ts k ∙ (λ i. if sym f i then new_puts h ts k else [])
  where
    one : (b : Bool) (h : AtHand) (ts : List TermTree) (k : ℕ) → all_puts (if b then h ∷ [] else []) ts k ≡ (if b then new_puts h ts k else [])
    one true h ts k = append-nil (new_puts h ts k)
    one false h ts k = refl
put-if false h ts k n r e f = append-nil (new_puts h ts k) ∙ (λ i. if sym f i then new_puts h ts k else [])

-- entries that were put, and further ones
pub after-none : (p : Progress) → after_puts p [] ≡ p
after-none p = λ i. record { entries = append-nil p.entries i; at_hand = p.at_hand; terms = p.terms; next = same i }
  where
    same : p.next + 0 ≡ p.next
    same = omega arith

pub after-both : (p : Progress) (es fs : List Entry) → after_puts (after_puts p es) fs ≡ after_puts p (es ++ fs)
after-both p es fs = λ i. record { entries = append_assoc p.entries es fs i; at_hand = p.at_hand; terms = p.terms; next = same i }
  where
    same : (p.next + made_constants es) + made_constants fs ≡ p.next + made_constants (es ++ fs)
    same = let sum : made_constants (es ++ fs) ≡ made_constants es + made_constants fs = constants-both es fs in omega (arith, sum)

each-both : (b : Bool) (xs ys : List AtHand) → put_each_of b (xs ++ ys) ≡ put_each_of b xs ++ put_each_of b ys
each-both true xs ys = filter-both (λ (h : AtHand). in_front h.formula == 1) xs ys
each-both false xs ys = refl

each-none : (b : Bool) → put_each_of b [] ≡ []
each-none true = refl
each-none false = refl

-- what the first ones at hand put
abbrev pub first_puts : Bool → ℕ → Progress → List Entry
first_puts b i p = all_puts (put_each_of b (take i p.at_hand)) p.terms p.next

pub puts-none : (b : Bool) (p : Progress) → after_puts p (first_puts b 0 p) ≡ p
puts-none b p = ap (λ hs. after_puts p (all_puts hs p.terms p.next)) (each-none b) ∙ after-none p

pub puts-next : (b : Bool) (i : ℕ) (p : Progress) (h : AtHand) → slice_get p.at_hand i ≡ Some h →
    after_puts (after_puts p (first_puts b i p)) (all_puts (put_each_of b (h ∷ [])) p.terms (p.next + made_constants (first_puts b i p))) ≡ after_puts p (first_puts b (i + 1) p)
puts-next b i p h e =
    let more = all_puts (put_each_of b (h ∷ [])) p.terms (p.next + made_constants (first_puts b i p)) in
    after-both p (first_puts b i p) more
    ∙ ap (after_puts p) (sym (all-puts-both (put_each_of b (take i p.at_hand)) (put_each_of b (h ∷ [])) p.terms p.next)
    ∙ ap (λ hs. all_puts hs p.terms p.next) (sym (each-both b (take i p.at_hand) (h ∷ [])) ∙ ap (put_each_of b) (sym (take-next p.at_hand i h e))))

-- rounds one after another
rounds-more : (n m : ℕ) (p : Progress) → spec.rounds (n + m) p ≡ spec.rounds m (spec.rounds n p)
rounds-more zero m p = ap (λ r. spec.rounds r p) (let e : 0 + m ≡ m = omega arith in e)
rounds-more (suc n) m p = ap (λ r. spec.rounds r p) (let e : suc n + m ≡ suc (n + m) = omega arith in e) ∙ rounds-more n m (round p)

pub rounds-next : (n : ℕ) (p : Progress) → spec.rounds (n + 1) p ≡ round (spec.rounds n p)
rounds-next n p = rounds-more n 1 p

-- a round in which none is at hand
ended-none : (p : Progress) → p.at_hand ≡ [] → ended p ≡ p.entries
ended-none p e = ap (λ hs. p.entries ++ all_puts (of_one hs) p.terms p.next) e ∙ append-nil p.entries

rounds-none : (m : ℕ) (p : Progress) → p.at_hand ≡ [] → ((spec.rounds m p).entries ≡ p.entries) × ((spec.rounds m p).at_hand ≡ [])
rounds-none zero p e = (refl, e)
rounds-none (suc m) p e =
    let later = rounds-none m (round p) (ap (λ hs. put_before p.terms hs ++ universals (length p.entries) (all_puts hs p.terms p.next)) e) in
    (later.0 ∙ ap (λ hs. p.entries ++ all_puts hs p.terms p.next) e ∙ append-nil p.entries, later.1)

pub rounds-stay : (n r : ℕ) (p : Progress) → n ≤ r → (spec.rounds n p).at_hand ≡ [] → ended (spec.rounds n p) ≡ ended (spec.rounds r p)
rounds-stay n r p h e =
    let parts : n + (r - n) ≡ r = omega (arith, h) in
    let q : Progress = spec.rounds n p in
    let stays = rounds-none (r - n) q e in
    ended-none q e ∙ sym stays.0 ∙ sym (ended-none (spec.rounds (r - n) q) stays.1) ∙ ap ended (sym (rounds-more n (r - n) p) ∙ ap (λ k. spec.rounds k p) parts)

-- the groups of entries are those of the universals among them
abbrev formulas_at : List AtHand → List FormulaTree
formulas_at hs = map (λ (h : AtHand). h.formula) hs

one-group : (e : Entry) (n : ℕ) (us : List AtHand) (b : Bool) → (in_front e.formula == 0) ≡ b →
    group e.formula 1 ++ single_groups (formulas_at us) ≡ single_groups (formulas_at (if b then us else record { place = n; formula = e.formula; old = [] } ∷ us))
one-group e n us true h = ap (λ b. (if b then [] else record { formula = e.formula; many = 1 } ∷ []) ++ single_groups (formulas_at us)) h
one-group e n us false h = refl

pub groups-are : (n : ℕ) (es : List Entry) → groups es ≡ single_groups (map (λ (h : AtHand). h.formula) (universals n es))
groups-are n [] = refl
groups-are n (e ∷ es) = ap (λ gs. group e.formula 1 ++ gs) (groups-are (suc n) es) ∙ one-group e n (universals (suc n) es) (in_front e.formula == 0) refl

-- a count that stays at the greatest one, and is small
few-least : (n m r k : ℕ) → r ≡ min n m → r ≤ k → k < m → n ≤ k
few-least n m r k e f g = omega (arith, e, f, g)

pub few-capped : (n r : ℕ) → r ≡ capped n → r ≤ 100000 → n ≤ 100000
few-capped n r e f = few-least n count_max r 100000 e f (omega arith)
