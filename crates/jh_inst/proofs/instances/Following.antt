-- What all rounds make is true, with suitable constants.
use Rattle.std.proofs.Common.{◌≡◌, refl, subst, ℕ, zero, suc, ◌+◌, ◌≤◌, ◌==◌, arith, length, Bool, true, false, not, if◌then◌else◌, List, [], ◌∷◌, ◌++◌, map, filter}
use Rattle.std.specs.List.{flat_map}
use Rattle.jh_form.specs.Tree.{TermTree, FormulaTree}
use Rattle.jh_form.specs.Tree as t
use Rattle.jh_form.specs.Meaning.{Interp, InUniverse, truth}
use Rattle.jh_form.specs.Closed.{is_closed_term}
use Rattle.jh_form.specs.Passing.{term_passes, formula_passes}
use Rattle.jh_form.proofs.ClosedLemmas.{both-left, both-right}
use Rattle.jh_name.specs.declared.naming.Name.{Name}
use Rattle.jh_seq.specs.splitting.Split.{before}
use Rattle.jh_inst.specs.instances.Witnesses.{witnesses, witnessed, constants_from}
use Rattle.jh_inst.specs.instances.Prenex.{in_front}
use Rattle.jh_inst.specs.instances.Choices.{choices, is_old, new_choices}
use Rattle.jh_inst.specs.instances.Entries.{Entry, formulas, conjuncts, part_of, parts_of, taken, all_witnesses}
use Rattle.jh_inst.specs.instances.Rounds.{AtHand, made_constants, puts, all_puts, universals, Progress, begun, put_before, round, rounds, of_one, ended, all_made}
use Rattle.jh_inst.proofs.instances.Agreements.{agree-lower, agree-refl, agree-trans}
use Rattle.jh_inst.proofs.instances.Choosing.{Fine, Chosen, witnessed-passes, witnessed-chosen}
use Rattle.jh_inst.proofs.instances.Naming.{AllBare, terms-usable}
use Rattle.jh_inst.proofs.instances.Prenexes.{prenex-holds, prenex-passes}
use Rattle.jh_inst.proofs.instances.Putting.{Usable, AllUsable, EachUsable, AllFine, hand, usable-lower, all-move, fine-both, entries-both, puts-chosen}

-- choices of usable terms
each-both : (k : ℕ) (cs ds : List (List TermTree)) → EachUsable k cs → EachUsable k ds → EachUsable k (cs ++ ds)
each-both k [] ds h g = g
each-both k (c ∷ cs) ds h g = (h.0, each-both k cs ds h.1 g)

each-behind : (k : ℕ) (a : TermTree) (cs : List (List TermTree)) → Usable k a → EachUsable k cs → EachUsable k (map (λ c. a ∷ c) cs)
each-behind k a [] u h = tt
each-behind k a (c ∷ cs) u h = ((u, h.0), each-behind k a cs u h.1)

each-more : (k : ℕ) (ts : List TermTree) (cs : List (List TermTree)) → AllUsable k ts → EachUsable k cs → EachUsable k (flat_map (λ a. map (λ c. a ∷ c) cs) ts)
each-more k [] cs u h = tt
each-more k (a ∷ ts) cs u h = each-both k (map (λ c. a ∷ c) cs) (flat_map (λ b. map (λ c. b ∷ c) cs) ts) (each-behind k a cs u.0 h) (each-more k ts cs u.1 h)

each-choice : (k m : ℕ) (ts : List TermTree) → AllUsable k ts → EachUsable k (choices m ts)
each-choice k zero ts u = (tt, tt)
each-choice k (suc m) ts u = each-more k ts (choices m ts) u (each-choice k m ts u)

each-kept : (k : ℕ) (b : Bool) (c : List TermTree) (cs : List (List TermTree)) → AllUsable k c → EachUsable k cs → EachUsable k (if b then c ∷ cs else cs)
each-kept k true c cs h g = (h, g)
each-kept k false c cs h g = g

each-filter : (k : ℕ) (test : List TermTree → Bool) (cs : List (List TermTree)) → EachUsable k cs → EachUsable k (filter test cs)
each-filter k test [] h = tt
each-filter k test (c ∷ cs) h = each-kept k (test c) c (filter test cs) h.0 (each-filter k test cs h.1)

-- universals one after another
constants-both : (es fs : List Entry) → made_constants (es ++ fs) ≡ made_constants es + made_constants fs
constants-both [] fs = omega arith
constants-both (e ∷ es) fs = let more : made_constants (es ++ fs) ≡ made_constants es + made_constants fs = constants-both es fs in omega (arith, more)

pub all-puts-chosen : (hs : List AtHand) (ts : List TermTree) (k : ℕ) (m : Interp) → InUniverse m → AllFine k m (hand hs) → AllUsable k ts →
    Chosen k m (λ n. AllFine (k + made_constants (all_puts hs ts k)) n (formulas (all_puts hs ts k)))
all-puts-chosen [] ts k m u f g = (m, agree-refl k m, u, tt)
all-puts-chosen (h ∷ hs) ts k m u f g =
    let cs : List (List TermTree) = new_choices (in_front h.formula) ts h.old in
    let here : List Entry = puts h cs k in
    let w : ℕ = made_constants here in
    let first = puts-chosen h cs k m u f.0 (each-filter k (λ c. not (is_old h.old c)) (choices (in_front h.formula) ts) (each-choice k (in_front h.formula) ts g)) in
    let later : List Entry = all_puts hs ts (k + w) in
    let second = all-puts-chosen hs ts (k + w) first.0 first.2 (all-move k (k + w) (omega arith) m first.0 first.1 (hand hs) f.1) (usable-lower k (k + w) (omega arith) ts g) in
    let more : ℕ = made_constants later in
    let sum : made_constants (here ++ later) ≡ w + more = constants-both here later in
    let same : k + w + more ≡ k + made_constants (here ++ later) = omega (arith, sum) in (
      second.0,
      agree-trans k m first.0 second.0 first.1 (agree-lower k (k + w) first.0 second.0 (omega arith) second.1),
      second.2,
      subst (λ z. AllFine z second.0 (formulas (here ++ later))) same
          (entries-both (k + w + more) second.0 here later (all-move (k + w) (k + w + more) (omega arith) first.0 second.0 second.1 (formulas here) first.3) second.3),
    )

-- the universals among fine entries
one-universal : (k : ℕ) (m : Interp) (b : Bool) (h : AtHand) (hs : List AtHand) → Fine k m h.formula → AllFine k m (hand hs) → AllFine k m (hand (if b then hs else h ∷ hs))
one-universal k m true h hs f g = g
one-universal k m false h hs f g = (f, g)

universals-fine : (k : ℕ) (m : Interp) (n : ℕ) (es : List Entry) → AllFine k m (formulas es) → AllFine k m (hand (universals n es))
universals-fine k m n [] f = tt
universals-fine k m n (e ∷ es) f = one-universal k m (in_front e.formula == 0) (record { place = n; formula = e.formula; old = [] }) (universals (suc n) es) f.0 (universals-fine k m (suc n) es f.1)

one-kept : (k : ℕ) (m : Interp) (b : Bool) (h : AtHand) (hs : List AtHand) → Fine k m h.formula → AllFine k m (hand hs) → AllFine k m (hand (if b then h ∷ hs else hs))
one-kept k m true h hs f g = (f, g)
one-kept k m false h hs f g = g

of-one-fine : (k : ℕ) (m : Interp) (hs : List AtHand) → AllFine k m (hand hs) → AllFine k m (hand (of_one hs))
of-one-fine k m [] f = tt
of-one-fine k m (h ∷ hs) f = one-kept k m (in_front h.formula == 1) h (of_one hs) f.0 (of-one-fine k m hs f.1)

before-fine : (k : ℕ) (m : Interp) (ts : List TermTree) (hs gs : List AtHand) → AllFine k m (hand hs) → AllFine k m (hand gs) → AllFine k m (hand (put_before ts hs ++ gs))
before-fine k m ts [] gs f g = g
before-fine k m ts (h ∷ hs) gs f g = (f.0, before-fine k m ts hs gs f.1 g)

bare : (k : ℕ) (m : Interp) (xs : List FormulaTree) → AllFine k m xs → AllBare k xs
bare k m [] f = tt
bare k m (a ∷ more) f = (f.0.1, bare k m more f.1)

-- what holds between rounds
pub record Sound (p : Progress) (m : Interp) : Type 0 where
  pub entries : AllFine p.next m (formulas p.entries)
  pub at_hand : AllFine p.next m (hand p.at_hand)
  pub terms : AllUsable p.next p.terms

round-chosen : (p : Progress) (m : Interp) → InUniverse m → Sound p m → Chosen p.next m (Sound (round p))
round-chosen p m u s =
    let es : List Entry = all_puts p.at_hand p.terms p.next in
    let k : ℕ = p.next + made_constants es in
    let made = all-puts-chosen p.at_hand p.terms p.next m u s.at_hand s.terms in (
      made.0,
      made.1,
      made.2,
      record {
        entries = entries-both k made.0 p.entries es (all-move p.next k (omega arith) m made.0 made.1 (formulas p.entries) s.entries) made.3;
        at_hand = before-fine k made.0 p.terms p.at_hand (universals (length p.entries) es) (all-move p.next k (omega arith) m made.0 made.1 (hand p.at_hand) s.at_hand) (universals-fine k made.0 (length p.entries) es made.3);
        terms = terms-usable k p.terms (formulas es) (usable-lower p.next k (omega arith) p.terms s.terms) (bare k made.0 (formulas es) made.3);
      },
    )

rounds-chosen : (r : ℕ) (p : Progress) (m : Interp) → InUniverse m → Sound p m → Chosen p.next m (Sound (rounds r p))
rounds-chosen zero p m u s = (m, agree-refl p.next m, u, s)
rounds-chosen (suc r) p m u s =
    let first = round-chosen p m u s in
    let second = rounds-chosen r (round p) first.0 first.2 first.3 in
    (second.0, agree-trans p.next m first.0 second.0 first.1 (agree-lower p.next (round p).next first.0 second.0 (omega arith) second.1), second.2, second.3)

ended-chosen : (p : Progress) (m : Interp) → InUniverse m → Sound p m → Chosen p.next m (λ n. (k : ℕ) × AllFine k n (formulas (ended p)))
ended-chosen p m u s =
    let hs : List AtHand = of_one p.at_hand in
    let es : List Entry = all_puts hs p.terms p.next in
    let k : ℕ = p.next + made_constants es in
    let made = all-puts-chosen hs p.terms p.next m u (of-one-fine p.next m p.at_hand s.at_hand) s.terms in
    (made.0, made.1, made.2, (k, entries-both k made.0 p.entries es (all-move p.next k (omega arith) m made.0 made.1 (formulas p.entries) s.entries) made.3))

-- the facts
conjuncts-fine : (k : ℕ) (m : Interp) (a : FormulaTree) → Fine k m a → AllFine k m (conjuncts a)
unfolding formula_passes
conjuncts-fine k m (t.and a b) f =
    fine-both k m (conjuncts a) (conjuncts b)
    (conjuncts-fine k m a (both-left (truth a m []) (truth b m []) f.0, both-left (formula_passes a (before k)) (formula_passes b (before k)) f.1))
    (conjuncts-fine k m b (both-right (truth a m []) (truth b m []) f.0, both-right (formula_passes a (before k)) (formula_passes b (before k)) f.1))
conjuncts-fine k m a f = (f, tt)

parts-fine : (k : ℕ) (m : Interp) (n : ℕ) (fresh : List Name) (xs : List FormulaTree) → AllFine k m xs → AllFine k m (formulas (map (part_of n fresh) xs))
parts-fine k m n fresh [] f = tt
parts-fine k m n fresh (a ∷ more) f = ((prenex-holds m a [] f.0.0, prenex-passes (before k) a f.0.1), parts-fine k m n fresh more f.1)

taken-chosen : (facts : List FormulaTree) (n k : ℕ) (m : Interp) → InUniverse m → AllFine k m facts → Chosen k m (λ o. AllFine (k + all_witnesses facts) o (formulas (taken facts n k)))
taken-chosen [] n k m u f = (m, agree-refl k m, u, tt)
taken-chosen (a ∷ more) n k m u f =
    let w : ℕ = witnesses a in
    let rest : ℕ = all_witnesses more in
    let here : List Entry = parts_of n a k in
    let later : List Entry = taken more (suc n) (k + w) in
    let first = witnessed-chosen k k a [] (omega arith) f.0.1 tt m u f.0.0 in
    let second = taken-chosen more (suc n) (k + w) first.0 first.2 (all-move k (k + w) (omega arith) m first.0 (first.1) more f.1) in
    let parts : AllFine (k + w) first.0 (formulas here) =
    parts-fine (k + w) first.0 n (constants_from k w) (conjuncts (witnessed a [] k)) (conjuncts-fine (k + w) first.0 (witnessed a [] k) (first.3, witnessed-passes k k a [] (omega arith) f.0.1 tt)) in
    let same : k + w + rest ≡ k + (w + rest) = omega arith in (
      second.0,
      agree-trans k m first.0 second.0 first.1 (agree-lower k (k + w) first.0 second.0 (omega arith) second.1),
      second.2,
      subst (λ z. AllFine z second.0 (formulas (here ++ later))) same
          (entries-both (k + w + rest) second.0 here later (all-move (k + w) (k + w + rest) (omega arith) first.0 second.0 second.1 (formulas here) parts) second.3),
    )

null-usable : (k : ℕ) → AllUsable k (t.null ∷ [])
unfolding is_closed_term term_passes
null-usable k = ((refl, refl), tt)

-- Whatever facts are true, all that is made of them is, with suitable constants.
pub made-chosen : (facts : List FormulaTree) (k r : ℕ) (m : Interp) → InUniverse m → AllFine k m facts → Chosen k m (λ o. (j : ℕ) × AllFine j o (formulas (all_made facts k r)))
made-chosen facts k r m u f =
    let es : List Entry = taken facts 0 k in
    let j : ℕ = k + all_witnesses facts in
    let first = taken-chosen facts 0 k m u f in
    let begins : Sound (begun facts k) first.0 = record {
      entries = first.3;
      at_hand = universals-fine j first.0 0 es first.3;
      terms = terms-usable j (t.null ∷ []) (formulas es) (null-usable j) (bare j first.0 (formulas es) first.3);
    } in
    let second = rounds-chosen r (begun facts k) first.0 first.2 begins in
    let third = ended-chosen (rounds r (begun facts k)) second.0 second.2 second.3 in
    (third.0, agree-trans k m first.0 third.0 first.1 (agree-trans k first.0 second.0 third.0 (agree-lower k j first.0 second.0 (omega arith) second.1) (agree-lower k (rounds r (begun facts k)).next second.0 third.0 (later r (begun facts k) k (omega arith)) third.1)), third.2, third.3)
  where
    later : (r : ℕ) (p : Progress) (k : ℕ) → k ≤ p.next → k ≤ (rounds r p).next
    later zero p k le = le
    later (suc r) p k le = later r (round p) k (omega (arith, le))
