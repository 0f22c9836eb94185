-- What is made of a sequent of local shape has local shape.
use Rattle.std.proofs.Common.{◌≡◌, refl, sym, ap, ◌∙◌, subst, ℕ, zero, suc, ◌==◌, Bool, true, false, ◌&&◌, if◌then◌else◌, List, [], ◌∷◌, ◌++◌, length}
use Rattle.std.specs.List.{list_all}
use Rattle.jh_form.specs.Tree.{TermTree, FormulaTree}
use Rattle.jh_form.specs.Tree as t
use Rattle.jh_seq.specs.sequent.Sequents.{SequentTree}
use Rattle.jh_seq.specs.splitting.Local.{has_local_shape, is_local}
use Rattle.jh_inst.specs.instances.Prenex.{in_front}
use Rattle.jh_inst.specs.instances.Entries.{Entry, formulas, taken}
use Rattle.jh_inst.specs.instances.Rounds.{AtHand, Progress, all_puts, universals, begun, round, rounds, of_one, all_made}
use Rattle.jh_inst.specs.instances.Instances.{normal_facts, made}
use Rattle.jh_inst.proofs.instances.Growth.{Whole, AllLocal, whole-all}
use Rattle.jh_inst.proofs.instances.Putting.{hand, formulas-both}
use Rattle.jh_inst.proofs.instances.Tallies.{universal_of, universals-hand, local-both, local-universal, all-puts-local, hand-before}
use Rattle.jh_inst.proofs.instances.Counted.{taken-local, null-whole, facts-local}

-- what was made so far, and what is put next, has local shape
record IsLocal (p : Progress) : Type 0 where
  entries : AllLocal (formulas p.entries)
  hands : AllLocal (hand p.at_hand)
  whole : Whole p.terms

entries-both : (es fs : List Entry) → AllLocal (formulas es) → AllLocal (formulas fs) → AllLocal (formulas (es ++ fs))
entries-both es fs h k = subst AllLocal (sym (formulas-both es fs)) (local-both (formulas es) (formulas fs) h k)

round-local : (p : Progress) → IsLocal p → IsLocal (round p)
round-local p h =
    let es : List Entry = all_puts p.at_hand p.terms p.next in
    let more : AllLocal (formulas es) = all-puts-local p.terms h.whole p.at_hand p.next h.hands in
    let hands = hand-before p.terms p.at_hand (universals (length p.entries) es) ∙ ap (λ z. hand p.at_hand ++ z) (universals-hand (length p.entries) es) in record {
      entries = entries-both p.entries es h.entries more;
      hands = subst AllLocal (sym hands) (local-both (hand p.at_hand) (universal_of (formulas es)) h.hands (local-universal (formulas es) more));
      whole = whole-all p.terms (formulas es) more h.whole;
    }

rounds-local : (r : ℕ) (p : Progress) → IsLocal p → IsLocal (rounds r p)
rounds-local zero p h = h
rounds-local (suc r) p h = rounds-local r (round p) (round-local p h)

begun-local : (facts : List FormulaTree) (k : ℕ) → AllLocal facts → IsLocal (begun facts k)
begun-local facts k l =
    let es : List Entry = taken facts 0 k in
    let local : AllLocal (formulas es) = taken-local facts 0 k l in record {
      entries = local;
      hands = subst AllLocal (sym (universals-hand 0 es)) (local-universal (formulas es) local);
      whole = whole-all (t.null ∷ []) (formulas es) local null-whole;
    }

-- the universals of one variable
hands-kept : (b : Bool) (x : AtHand) (hs : List AtHand) → has_local_shape x.formula ≡ true → AllLocal (hand hs) → AllLocal (hand (if b then x ∷ hs else hs))
hands-kept true x hs e h = (e, h)
hands-kept false x hs e h = h

one-local : (hs : List AtHand) → AllLocal (hand hs) → AllLocal (hand (of_one hs))
one-local [] h = tt
one-local (x ∷ hs) h = hands-kept (in_front x.formula == 1) x (of_one hs) h.0 (one-local hs h.1)

made-local : (facts : List FormulaTree) (k r : ℕ) → AllLocal facts → AllLocal (formulas (all_made facts k r))
made-local facts k r l =
    let p : Progress = rounds r (begun facts k) in
    let h : IsLocal p = rounds-local r (begun facts k) (begun-local facts k l) in
    entries-both p.entries (all_puts (of_one p.at_hand) p.terms p.next) h.entries (all-puts-local p.terms h.whole (of_one p.at_hand) p.next (one-local p.at_hand h.hands))

listed-local : (fs : List FormulaTree) → AllLocal fs → list_all has_local_shape fs ≡ true
listed-local [] h = refl
listed-local (a ∷ fs) h = λ i. h.0 i && listed-local fs h.1 i

pub sequent-local : (s : SequentTree) (k r : ℕ) → is_local s ≡ true → list_all has_local_shape (formulas (made s k r)) ≡ true
sequent-local s k r l = listed-local (formulas (made s k r)) (made-local (normal_facts s) k r (facts-local s l))
