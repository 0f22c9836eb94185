-- Branches while instances are looked at.
use Rattle.std.proofs.Common.{◌≡◌, refl, sym, ap, ◌∙◌, subst, ℕ, zero, suc, ◌+◌, ◌<◌, ◌≤◌, arith, add-one, Bool, true, false, not, List, [], ◌∷◌, ◌++◌, append-nil, append_assoc, length, take, drop, Some, slice_get, ◌⊎◌, inl, inr}
use Rattle.std.proofs.lemmas.Option.{slice_get_within}
use Rattle.jh_form.specs.Tree.{FormulaTree, ValueTree}
use Rattle.jh_arena.specs.table.Nodes.{nodes}
use Rattle.jh_closure.specs.congruence_closure.Nodes.{Has}
use Rattle.jh_closure.proofs.congruence_closure.Having.{has-left, has-right}
use Rattle.jh_models.specs.ground_models.Atoms.{atoms_of, StandsIn}
use Rattle.jh_models.specs.ground_models.Truths.{IsFalse}
use Rattle.jh_models.proofs.ground_models.Growing.{false-more}
use Rattle.jh_propagation.specs.declared.trail.decided.Decided.{Decided}
use Rattle.jh_propagation.specs.trail.Laws.{ForcedStands}
use Rattle.jh_propagation.specs.trail.Listing.{decided}
use Rattle.jh_propagation.specs.trail.Looks.{AreForced}
use Rattle.jh_propagation.specs.trail.Saying.{truth_at, literal_tree_at, literals_at, opposite_of}
use Rattle.jh_propagation.specs.declared.propagation.problem.Problem.{Problem}
use Rattle.jh_propagation.specs.declared.propagation.branch.Branch.{Branch}
use Rattle.jh_propagation.specs.propagation.Branches.{IsForced, IsSaid, IsQuiet, Parts, AreParts, HasMore, WaitsAgain}
use Rattle.jh_propagation.proofs.propagation.Lists.{are-listed, drop-more}

drop-next : {X : Type 0} (xs : List X) (n : ℕ) (x y : X) → slice_get xs n ≡ Some x → Has (drop n xs) y → (x ≡ y) ⊎ Has (drop (suc n) xs) y
drop-next [] n x y e h = absurd (let l : n < 0 = slice_get_within [] n x e in omega (arith, l))
drop-next (z ∷ xs) zero x y e (inl h) = let f : z ≡ x = cc in inl (sym f ∙ h)
drop-next (z ∷ xs) zero x y e (inr h) = inr h
drop-next (z ∷ xs) (suc n) x y e h = drop-next xs n x y e h

-- The next instance is being looked at.
pub next-busy : (p : Problem) (b new : Parts) (place : ℕ) → new.decisions ≡ b.decisions → new.classes ≡ b.classes → new.trail ≡ b.trail → new.reasons ≡ b.reasons → new.waiting ≡ b.waiting → new.head ≡ b.head + 1 → slice_get b.waiting b.head ≡ Some place → AreParts p [] b → AreParts p (place ∷ []) new
next-busy p b new place ds cs ts rs ws hs here h =
    subst (AreParts p (place ∷ [])) (sym (λ i. record { decisions = ds i; classes = cs i; trail = ts i; reasons = rs i; waiting = ws i; head = hs i })) moved
  where
    lt : b.head < length b.waiting
    lt = slice_get_within b.waiting b.head place here

    quiet : (j n : ℕ) → slice_get p.instances.items j ≡ Some n → Has (place ∷ []) j ⊎ (Has (drop (b.head + 1) b.waiting) j ⊎ IsQuiet (nodes p.table) b.trail (truth_at (nodes p.table) n))
    quiet j n e = chosen (h.quiet j n e)
      where
        chosen : ⊥ ⊎ (Has (drop b.head b.waiting) j ⊎ IsQuiet (nodes p.table) b.trail (truth_at (nodes p.table) n)) → Has (place ∷ []) j ⊎ (Has (drop (b.head + 1) b.waiting) j ⊎ IsQuiet (nodes p.table) b.trail (truth_at (nodes p.table) n))
        chosen (inl f) = absurd f
        chosen (inr (inl f)) = elim (drop-next b.waiting b.head place j here f) [ inl e ↦ inl (inl e) | inr g ↦ inr (inl (subst (λ n. Has (drop n b.waiting) j) (sym (add-one b.head)) g)) ]
        chosen (inr (inr f)) = inr (inr f)

    moved : AreParts p (place ∷ []) (record { decisions = b.decisions; classes = b.classes; trail = b.trail; reasons = b.reasons; waiting = b.waiting; head = b.head + 1 })
    moved = record {
      problem = h.problem;
      over_atoms = h.over_atoms;
      decided = h.decided;
      reasoned = h.reasoned;
      justified = h.justified;
      counts = h.counts;
      rising = h.rising;
      told = h.told;
      spoken = h.spoken;
      begun = omega (arith, lt);
      waits = h.waits;
      quiet = quiet;
    }

-- The instance that was looked at is quiet, or waits again.
pub busy-done : (p : Problem) (b : Parts) (place : ℕ) → AreParts p (place ∷ []) b → ((n : ℕ) → slice_get p.instances.items place ≡ Some n → Has (drop b.head b.waiting) place ⊎ IsQuiet (nodes p.table) b.trail (truth_at (nodes p.table) n)) → AreParts p [] b
busy-done p b place h done = record {
  problem = h.problem;
  over_atoms = h.over_atoms;
  decided = h.decided;
  reasoned = h.reasoned;
  justified = h.justified;
  counts = h.counts;
  rising = h.rising;
  told = h.told;
  spoken = h.spoken;
  begun = h.begun;
  waits = h.waits;
  quiet = quiet;
}
  where
    quiet : (j n : ℕ) → slice_get p.instances.items j ≡ Some n → ⊥ ⊎ (Has (drop b.head b.waiting) j ⊎ IsQuiet (nodes p.table) b.trail (truth_at (nodes p.table) n))
    quiet j n e = chosen (h.quiet j n e)
      where
        chosen : Has (place ∷ []) j ⊎ (Has (drop b.head b.waiting) j ⊎ IsQuiet (nodes p.table) b.trail (truth_at (nodes p.table) n)) → ⊥ ⊎ (Has (drop b.head b.waiting) j ⊎ IsQuiet (nodes p.table) b.trail (truth_at (nodes p.table) n))
        chosen (inl (inl f)) = elim (done n (ap (λ k. slice_get p.instances.items k) f ∙ e)) [ inl g ↦ inr (inl (subst (Has (drop b.head b.waiting)) f g)) | inr g ↦ inr (inr g) ]
        chosen (inl (inr f)) = absurd f
        chosen (inr f) = inr f

-- What an instance forces was decided already: it is quiet.
module _ (ts : List ValueTree) (trail : List Decided) (i : FormulaTree) (list : List Decided) (h : AreForced ts trail i list) where
  twice : (l : Decided) → Has trail (opposite_of l) → IsFalse (literals_at ts (opposite_of l ∷ trail)) i → ⊥
  twice l g f = h.not_false (false-more (literals_at ts (opposite_of l ∷ trail)) (literals_at ts trail) (are-listed ts trail (opposite_of l ∷ trail) there) i f)
    where
      there : (d : Decided) → Has (opposite_of l ∷ trail) d → Has trail d
      there d (inl e) = subst (Has trail) e g
      there d (inr k) = k

  held : (l : Decided) (p q : Bool) → l.holds ≡ p → Has trail (decided l.atom q) → IsFalse (literals_at ts (opposite_of l ∷ trail)) i → Has trail l
  held l true true e g f = subst (Has trail) (λ k. decided l.atom (sym e k)) g
  held l false false e g f = subst (Has trail) (λ k. decided l.atom (sym e k)) g
  held l true false e g f = absurd (twice l (subst (Has trail) (λ k. decided l.atom (not (sym e k))) g) f)
  held l false true e g f = absurd (twice l (subst (Has trail) (λ k. decided l.atom (not (sym e k))) g) f)

  pub all-decided : ((l : Decided) → Has list l → (q : Bool) × Has trail (decided l.atom q)) → IsQuiet ts trail i
  all-decided said = record {
    not_false = h.not_false;
    forced = λ l f. let there = said l (h.all l f) in held l l.holds there.0 refl there.1 f;
  }

-- The atom of a literal that an instance forces stands in it.
pub forced-stands : (law : ForcedStands) (ts : List ValueTree) (trail : List Decided) (i : FormulaTree) (list : List Decided) (l : Decided) → AreForced ts trail i list → Has list l → StandsIn (atoms_of i) (truth_at ts l.atom)
forced-stands law ts trail i list l h g = elim (law (literals_at ts trail) (literal_tree_at ts l) i (h.only l g)) [ inl f ↦ absurd (h.not_false f) | inr s ↦ s ]

-- an instance that was added waits
pub waits-again : (waiting more : List ℕ) (head place : ℕ) → head ≤ length waiting → Has more place → Has (drop head (waiting ++ more)) place
waits-again waiting more head place le h = subst (λ (xs : List ℕ). Has xs place) (sym (drop-more head waiting more le)) (has-right (drop head waiting) more place h)

-- what is forced stays forced with more literals
pub forced-more : (ts : List ValueTree) (old more : List Decided) (d : Decided) (i : FormulaTree) → IsFalse (literals_at ts (opposite_of d ∷ old)) i → IsFalse (literals_at ts (opposite_of d ∷ (old ++ more))) i
forced-more ts old more d i h = false-more (literals_at ts (opposite_of d ∷ old)) (literals_at ts (opposite_of d ∷ (old ++ more))) (are-listed ts (opposite_of d ∷ (old ++ more)) (opposite_of d ∷ old) there) i h
  where
    there : (e : Decided) → Has (opposite_of d ∷ old) e → Has (opposite_of d ∷ (old ++ more)) e
    there e (inl f) = inl f
    there e (inr f) = inr (has-left old more e f)

-- what stands in the first ones of a list and one more
take-next : {X : Type 0} (xs : List X) (n : ℕ) (x y : X) → slice_get xs n ≡ Some x → Has (take (suc n) xs) y → Has (take n xs) y ⊎ (x ≡ y)
take-next [] n x y e h = absurd (let l : n < 0 = slice_get_within [] n x e in omega (arith, l))
take-next (z ∷ xs) zero x y e (inl f) = let g : z ≡ x = cc in inr (sym g ∙ f)
take-next (z ∷ xs) zero x y e (inr f) = absurd f
take-next (z ∷ xs) (suc n) x y e (inl f) = inl (inl f)
take-next (z ∷ xs) (suc n) x y e (inr h) = elim (take-next xs n x y e h) [ inl l ↦ inl (inr l) | inr r ↦ inr r ]

pub take-has : {X : Type 0} (xs : List X) (n : ℕ) (x y : X) → slice_get xs n ≡ Some x → Has (take (n + 1) xs) y → Has (take n xs) y ⊎ (x ≡ y)
take-has xs n x y e h = take-next xs n x y e (subst (λ k. Has (take k xs) y) (add-one n) h)

-- growing
pub more-same : (p : Problem) (b : Branch) → HasMore p b b
more-same p b = record {
  decisions = refl;
  classes = refl;
  trail = ([], sym (append-nil b.trail));
  reasons = ([], sym (append-nil b.reasons.items));
  waiting = ([], sym (append-nil b.waiting.items));
  head = refl;
  looks = omega arith;
  count = omega arith;
}

pub more-twice : (p : Problem) (a b c : Branch) → HasMore p a b → HasMore p b c → HasMore p a c
more-twice p a b c h k = record {
  decisions = k.decisions ∙ h.decisions;
  classes = k.classes ∙ h.classes;
  trail = (h.trail.0 ++ k.trail.0, k.trail.1 ∙ (ap (λ xs. xs ++ k.trail.0) h.trail.1 ∙ append_assoc a.trail h.trail.0 k.trail.0));
  reasons = (h.reasons.0 ++ k.reasons.0, k.reasons.1 ∙ (ap (λ xs. xs ++ k.reasons.0) h.reasons.1 ∙ append_assoc a.reasons.items h.reasons.0 k.reasons.0));
  waiting = (h.waiting.0 ++ k.waiting.0, k.waiting.1 ∙ (ap (λ xs. xs ++ k.waiting.0) h.waiting.1 ∙ append_assoc a.waiting.items h.waiting.0 k.waiting.0));
  head = k.head ∙ h.head;
  looks = let one = h.looks in let two = k.looks in omega (arith, one, two);
  count = let one = h.count in let two = k.count in omega (arith, one, two);
}

pub has-more : (p : Problem) (a b : Branch) → HasMore p a b → (d : Decided) → Has a.trail d → Has b.trail d
has-more p a b h d g = subst (λ (xs : List Decided). Has xs d) (sym h.trail.1) (has-left a.trail h.trail.0 d g)

pub waits-more : (p : Problem) (a b : Branch) (place : ℕ) → HasMore p a b → a.head ≤ length a.waiting.items → Has (drop a.head a.waiting.items) place → Has (drop b.head b.waiting.items) place
waits-more p a b place h le g =
    subst (λ (xs : List ℕ). Has xs place) (λ i. drop (sym h.head i) (sym h.waiting.1 i))
    (subst (λ (xs : List ℕ). Has xs place) (sym (drop-more a.head a.waiting.items h.waiting.0 le)) (has-left (drop a.head a.waiting.items) h.waiting.0 place g))

pub waits-twice : (p : Problem) (a b c : Branch) (place : ℕ) → HasMore p b c → b.head ≤ length b.waiting.items → WaitsAgain a b place → WaitsAgain b c place → WaitsAgain a c place
waits-twice p a b c place h le _ (inr g) = inr g
waits-twice p a b c place h le (inr g) (inl e) = inr (waits-more p b c place h le g)
waits-twice p a b c place h le (inl f) (inl e) = inl (e ∙ f)

pub forced-now : (p : Problem) (old new : Branch) → HasMore p old new → (place n : ℕ) (l : Decided) → slice_get p.instances.items place ≡ Some n → IsFalse (literals_at (nodes p.table) (opposite_of l ∷ old.trail)) (truth_at (nodes p.table) n) → IsForced (nodes p.table) p new.trail l place
forced-now p old new h place n l here f =
    let wide : IsFalse (literals_at (nodes p.table) (opposite_of l ∷ (old.trail ++ h.trail.0))) (truth_at (nodes p.table) n) = forced-more (nodes p.table) old.trail h.trail.0 l (truth_at (nodes p.table) n) f in
    record {
      instance = n;
      here = here;
      makes_false = subst (λ (xs : List Decided). IsFalse (literals_at (nodes p.table) (opposite_of l ∷ xs)) (truth_at (nodes p.table) n)) (sym h.trail.1) wide;
    }

-- An instance whose forced literals are decided is quiet, unless it waits again.
pub quiet-again : (p : Problem) (old new : Branch) (place n : ℕ) (list : List Decided) → HasMore p old new → slice_get p.instances.items place ≡ Some n → AreForced (nodes p.table) old.trail (truth_at (nodes p.table) n) list → ((l : Decided) → Has list l → IsSaid new.trail l.atom) → WaitsAgain old new place →
    (m : ℕ) → slice_get p.instances.items place ≡ Some m → Has (drop new.head new.waiting.items) place ⊎ IsQuiet (nodes p.table) new.trail (truth_at (nodes p.table) m)
quiet-again p old new place n list h here forced said (inr w) m e = inl w
quiet-again p old new place n list h here forced said (inl same) m e =
    let one : n ≡ m = cc in
    let trailed : AreForced (nodes p.table) new.trail (truth_at (nodes p.table) n) list = subst (λ (xs : List Decided). AreForced (nodes p.table) xs (truth_at (nodes p.table) n) list) (sym same) forced in
    let placed : AreForced (nodes p.table) new.trail (truth_at (nodes p.table) m) list = subst (λ k. AreForced (nodes p.table) new.trail (truth_at (nodes p.table) k) list) one trailed in
    inr (all-decided (nodes p.table) new.trail (truth_at (nodes p.table) m) list placed said)
