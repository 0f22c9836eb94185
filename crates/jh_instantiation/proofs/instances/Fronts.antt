-- The choices for the terms of a list, front by front.
use Rattle.std.proofs.Common.{◌≡◌, refl, sym, ap, ◌∙◌, ℕ, zero, suc, ◌+◌, ◌-◌, ◌≤◌, add-one, Bool, true, false, not, ◌||◌, arith, append_assoc, List, [], ◌∷◌, ◌++◌, length, take, slice_get, Some}
use Rattle.std.proofs.lemmas.List.{take_all}
use Rattle.std.specs.List.{flat_map}
use Rattle.jh_form.specs.Tree.{TermTree, FormulaTree}
use Rattle.jh_inst.specs.instances.Entries.{Entry}
use Rattle.jh_inst.specs.instances.Rounds.{AtHand, put_at, puts, made_constants}
use Rattle.jh_inst.specs.instances.Terms.{is_among}
use Rattle.jh_instantiation.specs.instances.Choosing.{choices_from, Leads}
use Rattle.jh_instantiation.proofs.instances.Choices.{one-more}
use Rattle.jh_instantiation.proofs.instances.Sequences.{puts-both, constants-both}

-- the choices whose next term is one of these
abbrev pub next_choices : List TermTree → Bool → ℕ → List TermTree → List TermTree → List TermTree → List (List TermTree)
next_choices c new m ts old xs = flat_map (λ a. choices_from (c ++ (a ∷ [])) (new || not (is_among a old)) m ts old) xs

append-nil : {X : Type 0} (xs : List X) → xs ++ [] ≡ xs
append-nil [] = refl
append-nil (x ∷ xs) = ap (λ ys. x ∷ ys) (append-nil xs)

module _ (c : List TermTree) (new : Bool) (m : ℕ) (ts old : List TermTree) where
  -- one more term at the end of the list
  next-last : (xs : List TermTree) (w : TermTree) → next_choices c new m ts old (xs ++ (w ∷ [])) ≡ next_choices c new m ts old xs ++ choices_from (c ++ (w ∷ [])) (new || not (is_among w old)) m ts old
  next-last [] w = append-nil (choices_from (c ++ (w ∷ [])) (new || not (is_among w old)) m ts old)
  next-last (a ∷ xs) w =
      ap (λ cs. choices_from (c ++ (a ∷ [])) (new || not (is_among a old)) m ts old ++ cs) (next-last xs w)
      ∙ sym (append_assoc (choices_from (c ++ (a ∷ [])) (new || not (is_among a old)) m ts old) (next_choices c new m ts old xs) (choices_from (c ++ (w ∷ [])) (new || not (is_among w old)) m ts old))

  take-more : (xs : List TermTree) (i : ℕ) (w : TermTree) → slice_get xs i ≡ Some w → take (suc i) xs ≡ take i xs ++ (w ∷ [])
  take-more [] i w e = absurd (cc)
  take-more (a ∷ xs) zero w e = let same : a ≡ w = cc in ap (λ z. z ∷ []) same
  take-more (a ∷ xs) (suc i) w e = ap (λ zs. a ∷ zs) (take-more xs i w e)

  pub next-place : (xs : List TermTree) (i : ℕ) (w : TermTree) (b : Bool) → slice_get xs i ≡ Some w → b ≡ (new || not (is_among w old)) →
      next_choices c new m ts old (take (suc i) xs) ≡ next_choices c new m ts old (take i xs) ++ choices_from (c ++ (w ∷ [])) b m ts old
  next-place xs i w b e f =
      ap (next_choices c new m ts old) (take-more xs i w e) ∙ next-last (take i xs) w
      ∙ ap (λ z. next_choices c new m ts old (take i xs) ++ choices_from (c ++ (w ∷ [])) z m ts old) (sym f)

-- entries of choices, and then those of further ones
pub puts-then : (h : AtHand) (es : List Entry) (cs ds : List (List TermTree)) (k j : ℕ) → j ≡ k + made_constants (puts h cs k) → (es ++ puts h cs k) ++ puts h ds j ≡ es ++ puts h (cs ++ ds) k
puts-then h es cs ds k j e =
    ap (λ n. (es ++ puts h cs k) ++ puts h ds n) e ∙ append_assoc es (puts h cs k) (puts h ds (k + made_constants (puts h cs k))) ∙ ap (λ fs. es ++ fs) (sym (puts-both h cs ds k))

pub constants-then : (h : AtHand) (cs ds : List (List TermTree)) (k j l : ℕ) → j ≡ k + made_constants (puts h cs k) → l ≡ j + made_constants (puts h ds j) → l ≡ k + made_constants (puts h (cs ++ ds) k)
constants-then h cs ds k j l e f =
    let sum : made_constants (puts h cs k ++ puts h ds j) ≡ made_constants (puts h cs k) + made_constants (puts h ds j) = constants-both (puts h cs k) (puts h ds j) in
    let whole : puts h cs k ++ puts h ds j ≡ puts h (cs ++ ds) k = ap (λ n. puts h cs k ++ puts h ds n) e ∙ sym (puts-both h cs ds k) in
    let same : made_constants (puts h (cs ++ ds) k) ≡ made_constants (puts h cs k) + made_constants (puts h ds j) = sym (ap made_constants whole) ∙ sum in
    omega (arith, e, f, same)

-- a choice that is whole
pub none-left : (c : List TermTree) (b : Bool) (m : ℕ) (ts old : List TermTree) → m ≡ 0 → b ≡ false → choices_from c b m ts old ≡ []
none-left c b m ts old e f = λ i. choices_from c (f i) (e i) ts old

pub one-left : (c : List TermTree) (b : Bool) (m : ℕ) (ts old : List TermTree) → m ≡ 0 → b ≡ true → choices_from c b m ts old ≡ c ∷ []
one-left c b m ts old e f = λ i. choices_from c (f i) (e i) ts old

pub puts-none : (h : AtHand) (es : List Entry) (cs : List (List TermTree)) (k : ℕ) → cs ≡ [] → es ≡ es ++ puts h cs k
puts-none h es cs k e = sym (append-nil es) ∙ ap (λ ds. es ++ puts h ds k) (sym e)

pub constants-none : (h : AtHand) (cs : List (List TermTree)) (k : ℕ) → cs ≡ [] → k ≡ k + made_constants (puts h cs k)
constants-none h cs k e = let same : k ≡ k + 0 = omega arith in same ∙ ap (λ ds. k + made_constants (puts h ds k)) (sym e)

-- a universal put at all terms that were chosen is what is left of it
pub leads-whole : (f a : FormulaTree) (c : List TermTree) → Leads f c a → a ≡ put_at f c
leads-whole f a c h = sym (h []) ∙ ap (put_at f) (append-nil c)

pub leads-next : (f a b : FormulaTree) (c : List TermTree) (w : TermTree) → Leads f c a → ((ws : List TermTree) → put_at a (w ∷ ws) ≡ put_at b ws) → Leads f (c ++ (w ∷ [])) b
leads-next f a b c w h g = λ ws. ap (put_at f) (one-more c ws w) ∙ h (w ∷ ws) ∙ g ws

module _ (h : AtHand) (c : List TermTree) (new : Bool) (m : ℕ) (ts : List TermTree) (k i j : ℕ) (w : TermTree) (s : slice_get ts i ≡ Some w) (e : j ≡ k + made_constants (puts h (next_choices c new m ts h.old (take i ts)) k)) where
  further : next_choices c new m ts h.old (take i ts) ++ choices_from (c ++ (w ∷ [])) (new || not (is_among w h.old)) m ts h.old ≡ next_choices c new m ts h.old (take (i + 1) ts)
  further = sym (next-place c new m ts h.old ts i w (new || not (is_among w h.old)) s refl) ∙ ap (λ n. next_choices c new m ts h.old (take n ts)) (sym (add-one i))

  -- put at the choices for one more term
  pub front-next : (es : List Entry) → (es ++ puts h (next_choices c new m ts h.old (take i ts)) k) ++ puts h (choices_from (c ++ (w ∷ [])) (new || not (is_among w h.old)) m ts h.old) j ≡ es ++ puts h (next_choices c new m ts h.old (take (i + 1) ts)) k
  front-next es =
      puts-then h es (next_choices c new m ts h.old (take i ts)) (choices_from (c ++ (w ∷ [])) (new || not (is_among w h.old)) m ts h.old) k j e ∙ ap (λ cs. es ++ puts h cs k) further

  pub front-constants : (l : ℕ) → l ≡ j + made_constants (puts h (choices_from (c ++ (w ∷ [])) (new || not (is_among w h.old)) m ts h.old) j) → l ≡ k + made_constants (puts h (next_choices c new m ts h.old (take (i + 1) ts)) k)
  front-constants l f =
      constants-then h (next_choices c new m ts h.old (take i ts)) (choices_from (c ++ (w ∷ [])) (new || not (is_among w h.old)) m ts h.old) k j l e f ∙ ap (λ cs. k + made_constants (puts h cs k)) further

-- those for all terms
pub front-all : (c : List TermTree) (new : Bool) (ts old : List TermTree) (left i : ℕ) → (left ≡ 0 → ⊥) → length ts ≤ i → next_choices c new (left - 1) ts old (take i ts) ≡ choices_from c new left ts old
front-all c new ts old zero i some h = absurd (some refl)
front-all c new ts old (suc m) i some h =
    let less : suc m - 1 ≡ m = omega arith in
    (λ j. next_choices c new (less j) ts old (take_all i ts h j))
