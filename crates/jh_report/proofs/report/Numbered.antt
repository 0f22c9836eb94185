-- The lines of sequents, one after another.
use Rattle.std.proofs.Common.{◌≡◌, refl, ℕ, zero, suc, ◌+◌, ◌<◌, ◌≤◌, ◌∙◌, sym, ap, List, [], ◌∷◌, ◌++◌, append_assoc, append-nil, length, get_or, drop, drop-cons, add-one, arith}
use Rattle.std.proofs.lemmas.List.{drop_all}
use Rattle.jh_seq.specs.sequent.Sequents.{SequentTree}
use Rattle.jh_splitting.specs.Pairs.{ArePaired}
use Rattle.jh_prove.specs.declared.prover.answer.Answer.{Answer}
use Rattle.jh_report.specs.report.Report.{lines_for, lines_from}

-- the item that belongs to one at a place, in front of those behind it
module _ {X Y : Type 0} (R : X → Y → Type 0) where
  pub paired-at : (xs : List X) (ys : List Y) (i : ℕ) (d : X) → ArePaired R xs ys → i < length xs → (y : Y) × R (get_or xs i d) y × (drop i ys ≡ y ∷ drop (suc i) ys)
  paired-at [] ys i d h inside = absurd (omega (arith, inside))
  paired-at (x ∷ xs) [] i d h inside = absurd h
  paired-at (x ∷ xs) (y ∷ ys) zero d h inside = (y, h.0, refl)
  paired-at (x ∷ xs) (y ∷ ys) (suc i) d h inside = paired-at xs ys i d h.1 (omega (arith, inside))

-- where no answer is left there is no line
lines-none : (class name : List ℕ) (n : ℕ) (ss : List SequentTree) → lines_from class name n ss [] ≡ []
lines-none class name n [] = refl
lines-none class name n (s ∷ ss) = refl

-- behind the last answer nothing is left
pub lines-end : (class name : List ℕ) (ss : List SequentTree) (answers : List Answer) (i k : ℕ) (text target : List ℕ)
    → length answers ≤ i → text ++ lines_from class name k (drop i ss) (drop i answers) ≡ target → text ≡ target
lines-end class name ss answers i k text target long whole =
    sym (append-nil text)
    ∙ ap (λ (l : List ℕ). text ++ l) (sym (lines-none class name k (drop i ss)))
    ∙ ap (λ (l : List Answer). text ++ lines_from class name k (drop i ss) l) (sym (drop_all i answers long))
    ∙ whole

-- the line of the sequent at a place is written, and those behind it are left
pub lines-more : (class name : List ℕ) (ss : List SequentTree) (answers : List Answer) (i : ℕ) (s : SequentTree) (d : Answer) (text more target : List ℕ)
    → drop i ss ≡ s ∷ drop (suc i) ss → i < length answers
    → more ≡ text ++ lines_for class name (i + 1) s.mark (get_or answers i d)
    → text ++ lines_from class name (i + 1) (drop i ss) (drop i answers) ≡ target
    → more ++ lines_from class name (i + 1 + 1) (drop (i + 1) ss) (drop (i + 1) answers) ≡ target
lines-more class name ss answers i s d text more target front inside new so_far =
    let line : List ℕ = lines_for class name (i + 1) s.mark (get_or answers i d) in
    let lines : ℕ → List ℕ = λ j. lines_from class name (i + 1 + 1) (drop j ss) (drop j answers) in
    let fronts : drop i answers ≡ get_or answers i d ∷ drop (suc i) answers = drop-cons answers i d inside in
    let whole : text ++ lines_from class name (i + 1) (drop i ss) (drop i answers) ≡ text ++ (line ++ lines (suc i)) =
    λ j. text ++ lines_from class name (i + 1) (front j) (fronts j) in
    ap (λ (l : List ℕ). l ++ lines (i + 1)) new
    ∙ append_assoc text line (lines (i + 1))
    ∙ ap (λ (j : ℕ). text ++ (line ++ lines j)) (add-one i)
    ∙ sym whole
    ∙ so_far
