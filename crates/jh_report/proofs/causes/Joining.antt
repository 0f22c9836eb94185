-- Pieces that are joined.
use Rattle.std.proofs.Common.{◌≡◌, refl, sym, ap, ◌∙◌, ℕ, true, List, [], ◌∷◌, ◌++◌, append_assoc, append-nil, codes}
use Rattle.jh_report.specs.causes.Causes.{behind, joined}
use Rattle.jh_report.specs.causes.Pieces.{are_some, gap}

-- one more piece behind others
pub behind-more : (ps : List (List ℕ)) (p : List ℕ) → behind (ps ++ p ∷ []) ≡ behind ps ++ (codes "; " ++ p)
behind-more [] p = ap (λ t. codes "; " ++ t) (append-nil p)
behind-more (q ∷ ps) p =
    ap (λ t. codes "; " ++ (q ++ t)) (behind-more ps p)
    ∙ ap (λ t. codes "; " ++ t) (sym (append_assoc q (behind ps) (codes "; " ++ p)))
    ∙ sym (append_assoc (codes "; ") (q ++ behind ps) (codes "; " ++ p))

pub joined-more : (ps : List (List ℕ)) (p : List ℕ) → joined (ps ++ p ∷ []) ≡ (joined ps ++ gap (are_some ps)) ++ p
joined-more [] p = append-nil p
joined-more (q ∷ ps) p =
    ap (λ t. q ++ t) (behind-more ps p)
    ∙ sym (append_assoc q (behind ps) (codes "; " ++ p))
    ∙ sym (append_assoc (q ++ behind ps) (codes "; ") p)

pub some-more : (ps : List (List ℕ)) (p : List ℕ) → are_some (ps ++ p ∷ []) ≡ true
some-more [] p = refl
some-more (q ∷ ps) p = refl
