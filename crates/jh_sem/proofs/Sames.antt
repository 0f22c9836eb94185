-- Fields that lead to the same objects within the universe reach the same, and are a forest where the others are.
use Rattle.std.proofs.Common.{◌≡◌, refl, sym, ap, ◌∙◌, ℕ, zero, suc, ◌<◌, ◌==◌, Bool, true, false, not, ◌&&◌, ◌||◌, List, [], ◌∷◌, length, arith}
use Rattle.std.specs.List.{list_any, list_all}
use Rattle.jh_form.specs.Meaning.{Fields, leads, reaches, edge, any_below, all_below, no_cycle, no_sharing, is_forest}
use Rattle.jh_sem.specs.Graphs.{listed_fields, AreRows, AreSame, is_free}
use Rattle.jh_sem.proofs.Walks.{any-edge, edge-any, edge-inside, listed-length}
use Rattle.jh_sem.proofs.Forests.{all-edges, edge-of-all}

both-true : (p q : Bool) → (p ≡ true → q ≡ true) → (q ≡ true → p ≡ true) → p ≡ q
both-true true q h k = sym (h refl)
both-true false true h k = k refl
both-true false false h k = refl

all-same : (n : ℕ) (p q : ℕ → Bool) → ((x : ℕ) → x < n → p x ≡ q x) → all_below n p ≡ all_below n q
all-same zero p q h = refl
all-same (suc n) p q h = λ i. all-same n p q (λ x lt. h x (omega arith)) i && h n (omega arith) i

-- over another bound, too
all-moved : (n k : ℕ) (p q : ℕ → Bool) → n ≡ k → ((x : ℕ) → x < n → p x ≡ q x) → all_below n p ≡ all_below k q
all-moved n k p q e h = all-same n p q h ∙ ap (λ j. all_below j q) e

module _ (last : ℕ) (rows : List (List ℕ)) (gs : List Fields) (are : AreRows last rows) (same : AreSame last (listed_fields rows) gs) where
  abbrev fs : List Fields
  fs = listed_fields rows

  stay : (i x : ℕ) → i < length fs → x < suc last → edge fs i x < suc last
  stay i x lt inside = let n = listed-length rows in edge-inside last rows i x are (omega arith) inside

  leads-same : (k a b : ℕ) → a < suc last → leads fs k a b ≡ leads gs k a b
  leads-same zero a b lt = refl
  leads-same (suc k) a b lt =
      both-true (leads fs (suc k) a b) (leads gs (suc k) a b)
      (λ h.
      let r = any-edge fs (λ c. leads fs k c b) a h in
      let less = r.1 in
      let counted = same.counted in
      edge-any gs (λ c. leads gs k c b) a r.0 (omega arith) (ap (λ c. leads gs k c b) (sym (same.edges r.0 a lt)) ∙ sym (leads-same k (edge fs r.0 a) b (stay r.0 a r.1 lt)) ∙ r.2))
      (λ h.
      let r = any-edge gs (λ c. leads gs k c b) a h in
      let less = r.1 in
      let counted = same.counted in
      let here : r.0 < length fs = omega arith in
      edge-any fs (λ c. leads fs k c b) a r.0 here (leads-same k (edge fs r.0 a) b (stay r.0 a here lt) ∙ ap (λ c. leads gs k c b) (same.edges r.0 a lt) ∙ r.2))

  pub reaches-same : (a b : ℕ) → a < suc last → reaches last fs a b ≡ reaches last gs a b
  reaches-same a b lt = λ i. any_below (suc last) (λ k. leads-same k a b lt i)

  free-same : (x : ℕ) → x < suc last → is_free last fs x ≡ is_free last gs x
  free-same x lt =
      both-true (is_free last fs x) (is_free last gs x)
      (λ h. all-edges gs (λ c. not (reaches last gs c x)) x (λ i less.
      let counted = same.counted in
      let here : i < length fs = omega arith in
      ap (λ c. not (reaches last gs c x)) (sym (same.edges i x lt)) ∙ ap not (sym (reaches-same (edge fs i x) x (stay i x here lt))) ∙ edge-of-all fs (λ c. not (reaches last fs c x)) x i here h))
      (λ h. all-edges fs (λ c. not (reaches last fs c x)) x (λ i here.
      let counted = same.counted in
      let less : i < length gs = omega arith in
      ap not (reaches-same (edge fs i x) x (stay i x here lt)) ∙ ap (λ c. not (reaches last gs c x)) (same.edges i x lt) ∙ edge-of-all gs (λ c. not (reaches last gs c x)) x i less h))

  cycles-same : no_cycle last fs ≡ no_cycle last gs
  cycles-same = all-same (suc last) (λ x. x == 0 || is_free last fs x) (λ x. x == 0 || is_free last gs x) (λ x lt. λ i. x == 0 || free-same x lt i)

  sharing-same : no_sharing last fs ≡ no_sharing last gs
  sharing-same =
      all-same (suc last) _ _ (λ x lx.
      all-same (suc last) _ _ (λ y ly.
      all-moved (length fs) (length gs) _ _ same.counted (λ i li.
      all-moved (length fs) (length gs) _ _ same.counted (λ j lj.
      λ u. (x == y && i == j) || not (same.edges i x lx u == same.edges j y ly u) || same.edges i x lx u == 0))))

  pub forest-same : is_forest last fs ≡ is_forest last gs
  forest-same = λ i. cycles-same i && sharing-same i
