-- Quantifiers over the objects below a number, connectives, and lists of hypotheses and sequents.
use Rattle.std.proofs.Common.{◌≡◌, refl, sym, ap, ◌∙◌, ℕ, zero, suc, ◌<◌, ◌==◌, arith, Bool, true, false, not, ◌&&◌, ◌||◌, List, [], ◌∷◌, ◌++◌}
use Rattle.std.proofs.lemmas.Bool.{true≢false}
use Rattle.std.proofs.lemmas.Bool.Decides.{nat_tests}
use Rattle.jh_form.specs.Meaning.{Interp, all_below, any_below, agree}
use Rattle.jh_form.proofs.ClosedLemmas.{both-left, both-right}
use Rattle.jh_seq.specs.sequent.Sequents.{HypTree, SequentTree, AllTrue}
use Rattle.jh_seq.specs.splitting.Laws.{AllValid}

-- quantifiers
pub all-step : (n : ℕ) (p : ℕ → Bool) (x : ℕ) (b : Bool) → (x == n) ≡ b → x < suc n → p n ≡ true → (x < n → p x ≡ true) → p x ≡ true
all-step n p x true e lt h rest = let same : x ≡ n = grind (arith, nat_tests) in ap p same ∙ h
all-step n p x false e lt h rest = let less : x < n = grind (arith, nat_tests) in rest less

pub all-at : (n : ℕ) (p : ℕ → Bool) (x : ℕ) → all_below n p ≡ true → x < n → p x ≡ true
all-at zero p x h lt = absurd (omega arith)
all-at (suc n) p x h lt = all-step n p x (x == n) refl lt (both-right (all_below n p) (p n) h) (λ less. all-at n p x (both-left (all_below n p) (p n) h) less)

pub all-made : (n : ℕ) (p : ℕ → Bool) → ((x : ℕ) → x < n → p x ≡ true) → all_below n p ≡ true
all-made zero p h = refl
all-made (suc n) p h = λ i. all-made n p (λ x lt. h x (omega arith)) i && h n (omega arith) i

pub any-step : (n : ℕ) (p : ℕ → Bool) (b : Bool) → any_below n p ≡ b → (any_below n p || p n) ≡ true → (any_below n p ≡ true → (x : ℕ) × (x < n) × (p x ≡ true)) → (x : ℕ) × (x < suc n) × (p x ≡ true)
any-step n p true e h rest = let found = rest e in (found.0, omega (arith, found.1), found.2)
any-step n p false e h rest = (n, omega arith, ap (λ b. b || p n) (sym e) ∙ h)

pub any-found : (n : ℕ) (p : ℕ → Bool) → any_below n p ≡ true → (x : ℕ) × (x < n) × (p x ≡ true)
any-found zero p h = absurd (true≢false (sym h))
any-found (suc n) p h = any-step n p (any_below n p) refl h (λ e. any-found n p e)

pub or_right : (a b : Bool) → b ≡ true → (a || b) ≡ true
or_right true b e = refl
or_right false b e = e

pub or_left : (a b : Bool) → a ≡ true → (a || b) ≡ true
or_left true b e = refl
or_left false b e = absurd (true≢false (sym e))

pub any-put : (n : ℕ) (p : ℕ → Bool) (x : ℕ) (b : Bool) → (x == n) ≡ b → x < suc n → p x ≡ true → (x < n → any_below n p ≡ true) → (any_below n p || p n) ≡ true
any-put n p x true e lt h rest = let same : x ≡ n = grind (arith, nat_tests) in or_right (any_below n p) (p n) (ap p (sym same) ∙ h)
any-put n p x false e lt h rest = let less : x < n = grind (arith, nat_tests) in or_left (any_below n p) (p n) (rest less)

pub any-made : (n : ℕ) (p : ℕ → Bool) (x : ℕ) → x < n → p x ≡ true → any_below n p ≡ true
any-made zero p x lt h = absurd (omega arith)
any-made (suc n) p x lt h = any-put n p x (x == n) refl lt h (λ less. any-made n p x less h)

pub implied : (a b : Bool) → (a ≡ true → b ≡ true) → (not a || b) ≡ true
implied true b h = h refl
implied false b h = refl

pub imply : (a b : Bool) → (not a || b) ≡ true → a ≡ true → b ≡ true
imply true b h e = h
imply false b h e = absurd (true≢false (sym e))

pub agreeing : (a b : Bool) → (a ≡ true → b ≡ true) → (b ≡ true → a ≡ true) → agree a b ≡ true
agreeing true b h k = h refl
agreeing false true h k = k refl
agreeing false false h k = refl

pub agree-to : (a b : Bool) → agree a b ≡ true → a ≡ true → b ≡ true
agree-to true b h e = h
agree-to false b h e = absurd (true≢false (sym e))

pub agree-from : (a b : Bool) → agree a b ≡ true → b ≡ true → a ≡ true
agree-from true b h e = refl
agree-from false true h e = h
agree-from false false h e = absurd (true≢false (sym e))

pub true-left : (hs gs : List HypTree) (m : Interp) → AllTrue (hs ++ gs) m → AllTrue hs m
true-left [] gs m h = tt
true-left (x ∷ hs) gs m h = (h.0, true-left hs gs m h.1)

pub true-right : (hs gs : List HypTree) (m : Interp) → AllTrue (hs ++ gs) m → AllTrue gs m
true-right [] gs m h = h
true-right (x ∷ hs) gs m h = true-right hs gs m h.1

pub true-both : (hs gs : List HypTree) (m : Interp) → AllTrue hs m → AllTrue gs m → AllTrue (hs ++ gs) m
true-both [] gs m h k = k
true-both (x ∷ hs) gs m h k = (h.0, true-both hs gs m h.1 k)

pub valid-left : (ss us : List SequentTree) → AllValid (ss ++ us) → AllValid ss
valid-left [] us p = tt
valid-left (s ∷ ss) us p = (p.0, valid-left ss us p.1)

pub valid-right : (ss us : List SequentTree) → AllValid (ss ++ us) → AllValid us
valid-right [] us p = p
valid-right (s ∷ ss) us p = valid-right ss us p.1

pub valid-both : (ss us : List SequentTree) → AllValid ss → AllValid us → AllValid (ss ++ us)
valid-both [] us p q = q
valid-both (s ∷ ss) us p q = (p.0, valid-both ss us p.1 q)
