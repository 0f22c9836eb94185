-- Lists of members.
use Rattle.std.proofs.Common.{◌≡◌, refl, sym, ap, ◌∙◌, ◌⊎◌, inl, inr, ℕ, zero, suc, ◌+◌, ◌<◌, ◌≤◌, Bool, false, ◌&&◌, nat_lt, List, [], ◌∷◌, ◌++◌, get_or, length, arith}
use Rattle.std.proofs.lemmas.Bool.{cases_lt, lt-ltb, le-ltb}
use Rattle.jh_machine.specs.ghosts.Nodes.{AreMembers, Lists}

-- one object more is listed
pub one_listed : (row : List Bool) (test : ℕ → Bool) (b : Bool) → Lists row test → b ≡ test (length row) → Lists (row ++ b ∷ []) test
unfolding Lists
one_listed [] test b h e = (e, tt)
one_listed (c ∷ row) test b h e = (h.0, one_listed row (λ a. test (suc a)) b h.1 e)

pub one_longer : (row : List Bool) (b : Bool) → length (row ++ b ∷ []) ≡ length row + 1
one_longer [] b = refl
one_longer (c ∷ row) b = let h = one_longer row b in omega (arith, h)

next : (a n : ℕ) → nat_lt a n ≡ nat_lt (suc a) (suc n)
next a n = by (cases_lt a n)
  where
    by : (a < n) ⊎ (n ≤ a) → nat_lt a n ≡ nat_lt (suc a) (suc n)
    by (inl h) = lt-ltb a n h ∙ sym (lt-ltb (suc a) (suc n) (omega (arith, h)))
    by (inr h) = le-ltb a n h ∙ sym (le-ltb (suc a) (suc n) (omega (arith, h)))

listed : (row : List Bool) (test : ℕ → Bool) → Lists row test → (a : ℕ) → get_or row a false ≡ (nat_lt a (length row) && test a)
unfolding Lists
listed [] test h a = sym (ap (λ t. t && test a) (le-ltb a 0 (omega arith)))
listed (b ∷ row) test h zero = h.0 ∙ sym (ap (λ t. t && test 0) (lt-ltb 0 (suc (length row)) (omega arith)))
listed (b ∷ row) test h (suc a) = listed row (λ a. test (suc a)) h.1 a ∙ ap (λ t. t && test (suc a)) (next a (length row))

-- all objects of a universe are listed
pub all_listed : (last : ℕ) (row : List Bool) (test : ℕ → Bool) → length row ≡ suc last → Lists row test → AreMembers last row test
all_listed last row test e h = λ a. listed row test h a ∙ ap (λ n. nat_lt a n && test a) e
