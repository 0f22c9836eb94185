-- Entries that are put one after another.
use Rattle.std.proofs.Common.{◌≡◌, refl, sym, ap, ◌∙◌, ℕ, zero, suc, ◌+◌, arith, append_assoc, length, List, [], ◌∷◌, ◌++◌}
use Rattle.jh_form.specs.Tree.{TermTree}
use Rattle.jh_inst.specs.instances.Entries.{Entry}
use Rattle.jh_inst.specs.instances.Rounds.{AtHand, put_at, put, made_constants, puts, all_puts, new_puts}
use Rattle.jh_inst.specs.instances.Witnesses.{witnesses, constants_from}

pub length-constants : (k n : ℕ) → length (constants_from k n) ≡ n
length-constants k zero = refl
length-constants k (suc n) = ap suc (length-constants (suc k) n)

pub constants-both : (es fs : List Entry) → made_constants (es ++ fs) ≡ made_constants es + made_constants fs
constants-both [] fs = omega arith
constants-both (e ∷ es) fs = let more : made_constants (es ++ fs) ≡ made_constants es + made_constants fs = constants-both es fs in omega (arith, more)

-- the constants that a put makes
pub put-constants : (h : AtHand) (c : List TermTree) (k : ℕ) → made_constants (put h c k ∷ []) ≡ witnesses (put_at h.formula c)
put-constants h c k = let long = length-constants k (witnesses (put_at h.formula c)) in omega (arith, long)

-- those of two lists of choices
pub puts-both : (h : AtHand) (cs ds : List (List TermTree)) (k : ℕ) → puts h (cs ++ ds) k ≡ puts h cs k ++ puts h ds (k + made_constants (puts h cs k))
puts-both h [] ds k = let same : k ≡ k + 0 = omega arith in ap (puts h ds) same
puts-both h (c ∷ cs) ds k =
    let j : ℕ = k + witnesses (put_at h.formula c) in
    let long : length (constants_from k (witnesses (put_at h.formula c))) ≡ witnesses (put_at h.formula c) = length-constants k (witnesses (put_at h.formula c)) in
    let same : j + made_constants (puts h cs j) ≡ k + made_constants (puts h (c ∷ cs) k) = omega (arith, long) in
    ap (λ es. put h c k ∷ es) (puts-both h cs ds j ∙ ap (λ n. puts h cs j ++ puts h ds n) same)

-- and those of two lists of universals
pub all-puts-both : (hs js : List AtHand) (ts : List TermTree) (k : ℕ) → all_puts (hs ++ js) ts k ≡ all_puts hs ts k ++ all_puts js ts (k + made_constants (all_puts hs ts k))
all-puts-both [] js ts k = let same : k ≡ k + 0 = omega arith in ap (all_puts js ts) same
all-puts-both (h ∷ hs) js ts k =
    let here : List Entry = new_puts h ts k in
    let j : ℕ = k + made_constants here in
    let rest : List Entry = all_puts hs ts j in
    let sum : made_constants (here ++ rest) ≡ made_constants here + made_constants rest = constants-both here rest in
    let same : j + made_constants rest ≡ k + made_constants (here ++ rest) = omega (arith, sum) in
    ap (λ es. here ++ es) (all-puts-both hs js ts j ∙ ap (λ n. rest ++ all_puts js ts n) same)
    ∙ sym (append_assoc here rest (all_puts js ts (k + made_constants (here ++ rest))))
