-- How many sequents the methods of a source have.
use Rattle.std.proofs.Common.{◌≡◌, refl, sym, ap, subst, ◌∙◌, ℕ, ◌≤◌, ◌<◌, List, [], ◌∷◌, arith}
use Rattle.jh_name.specs.declared.place.MethodId.{MethodId}
use Rattle.jh_outline.proofs.of_jh_effects.written_state.Gathering.{some-is}
use Rattle.jh_semantics.specs.Program.{Program, Method}
use Rattle.jh_semantics.specs.LoweredProgram.{program_of}
use Rattle.jh_outline.specs.jh_guard.Writes.{Writes}
use Rattle.jh_seq.specs.counting.Goals.{capped}
use Rattle.jh_outline.proofs.outline.Telling.{exact-once}
use Rattle.jh_obligations.specs.program_sequents.Laws.{OwedIsLittle, LittleIsNotMuch, OneIsFirst}
use Rattle.jh_obligations.specs.program_sequents.Owed.{Debt, length_of, HasFew, AllHaveFew, HasMany, AreOwed, FirstMany, here, later}
use Rattle.jh_obligations.specs.program_sequents.Owing.{Owing, owing_of}

module _ (q : Program) (ws : Writes) where
  few-of : (list : List Owing) (ds : List Debt) → AreOwed q ws list ds → AllHaveFew q ws list
  few-of [] [] h = tt
  few-of [] (d ∷ ds) h = absurd h
  few-of (w ∷ list) [] h = absurd h
  few-of (w ∷ list) (d ∷ ds) h = (h.0.few, few-of list ds h.1)

  -- no number is both small and great
  not-both : (n l : ℕ) → 2000 < n → n ≡ capped l → l ≤ 2000 → ⊥
  not-both n l many is few = omega (arith, many, is, few)

  few-many : (w : Owing) (n : ℕ) → HasFew q ws w → HasMany q ws w n → ⊥
  few-many w n f h =
      let code : h.code ≡ f.code = some-is h.code f.code (sym h.is ∙ f.is) in
      not-both n (length_of q ws w f.code 0) h.many (h.exact 0 ∙ ap (λ (x : Method). capped (length_of q ws w x 0)) code) (f.few 0)

  none-first : (list : List Owing) (id : MethodId) (n : ℕ) → AllHaveFew q ws list → FirstMany q ws list id n → ⊥
  none-first [] id n h k = elim k [ ]
  none-first (w ∷ list) id n h (here _ _ _ k) = few-many w n h.0 k
  none-first (w ∷ list) id n h (later _ _ _ _ f k) = none-first list id n h.1 k

  one-count : (w : Owing) (m n : ℕ) → HasMany q ws w m → HasMany q ws w n → m ≡ n
  one-count w m n h k =
      let code : h.code ≡ k.code = some-is h.code k.code (sym h.is ∙ k.is) in
      h.exact 0 ∙ ap (λ (x : Method). capped (length_of q ws w x 0)) code ∙ sym (k.exact 0)

  one-first : (list : List Owing) (i j : MethodId) (m n : ℕ) → FirstMany q ws list i m → FirstMany q ws list j n → (i ≡ j) × (m ≡ n)
  one-first [] i j m n h k = elim h [ ]
  one-first (w ∷ list) i j m n (here _ _ _ h) (here _ _ _ k) = (refl, one-count w m n h k)
  one-first (w ∷ list) i j m n (here _ _ _ h) (later _ _ _ _ f k) = absurd (few-many w m f h)
  one-first (w ∷ list) i j m n (later _ _ _ _ f h) (here _ _ _ k) = absurd (few-many w n f k)
  one-first (w ∷ list) i j m n (later _ _ _ _ f h) (later _ _ _ _ g k) = one-first list i j m n h k

pub owed-little : OwedIsLittle
owed-little p ds h = record { writes = h.writes; exact = h.exact; few = few-of (program_of p) h.writes (owing_of p) ds h.owed }

pub little-much : LittleIsNotMuch
little-much p id n h k =
    none-first (program_of p) k.writes (owing_of p) id n (subst (λ (ws : Writes). AllHaveFew (program_of p) ws (owing_of p)) (exact-once p h.writes k.writes h.exact k.exact) h.few) k.first

pub first-one : OneIsFirst
first-one p i j m n h k =
    one-first (program_of p) k.writes (owing_of p) i j m n (subst (λ (ws : Writes). FirstMany (program_of p) ws (owing_of p) i m) (exact-once p h.writes k.writes h.exact k.exact) h.first) k.first
