-- What is reported of the methods of a program, as a loop over them goes on.
use Rattle.std.proofs.Common.{◌≡◌, refl, sym, ap, subst, ℕ, zero, suc, ◌+◌, ◌≤◌, List, [], ◌∷◌, ◌++◌, drop, length, Some, slice_get, add-one}
use Rattle.std.proofs.lemmas.List.{append_assoc, append-nil, drop_all}
use Rattle.jh_ast.specs.Programs.{ProgramTree}
use Rattle.jh_arena.specs.table.Entries.{Listing}
use Rattle.jh_arena.specs.table.Growth.{Extends}
use Rattle.jh_report.specs.jh_splitting.Pairs.{ArePaired}
use Rattle.jh_report.specs.jh_splitting.declared.splitting.Sequents.{Sequents}
use Rattle.jh_report.proofs.of_jh_splitting.Grown.{sequents-stay}
use Rattle.jh_run.proofs.of_jh_effects.written_state.Gathering.{some-is, none-some}
use Rattle.jh_gen_laws.specs.jh_obligations.program_sequents.Owed.{AllStand, Debt, Stand}
use Rattle.jh_report.specs.report.Report.{Reported}
use Rattle.jh_name.specs.declared.options.Options.{Options}
use Rattle.jh_reply.specs.Verify.{IsJudged}

-- lists in pairs are as long as one another
pub paired-length : {X Y : Type 0} (R : X → Y → Type 0) (xs : List X) (ys : List Y) → ArePaired R xs ys → length xs ≡ length ys
paired-length R [] [] h = refl
paired-length R [] (y ∷ ys) h = absurd h
paired-length R (x ∷ xs) [] h = absurd h
paired-length R (x ∷ xs) (y ∷ ys) h = ap suc (paired-length R xs ys h.1)

-- sequents stay while the table grows
module _ (t u : Listing) (g : Extends t u) where
  pub stand-stays : (x : Sequents) (d : Debt) → Stand t x d → Stand u x d
  stand-stays x d h = (h.0, sequents-stay t u g x.hyps x.method x.sequents.items d.sequents h.1)

  pub stand-all : (xs : List Sequents) (ds : List Debt) → AllStand t xs ds → AllStand u xs ds
  stand-all [] [] h = tt
  stand-all [] (d ∷ ds) h = absurd h
  stand-all (x ∷ xs) [] h = absurd h
  stand-all (x ∷ xs) (d ∷ ds) h = (stand-stays x d h.0, stand-all xs ds h.1)

-- the sequents at a place
pub stand-at : (t : Listing) (xs : List Sequents) (ds : List Debt) (n : ℕ) (x : Sequents) → slice_get xs n ≡ Some x → AllStand t xs ds → (d : Debt) × (slice_get ds n ≡ Some d) × Stand t x d
stand-at t [] ds zero x e h = absurd (none-some x e)
stand-at t [] ds (suc n) x e h = absurd (none-some x e)
stand-at t (y ∷ xs) [] n x e h = absurd h
stand-at t (y ∷ xs) (d ∷ ds) zero x e h = let k : Stand t x d = subst (λ (z : Sequents). Stand t z d) (some-is y x e) h.0 in (d, refl, k)
stand-at t (y ∷ xs) (d ∷ ds) (suc n) x e h = stand-at t xs ds n x e h.1

drop-at : {X : Type 0} (xs : List X) (n : ℕ) (x : X) → slice_get xs n ≡ Some x → drop n xs ≡ x ∷ drop (suc n) xs
drop-at [] zero x e = absurd (none-some x e)
drop-at [] (suc n) x e = absurd (none-some x e)
drop-at (y ∷ xs) zero x e = ap (λ z. z ∷ xs) (some-is y x e)
drop-at (y ∷ xs) (suc n) x e = drop-at xs n x e

-- with what is reported of the methods that are left, it is all
abbrev pub Leads : Options → ProgramTree → List Debt → ℕ → List Reported → Type 0
Leads o p ds n rs = (more : List Reported) → ArePaired (IsJudged o p) (drop n ds) more → ArePaired (IsJudged o p) ds (rs ++ more)

module _ (o : Options) (p : ProgramTree) (ds : List Debt) where
  pub leads-next : (n : ℕ) (d : Debt) → slice_get ds n ≡ Some d → (rs : List Reported) (r : Reported) → IsJudged o p d r → Leads o p ds n rs → Leads o p ds (n + 1) (rs ++ r ∷ [])
  leads-next n d at rs r judged rest more k =
      subst (λ (us : List Reported). ArePaired (IsJudged o p) ds us) (sym (append_assoc rs (r ∷ []) more))
      (rest (r ∷ more)
      (subst (λ (es : List Debt). ArePaired (IsJudged o p) es (r ∷ more)) (sym (drop-at ds n d at))
      (judged, subst (λ (j : ℕ). ArePaired (IsJudged o p) (drop j ds) more) (add-one n) k)))

  pub leads-end : (n : ℕ) (rs : List Reported) → length ds ≤ n → Leads o p ds n rs → ArePaired (IsJudged o p) ds rs
  leads-end n rs le rest =
      subst (λ (us : List Reported). ArePaired (IsJudged o p) ds us) (append-nil rs)
      (rest [] (subst (λ (es : List Debt). ArePaired (IsJudged o p) es []) (sym (drop_all n ds le)) tt))
