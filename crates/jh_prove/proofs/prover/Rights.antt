-- Right answers.
use Rattle.std.proofs.Common.{◌≡◌, refl, sym, ap, ◌∙◌, suc, length, subst, ℕ, ◌+◌, ◌<◌, ◌≤◌, Bool, true, false, inl, inr, List, [], ◌∷◌, ◌++◌, take, map, slice_get, Some, arith}
use Rattle.std.specs.Prelude.{not, ◌||◌, ◌&&◌, min}
use Rattle.jh_form.specs.Meaning.{Interp, truth}
use Rattle.jh_boxed_operations.specs.comparison.Unmarked.{unmarked_formula}
use Rattle.jh_seq.specs.sequent.Sequents.{HypTree, SequentTree, AllTrue, IsValid}
use Rattle.jh_seq.specs.splitting.Laws.{AllValid}
use Rattle.jh_derivation_rules.proofs.Unmarkings.{truth-unmarked}
use Rattle.jh_derivation_rules.specs.declared.step.Derivation.{Derivation}
use Rattle.jh_prove.specs.trivial.Laws.{TrivialIsValid}
use Rattle.jh_prove.specs.trivial.Trivial.{IsTrivial}
use Rattle.jh_name.specs.declared.options.Options.{Options}
use Rattle.jh_closure.specs.structures.Literals.{LiteralTree}
use Rattle.jh_local.specs.jh_models.ground_models.GroundModel.{IsGroundModel}
use Rattle.jh_local.specs.jh_inst.instances.Instances.{IsFirstFree, instances}
use Rattle.jh_local.specs.jh_inst.instances.Count.{count}
use Rattle.jh_local.specs.Answers.{HasNoModel, literal_trees}
use Rattle.jh_local.specs.Laws.{LocalProofIsValid}
use Rattle.jh_local.specs.declared.answer.LocalCause.{LocalCause}
use Rattle.jh_local.specs.declared.answer.LocalCause.TheVariants as local
use Rattle.jh_local.specs.declared.answer.Searched.{Searched}
use Rattle.jh_local.specs.declared.answer.Searched.TheVariants as searched
use Rattle.jh_local.specs.jh_fca.local_form.Laws.{LocalHasShape, LocalIsValid}
use Rattle.jh_prove.specs.declared.prover.answer.Answer.{Answer}
use Rattle.jh_prove.specs.declared.prover.answer.Answer.TheVariants as answer
use Rattle.jh_query.specs.queries.Bare.{query_tree}
use Rattle.jh_query.specs.queries.Size.{capped}
use Rattle.jh_query.specs.queries.Tree.{QueryTree}
use Rattle.jh_query.specs.queries.Sizing.{sizing_of}
use Rattle.jh_query.specs.queries.Truth.{query_true}
use Rattle.jh_query.specs.declared.queries.query.Query.{Query}
use Rattle.jh_approx.specs.definition.Laws.{TrueQueryIsValid}
use Rattle.jh_approx.specs.definition.Regions.{bapa_of, unlabelled}
use Rattle.jh_bapa.specs.declared.answers.answer.BapaCause.{BapaCause}
use Rattle.jh_bapa.specs.declared.answers.answer.BapaCause.TheVariants as cause
use Rattle.jh_bapa.specs.declared.answers.answer.Regional.{Regional}
use Rattle.jh_bapa.specs.declared.answers.answer.Regional.TheVariants as regional
use Rattle.jh_prove.specs.prover.Answers.{verdict_of, all_proved, is_unproved, is_spent, all_proved_or_spent}
use Rattle.jh_prove.specs.prover.Right.{IsCause, IsRegional, IsProof, IsTried, IsLocalProof, Right, AllRight, IsProvable, AllProvable, local_form}
use Rattle.jh_prove.proofs.prover.Pairing.{take-next}

-- there are as many right answers as sequents
pub right-length : (o : Options) (ss : List SequentTree) (answers : List Answer) → AllRight o ss answers → length ss ≡ length answers
right-length o [] [] h = refl
right-length o [] (a ∷ more) h = absurd h
right-length o (s ∷ ss) [] h = absurd h
right-length o (s ∷ ss) (a ∷ more) h = ap suc (right-length o ss more h.1)

-- right answers for sequents, and for those behind them
pub right-join : (o : Options) (ss ts : List SequentTree) (answers more : List Answer) → AllRight o ss answers → AllRight o ts more → AllRight o (ss ++ ts) (answers ++ more)
right-join o [] ts [] more h k = k
right-join o [] ts (a ∷ answers) more h k = absurd h
right-join o (s ∷ ss) ts [] more h k = absurd h
right-join o (s ∷ ss) ts (a ∷ answers) more h k = (h.0, right-join o ss ts answers more h.1 k)

-- one more right answer for the first sequents
pub right-next : (o : Options) (ss : List SequentTree) (answers : List Answer) (i : ℕ) (s : SequentTree) (a : Answer) → slice_get ss i ≡ Some s → AllRight o (take i ss) answers → Right o s a → AllRight o (take (i + 1) ss) (answers ++ a ∷ [])
right-next o ss answers i s a at h right = subst (λ (xs : List SequentTree). AllRight o xs (answers ++ a ∷ [])) (sym (take-next ss i s at)) (right-join o (take i ss) (s ∷ []) answers (a ∷ []) h (right, tt))

wrong : false ≡ true → ⊥
wrong e = cc

not-both : (b : Bool) → b ≡ true → b ≡ false → ⊥
not-both b h k = cc

-- a query that is no proof has no proof
pub cause-refutes : (q : QueryTree) (bapa : BapaCause) → IsCause q bapa → IsProof q → ⊥
cause-refutes q (cause.Refuted z) h proof = not-both (query_true q (sizing_of z)) (proof.holds (sizing_of z) h.1) h.2
cause-refutes q (cause.TooLarge sets elements size) h proof = h.0 proof.within

-- a sequent is valid where it is valid without its labels
hyps-bare : (hs : List HypTree) (m : Interp) → AllTrue hs m → AllTrue (map (λ (h : HypTree). record { name = h.name; fact = unmarked_formula h.fact }) hs) m
hyps-bare [] m h = tt
hyps-bare (x ∷ hs) m h = (truth-unmarked x.fact m [] ∙ h.0, hyps-bare hs m h.1)

unlabelled-valid : (s : SequentTree) → IsValid (unlabelled s) → IsValid s
unfolding unlabelled
unlabelled-valid s v m u hyps = sym (truth-unmarked s.goal m []) ∙ v m u (hyps-bare s.hyps m hyps)

module _ (law : TrivialIsValid) (regions : TrueQueryIsValid) (search : LocalProofIsValid) (shape : LocalHasShape) (local_law : LocalIsValid) where
  local-valid : (rounds : ℕ) (s : SequentTree) → IsLocalProof rounds s → IsValid s
  local-valid rounds s p =
      unlabelled-valid s (local_law (unlabelled s) (search (local_form s) p.first rounds (shape (unlabelled s)) p.is_first.free p.refuted.none))

  -- where all answers are right and no answer is Unproved, all sequents are valid
  pub proved-valid : (o : Options) (ss : List SequentTree) (answers : List Answer) → AllRight o ss answers → all_proved answers ≡ true → AllValid ss
  proved-valid o [] [] h proved = tt
  proved-valid o [] (a ∷ more) h proved = absurd h
  proved-valid o (s ∷ ss) [] h proved = absurd h
  proved-valid o (s ∷ ss) (answer.Trivial ∷ more) h proved = (law s h.0, proved-valid o ss more h.1 proved)
  proved-valid o (s ∷ ss) (answer.Bapa query ∷ more) h proved = (regions s h.0.2.holds, proved-valid o ss more h.1 proved)
  proved-valid o (s ∷ ss) (answer.Local d ∷ more) h proved = (local-valid o.rounds s h.0.2, proved-valid o ss more h.1 proved)
  proved-valid o (s ∷ ss) (answer.Unproved bapa why ∷ more) h proved = absurd (wrong proved)

-- constants have one first number
first-one : (s : SequentTree) (j k : ℕ) → IsFirstFree s j → IsFirstFree s k → j ≡ k
first-one s j k a b =
    let there : j ≤ k = a.first k b.free in
    let back : k ≤ j = b.first j a.free in
    omega (arith, there, back)

no-model : (s : SequentTree) (rounds j k : ℕ) (ls : List LiteralTree) → j ≡ k → IsGroundModel (instances s j rounds) ls → HasNoModel (instances s k rounds) → ⊥
no-model s rounds j k ls same model none = none ls (subst (λ (n : ℕ). IsGroundModel (instances s n rounds) ls) same model)

capped-many : (n m : ℕ) → n ≡ capped m → 100000 < n → 100000 < m
capped-many n m e h = search (arith, e, h)

too-many : (s : SequentTree) (rounds j k n : ℕ) → j ≡ k → n ≡ capped (count s j rounds) → 100000 < n → count s k rounds ≤ 100000 → ⊥
too-many s rounds j k n same is many few =
    let more : 100000 < count s j rounds = capped-many n (count s j rounds) is many in
    let here : 100000 < count s k rounds = subst (λ (i : ℕ). 100000 < count s i rounds) same more in
    omega (arith, here, few)

-- a sequent that has a proof is Unproved only where the search spent its budget
tried-spent : (o : Options) (s : SequentTree) (bapa : BapaCause) (why : LocalCause) → IsTried o s (searched.Unproved why) → IsLocalProof o.rounds s → is_spent (answer.Unproved bapa why) ≡ true
tried-spent o s bapa (local.Open b) h p = absurd (no-model (local_form s) o.rounds h.first p.first (literal_trees b.literals) (first-one (local_form s) h.first p.first h.is_first p.is_first) h.right.1 p.refuted.none)
tried-spent o s bapa (local.TooMany n) h p = absurd (too-many (local_form s) o.rounds h.first p.first n (first-one (local_form s) h.first p.first h.is_first p.is_first) h.right.0 h.right.1 p.refuted.few)
tried-spent o s bapa (local.Budget closed) h p = refl

provable-spent : (o : Options) (s : SequentTree) (bapa : BapaCause) (why : LocalCause) → Right o s (answer.Unproved bapa why) → IsProvable o.rounds s → is_spent (answer.Unproved bapa why) ≡ true
provable-spent o s bapa why h (inl trivial) = absurd (h.0 trivial)
provable-spent o s bapa why h (inr (inl proof)) = absurd (cause-refutes (bapa_of s) bapa h.1 proof)
provable-spent o s bapa why h (inr (inr p)) = tried-spent o s bapa why h.2 p

-- where all sequents are provable and all answers right, each answer is a proof, or the search spent its budget
pub provable-proved : (o : Options) (ss : List SequentTree) (answers : List Answer) → AllRight o ss answers → AllProvable o.rounds ss → all_proved_or_spent answers ≡ true
provable-proved o [] [] h all = refl
provable-proved o [] (a ∷ more) h all = absurd h
provable-proved o (s ∷ ss) [] h all = absurd h
provable-proved o (s ∷ ss) (answer.Trivial ∷ more) h all = provable-proved o ss more h.1 all.1
provable-proved o (s ∷ ss) (answer.Bapa query ∷ more) h all = provable-proved o ss more h.1 all.1
provable-proved o (s ∷ ss) (answer.Local d ∷ more) h all = provable-proved o ss more h.1 all.1
provable-proved o (s ∷ ss) (answer.Unproved bapa why ∷ more) h all = λ i. provable-spent o s bapa why h.0 all.0 i && provable-proved o ss more h.1 all.1 i

spent-not : (o : Options) (s : SequentTree) (bapa : BapaCause) (why : LocalCause) → Right o s (answer.Unproved bapa why) → IsLocalProof o.rounds s → is_spent (answer.Unproved bapa why) ≡ false → ⊥
spent-not o s bapa why h p not_spent = not-both (is_spent (answer.Unproved bapa why)) (tried-spent o s bapa why h.2 p) not_spent

-- right answers for one sequent have one verdict
pub one-verdict : (o : Options) (s : SequentTree) (a b : Answer) → Right o s a → Right o s b → is_spent a ≡ false → is_spent b ≡ false → verdict_of a ≡ verdict_of b
one-verdict o s answer.Trivial answer.Trivial h k m n = refl
one-verdict o s answer.Trivial (answer.Bapa p) h k m n = absurd (k.0 h)
one-verdict o s answer.Trivial (answer.Local e) h k m n = absurd (k.0 h)
one-verdict o s answer.Trivial (answer.Unproved c d) h k m n = absurd (k.0 h)
one-verdict o s (answer.Bapa q) answer.Trivial h k m n = absurd (h.0 k)
one-verdict o s (answer.Bapa q) (answer.Bapa p) h k m n = refl
one-verdict o s (answer.Bapa q) (answer.Local e) h k m n = absurd (k.1 h.2)
one-verdict o s (answer.Bapa q) (answer.Unproved c d) h k m n = absurd (cause-refutes (bapa_of s) c k.1 h.2)
one-verdict o s (answer.Local d) answer.Trivial h k m n = absurd (h.0 k)
one-verdict o s (answer.Local d) (answer.Bapa p) h k m n = absurd (h.1 k.2)
one-verdict o s (answer.Local d) (answer.Local e) h k m n = refl
one-verdict o s (answer.Local d) (answer.Unproved c e) h k m n = absurd (spent-not o s c e k h.2 n)
one-verdict o s (answer.Unproved c d) answer.Trivial h k m n = absurd (h.0 k)
one-verdict o s (answer.Unproved c d) (answer.Bapa p) h k m n = absurd (cause-refutes (bapa_of s) c h.1 k.2)
one-verdict o s (answer.Unproved c d) (answer.Local e) h k m n = absurd (spent-not o s c d h k.2 m)
one-verdict o s (answer.Unproved c d) (answer.Unproved e f) h k m n = refl

-- what is said of a sequent that isn't trivial and that regions don't prove
pub local-right : (o : Options) (s : SequentTree) (bapa : BapaCause) (d : Derivation) → (IsTrivial s → ⊥) → IsCause (bapa_of s) bapa → IsTried o s (searched.Proved d) → Right o s (answer.Local d)
local-right o s bapa d not_trivial why tried =
    (not_trivial, (λ proof. cause-refutes (bapa_of s) bapa why proof), record { first = tried.first; is_first = tried.is_first; refuted = tried.right }, tried.derived.0, tried.derived.1)

-- what regions and the search said, by the answer in hand
pub regional-proof : (q : QueryTree) (a : Regional) (query : Query) → a ≡ regional.Proved query → IsRegional q a → (query_tree query ≡ q) × IsProof q
regional-proof q a query is h = subst (λ (b : Regional). IsRegional q b) is h

pub regional-cause : (q : QueryTree) (a : Regional) (bapa : BapaCause) → a ≡ regional.Unproved bapa → IsRegional q a → IsCause q bapa
regional-cause q a bapa is h = subst (λ (b : Regional). IsRegional q b) is h

pub tried-as : (o : Options) (s : SequentTree) (a b : Searched) → a ≡ b → IsTried o s a → IsTried o s b
tried-as o s a b is h = subst (λ (c : Searched). IsTried o s c) is h
