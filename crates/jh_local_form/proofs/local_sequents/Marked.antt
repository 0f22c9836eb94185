-- What labels say of the hypotheses of a sequent, and which are chosen by it.
use Rattle.std.proofs.Common.{◌≡◌, refl, sym, ap, subst, ◌∙◌, ℕ, zero, suc, ◌<◌, List, [], ◌∷◌, length, slice_get, Option, Some, None}
use Rattle.std.proofs.lemmas.Option.{slice_get_within}
use Rattle.jh_name.specs.declared.naming.Name.{Name}
use Rattle.jh_form.specs.declared.mark.Mark.{Mark}
use Rattle.jh_arena.specs.table.Entries.{Listing}
use Rattle.jh_arena.specs.table.Nodes.{nodes}
use Rattle.jh_seq.specs.sequent.Sequents.{HypTree, SequentTree}
use Rattle.jh_seq.specs.splitting.Split.{mark_of}
use Rattle.jh_abstraction.specs.jh_splitting.declared.sequent.NodeHyp.{NodeHyp}
use Rattle.jh_abstraction.specs.jh_splitting.Pairs.{ArePaired}
use Rattle.jh_abstraction.specs.jh_splitting.Standing.{IsLabel, name_under}
use Rattle.jh_abstraction.specs.choice_of_hypotheses.Asking.{HasName, HasFact, IsAsked}
use Rattle.jh_fca.specs.local_form.Chosen.{is_chosen}
use Rattle.jh_local_form.specs.local_sequents.Choosing.{is_chosen_by}

-- ---- labels

pub none-from : (t : Listing) (mark : Option Mark) → IsLabel t None mark → [] ≡ (mark_of mark).from
none-from t None h = refl
none-from t (Some m) h = absurd h

pub none-name : (t : Listing) (mark : Option Mark) → IsLabel t None mark → None ≡ name_under mark
none-name t None h = refl
none-name t (Some m) h = absurd h

mark-same : (m k : Mark) → Some m ≡ Some k → m ≡ k
mark-same m k e = cc

pub some-inside : (t : Listing) (n : ℕ) (mark : Option Mark) → IsLabel t (Some n) mark → n < length t.pools.marks
some-inside t n None h = absurd h
some-inside t n (Some m) h = slice_get_within t.pools.marks n m h

pub some-from : (t : Listing) (n : ℕ) (m : Mark) (mark : Option Mark) → slice_get t.pools.marks n ≡ Some m → IsLabel t (Some n) mark → m.from ≡ (mark_of mark).from
some-from t n m None at h = absurd h
some-from t n m (Some k) at h = ap (λ (l : Mark). l.from) (mark-same m k (sym at ∙ h))

pub some-name : (t : Listing) (n : ℕ) (m : Mark) (mark : Option Mark) → slice_get t.pools.marks n ≡ Some m → IsLabel t (Some n) mark → m.name ≡ name_under mark
some-name t n m None at h = absurd h
some-name t n m (Some k) at h = ap (λ (l : Mark). l.name) (mark-same m k (sym at ∙ h))

-- ---- who is chosen

pub chosen-is : (ns : List Name) (h : HypTree) → is_chosen ns h ≡ is_chosen_by ns h.name
chosen-is [] h = refl
chosen-is (n ∷ ns) h = refl

-- ---- lists that belong to one another

module _ {X Y : Type 0} (R : X → Y → Type 0) where
  some-same : (x y : X) → Some x ≡ Some y → x ≡ y
  some-same x y e = cc

  nothing-there : (x : X) → None ≡ Some x → ⊥
  nothing-there x e = cc

  pub paired-length : (xs : List X) (ys : List Y) → ArePaired R xs ys → length ys ≡ length xs
  paired-length [] [] h = refl
  paired-length [] (y ∷ ys) h = absurd h
  paired-length (x ∷ xs) [] h = absurd h
  paired-length (x ∷ xs) (y ∷ ys) h = ap suc (paired-length xs ys h.1)

  pub paired-at : (xs : List X) (ys : List Y) (i : ℕ) (x : X) → ArePaired R xs ys → slice_get xs i ≡ Some x → (y : Y) × (slice_get ys i ≡ Some y) × R x y
  paired-at [] ys i x h at = absurd (nothing-there x at)
  paired-at (z ∷ xs) [] i x h at = absurd h
  paired-at (z ∷ xs) (y ∷ ys) zero x h at = (y, refl, subst (λ (w : X). R w y) (some-same z x at) h.0)
  paired-at (z ∷ xs) (y ∷ ys) (suc i) x h at = paired-at xs ys i x h.1 at

hyp-same : (a b : HypTree) → Some a ≡ Some b → a ≡ b
hyp-same a b e = cc

-- the hypothesis at a place
pub hyp-there : (t : Listing) (hyps : List NodeHyp) (label : Option ℕ) (facts : List ℕ) (goal : ℕ) (s : SequentTree) → IsAsked t hyps label facts goal s → (i : ℕ) (x : NodeHyp) (fact : ℕ) → slice_get hyps i ≡ Some x → slice_get facts i ≡ Some fact →
    (h : HypTree) × (slice_get s.hyps i ≡ Some h) × HasName t x h × HasFact (nodes t) fact h
hyp-there t hyps label facts goal s asked i x fact at there =
    let name = paired-at (HasName t) hyps s.hyps i x asked.called at in
    let said = paired-at (HasFact (nodes t)) facts s.hyps i fact asked.stated.said there in
    (name.0, name.1, name.2, subst (λ (h : HypTree). HasFact (nodes t) fact h) (hyp-same said.0 name.0 (sym said.1 ∙ name.1)) said.2)
