-- The instances among entries that stand in a table.
use Rattle.std.proofs.Common.{◌≡◌, refl, sym, ap, ◌∙◌, ℕ, zero, suc, Bool, true, false, inl, inr, if◌then◌else◌, List, [], ◌∷◌, ◌++◌, take, length, Option, Some, Result, Ok, Err, IfOk, slice_get, subst}
use Rattle.std.proofs.lemmas.Bool.{true≢false}
use Rattle.std.proofs.lemmas.List.{map_push}
use Rattle.jh_form.specs.Tree.{FormulaTree, ValueTree, of_truth}
use Rattle.jh_closure.proofs.congruence_closure.Having.{has-pushed}
use Rattle.jh_arena.specs.table.Entries.{Listing, is_truth, the_truth}
use Rattle.jh_closure.specs.congruence_closure.Nodes.{Has}
use Rattle.jh_propagation.specs.trail.Saying.{AreTruths, truths_at}
use Rattle.jh_inst.specs.instances.Entries.{Entry}
use Rattle.jh_inst.specs.instances.Instances.{is_ground, instances_of}
use Rattle.jh_ground_input.specs.jh_instantiation.declared.instances.entry.NodeEntry.{NodeEntry}
use Rattle.jh_ground_input.specs.jh_instantiation.instances.Standing.{IsEntry, AreEntries}

some-same : {X : Type 0} (x y : X) → Some x ≡ Some y → x ≡ y
some-same x y e = cc

none-there : {X : Type 0} (i : ℕ) (x : X) → slice_get [] i ≡ Some x → ⊥
none-there i x e = cc

-- the entry that stands at a place
pub entry-at : (t : Listing) (pool : List ℕ) (xs : List NodeEntry) (es : List Entry) (i : ℕ) (x : NodeEntry) → AreEntries t pool xs es → slice_get xs i ≡ Some x →
    (e : Entry) × (slice_get es i ≡ Some e) × IsEntry t pool x e
entry-at t pool [] es i x h at = absurd (none-there i x at)
entry-at t pool (y ∷ xs) [] i x h at = absurd h
entry-at t pool (y ∷ xs) (e ∷ es) zero x h at = (e, refl, subst (λ (z : NodeEntry). IsEntry t pool z e) (some-same y x at) h.0)
entry-at t pool (y ∷ xs) (e ∷ es) (suc i) x h at = entry-at t pool xs es i x h.1 at

-- one more of the first entries
first-instance : (f e : Entry) → f ≡ e → instances_of (f ∷ []) ≡ (if is_ground e.formula then e.formula ∷ [] else [])
first-instance f e same = ap (λ (x : Entry). instances_of (x ∷ [])) same

later-instance : (b : Bool) (a : FormulaTree) (xs ys zs : List FormulaTree) → xs ≡ ys ++ zs → (if b then a ∷ xs else xs) ≡ (if b then a ∷ ys else ys) ++ zs
later-instance true a xs ys zs e = ap (λ x. a ∷ x) e
later-instance false a xs ys zs e = e

pub instances-next : (es : List Entry) (i : ℕ) (e : Entry) → slice_get es i ≡ Some e →
    instances_of (take (suc i) es) ≡ instances_of (take i es) ++ (if is_ground e.formula then e.formula ∷ [] else [])
instances-next [] i e at = absurd (none-there i e at)
instances-next (f ∷ es) zero e at = first-instance f e (some-same f e at)
instances-next (f ∷ es) (suc i) e at =
    later-instance (is_ground f.formula) f.formula (instances_of (take (suc i) es)) (instances_of (take i es)) (if is_ground e.formula then e.formula ∷ [] else []) (instances-next es i e at)

-- one more instance
pub truth-is : (v : Option ValueTree) (a : FormulaTree) → v ≡ Some (of_truth a) → the_truth v ≡ a
unfolding the_truth
truth-is v a e = ap the_truth e

pub instance-more : (ts : List ValueTree) (ns more : List ℕ) (n : ℕ) (a : FormulaTree) → more ≡ ns ++ n ∷ [] → slice_get ts n ≡ Some (of_truth a) → (b : Bool) → b ≡ true →
    truths_at ts more ≡ truths_at ts ns ++ (if b then a ∷ [] else [])
instance-more ts ns more n a is there true h =
    ap (λ ms. truths_at ts ms) is ∙ map_push (λ m. the_truth (slice_get ts m)) ns n ∙ ap (λ x. truths_at ts ns ++ x ∷ []) (truth-is (slice_get ts n) a there)
instance-more ts ns more n a is there false h = absurd (true≢false (sym h))

pub truths-more : (ts : List ValueTree) (ns more : List ℕ) (n : ℕ) → more ≡ ns ++ n ∷ [] → is_truth (slice_get ts n) ≡ true → AreTruths ts ns → AreTruths ts more
truths-more ts ns more n is there h m k =
    elim (has-pushed ns n m (subst (λ ms. Has ms m) is k)) [
      | inl old ↦ h m old
      | inr same ↦ subst (λ l. is_truth (slice_get ts l) ≡ true) same there
    ]

pub entries-length : (t : Listing) (pool : List ℕ) (xs : List NodeEntry) (es : List Entry) → AreEntries t pool xs es → length es ≡ length xs
entries-length t pool [] [] h = refl
entries-length t pool [] (e ∷ es) h = absurd h
entries-length t pool (x ∷ xs) [] h = absurd h
entries-length t pool (x ∷ xs) (e ∷ es) h = ap suc (entries-length t pool xs es h.1)

pub truth-there : (v : Option ValueTree) (a : FormulaTree) → v ≡ Some (of_truth a) → is_truth v ≡ true
unfolding is_truth
truth-there v a e = ap is_truth e

-- what is made has both, and so what follows from both
pub both-made : {X E : Type 0} {P Q R : X → Type 0} (r : Result X E) → ((x : X) → P x → Q x → R x) → IfOk r P → IfOk r Q → IfOk r R
both-made (Ok x) f p q = f x p q
both-made (Err e) f p q = tt
