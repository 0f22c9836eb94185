-- Whether a literal clashes with the trail.
use Rattle.std.proofs.Common.{◌≡◌, refl, sym, ap, ◌∙◌, subst, ℕ, zero, suc, ◌+◌, Bool, true, false, not, List, [], ◌∷◌, ◌++◌, length, take, ◌⊎◌, inl, inr, Some, Result, Ok, Err, slice_get, ◌↔◌}
use Rattle.std.specs.Prelude.{IfOk, OnOk}
use Rattle.std.proofs.Math.Seq.{take-append_seam}
use Rattle.std.proofs.lemmas.Bool.{true≢false}
use Rattle.std.proofs.lemmas.Option.{same_Some}
use Rattle.jh_form.specs.Tree.{FormulaTree, ValueTree}
use Rattle.jh_closure.specs.structures.Literals.{LiteralTree, Meets, NotMet}
use Rattle.jh_closure.proofs.structures.Listed.{meets-all}
use Rattle.jh_closure.specs.congruence_closure.Nodes.{Has}
use Rattle.jh_closure.proofs.congruence_closure.Having.{has-last, has-left, has-pushed}
use Rattle.jh_arena.specs.table.Nodes.{nodes}
use Rattle.jh_cong.proofs.classes.Looking.{take-next}
use Rattle.jh_cong.specs.classes.Saying.{Asserted, IsUnmet, literals}
use Rattle.jh_cong.specs.classes.Saying as cong
use Rattle.jh_cong.specs.declared.classes.literal.Said.{Said}
use Rattle.jh_models.specs.ground_models.Truths.{IsFalse, SomeFalse}
use Rattle.jh_models.specs.ground_models.Clashes.{Clash}
use Rattle.jh_models.proofs.ground_models.Growing.{false-more}
use Rattle.jh_propagation.specs.trail.Laws.{ForcedStands, OthersSayNothing}
use Rattle.jh_propagation.specs.declared.trail.decided.Decided.{Decided}
use Rattle.jh_propagation.specs.trail.Occurring.{places_in}
use Rattle.jh_propagation.specs.trail.Saying.{truth_at, literal_tree_at, literals_at, opposite_of}
use Rattle.jh_propagation.specs.declared.propagation.problem.Problem.{Problem}
use Rattle.jh_propagation.specs.propagation.Problems.{IsPosed, instances_in}
use Rattle.jh_propagation.specs.propagation.Speaking.{AreSpoken, Speaks}
use Rattle.jh_explanations.specs.Keeping.{IsQuiet}
use Rattle.jh_explanations.specs.Testing.{IsSaidToo, IsRefused, IsAsked, IsFalseAmong}
use Rattle.jh_explanations.proofs.Lists.{all-listed}
use Rattle.jh_explanations.proofs.Falses.{FalseHere, false-at, at-false}
use Rattle.jh_explanations.proofs.Spoken.{spoken-more, meets-told, told-meets}

module _ (ts : List ValueTree) (p : Problem) (problem : IsPosed ts p) where
  -- an instance is false with the opposite of a literal, where none is without it: the atom stands there
  module _ (law : ForcedStands) (trail : List Decided) (l : Decided) (atom : Has p.ground.atoms l.atom) (none : SomeFalse (instances_in ts p) (literals_at ts trail) → ⊥) where
    pub forced-place : (place : ℕ) → FalseHere ts (literals_at ts (opposite_of l ∷ trail)) p.instances.items place → Has (places_in p.ground l.atom) place
    forced-place place h = elim (law (literals_at ts trail) (literal_tree_at ts l) (truth_at ts h.node) h.is_false) [
      | inl before ↦ absurd (none (at-false ts (literals_at ts trail) p.instances.items place h.node h.here before))
      | inr stands ↦ problem.occurrences.occur place h.node l.atom h.here (problem.occurrences.truths l.atom atom) stands
    ]

    -- none of the places of the atom
    pub none-forced : ((place n : ℕ) → Has (places_in p.ground l.atom) place → slice_get p.instances.items place ≡ Some n → IsFalse (literals_at ts (opposite_of l ∷ trail)) (truth_at ts n) → ⊥) → SomeFalse (instances_in ts p) (literals_at ts (opposite_of l ∷ trail)) → ⊥
    none-forced never h =
        let f = false-at ts (literals_at ts (opposite_of l ∷ trail)) p.instances.items h in
        never f.0 f.1.node (forced-place f.0 f.1) f.1.here f.1.is_false

  -- where a literal was put to the trail, and none was false
  module _ (law : OthersSayNothing) (trail : List Decided) (l : Decided) (atom : Has p.ground.atoms l.atom) where
    abbrev longer : List Decided
    longer = trail ++ l ∷ []

    front : (d : Decided) → Has longer d → Has (l ∷ trail) d
    front d h = elim (has-pushed trail l d h) [ inl old ↦ inr old | inr e ↦ inl e ]

    pub none-longer : (SomeFalse (instances_in ts p) (literals_at ts trail) → ⊥) → (IsFalseAmong ts p longer (places_in p.ground l.atom) → ⊥) → SomeFalse (instances_in ts p) (literals_at ts longer) → ⊥
    none-longer none among h =
        let f = false-at ts (literals_at ts longer) p.instances.items h in
        none (at-false ts (literals_at ts trail) p.instances.items f.0 f.1.node f.1.here (law.alone (literals_at ts trail) (literal_tree_at ts l) (truth_at ts f.1.node)
        (λ stands. among (record { place = f.0; there = problem.occurrences.occur f.0 f.1.node l.atom f.1.here (problem.occurrences.truths l.atom atom) stands; is_false = record { instance = f.1.node; here = f.1.here; is_false = f.1.is_false } }))
        (false-more (literals_at ts longer) (literals_at ts (l ∷ trail)) (all-listed ts (l ∷ trail) longer front) (truth_at ts f.1.node) f.1.is_false)))

  pub among-some : (had : List Decided) (places : List ℕ) → IsFalseAmong ts p had places → SomeFalse (instances_in ts p) (literals_at ts had)
  among-some had places h = at-false ts (literals_at ts had) p.instances.items h.place h.is_false.instance h.is_false.here h.is_false.is_false

-- what the classes answer
module _ (us ts : List ValueTree) (ds : List Decided) (es : List Said) (spoken : AreSpoken us ts ds es) (d : Decided) (e : Said) (speaks : Speaks us ts e d) where
  abbrev more : List Decided
  more = ds ++ d ∷ []

  abbrev mores : List Said
  mores = es ++ e ∷ []

  both : AreSpoken us ts more mores
  both = spoken-more us ts ds es d e spoken speaks

  pub unmet-longer : IsUnmet us mores → NotMet (literals_at ts more)
  unmet-longer unmet s met = unmet s (meets-told s us ts more mores both met)

  pub longer-unmet : NotMet (literals_at ts more) → IsUnmet us mores
  longer-unmet unmet s met = unmet s (told-meets s us ts more mores both met)

  front-met : (x : Decided) → Has more x → Has (d ∷ ds) x
  front-met x h = elim (has-pushed ds d x h) [ inl old ↦ inr old | inr same ↦ inl same ]

  end-met : (x : Decided) → Has (d ∷ ds) x → Has more x
  end-met x (inl same) = subst (Has more) same (has-last ds d)
  end-met x (inr old) = has-left ds (d ∷ []) x old

  pub unmet-front : IsUnmet us mores → NotMet (literals_at ts (d ∷ ds))
  unmet-front unmet s met = unmet-longer unmet s (meets-all s (literals_at ts (d ∷ ds)) (literals_at ts more) (all-listed ts (d ∷ ds) more front-met) met)

  pub front-unmet : NotMet (literals_at ts (d ∷ ds)) → IsUnmet us mores
  front-unmet unmet = longer-unmet (λ s met. unmet s (meets-all s (literals_at ts more) (literals_at ts (d ∷ ds)) (all-listed ts more (d ∷ ds) end-met) met))

-- literals that are picked are met where all are
pub picked-met : (ts : List ValueTree) (es : List Said) (ns : List ℕ) → IsUnmet ts (cong.picked es ns) → IsUnmet ts es
picked-met ts es ns unmet s met = unmet s (each ns)
  where
    at : (es : List Said) → Meets s (literals ts es) → (n : ℕ) (xs : List Said) → Meets s (literals ts xs) → Meets s (literals ts (cong.one_more (slice_get es n) xs))
    at [] all n xs h = h
    at (e ∷ es) all zero xs h = (all.0, h)
    at (e ∷ es) all (suc n) xs h = at es all.1 n xs h

    each : (ns : List ℕ) → Meets s (literals ts (cong.picked es ns))
    each [] = tt
    each (n ∷ ns) = at es met n (cong.picked es ns) (each ns)

-- clashes by instances and by equality
pub clash-front : (ts : List ValueTree) (p : Problem) (ls : List LiteralTree) (b : Bool) → (SomeFalse (instances_in ts p) ls → ⊥) → (b ≡ true) ↔ NotMet ls → (b ≡ true) ↔ Clash (instances_in ts p) ls
clash-front ts p ls b none same = (λ h. inl (same.0 h), λ clash. elim clash [ inl unmet ↦ same.1 unmet | inr h ↦ absurd (none h) ])

-- one more place was looked at
pub taken-has : {X : Type 0} (xs : List X) (n : ℕ) (x y : X) → slice_get xs n ≡ Some x → Has (take (n + 1) xs) y → Has (take n xs) y ⊎ (x ≡ y)
taken-has xs n x y e h = has-pushed (take n xs) x y (subst (λ zs. Has zs y) (take-next xs n x e) h)

-- none of the first instances is false, and one more isn't
pub none-more : (ts : List ValueTree) (ls : List LiteralTree) (instances places : List ℕ) (index j i : ℕ) → slice_get places index ≡ Some j → slice_get instances j ≡ Some i → (IsFalse ls (truth_at ts i) → ⊥) →
    ((place n : ℕ) → Has (take index places) place → slice_get instances place ≡ Some n → IsFalse ls (truth_at ts n) → ⊥) →
    (place n : ℕ) → Has (take (index + 1) places) place → slice_get instances place ≡ Some n → IsFalse ls (truth_at ts n) → ⊥
none-more ts ls instances places index j i here at never before place n h e f = elim (taken-has places index j place here h) [
  | inl old ↦ before place n old e f
  | inr same ↦ never (subst (λ k. IsFalse ls (truth_at ts k)) (same_Some n i (sym e ∙ (ap (slice_get instances) (sym same) ∙ at))) f)
]

-- what the classes answer of one more literal
module _ (p : Problem) (old new : Asserted) (d : Decided) where
  pub undone : (after : Asserted) (count : ℕ) → IsSaidToo (nodes p.table) old new d → count ≡ length old.said → after ≡ record { table = new.table; said = take count new.said } → after ≡ old
  undone after count h long e =
      e ∙ ((λ i. record { table = (h.classes i).table; said = take (long i) (h.classes i).said }) ∙ λ i. record { table = old.table; said = take-append_seam old.said (h.said ∷ []) i })

  pub front-met-too : IsSaidToo (nodes p.table) old new d → (ds : List Decided) → AreSpoken (nodes old.table) (nodes p.table) ds old.said → (false ≡ true) ↔ NotMet (literals_at (nodes p.table) (d ∷ ds))
  front-met-too h ds spoken = (λ is. absurd (true≢false (sym is)), λ unmet. absurd (h.met (front-unmet (nodes old.table) (nodes p.table) ds old.said spoken d h.said h.speaks unmet)))

  pub front-refused : IsRefused (nodes p.table) old new d → (ds : List Decided) → AreSpoken (nodes old.table) (nodes p.table) ds old.said → (true ≡ true) ↔ NotMet (literals_at (nodes p.table) (d ∷ ds))
  front-refused h ds spoken = (λ is. unmet-front (nodes old.table) (nodes p.table) ds old.said spoken d h.said h.speaks h.unmet, λ unmet. refl)

  pub kept-clash : (b : Bool) → IsAsked (nodes p.table) old new d b → (ds : List Decided) → AreSpoken (nodes old.table) (nodes p.table) ds old.said → not b ≡ true → Clash (instances_in (nodes p.table) p) (literals_at (nodes p.table) (ds ++ d ∷ []))
  kept-clash true h ds spoken e = absurd (true≢false (sym e))
  kept-clash false h ds spoken e = inl (unmet-longer (nodes old.table) (nodes p.table) ds old.said spoken d h.said h.speaks h.unmet)

  pub kept-quiet : (b : Bool) → IsAsked (nodes p.table) old new d b → (ds : List Decided) → AreSpoken (nodes old.table) (nodes p.table) ds old.said → (SomeFalse (instances_in (nodes p.table) p) (literals_at (nodes p.table) (ds ++ d ∷ [])) → ⊥) → not b ≡ false → IsQuiet p new (ds ++ d ∷ [])
  kept-quiet false h ds spoken none e = absurd (true≢false e)
  kept-quiet true h ds spoken none e = subst (λ (a : Asserted). IsQuiet p a (ds ++ d ∷ [])) (sym h.classes) (record {
    spoken = spoken-more (nodes old.table) (nodes p.table) ds old.said d h.said spoken h.speaks;
    quiet = λ clash. elim clash [
      | inl unmet ↦ h.met (longer-unmet (nodes old.table) (nodes p.table) ds old.said spoken d h.said h.speaks unmet)
      | inr some ↦ none some
    ];
  })

-- what two clauses give where the answer is Ok
pub ok-both : {X E P : Type 0} {Q R : X → Type 0} (r : Result X E) → ((x : X) → P → Q x → R x) → OnOk r P → IfOk r Q → IfOk r R
ok-both (Ok x) f p q = f x p q
ok-both (Err e) f p q = tt

pub ok-two : {X E P Q R : Type 0} (r : Result X E) → (P → Q → R) → OnOk r P → OnOk r Q → OnOk r R
ok-two (Ok x) f p q = f p q
ok-two (Err e) f p q = tt
