-- A branch with one more literal.
use Rattle.std.proofs.Common.{◌≡◌, sym, ap, ◌∙◌, subst, ℕ, ◌+◌, ◌<◌, ◌≤◌, arith, List, [], ◌∷◌, ◌++◌, length, length-append, take, drop, Some, Result, Ok, Err, OnOk, slice_get, ◌⊎◌, inl, inr}
use Rattle.std.proofs.lemmas.Option.{slice_get_within}
use Rattle.std.proofs.lemmas.List.{take-append-le}
use Rattle.std.proofs.Math.Seq.{take-append_seam}
use Rattle.jh_form.specs.Tree.{FormulaTree, ValueTree}
use Rattle.jh_arena.specs.table.Nodes.{nodes}
use Rattle.jh_closure.specs.congruence_closure.Nodes.{Has}
use Rattle.jh_closure.proofs.congruence_closure.Having.{has-left, has-right, has-either, has-pushed, has-last}
use Rattle.jh_cong.proofs.classes.Looking.{has-or-not}
use Rattle.jh_models.specs.ground_models.Atoms.{atoms_of, StandsIn}
use Rattle.jh_models.proofs.ground_models.Growing.{false-more}
use Rattle.jh_propagation.specs.declared.trail.decided.Decided.{Decided}
use Rattle.jh_propagation.specs.trail.Laws.{OthersSayNothing}
use Rattle.jh_propagation.specs.trail.Saying.{truth_at, literal_tree_at, literals_at, opposite_of}
use Rattle.jh_propagation.specs.trail.Occurring.{places_in}
use Rattle.jh_propagation.specs.declared.propagation.problem.Problem.{Problem}
use Rattle.jh_propagation.specs.declared.propagation.branch.Reason.{Reason}
use Rattle.jh_propagation.specs.declared.propagation.branch.Reason.TheVariants as reason
use Rattle.jh_propagation.specs.propagation.Branches.{Why, IsQuiet, Parts, AreParts}
use Rattle.jh_propagation.specs.propagation.Speaking.{AreSpoken}
use Rattle.jh_propagation.proofs.propagation.Lists.{slice-pushed, drop-more, are-listed}

-- a literal at the end or at the front
front : (trail : List Decided) (d x : Decided) → Has (trail ++ d ∷ []) x → Has (d ∷ trail) x
front trail d x h = elim (has-pushed trail d x h) [ inl l ↦ inr l | inr e ↦ inl e ]

second : (trail : List Decided) (l d x : Decided) → Has (l ∷ (trail ++ d ∷ [])) x → Has (l ∷ (d ∷ trail)) x
second trail l d x (inl e) = inl e
second trail l d x (inr h) = inr (front trail d x h)

-- An instance in which the atom doesn't stand stays quiet.
pub quiet-pushed : (law : OthersSayNothing) (ts : List ValueTree) (trail : List Decided) (d : Decided) (i : FormulaTree) → (StandsIn (atoms_of i) (truth_at ts d.atom) → ⊥) → IsQuiet ts trail i → IsQuiet ts (trail ++ d ∷ []) i
quiet-pushed law ts trail d i never h = record {
  not_false = λ f. h.not_false (law.alone (literals_at ts trail) (literal_tree_at ts d) i never (false-more (literals_at ts (trail ++ d ∷ [])) (literals_at ts (d ∷ trail)) (are-listed ts (d ∷ trail) (trail ++ d ∷ []) (front trail d)) i f));
  forced = λ l f. has-left trail (d ∷ []) l (h.forced l (law.beside (literals_at ts trail) (literal_tree_at ts d) (literal_tree_at ts l) i never (false-more (literals_at ts (opposite_of l ∷ (trail ++ d ∷ []))) (literals_at ts (opposite_of l ∷ (d ∷ trail))) (are-listed ts (opposite_of l ∷ (d ∷ trail)) (opposite_of l ∷ (trail ++ d ∷ [])) (second trail (opposite_of l) d)) i f)));
}

abbrev pub with_one : Problem → Parts → List Decided → Decided → Reason → Parts
with_one p b ds d r = record { decisions = ds; classes = b.classes; trail = b.trail ++ d ∷ []; reasons = b.reasons ++ r ∷ []; waiting = b.waiting ++ places_in p.ground d.atom; head = b.head }

module _ (law : OthersSayNothing) (p : Problem) (busy : List ℕ) (b : Parts) (ds : List Decided) (d : Decided) (r : Reason) (h : AreParts p busy b) (keeps : (x : Decided) → Has b.decisions x → Has ds x) (adds : (x : Decided) → Has ds x → Has (b.trail ++ d ∷ []) x) (at : Has p.ground.atoms d.atom) (why : Why (nodes p.table) p ds b.trail d r) (latest : (count : ℕ) → r ≡ reason.Equality count → count ≡ length b.classes.said) where
  abbrev ts : List ValueTree
  ts = nodes p.table

  abbrev new : Parts
  new = with_one p b ds d r

  kept-why : (had : List Decided) (x : Decided) (q : Reason) → Why ts p b.decisions had x q → Why ts p ds had x q
  kept-why had x reason.Decision g = keeps x g
  kept-why had x (reason.Instance place) g = g
  kept-why had x (reason.Equality count) g = g

  justified-old : (n : ℕ) (x : Decided) (q : Reason) → slice_get b.trail n ≡ Some x → slice_get b.reasons n ≡ Some q → Why ts p ds (take n (b.trail ++ d ∷ [])) x q
  justified-old n x q e f =
      let lt : n < length b.trail = slice_get_within b.trail n x e in
      subst (λ had. Why ts p ds had x q) (sym (take-append-le n b.trail (d ∷ []) (omega (arith, lt)))) (kept-why (take n b.trail) x q (h.justified n x q e f))

  justified-new : (n : ℕ) (x : Decided) (q : Reason) → n ≡ length b.trail → d ≡ x → r ≡ q → Why ts p ds (take n (b.trail ++ d ∷ [])) x q
  justified-new n x q e f g =
      let had : take n (b.trail ++ d ∷ []) ≡ b.trail = ap (λ k. take k (b.trail ++ d ∷ [])) e ∙ take-append_seam b.trail (d ∷ []) in
      subst (λ k. Why ts p ds k x q) (sym had) (subst (λ k. Why ts p ds b.trail k q) f (subst (λ k. Why ts p ds b.trail d k) g why))

  justified : (n : ℕ) (x : Decided) (q : Reason) → slice_get (b.trail ++ d ∷ []) n ≡ Some x → slice_get (b.reasons ++ r ∷ []) n ≡ Some q → Why ts p ds (take n (b.trail ++ d ∷ [])) x q
  justified n x q e f = chosen (slice-pushed b.trail d x n e) (slice-pushed b.reasons r q n f)
    where
      chosen : (slice_get b.trail n ≡ Some x) ⊎ ((n ≡ length b.trail) × (d ≡ x)) → (slice_get b.reasons n ≡ Some q) ⊎ ((n ≡ length b.reasons) × (r ≡ q)) → Why ts p ds (take n (b.trail ++ d ∷ [])) x q
      chosen (inl e) (inl f) = justified-old n x q e f
      chosen (inl e) (inr f) = absurd (let lt : n < length b.trail = slice_get_within b.trail n x e in omega (arith, lt, f.0, h.reasoned))
      chosen (inr e) (inl f) = absurd (let lt : n < length b.reasons = slice_get_within b.reasons n q f in omega (arith, lt, e.0, h.reasoned))
      chosen (inr e) (inr f) = justified-new n x q e.0 e.1 f.1

  counts : (n count : ℕ) → slice_get (b.reasons ++ r ∷ []) n ≡ Some (reason.Equality count) → count ≤ length b.classes.said
  counts n count e = chosen (slice-pushed b.reasons r (reason.Equality count) n e)
    where
      chosen : (slice_get b.reasons n ≡ Some (reason.Equality count)) ⊎ ((n ≡ length b.reasons) × (r ≡ reason.Equality count)) → count ≤ length b.classes.said
      chosen (inl f) = h.counts n count f
      chosen (inr f) = let same : count ≡ length b.classes.said = latest count f.1 in omega (arith, same)

  rising : (m n first later : ℕ) → m ≤ n → slice_get (b.reasons ++ r ∷ []) m ≡ Some (reason.Equality first) → slice_get (b.reasons ++ r ∷ []) n ≡ Some (reason.Equality later) → first ≤ later
  rising m n first later le e f = chosen (slice-pushed b.reasons r (reason.Equality first) m e) (slice-pushed b.reasons r (reason.Equality later) n f)
    where
      chosen : (slice_get b.reasons m ≡ Some (reason.Equality first)) ⊎ ((m ≡ length b.reasons) × (r ≡ reason.Equality first)) → (slice_get b.reasons n ≡ Some (reason.Equality later)) ⊎ ((n ≡ length b.reasons) × (r ≡ reason.Equality later)) → first ≤ later
      chosen (inl g) (inl k) = h.rising m n first later le g k
      chosen (inl g) (inr k) =
          let small : first ≤ length b.classes.said = h.counts m first g in
          let same : later ≡ length b.classes.said = latest later k.1 in
          omega (arith, small, same)
      chosen (inr g) (inl k) = absurd (let lt : n < length b.reasons = slice_get_within b.reasons n (reason.Equality later) k in omega (arith, lt, g.0, le))
      chosen (inr g) (inr k) =
          let one : first ≡ length b.classes.said = latest first g.1 in
          let other : later ≡ length b.classes.said = latest later k.1 in
          omega (arith, one, other)

  waits : (j : ℕ) → Has (b.waiting ++ places_in p.ground d.atom) j → j < length p.instances.items
  waits j g = elim (has-either b.waiting (places_in p.ground d.atom) j g) [ inl l ↦ h.waits j l | inr k ↦ h.problem.posed.occurrences.inside d.atom j k ]

  quiet : (j n : ℕ) → slice_get p.instances.items j ≡ Some n → Has busy j ⊎ (Has (drop b.head (b.waiting ++ places_in p.ground d.atom)) j ⊎ IsQuiet ts (b.trail ++ d ∷ []) (truth_at ts n))
  quiet j n e = chosen (h.quiet j n e) (has-or-not (places_in p.ground d.atom) j)
    where
      more : drop b.head b.waiting ++ places_in p.ground d.atom ≡ drop b.head (b.waiting ++ places_in p.ground d.atom)
      more = sym (drop-more b.head b.waiting (places_in p.ground d.atom) h.begun)

      chosen : Has busy j ⊎ (Has (drop b.head b.waiting) j ⊎ IsQuiet ts b.trail (truth_at ts n)) → Has (places_in p.ground d.atom) j ⊎ (Has (places_in p.ground d.atom) j → ⊥) → Has busy j ⊎ (Has (drop b.head (b.waiting ++ places_in p.ground d.atom)) j ⊎ IsQuiet ts (b.trail ++ d ∷ []) (truth_at ts n))
      chosen (inl g) _ = inl g
      chosen (inr (inl g)) _ = inr (inl (subst (λ (xs : List ℕ). Has xs j) more (has-left (drop b.head b.waiting) (places_in p.ground d.atom) j g)))
      chosen (inr (inr g)) (inl k) = inr (inl (subst (λ (xs : List ℕ). Has xs j) more (has-right (drop b.head b.waiting) (places_in p.ground d.atom) j k)))
      chosen (inr (inr g)) (inr never) = inr (inr (quiet-pushed law ts b.trail d (truth_at ts n) (λ s. never (h.problem.posed.occurrences.occur j n d.atom e (h.problem.posed.occurrences.truths d.atom at) s)) g))

  pub pushed : AreParts p busy new
  pushed = record {
    problem = h.problem;
    over_atoms = λ x g. elim (has-pushed b.trail d x g) [ inl l ↦ h.over_atoms x l | inr e ↦ subst (λ (z : Decided). Has p.ground.atoms z.atom) e at ];
    decided = adds;
    reasoned = length-append b.reasons (r ∷ []) ∙ (ap (λ n. n + 1) h.reasoned ∙ sym (length-append b.trail (d ∷ [])));
    justified = justified;
    counts = counts;
    rising = rising;
    told = let long : length (b.trail ++ d ∷ []) ≡ length b.trail + 1 = length-append b.trail (d ∷ []) in omega (arith, long, h.told);
    spoken = subst (λ k. AreSpoken (nodes b.classes.table) ts k b.classes.said) (sym (take-append-le (length b.classes.said) b.trail (d ∷ []) h.told)) h.spoken;
    begun = let long : length (b.waiting ++ places_in p.ground d.atom) ≡ length b.waiting + length (places_in p.ground d.atom) = length-append b.waiting (places_in p.ground d.atom) in omega (arith, long, h.begun);
    waits = waits;
    quiet = quiet;
  }

-- the same of any branch that has these parts
pub branch-pushed : (law : OthersSayNothing) (p : Problem) (busy : List ℕ) (b more : Parts) (d : Decided) (r : Reason) →
    more.decisions ≡ b.decisions → more.classes ≡ b.classes → more.trail ≡ b.trail ++ d ∷ [] → more.reasons ≡ b.reasons ++ r ∷ [] → more.waiting ≡ b.waiting ++ places_in p.ground d.atom → more.head ≡ b.head →
    AreParts p busy b → Has p.ground.atoms d.atom → Why (nodes p.table) p b.decisions b.trail d r → ((count : ℕ) → r ≡ reason.Equality count → count ≡ length b.classes.said) →
    AreParts p busy more
branch-pushed law p busy b more d r ds cs ts rs ws hs h at why latest =
    subst (AreParts p busy) (sym (λ i. record { decisions = ds i; classes = cs i; trail = ts i; reasons = rs i; waiting = ws i; head = hs i }))
    (pushed law p busy b b.decisions d r h (λ x g. g) (λ x g. has-left b.trail (d ∷ []) x (h.decided x g)) at why latest)

no-count : (count : ℕ) → reason.Decision ≡ reason.Equality count → ⊥
no-count count e = absurd cc

-- the same where it is decided
pub branch-decided : (law : OthersSayNothing) (p : Problem) (busy : List ℕ) (b more : Parts) (d : Decided) →
    more.decisions ≡ b.decisions ++ d ∷ [] → more.classes ≡ b.classes → more.trail ≡ b.trail ++ d ∷ [] → more.reasons ≡ b.reasons ++ reason.Decision ∷ [] → more.waiting ≡ b.waiting ++ places_in p.ground d.atom → more.head ≡ b.head →
    AreParts p busy b → Has p.ground.atoms d.atom → AreParts p busy more
branch-decided law p busy b more d ds cs ts rs ws hs h at =
    subst (AreParts p busy) (sym (λ i. record { decisions = ds i; classes = cs i; trail = ts i; reasons = rs i; waiting = ws i; head = hs i }))
    (pushed law p busy b (b.decisions ++ d ∷ []) d reason.Decision h (λ x g. has-left b.decisions (d ∷ []) x g) adds at (has-last b.decisions d) (λ count e. absurd (no-count count e)))
  where
    adds : (x : Decided) → Has (b.decisions ++ d ∷ []) x → Has (b.trail ++ d ∷ []) x
    adds x g = elim (has-pushed b.decisions d x g) [ inl l ↦ has-left b.trail (d ∷ []) x (h.decided x l) | inr e ↦ subst (Has (b.trail ++ d ∷ [])) e (has-last b.trail d) ]

-- what three clauses give
pub three-ok : {A E P Q R S : Type 0} (r : Result A E) → (P → Q → R → S) → OnOk r P → OnOk r Q → OnOk r R → OnOk r S
three-ok (Ok x) f p q g = f p q g
three-ok (Err e) f p q g = tt
