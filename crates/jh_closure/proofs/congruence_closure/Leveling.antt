-- Levels, as equations are added and taken back.
use Rattle.std.proofs.Common.{◌≡◌, refl, sym, ap, subst, ◌∙◌, ℕ, zero, suc, ◌+◌, ◌<◌, ◌≤◌, List, [], ◌∷◌, ◌++◌, length, take, slice_get, get_or, ◌⊎◌, inl, inr, Some, arith}
use Rattle.std.proofs.lemmas.List.{take-take, take_all, length-take-le}
use Rattle.std.proofs.lemmas.Option.{slice_get_within, slice_get-get_or}
use Rattle.jh_closure.specs.declared.union_find.merge.Cause.{Cause}
use Rattle.jh_closure.specs.declared.union_find.merge.Merge.{Merge}
use Rattle.jh_closure.specs.declared.union_find.merge.Why.{Why}
use Rattle.jh_closure.specs.declared.union_find.merge.Why.TheVariants as why
use Rattle.jh_closure.specs.union_find.Merges.{root, class_of}
use Rattle.jh_closure.proofs.union_find.Stamping.{at-push, at-old, at-last}
use Rattle.jh_closure.specs.declared.congruence_closure.equation.Equation.{Equation}
use Rattle.jh_closure.specs.declared.congruence_closure.levels.Mark.{Mark}
use Rattle.jh_closure.specs.declared.congruence_closure.node.Node.{Node}
use Rattle.jh_closure.specs.congruence_closure.Nodes.{Has}
use Rattle.jh_closure.specs.congruence_closure.Closing.{IsTable, IsFound, Justified, AreRight, Keeps, alike}
use Rattle.jh_closure.specs.congruence_closure.Cores.{Begins}
use Rattle.jh_closure.specs.congruence_closure.Levels.{IsSettled, IsLevel, AreLevels}
use Rattle.jh_closure.specs.congruence_closure.Tables.{found}
use Rattle.jh_closure.proofs.congruence_closure.Growing.{begins-take, begins-length}
use Rattle.jh_closure.proofs.congruence_closure.Having.{has-pushed}

settled-as : (ns : List Node) {said said' : List Equation} {ms ms' : List Merge} {es es' : List (Node × ℕ)} → said ≡ said' → ms ≡ ms' → es ≡ es' → IsSettled ns said ms es → IsSettled ns said' ms' es'
settled-as ns a b c h = subst (λ z. z) (λ i. IsSettled ns (a i) (b i) (c i)) h

-- levels are the same as more comes behind
pub levels-grown : (ns : List Node) (said said' : List Equation) (ms ms' : List Merge) (es es' : List (Node × ℕ)) (marks : List Mark) →
    Begins said said' → Begins ms ms' → Begins es es' → AreLevels ns said ms es marks → AreLevels ns said' ms' es' marks
levels-grown ns said said' ms ms' es es' marks bs bm be h = record { each = each; merges_grow = h.merges_grow; entries_grow = h.entries_grow }
  where
    each : (i : ℕ) (k : Mark) → slice_get marks i ≡ Some k → IsLevel ns said' ms' es' i k
    each i k e =
        let l = h.each i k e in
        let a = l.said_inside in
        let b = l.merges_inside in
        let c = l.entries_inside in
        let x = begins-length said said' bs in
        let y = begins-length ms ms' bm in
        let z = begins-length es es' be in
        record {
          said_inside = omega (arith, a, x);
          merges_inside = omega (arith, b, y);
          entries_inside = omega (arith, c, z);
          settled = settled-as ns (sym (begins-take said said' i bs l.said_inside)) (sym (begins-take ms ms' k.merges bm l.merges_inside)) (sym (begins-take es es' k.entries be l.entries_inside)) l.settled;
        }

whole : {X : Type 0} (xs : List X) (n : ℕ) → n ≡ length xs → take n xs ≡ xs
whole xs n e = take_all n xs (omega (arith, e))

abbrev pub mark_now : List Merge → List (Node × ℕ) → Mark
mark_now ms es = record { merges = length ms; entries = length es }

-- a level for what there is
pub levels-push : (ns : List Node) (said : List Equation) (ms : List Merge) (es : List (Node × ℕ)) (marks : List Mark) → AreLevels ns said ms es marks → length marks ≡ length said →
    IsSettled ns said ms es → AreLevels ns said ms es (marks ++ mark_now ms es ∷ [])
levels-push ns said ms es marks h count now = record { each = each; merges_grow = merges; entries_grow = entries }
  where
    new : Mark
    new = mark_now ms es

    each : (i : ℕ) (k : Mark) → slice_get (marks ++ mark_now ms es ∷ []) i ≡ Some k → IsLevel ns said ms es i k
    each i k e = elim (at-push marks (mark_now ms es) k i e) [
      | inl old ↦ h.each i k old
      | inr last ↦ subst (λ z. IsLevel ns said ms es i z) last.1 (record {
        said_inside = let a = last.0 in omega (arith, a, count);
        merges_inside = omega arith;
        entries_inside = omega arith;
        settled = settled-as ns (sym (whole said i (last.0 ∙ count))) (sym (whole ms (length ms) refl)) (sym (whole es (length es) refl)) now;
      })
    ]

    merges : (i j : ℕ) (k l : Mark) → i ≤ j → slice_get (marks ++ mark_now ms es ∷ []) i ≡ Some k → slice_get (marks ++ mark_now ms es ∷ []) j ≡ Some l → k.merges ≤ l.merges
    merges i j k l le ei ej = elim (at-push marks (mark_now ms es) l j ej) [
      | inl old ↦ elim (at-push marks (mark_now ms es) k i ei) [
        | inl first ↦ h.merges_grow i j k l le first old
        | inr last ↦ let a = last.0 in let b : j < length marks = slice_get_within marks j l old in absurd (omega (arith, a, b, le))
      ]
      | inr last ↦ let r = (each i k ei).merges_inside in let s : l.merges ≡ length ms = sym (ap (λ (z : Mark). z.merges) last.1) in omega (arith, r, s)
    ]

    entries : (i j : ℕ) (k l : Mark) → i ≤ j → slice_get (marks ++ mark_now ms es ∷ []) i ≡ Some k → slice_get (marks ++ mark_now ms es ∷ []) j ≡ Some l → k.entries ≤ l.entries
    entries i j k l le ei ej = elim (at-push marks (mark_now ms es) l j ej) [
      | inl old ↦ elim (at-push marks (mark_now ms es) k i ei) [
        | inl first ↦ h.entries_grow i j k l le first old
        | inr last ↦ let a = last.0 in let b : j < length marks = slice_get_within marks j l old in absurd (omega (arith, a, b, le))
      ]
      | inr last ↦ let r = (each i k ei).entries_inside in let s : l.entries ≡ length es = sym (ap (λ (z : Mark). z.entries) last.1) in omega (arith, r, s)
    ]

-- what stands at a place of the front of a list
at-taken : {X : Type 0} (xs : List X) (n i : ℕ) (x : X) → slice_get (take n xs) i ≡ Some x → (i < n) × (slice_get xs i ≡ Some x)
at-taken xs zero i x h = absurd (let l : i < 0 = slice_get_within [] i x h in omega (arith, l))
at-taken [] (suc n) i x h = absurd (let l : i < 0 = slice_get_within [] i x h in omega (arith, l))
at-taken (y ∷ xs) (suc n) zero x h = (omega arith, h)
at-taken (y ∷ xs) (suc n) (suc i) x h = let r = at-taken xs n i x h in (let l = r.0 in omega (arith, l), r.1)

module _ (ns : List Node) (said : List Equation) (ms : List Merge) (es : List (Node × ℕ)) (marks : List Mark) (n : ℕ) (k : Mark) (h : AreLevels ns said ms es marks) (here : slice_get marks n ≡ Some k) where
  last-level : IsLevel ns said ms es n k
  last-level = h.each n k here

  pub cut-said : length (take n said) ≡ n
  cut-said = length-take-le n said last-level.said_inside

  pub cut-marks : length (take (n + 1) marks) ≡ n + 1
  cut-marks = length-take-le (n + 1) marks (let l : n < length marks = slice_get_within marks n k here in omega (arith, l))

  cut-merges : length (take k.merges ms) ≡ k.merges
  cut-merges = length-take-le k.merges ms last-level.merges_inside

  cut-entries : length (take k.entries es) ≡ k.entries
  cut-entries = length-take-le k.entries es last-level.entries_inside

  -- all levels up to one of them
  pub levels-cut : AreLevels ns (take n said) (take k.merges ms) (take k.entries es) (take (n + 1) marks)
  levels-cut = record {
    each = λ i m e.
        let r = at-taken marks (n + 1) i m e in
        let low : i ≤ n = let a = r.0 in omega (arith, a) in
        let l = h.each i m r.1 in
        let fewer : m.merges ≤ k.merges = h.merges_grow i n m k low r.1 here in
        let less : m.entries ≤ k.entries = h.entries_grow i n m k low r.1 here in
        record {
          said_inside = let a = cut-said in omega (arith, a, low);
          merges_inside = let a = cut-merges in omega (arith, a, fewer);
          entries_inside = let a = cut-entries in omega (arith, a, less);
          settled = settled-as ns (sym (take-take i n said low)) (sym (take-take m.merges k.merges ms fewer)) (sym (take-take m.entries k.entries es less)) l.settled;
        };
    merges_grow = λ i j m l le ei ej. h.merges_grow i j m l le (at-taken marks (n + 1) i m ei).1 (at-taken marks (n + 1) j l ej).1;
    entries_grow = λ i j m l le ei ej. h.entries_grow i j m l le (at-taken marks (n + 1) i m ei).1 (at-taken marks (n + 1) j l ej).1;
  }

  one-mark : (x y : Mark) → slice_get marks n ≡ Some x → slice_get marks n ≡ Some y → x ≡ y
  one-mark x y a b = cc

  cut-is : (m : Mark) → slice_get (take (n + 1) marks) (length (take n said)) ≡ Some m → m ≡ k
  cut-is m e = one-mark m k (at-taken marks (n + 1) n m (subst (λ z. slice_get (take (n + 1) marks) z ≡ Some m) cut-said e)).1 here

  pub cut-last-merges : (m : Mark) → slice_get (take (n + 1) marks) (length (take n said)) ≡ Some m → m.merges ≡ length (take k.merges ms)
  cut-last-merges m e = ap (λ (z : Mark). z.merges) (cut-is m e) ∙ sym cut-merges

  pub cut-last-entries : (m : Mark) → slice_get (take (n + 1) marks) (length (take n said)) ≡ Some m → m.entries ≡ length (take k.entries es)
  cut-last-entries m e = ap (λ (z : Mark). z.entries) (cut-is m e) ∙ sym cut-entries

-- where the last level has all merges and signatures, the classes are settled
pub settled-now : (ns : List Node) (said : List Equation) (ms : List Merge) (es : List (Node × ℕ)) (marks : List Mark) → AreLevels ns said ms es marks → length marks ≡ length said + 1 →
    ((k : Mark) → slice_get marks (length said) ≡ Some k → k.merges ≡ length ms) → ((k : Mark) → slice_get marks (length said) ≡ Some k → k.entries ≡ length es) → IsSettled ns said ms es
settled-now ns said ms es marks h count em ee =
    let k = get_or marks (length said) (record { merges = 0; entries = 0 }) in
    let here : slice_get marks (length said) ≡ Some k = slice_get-get_or marks (length said) (record { merges = 0; entries = 0 }) (omega (arith, count)) in
    settled-as ns (whole said (length said) refl) (whole ms k.merges (em k here)) (whole es k.entries (ee k here)) (h.each (length said) k here).settled

-- the mark that was added last
pub last-mark : (marks : List Mark) (said : List Equation) (m k : Mark) → length marks ≡ length said → slice_get (marks ++ m ∷ []) (length said) ≡ Some k → k ≡ m
last-mark marks said m k count e = elim (at-push marks m k (length said) e) [
  | inl old ↦ let l : length said < length marks = slice_get_within marks (length said) k old in absurd (omega (arith, l, count))
  | inr last ↦ sym last.1
]

abbrev pub given : Equation → ℕ → Cause
given e i = record { left = e.left; right = e.right; why = why.Given i }

justified-more : (ns : List Node) (said : List Equation) (e : Equation) (f : ℕ → ℕ) (w : Why) (a b : ℕ) → Justified ns said f w a b → Justified ns (said ++ e ∷ []) f w a b
justified-more ns said e f (why.Given i) a b (inl h) = inl (at-old said e (record { left = a; right = b }) i h)
justified-more ns said e f (why.Given i) a b (inr h) = inr (at-old said e (record { left = b; right = a }) i h)
justified-more ns said e f why.Alike a b h = h

module _ (ns : List Node) (said : List Equation) (ms : List Merge) (es : List (Node × ℕ)) (e : Equation) (h : IsSettled ns said ms es) (left : e.left < length ns) (right : e.right < length ns) where
  -- one equation waits
  pub table-first : IsTable ns (class_of ms) (found es) (given e (length said) ∷ []) []
  table-first = record {
    parts = h.table.parts;
    reps = h.table.reps;
    entries = h.table.entries;
    dirty = h.table.dirty;
    waiting = record { left = λ q w. elim w [ inl s ↦ subst (λ (z : Cause). z.left < length ns) s left | inr none ↦ absurd none ]; right = λ q w. elim w [ inl s ↦ subst (λ (z : Cause). z.right < length ns) s right | inr none ↦ absurd none ] };
    covers = record { each = λ k l. elim (h.table.covers.each k l) [ inl d ↦ inl d | inr was ↦ inr (step k was) ] };
  }
    where
      turned : (j k : ℕ) → (class_of ms j ≡ class_of ms k) ⊎ Has {X = Cause} [] (alike j k) → (class_of ms j ≡ class_of ms k) ⊎ Has (given e (length said) ∷ []) (alike j k)
      turned j k (inl s) = inl s
      turned j k (inr none) = absurd none

      step : (k : ℕ) → IsFound ns (class_of ms) (found es) [] k → IsFound ns (class_of ms) (found es) (given e (length said) ∷ []) k
      step k was x here = let r = was x here in (r.0, r.1, turned r.0 k r.2)

  pub right-first : AreRight ns (said ++ e ∷ []) ms (given e (length said) ∷ [])
  right-first = record {
    trail = record {
      left = h.trail.left;
      right = h.trail.right;
      left_inside = h.trail.left_inside;
      right_inside = h.trail.right_inside;
      why = λ t m s. justified-more ns said e (root ms t) m.why m.left m.right (h.trail.why t m s);
    };
    causes = λ p w. elim w [ inl s ↦ subst (λ (z : Cause). Justified ns (said ++ e ∷ []) (class_of ms) z.why z.left z.right) s (inl (at-last said e)) | inr none ↦ absurd none ];
  }

  -- after nothing waits
  pub settled-after : (ms' : List Merge) (es' : List (Node × ℕ)) → IsTable ns (class_of ms') (found es') [] [] → AreRight ns (said ++ e ∷ []) ms' [] → Keeps (length ns) (class_of ms) (class_of ms') →
      ((q : Cause) → Has (given e (length said) ∷ []) q → class_of ms' q.left ≡ class_of ms' q.right) → IsSettled ns (said ++ e ∷ []) ms' es'
  settled-after ms' es' t r keeps joined = record {
    table = t;
    trail = r.trail;
    meets = λ x w. elim (has-pushed said e x w) [
      | inl old ↦ keeps x.left x.right (h.left x old) (h.right x old) (h.meets x old)
      | inr same ↦ subst (λ (z : Equation). class_of ms' z.left ≡ class_of ms' z.right) same (joined (given e (length said)) (inl refl))
    ];
    left = λ x w. elim (has-pushed said e x w) [ inl old ↦ h.left x old | inr same ↦ subst (λ (z : Equation). z.left < length ns) same left ];
    right = λ x w. elim (has-pushed said e x w) [ inl old ↦ h.right x old | inr same ↦ subst (λ (z : Equation). z.right < length ns) same right ];
  }
