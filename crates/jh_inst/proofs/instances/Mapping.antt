-- What comes of a formula in which bound variables were exchanged came of the formula before.
use Rattle.std.proofs.Common.{◌≡◌, refl, sym, ap, subst, ℕ, suc, ◌+◌, arith, length, true, ◌&&◌, List, [], ◌∷◌, ◌++◌, ◌⊎◌, inl, inr}
use Rattle.std.proofs.lemmas.Bool.{true≢false}
use Rattle.jh_form.specs.Tree.{TermTree, IntTree, SetTree, FieldTree, FormulaTree}
use Rattle.jh_form.specs.Tree as t
use Rattle.jh_form.proofs.ClosedLemmas.{both-left, both-right}
use Rattle.jh_boxed.specs.Mapped.{mapped_term, mapped_int, mapped_set, mapped_field, mapped_formula}
use Rattle.jh_seq.specs.splitting.Local.{is_field_name, are_field_names, is_local_term, is_local_number, is_local_set, has_local_shape}
use Rattle.jh_inst.specs.instances.Witnesses.{witnesses}
use Rattle.jh_inst.proofs.instances.Gathering.{Fills, fill_at, read_each, itself, all_of, of_number, of_set, gather_under, gather_top, gather_front, read-in, read-of}
use Rattle.jh_inst.proofs.instances.Lengths.{In, in-left, in-right, in-both}
use Rattle.jh_inst.proofs.instances.Shaped.{exchanging}

-- a field that is a name stays
name-stays : (b : ℕ → ℕ → TermTree) (f : FieldTree) (d : ℕ) → is_field_name f ≡ true → mapped_field f (exchanging b) d ≡ f
unfolding mapped_field
name-stays b (t.free_field x) d h = refl
name-stays b (t.update f a v) d h = absurd (true≢false (sym h))

-- as many constants are wanted
pub witnesses-mapped : (b : ℕ → ℕ → TermTree) (a : FormulaTree) (d : ℕ) → witnesses (mapped_formula a (exchanging b) d) ≡ witnesses a
unfolding mapped_formula
witnesses-mapped b (t.and a c) d = let here = witnesses-mapped b a d in let there = witnesses-mapped b c d in λ i. here i + there i
witnesses-mapped b (t.or a c) d = let here = witnesses-mapped b a d in let there = witnesses-mapped b c d in λ i. here i + there i
witnesses-mapped b (t.ex a) d = ap suc (witnesses-mapped b a (d + 1))
witnesses-mapped b _ d = refl

-- The old fills are those of the formula, the new ones those of the formula that was made of it. P holds of terms that come in
-- with what is exchanged.
module _ (P : TermTree → Type 0) (b : ℕ → ℕ → TermTree) (old new : Fills)
    (self : (k d : ℕ) (gs : Fills) → length gs ≡ d → (x : TermTree) → In x (itself (gs ++ new) (b k d)) → In x (fill_at (gs ++ old) k))
    (inside : (k d : ℕ) (gs : Fills) → length gs ≡ d → (x : TermTree) → In x (all_of (gs ++ new) (b k d)) → P x ⊎ In x (fill_at (gs ++ old) k)) where
  abbrev Comes : List TermTree → List TermTree → Type 0
  Comes xs ys = (x : TermTree) → In x xs → P x ⊎ In x ys

  comes-both : (xs ys vs ws : List TermTree) → Comes xs vs → Comes ys ws → Comes (xs ++ ys) (vs ++ ws)
  comes-both xs ys vs ws f g x h =
      elim (in-both x xs ys h) [
        | inl l ↦ elim (f x l) [
          | inl p ↦ inl p
          | inr k ↦ inr (in-left x vs ws k)
        ]
        | inr r ↦ elim (g x r) [
          | inl p ↦ inl p
          | inr k ↦ inr (in-right x vs ws k)
        ]
      ]

  term-self : (a : TermTree) (d : ℕ) (gs : Fills) → length gs ≡ d → is_local_term a ≡ true → (x : TermTree) → In x (itself (gs ++ new) (mapped_term a (exchanging b) d)) → In x (itself (gs ++ old) a)
  unfolding mapped_term
  term-self (t.bound k) d gs e l x h = self k d gs e x h
  term-self (t.free_object y) d gs e l x h = h
  term-self t.null d gs e l x h = h
  term-self (t.read_object f a) d gs e l x h =
      let stays = name-stays b f d (both-left (is_field_name f) (is_local_term a) l) in
      let found = read-in f x (itself (gs ++ new) (mapped_term a (exchanging b) d)) (subst (λ z. In x (read_each z (itself (gs ++ new) (mapped_term a (exchanging b) d)))) stays h) in
      read-of f x (itself (gs ++ old) a) (found.0, found.1, term-self a d gs e (both-right (is_field_name f) (is_local_term a) l) found.0 found.2)

  term-comes : (a : TermTree) (d : ℕ) (gs : Fills) → length gs ≡ d → is_local_term a ≡ true → Comes (all_of (gs ++ new) (mapped_term a (exchanging b) d)) (all_of (gs ++ old) a)
  unfolding mapped_term
  term-comes (t.bound k) d gs e l x h = inside k d gs e x h
  term-comes (t.free_object y) d gs e l x h = inr h
  term-comes t.null d gs e l x h = inr h
  term-comes (t.read_object f a) d gs e l x h =
      elim (in-both x (read_each (mapped_field f (exchanging b) d) (itself (gs ++ new) (mapped_term a (exchanging b) d))) (all_of (gs ++ new) (mapped_term a (exchanging b) d)) h) [
        | inl here ↦ inr (in-left x (read_each f (itself (gs ++ old) a)) (all_of (gs ++ old) a) (term-self (t.read_object f a) d gs e l x here))
        | inr there ↦ elim (term-comes a d gs e (both-right (is_field_name f) (is_local_term a) l) x there) [
          | inl p ↦ inl p
          | inr k ↦ inr (in-right x (read_each f (itself (gs ++ old) a)) (all_of (gs ++ old) a) k)
        ]
      ]

  number-comes : (a : IntTree) (d : ℕ) (gs : Fills) → length gs ≡ d → is_local_number a ≡ true → Comes (of_number all_of (gs ++ new) (mapped_int a (exchanging b) d)) (of_number all_of (gs ++ old) a)
  unfolding mapped_int
  number-comes (t.read_number f a) d gs e l x h = term-comes a d gs e (both-right (is_field_name f) (is_local_term a) l) x h
  number-comes (t.const z) d gs e l x h = absurd h
  number-comes (t.free_number y) d gs e l x h = absurd h
  number-comes _ d gs e l x h = absurd (true≢false (sym l))

  set-comes : (a : SetTree) (d : ℕ) (gs : Fills) → length gs ≡ d → is_local_set a ≡ true → Comes (of_set all_of (gs ++ new) (mapped_set a (exchanging b) d)) (of_set all_of (gs ++ old) a)
  unfolding mapped_set
  set-comes (t.read_set f a) d gs e l x h = term-comes a d gs e (both-right (is_field_name f) (is_local_term a) l) x h
  set-comes (t.free_set y) d gs e l x h = absurd h
  set-comes _ d gs e l x h = absurd (true≢false (sym l))

  abbrev T : TermTree → ℕ → Fills → List TermTree
  T a d gs = all_of (gs ++ new) (mapped_term a (exchanging b) d)

  pub under-comes : (a : FormulaTree) (d : ℕ) (gs : Fills) → length gs ≡ d → has_local_shape a ≡ true → Comes (gather_under all_of (mapped_formula a (exchanging b) d) (gs ++ new)) (gather_under all_of a (gs ++ old))
  unfolding mapped_formula
  under-comes (t.negation a) d gs e l x h = under-comes a d gs e l x h
  under-comes (t.and a c) d gs e l x h =
      comes-both (gather_under all_of (mapped_formula a (exchanging b) d) (gs ++ new)) (gather_under all_of (mapped_formula c (exchanging b) d) (gs ++ new)) (gather_under all_of a (gs ++ old)) (gather_under all_of c (gs ++ old))
      (under-comes a d gs e (both-left (has_local_shape a) (has_local_shape c) l)) (under-comes c d gs e (both-right (has_local_shape a) (has_local_shape c) l)) x h
  under-comes (t.or a c) d gs e l x h =
      comes-both (gather_under all_of (mapped_formula a (exchanging b) d) (gs ++ new)) (gather_under all_of (mapped_formula c (exchanging b) d) (gs ++ new)) (gather_under all_of a (gs ++ old)) (gather_under all_of c (gs ++ old))
      (under-comes a d gs e (both-left (has_local_shape a) (has_local_shape c) l)) (under-comes c d gs e (both-right (has_local_shape a) (has_local_shape c) l)) x h
  under-comes (t.all a) d gs e l x h = under-comes a (d + 1) ([] ∷ gs) (omega (arith, e)) l x h
  under-comes (t.ex a) d gs e l x h = under-comes a (d + 1) ([] ∷ gs) (omega (arith, e)) l x h
  under-comes (t.read_truth f a) d gs e l x h = term-comes a d gs e (both-right (is_field_name f) (is_local_term a) l) x h
  under-comes (t.eq_object a c) d gs e l x h =
      comes-both (T a d gs) (T c d gs) (all_of (gs ++ old) a) (all_of (gs ++ old) c)
      (term-comes a d gs e (both-left (is_local_term a) (is_local_term c) l)) (term-comes c d gs e (both-right (is_local_term a) (is_local_term c) l)) x h
  under-comes (t.eq_number a c) d gs e l x h =
      comes-both (of_number all_of (gs ++ new) (mapped_int a (exchanging b) d)) (of_number all_of (gs ++ new) (mapped_int c (exchanging b) d)) (of_number all_of (gs ++ old) a) (of_number all_of (gs ++ old) c)
      (number-comes a d gs e (both-left (is_local_number a) (is_local_number c) l)) (number-comes c d gs e (both-right (is_local_number a) (is_local_number c) l)) x h
  under-comes (t.member a c) d gs e l x h =
      comes-both (T a d gs) (of_set all_of (gs ++ new) (mapped_set c (exchanging b) d)) (all_of (gs ++ old) a) (of_set all_of (gs ++ old) c)
      (term-comes a d gs e (both-left (is_local_term a) (is_local_set c) l)) (set-comes c d gs e (both-right (is_local_term a) (is_local_set c) l)) x h
  under-comes (t.reach hs a c) d gs e l x h =
      comes-both (T a d gs) (T c d gs) (all_of (gs ++ old) a) (all_of (gs ++ old) c)
      (term-comes a d gs e (both-right (are_field_names hs) (is_local_term a) (both-left (are_field_names hs && is_local_term a) (is_local_term c) l)))
      (term-comes c d gs e (both-right (are_field_names hs && is_local_term a) (is_local_term c) l)) x h
  under-comes t.true_formula d gs e l x h = absurd h
  under-comes t.false_formula d gs e l x h = absurd h
  under-comes (t.free_truth y) d gs e l x h = absurd h
  under-comes (t.tree hs) d gs e l x h = absurd h
  under-comes (t.implies a c) d gs e l x h = absurd h
  under-comes (t.iff a c) d gs e l x h = absurd h
  under-comes (t.mark k a) d gs e l x h = absurd h
  under-comes _ d gs e l x h = absurd (true≢false (sym l))

  pub top-comes : (cs : ℕ → List TermTree) (a : FormulaTree) (d : ℕ) (gs : Fills) (j : ℕ) → length gs ≡ d → has_local_shape a ≡ true → Comes (gather_top all_of cs (mapped_formula a (exchanging b) d) (gs ++ new) j) (gather_top all_of cs a (gs ++ old) j)
  unfolding mapped_formula
  top-comes cs (t.and a c) d gs j e l x h =
      comes-both (gather_top all_of cs (mapped_formula a (exchanging b) d) (gs ++ new) j) (gather_top all_of cs (mapped_formula c (exchanging b) d) (gs ++ new) (j + witnesses a)) (gather_top all_of cs a (gs ++ old) j) (gather_top all_of cs c (gs ++ old) (j + witnesses a))
      (top-comes cs a d gs j e (both-left (has_local_shape a) (has_local_shape c) l)) (top-comes cs c d gs (j + witnesses a) e (both-right (has_local_shape a) (has_local_shape c) l)) x
      (subst (λ n. In x (gather_top all_of cs (mapped_formula a (exchanging b) d) (gs ++ new) j ++ gather_top all_of cs (mapped_formula c (exchanging b) d) (gs ++ new) (j + n))) (witnesses-mapped b a d) h)
  top-comes cs (t.or a c) d gs j e l x h =
      comes-both (gather_top all_of cs (mapped_formula a (exchanging b) d) (gs ++ new) j) (gather_top all_of cs (mapped_formula c (exchanging b) d) (gs ++ new) (j + witnesses a)) (gather_top all_of cs a (gs ++ old) j) (gather_top all_of cs c (gs ++ old) (j + witnesses a))
      (top-comes cs a d gs j e (both-left (has_local_shape a) (has_local_shape c) l)) (top-comes cs c d gs (j + witnesses a) e (both-right (has_local_shape a) (has_local_shape c) l)) x
      (subst (λ n. In x (gather_top all_of cs (mapped_formula a (exchanging b) d) (gs ++ new) j ++ gather_top all_of cs (mapped_formula c (exchanging b) d) (gs ++ new) (j + n))) (witnesses-mapped b a d) h)
  top-comes cs (t.ex a) d gs j e l x h = top-comes cs a (d + 1) (cs j ∷ gs) (suc j) (omega (arith, e)) l x h
  top-comes cs a d gs j e l x h = under-comes a d gs e l x h

  pub front-comes : (cs : ℕ → List TermTree) (ts : List TermTree) (a : FormulaTree) (d : ℕ) (gs : Fills) → length gs ≡ d → has_local_shape a ≡ true → Comes (gather_front all_of cs ts (mapped_formula a (exchanging b) d) (gs ++ new)) (gather_front all_of cs ts a (gs ++ old))
  unfolding mapped_formula
  front-comes cs ts (t.all a) d gs e l x h = front-comes cs ts a (d + 1) (ts ∷ gs) (omega (arith, e)) l x h
  front-comes cs ts a d gs e l x h = top-comes cs a d gs 0 e l x h
