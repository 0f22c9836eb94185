-- States in which each thing of a list gets what stands at its place in another, the last one first.
use Rattle.std.proofs.Common.{◌≡◌, refl, ap, ◌∙◌, sym, ℕ, zero, suc, ◌+◌, ◌-◌, ◌<◌, ◌≤◌, List, [], ◌∷◌, drop, length, slice_get, Option, Some, None, arith}
use Rattle.jh_semantics.specs.Code.{Text}
use Rattle.jh_semantics.specs.State.{State}
use Rattle.jh_semantics.specs.Program.{Member}
use Rattle.jh_semantics.specs.Heaps.{Cell, with_classes, with_statics, with_fields}
use Rattle.jh_heap_layout.specs.loading.Steps.{put_both, put_one, class_put, static_put, field_put}

module _ {T V : Type 0} (f : T → V → State → State) where
  abbrev pub with_all : List T → List V → State → State
  with_all (t ∷ ts) (v ∷ vs) s = f t v (with_all ts vs s)
  with_all _ _ s = s

  nothing-left : (ts : List T) (s : State) → with_all ts [] s ≡ s
  nothing-left [] s = refl
  nothing-left (t ∷ ts) s = refl

  nothing-put : (o : Option T) (s : State) → put_both f o None s ≡ s
  unfolding put_both
  nothing-put (Some t) s = refl
  nothing-put None s = refl

  pub put-nothing : (ts : List T) (vs : List V) (k : ℕ) → slice_get vs k ≡ None → (s : State) → put_one f ts vs k s ≡ s
  put-nothing ts vs k none s = ap (λ o. put_both f (slice_get ts k) o s) none ∙ nothing-put (slice_get ts k) s

  pub put-both : (ts : List T) (vs : List V) (k : ℕ) (t : T) (v : V) → slice_get ts k ≡ Some t → slice_get vs k ≡ Some v → (s : State) → put_one f ts vs k s ≡ f t v s
  unfolding put_both
  put-both ts vs k t v at value s = rw at (rw value refl)

  -- one place more
  pub one-before : (ts : List T) (vs : List V) (k : ℕ) (s : State) → k < length ts → with_all (drop k ts) (drop k vs) s ≡ put_one f ts vs k (with_all (drop (suc k) ts) (drop (suc k) vs) s)
  unfolding put_both
  one-before [] vs k s lt = absurd (omega arith)
  one-before (t ∷ ts) [] zero s lt = sym (nothing-left ts s)
  one-before (t ∷ ts) [] (suc k) s lt = nothing-left (drop k ts) s ∙ sym (nothing-put (slice_get ts k) (with_all (drop (suc k) ts) [] s) ∙ nothing-left (drop (suc k) ts) s)
  one-before (t ∷ ts) (v ∷ vs) zero s lt = refl
  one-before (t ∷ ts) (v ∷ vs) (suc k) s lt = one-before ts vs k s (omega arith)

  pub nothing-yet : (ts : List T) (vs : List V) (k : ℕ) (s : State) → length ts ≤ k → with_all (drop k ts) (drop k vs) s ≡ s
  nothing-yet [] vs zero s le = refl
  nothing-yet [] vs (suc k) s le = refl
  nothing-yet (t ∷ ts) vs zero s le = absurd (omega arith)
  nothing-yet (t ∷ ts) [] (suc k) s le = nothing-left (drop k ts) s
  nothing-yet (t ∷ ts) (v ∷ vs) (suc k) s le = nothing-yet ts vs k s (omega arith)

module _ {T V : Type 0} (f : T → V → State → State) (ts : List T) (vs : List V) (count : ℕ) (many : length ts ≡ count) where
  pub turn-init : (s : State) → s ≡ with_all f (drop (count - 0) ts) (drop (count - 0) vs) s
  turn-init s = sym (nothing-yet f ts vs (count - 0) s (omega (arith, many)))

  pub turn-more : (turn : ℕ) (init old new : State) → turn < count → old ≡ with_all f (drop (count - turn) ts) (drop (count - turn) vs) init → new ≡ put_one f ts vs (count - 1 - turn) old →
      new ≡ with_all f (drop (count - (turn + 1)) ts) (drop (count - (turn + 1)) vs) init
  turn-more turn init old new lt before is =
      let k = count - 1 - turn in
      let here : count - turn ≡ suc k = omega arith in
      let next : count - (turn + 1) ≡ k = omega arith in
      let within : k < length ts = omega (arith, many) in
      is ∙ ap (put_one f ts vs k) (before ∙ ap (λ j. with_all f (drop j ts) (drop j vs) init) here) ∙ sym (one-before f ts vs k init within) ∙ ap (λ j. with_all f (drop j ts) (drop j vs) init) (sym next)

  pub turn-end : (turn : ℕ) (init new : State) → count ≤ turn → new ≡ with_all f (drop (count - turn) ts) (drop (count - turn) vs) init → new ≡ with_all f ts vs init
  turn-end turn init new le before =
      let none : count - turn ≡ 0 = omega arith in
      before ∙ ap (λ j. with_all f (drop j ts) (drop j vs) init) none

pub classes-all : (cs : List Text) (xs : List (List ℕ)) (s : State) → with_classes cs xs s ≡ with_all class_put cs xs s
classes-all [] xs s = refl
classes-all (c ∷ cs) [] s = refl
classes-all (c ∷ cs) (x ∷ xs) s = ap (class_put c x) (classes-all cs xs s)

pub statics-all : (xs : List Member) (cells : List Cell) (s : State) → with_statics xs cells s ≡ with_all static_put xs cells s
statics-all [] cells s = refl
statics-all (x ∷ xs) [] s = refl
statics-all (x ∷ xs) (c ∷ cells) s = ap (static_put x c) (statics-all xs cells s)

pub fields-all : (xs : List Member) (rows : List (List Cell)) (s : State) → with_fields xs rows s ≡ with_all field_put xs rows s
fields-all [] rows s = refl
fields-all (x ∷ xs) [] s = refl
fields-all (x ∷ xs) (r ∷ rows) s = ap (field_put x r) (fields-all xs rows s)
