-- Locals that get what they have in another state.
use Rattle.std.proofs.Common.{◌≡◌, refl, sym, ap, subst, ◌∙◌, ◌⊎◌, inl, inr, ℕ, zero, suc, ◌<◌, Bool, true, false, if◌then◌else◌, List, [], ◌∷◌, ◌++◌, ◌≤◌, length, map, get_or, slice_get, Some, drop, drop-cons, add-one, append_assoc, ◌+◌, arith}
use Rattle.std.proofs.lemmas.List.{drop_all}
use Rattle.std.proofs.lemmas.Bool.{true≢false}
use Rattle.std.proofs.lemmas.Option.{slice_get_within, get_or_from_slice_get}
use Rattle.jh_name.specs.declared.naming.Name.{Name}
use Rattle.jh_form.specs.Meaning.{an_object, a_number, a_truth}
use Rattle.jh_form.specs.Assigned.{assigned}
use Rattle.jh_form.specs.Passing.{name_equal}
use Rattle.jh_form.proofs.Names.{name_equal-same, name_equal-true}
use Rattle.jh_semantics.specs.Code.{Local}
use Rattle.jh_semantics.specs.State.{State, named, stored}
use Rattle.jh_semantics.specs.Locals.{has_dot, with_locals_of, without_locals, with_args}
use Rattle.jh_store.specs.memory.Cells.{Cells, no_cells}
use Rattle.jh_store.specs.memory.Held.{Held, state_of, state_in, place, cells_at, nothing}
use Rattle.jh_operands.specs.declared.values.Scalar.{Scalar}
use Rattle.jh_operands.specs.Scalars.{datum_of, IsInside}
use Rattle.jh_operands.specs.Exprs.{text_at, IsPlain}
use Rattle.jh_machine_code.specs.code.Steps.{AreParams}
use Rattle.jh_machine.specs.locals.Locals.{AreLocals, AreSaved, AreInside, AllInside, IsSaved, IsOf, no_value, with_name_of, with_names_of}
use Rattle.jh_machine.specs.declared.locals.locals.Saved.{Saved}

-- a name stands in a list, or nowhere in it
found : (names : List Name) (y : Name) → ((k : ℕ) × (slice_get names k ≡ Some y)) ⊎ (place names y ≡ length names)
unfolding place
found [] y = inr refl
found (x ∷ xs) y = by (name_equal y x) refl (found xs y)
  where
    by : (t : Bool) → name_equal y x ≡ t → ((k : ℕ) × (slice_get xs k ≡ Some y)) ⊎ (place xs y ≡ length xs) → ((k : ℕ) × (slice_get (x ∷ xs) k ≡ Some y)) ⊎ ((if t then 0 else suc (place xs y)) ≡ suc (length xs))
    by true e h = inl (0, ap (λ z. Some z) (sym (name_equal-true y x e)))
    by false e (inl h) = inl (suc h.0, h.1)
    by false e (inr h) = inr (ap suc h)

-- behind the end of a list stand defaults
past : (cells : List Cells) (n : ℕ) → n ≡ length cells → get_or cells n no_cells ≡ no_cells
past [] n e = refl
past (c ∷ cs) zero e = absurd (omega (e, arith))
past (c ∷ cs) (suc n) e = past cs n (omega (e, arith))

-- a name that a memory lacks has defaults
lacking : (m : Held) → length m.cells ≡ length m.names → (y : Name) → place m.names y ≡ length m.names → cells_at m.names m.cells y ≡ no_cells
lacking m sized y h = past m.cells (place m.names y) (h ∙ sym sized)

-- A reading of states at names, for which a state with one name of another has that name's value.
abbrev Reads : {X : Type 0} → (State → Name → X) → Type 0
Reads {X} f = (x : Name) (t s : State) (y : Name) → f (with_name_of x t s) y ≡ (if name_equal y x then f t x else f s y)

module _ {X : Type 0} (f : State → Name → X) (reads : Reads f) (names : List Name) (t : State) where
  chosen : (x : Name) (s : State) (y : Name) (b : Bool) → name_equal y x ≡ b → f s y ≡ f t y → (if b then f t x else f s y) ≡ f t y
  chosen x s y true e h = ap (f t) (sym (name_equal-true y x e))
  chosen x s y false e h = h

  -- a name that has the other state's value keeps it
  stays : (ks : List ℕ) (s : State) (y : Name) → f s y ≡ f t y → f (with_names_of names ks t s) y ≡ f t y
  unfolding with_names_of
  stays [] s y h = h
  stays (k ∷ ks) s y h =
      let x = named (text_at names k) in
      stays ks (with_name_of x t s) y (reads x t s y ∙ chosen x s y (name_equal y x) refl h)

  -- a name of the list gets it
  gets : (ks : List ℕ) (s : State) (i k : ℕ) → slice_get ks i ≡ Some k → f (with_names_of names ks t s) (named (text_at names k)) ≡ f t (named (text_at names k))
  unfolding with_names_of
  gets [] s i k h = cc
  gets (j ∷ ks) s zero k h =
      let same : j ≡ k = cc in
      let x = named (text_at names k) in
      let first : f (with_name_of (named (text_at names j)) t s) x ≡ f t x =
      subst (λ n. f (with_name_of (named (text_at names n)) t s) x ≡ f t x) (sym same)
      (reads x t s x ∙ ap (λ b. if b then f t x else f s x) (name_equal-same x x refl)) in
      stays ks (with_name_of (named (text_at names j)) t s) x first
  gets (j ∷ ks) s (suc i) k h = gets ks (with_name_of (named (text_at names j)) t s) i k h

  other : (x : Name) (s : State) (y : Name) (b : Bool) → name_equal y x ≡ b → has_dot y.text ≡ true → has_dot x.text ≡ false → (if b then f t x else f s y) ≡ f s y
  other x s y true e dot none = absurd (true≢false (sym dot ∙ ap (λ (z : Name). has_dot z.text) (name_equal-true y x e) ∙ none))
  other x s y false e dot none = refl

  -- a name with a dot is none of them
  kept : (ks : List ℕ) → ((i k : ℕ) → slice_get ks i ≡ Some k → has_dot (text_at names k) ≡ false) → (s : State) (y : Name) → has_dot y.text ≡ true → f (with_names_of names ks t s) y ≡ f s y
  unfolding with_names_of
  kept [] none s y dot = refl
  kept (k ∷ ks) none s y dot =
      let x = named (text_at names k) in
      kept ks (λ i j h. none (suc i) j h) (with_name_of x t s) y dot ∙ (reads x t s y ∙ other x s y (name_equal y x) refl dot (none 0 k refl))

  -- all locals get what they have in the other state
  all-of : (ks : List ℕ) → AreLocals names ks → (s : State) → ((y : Name) → place names y ≡ length names → f s y ≡ f t y) → (y : Name) (b : Bool) → has_dot y.text ≡ b →
      f (with_names_of names ks t s) y ≡ (if b then f s y else f t y)
  all-of ks are s absent y true e = kept ks are.dotless s y e
  all-of ks are s absent y false e = by (found names y)
    where
      by : ((k : ℕ) × (slice_get names k ≡ Some y)) ⊎ (place names y ≡ length names) → f (with_names_of names ks t s) y ≡ f t y
      by (inr h) = stays ks s y (absent y h)
      by (inl h) =
          let at = are.all h.0 y h.1 e in
          let plain : slice_get names h.0 ≡ Some (named (text_at names h.0)) = are.plain at.0 h.0 at.1 in
          let same : named (text_at names h.0) ≡ y = cc in
          subst (λ (z : Name). f (with_names_of names ks t s) z ≡ f t z) same (gets ks s at.0 h.0 at.1)

-- what the names of numbers have changes objects, numbers and truths alone
sides : (names : List Name) (ks : List ℕ) (t s : State) → ((with_names_of names ks t s).last ≡ s.last) × ((with_names_of names ks t s).set ≡ s.set) × ((with_names_of names ks t s).field ≡ s.field)
unfolding with_names_of
sides names [] t s = (refl, refl, refl)
sides names (k ∷ ks) t s = sides names ks t (with_name_of (named (text_at names k)) t s)

-- two states of memories of the same names are the same at all other names
absent-same : {X : Type 0} (f : Cells → X) (names : List Name) (m n : Held) → m.names ≡ names → n.names ≡ names → length m.cells ≡ length m.names → length n.cells ≡ length n.names →
    (y : Name) → place names y ≡ length names → f (cells_at m.names m.cells y) ≡ f (cells_at n.names n.cells y)
absent-same f names m n mn nn ms ns y h =
    ap f (lacking m ms y (subst (λ (z : List Name). place z y ≡ length z) (sym mn) h) ∙ sym (lacking n ns y (subst (λ (z : List Name). place z y ≡ length z) (sym nn) h)))

module _ (names : List Name) (ks : List ℕ) (are : AreLocals names ks) (m : Held) (mn : m.names ≡ names) (ms : length m.cells ≡ length m.names) where
  -- all locals of a memory get what they have in the state of another
  pub restored : (t : State) → IsOf names t → with_names_of names ks t (state_of m) ≡ with_locals_of (state_of m) t
  unfolding state_in
  restored t of = subst (λ (u : State). with_names_of names ks u (state_of m) ≡ with_locals_of (state_of m) u) of.3 same
    where
      same : with_names_of names ks (state_of of.0) (state_of m) ≡ with_locals_of (state_of m) (state_of of.0)
      same =
          let n = of.0 in
          let u = state_of n in
          let s = state_of m in
          let all = sides names ks u s in
          λ j. record {
            last = all.0 j;
            object = λ y. all-of (λ (z : State). z.object) (λ x a b y. refl) names u ks are s (absent-same (λ (c : Cells). c.object) names m n mn of.1 ms of.2) y (has_dot y.text) refl j;
            number = λ y. all-of (λ (z : State). z.number) (λ x a b y. refl) names u ks are s (absent-same (λ (c : Cells). c.number) names m n mn of.1 ms of.2) y (has_dot y.text) refl j;
            truth = λ y. all-of (λ (z : State). z.truth) (λ x a b y. refl) names u ks are s (absent-same (λ (c : Cells). c.truth) names m n mn of.1 ms of.2) y (has_dot y.text) refl j;
            set = all.1 j;
            field = all.2 j;
          }

  nothing-same : (y : Name) → place names y ≡ length names → cells_at m.names m.cells y ≡ no_cells
  nothing-same y h = lacking m ms y (subst (λ (z : List Name). place z y ≡ length z) (sym mn) h)

  -- all locals of a memory get their defaults
  pub cleared : (last : ℕ) → with_names_of names ks (nothing last) (state_of m) ≡ without_locals (state_of m)
  unfolding state_in
  cleared last =
      let u = nothing last in
      let s = state_of m in
      let all = sides names ks u s in
      λ j. record {
        last = all.0 j;
        object = λ y. all-of (λ (z : State). z.object) (λ x a b y. refl) names u ks are s (λ y h. ap (λ (c : Cells). c.object) (nothing-same y h)) y (has_dot y.text) refl j;
        number = λ y. all-of (λ (z : State). z.number) (λ x a b y. refl) names u ks are s (λ y h. ap (λ (c : Cells). c.number) (nothing-same y h)) y (has_dot y.text) refl j;
        truth = λ y. all-of (λ (z : State). z.truth) (λ x a b y. refl) names u ks are s (λ y h. ap (λ (c : Cells). c.truth) (nothing-same y h)) y (has_dot y.text) refl j;
        set = all.1 j;
        field = all.2 j;
      }

-- from the element at a place on
from-there : {X : Type 0} (xs : List X) (i : ℕ) (x : X) → slice_get xs i ≡ Some x → drop i xs ≡ x ∷ drop (suc i) xs
from-there xs i x h = drop-cons xs i x (slice_get_within xs i x h) ∙ ap (λ y. y ∷ drop (suc i) xs) (get_or_from_slice_get xs i x x h)

-- all of them have
pub all_written : (names : List Name) (ks : List ℕ) (i : ℕ) (t s : State) → length ks ≤ i → with_names_of names (drop i ks) t s ≡ s
unfolding with_names_of
all_written names ks i t s h = ap (λ (js : List ℕ). with_names_of names js t s) (drop_all i ks h)

inside_there : (last : ℕ) (vs : List Saved) → AreInside last vs → (i : ℕ) → (get_or vs i no_value).object < suc last
unfolding AreInside
inside_there last [] h i = omega arith
inside_there last (v ∷ vs) h zero = h.0
inside_there last (v ∷ vs) h (suc i) = inside_there last vs h.1 i

-- defaults are what the state of nothing has
nothing_saved : (last : ℕ) (x : Name) → IsSaved (nothing last) x no_value
nothing_saved last x = record { object = refl; number = refl; truth = refl }

pub save_end : (names : List Name) (s : State) (ks : List ℕ) (i : ℕ) → length ks ≤ i → AreSaved names s (drop i ks) []
unfolding AreSaved
save_end names s ks i h = subst (λ (js : List ℕ). AreSaved names s js []) (sym (drop_all i ks h)) refl

pub inside_more : (last : ℕ) (vs : List Saved) (v : Saved) → AreInside last vs → v.object < suc last → AreInside last (vs ++ v ∷ [])
unfolding AreInside
inside_more last [] v h lt = (lt, tt)
inside_more last (w ∷ vs) v h lt = (h.0, inside_more last vs v h.1 lt)

-- with no argument left, or no parameter
no_args : (ls : List Local) (s : State) → with_args ls [] s ≡ s
no_args [] s = refl
no_args (l ∷ ls) s = refl

as_many : (names : List Name) (ks : List ℕ) (ls : List Local) → AreParams names ks ls → length ls ≡ length ks
unfolding AreParams
as_many names [] ls are = ap (λ (zs : List Local). length zs) are
as_many names (k ∷ ks) ls are = ap (λ (zs : List Local). length zs) are.5 ∙ ap suc (as_many names ks are.1 are.4)

pub args_end : (names : List Name) (ks : List ℕ) (ls : List Local) → AreParams names ks ls → (xs : List Scalar) (i : ℕ) (s : State) → (length ks ≤ i) ⊎ (length xs ≤ i) →
    with_args (drop i ls) (map datum_of (drop i xs)) s ≡ s
args_end names ks ls are xs i s (inl h) = ap (λ (zs : List Local). with_args zs (map datum_of (drop i xs)) s) (drop_all i ls (subst (λ n. n ≤ i) (sym (as_many names ks ls are)) h))
args_end names ks ls are xs i s (inr h) = ap (λ (zs : List Scalar). with_args (drop i ls) (map datum_of zs) s) (drop_all i xs h) ∙ no_args (drop i ls) s

-- one more parameter has its argument
args-more : (names : List Name) (ks : List ℕ) (ls : List Local) → AreParams names ks ls → (xs : List Scalar) (i k : ℕ) (x : Scalar) (first old new : State) → slice_get ks i ≡ Some k → slice_get xs i ≡ Some x →
    old ≡ with_args (drop (suc i) ls) (map datum_of (drop (suc i) xs)) first → new ≡ stored old (text_at names k) (datum_of x) →
    new ≡ with_args (drop i ls) (map datum_of (drop i xs)) first
unfolding AreParams
args-more names [] ls are xs i k x first old new ka xa was is = cc
args-more names (j ∷ ks) ls are [] i k x first old new ka xa was is = cc
args-more names (j ∷ ks) ls are (y ∷ xs) zero k x first old new ka xa was is =
    subst (λ (zs : List Local). old ≡ with_args (drop 1 zs) (map datum_of xs) first → new ≡ with_args zs (map datum_of (y ∷ xs)) first) (sym are.5)
    (λ before.
    let same : k ≡ j = cc in
    let value : x ≡ y = cc in
    is ∙ ap (λ (z : State). stored z (text_at names k) (datum_of x)) before ∙ ap (λ n. stored (with_args are.1 (map datum_of xs) first) (text_at names n) (datum_of x)) same
    ∙ ap (λ (v : Scalar). stored (with_args are.1 (map datum_of xs) first) (text_at names j) (datum_of v)) value
    ∙ ap (λ (z : List ℕ). stored (with_args are.1 (map datum_of xs) first) z (datum_of y)) (sym are.2)) was
args-more names (j ∷ ks) ls are (y ∷ xs) (suc i) k x first old new ka xa was is =
    subst (λ (zs : List Local). old ≡ with_args (drop (suc (suc i)) zs) (map datum_of (drop (suc i) xs)) first → new ≡ with_args (drop (suc i) zs) (map datum_of (drop i xs)) first) (sym are.5)
    (λ before. args-more names ks are.1 are.4 xs i k x first old new ka xa before is) was

param-plain : (names : List Name) (ks : List ℕ) (ls : List Local) → AreParams names ks ls → (i k : ℕ) → slice_get ks i ≡ Some k → IsPlain names k
unfolding AreParams
param-plain names [] ls are i k at = cc
param-plain names (j ∷ ks) ls are zero k at = let same : j ≡ k = cc in subst (λ n. IsPlain names n) same are.3
param-plain names (j ∷ ks) ls are (suc i) k at = param-plain names ks are.1 are.4 i k at

arg-inside : (last : ℕ) (xs : List Scalar) → AllInside last xs → (i : ℕ) (x : Scalar) → slice_get xs i ≡ Some x → IsInside last x
unfolding AllInside
arg-inside last [] h i x at = cc
arg-inside last (y ∷ xs) h zero x at = let same : y ≡ x = cc in subst (λ (z : Scalar). IsInside last z) same h.0
arg-inside last (y ∷ xs) h (suc i) x at = arg-inside last xs h.1 i x at

-- the three writes that put a name back
pub name_written : (x : Name) (t s one two three : State) (v : Saved) → IsSaved t x v → one ≡ assigned s x (an_object v.object) → two ≡ assigned one x (a_number v.number) → three ≡ assigned two x (a_truth v.truth) →
    three ≡ with_name_of x t s
name_written x t s one two three v is a b c =
    c ∙ ap (λ (z : State). assigned z x (a_truth v.truth)) (b ∙ ap (λ (z : State). assigned z x (a_number v.number)) a)
    ∙ (λ j. record {
      last = s.last;
      object = λ y. if name_equal y x then is.object j else s.object y;
      number = λ y. if name_equal y x then is.number j else s.number y;
      truth = λ y. if name_equal y x then is.truth j else s.truth y;
      set = s.set;
      field = s.field;
    })

-- what is still to be put back, behind one more name that was
module _ (names : List Name) (ks : List ℕ) (i k : ℕ) (at : slice_get ks i ≡ Some k) (are : AreLocals names ks) (t : State) (last : ℕ) (old new : Held) (v : Saved) where
  one-written : state_of new ≡ with_name_of (named (text_at names k)) t (state_of old) → with_names_of names (drop (suc i) ks) t (state_of new) ≡ with_names_of names (drop i ks) t (state_of old)
  unfolding with_names_of
  one-written is = ap (with_names_of names (drop (suc i) ks) t) is ∙ sym (ap (λ (js : List ℕ). with_names_of names js t (state_of old)) (from-there ks i k at))

  pub put_step : old.names ≡ names → old.last ≡ last → v.object < suc last → IsSaved t (named (text_at names k)) v →
      (IsPlain old.names k → v.object < suc old.last → IsSaved t (named (text_at old.names k)) v → state_of new ≡ with_name_of (named (text_at old.names k)) t (state_of old)) →
      with_names_of names (drop (i + 1) ks) t (state_of new) ≡ with_names_of names (drop i ks) t (state_of old)
  put_step en el inside saved h =
      let there : IsPlain names k → v.object < suc last → IsSaved t (named (text_at names k)) v → state_of new ≡ with_name_of (named (text_at names k)) t (state_of old) =
      subst (λ (ns : List Name). IsPlain ns k → v.object < suc last → IsSaved t (named (text_at ns k)) v → state_of new ≡ with_name_of (named (text_at ns k)) t (state_of old)) en
      (subst (λ (l : ℕ). IsPlain old.names k → v.object < suc l → IsSaved t (named (text_at old.names k)) v → state_of new ≡ with_name_of (named (text_at old.names k)) t (state_of old)) el h) in
      rw add-one (one-written (there (are.plain i k at) inside saved))

-- what was saved at a place
pub saved_at_place : (names : List Name) (t : State) (ks : List ℕ) (vs : List Saved) → AreSaved names t ks vs → (i k : ℕ) → slice_get ks i ≡ Some k → (v : Saved) → v ≡ get_or vs i no_value → IsSaved t (named (text_at names k)) v
unfolding AreSaved
saved_at_place names t [] vs h i k at v is = cc
saved_at_place names t (j ∷ ks) [] h i k at v is = absurd h
saved_at_place names t (j ∷ ks) (w ∷ vs) h zero k at v is = let same : j ≡ k = cc in subst (λ n. IsSaved t (named (text_at names n)) v) same (subst (λ (z : Saved). IsSaved t (named (text_at names j)) z) (sym is) h.0)
saved_at_place names t (j ∷ ks) (w ∷ vs) h (suc i) k at v is = saved_at_place names t ks vs h.1 i k at v is

pub inside_at_place : (last : ℕ) (vs : List Saved) → AreInside last vs → (i : ℕ) (v : Saved) → v ≡ get_or vs i no_value → v.object < suc last
inside_at_place last vs h i v is = subst (λ (z : Saved). z.object < suc last) (sym is) (inside_there last vs h i)

pub no_value_inside : (last : ℕ) (v : Saved) → v ≡ no_value → v.object < suc last
no_value_inside last v is = subst (λ (z : Saved). z.object < suc last) (sym is) (omega arith)

pub no_value_saved : (last : ℕ) (x : Name) (v : Saved) → v ≡ no_value → IsSaved (nothing last) x v
no_value_saved last x v is = subst (λ (z : Saved). IsSaved (nothing last) x z) (sym is) (nothing_saved last x)

-- one more is saved
pub save_step : (names : List Name) (s : State) (ks : List ℕ) (i k : ℕ) → slice_get ks i ≡ Some k → (v : Saved) → IsSaved s (named (text_at names k)) v → (made new : List Saved) → new ≡ made ++ v ∷ [] →
    ((vs : List Saved) → AreSaved names s (drop i ks) vs → AreSaved names s ks (made ++ vs)) → (vs : List Saved) → AreSaved names s (drop (i + 1) ks) vs → AreSaved names s ks (new ++ vs)
unfolding AreSaved
save_step names s ks i k at v is made new e h vs more =
    let rest : AreSaved names s (drop (suc i) ks) vs = subst (λ n. AreSaved names s (drop n ks) vs) (add-one i) more in
    let one : AreSaved names s (drop i ks) (v ∷ vs) = subst (λ (js : List ℕ). AreSaved names s js (v ∷ vs)) (sym (from-there ks i k at)) (is, rest) in
    subst (λ (zs : List Saved). AreSaved names s ks zs) (sym (ap (λ (zs : List Saved). zs ++ vs) e ∙ append_assoc made (v ∷ []) vs)) (h (v ∷ vs) one)

-- one more argument is given
pub args_step : (names : List Name) (last : ℕ) (ks : List ℕ) (ls : List Local) → AreParams names ks ls → (xs : List Scalar) → AllInside last xs → (left i k : ℕ) (x : Scalar) → suc i ≡ left → slice_get ks i ≡ Some k → slice_get xs i ≡ Some x →
    (first : State) (old new : Held) → old.names ≡ names → old.last ≡ last → state_of old ≡ with_args (drop left ls) (map datum_of (drop left xs)) first →
    (IsPlain old.names k → IsInside old.last x → state_of new ≡ stored (state_of old) (text_at old.names k) (datum_of x)) →
    state_of new ≡ with_args (drop i ls) (map datum_of (drop i xs)) first
args_step names last ks ls are xs all left i k x next ka xa first old new en el was h =
    let before : state_of old ≡ with_args (drop (suc i) ls) (map datum_of (drop (suc i) xs)) first = subst (λ n. state_of old ≡ with_args (drop n ls) (map datum_of (drop n xs)) first) (sym next) was in
    let there : IsPlain names k → IsInside last x → state_of new ≡ stored (state_of old) (text_at names k) (datum_of x) =
    subst (λ (ns : List Name). IsPlain ns k → IsInside last x → state_of new ≡ stored (state_of old) (text_at ns k) (datum_of x)) en
    (subst (λ (l : ℕ). IsPlain old.names k → IsInside l x → state_of new ≡ stored (state_of old) (text_at old.names k) (datum_of x)) el h) in
    args-more names ks ls are xs i k x first (state_of old) (state_of new) ka xa before (there (param-plain names ks ls are i k ka) (arg-inside last xs all i x xa))
