-- The state that cells are, where those of one name are exchanged.
use Rattle.std.proofs.Common.{◌≡◌, refl, sym, ap, subst, ◌∙◌, ℕ, zero, suc, ◌<◌, ℤ, pos, Bool, true, false, if◌then◌else◌, ◌==◌, List, [], length, get_or, replicate, slice_get, slice_set, Some, arith}
use Rattle.std.proofs.lemmas.List.{get_or-set_same, get_or-set_other, length-set}
use Rattle.std.proofs.lemmas.Option.{slice_get_within}
use Rattle.jh_name.specs.declared.naming.Name.{Name}
use Rattle.jh_form.specs.Meaning.{Fields, an_object, a_number, a_truth, a_set, a_field, updated}
use Rattle.jh_form.specs.Passing.{name_equal}
use Rattle.jh_form.specs.Assigned.{assigned}
use Rattle.jh_store.specs.memory.Cells.{Cells, no_cells, field_in, put}
use Rattle.jh_store.specs.memory.Held.{place, cells_at, state_in, AreInside, IsMemory, nothing}
use Rattle.jh_store.proofs.memory.Apart.{place_is}
use Rattle.jh_store.proofs.memory.Puts.{put_reads, same-number, other-number}

module _ (names : List Name) (last : ℕ) (cells : List Cells) (m : IsMemory names last cells) (i : ℕ) (x : Name) (at : slice_get names i ≡ Some x) where
  within : i < length cells
  within = let lt : i < length names = slice_get_within names i x at in let same : length cells ≡ length names = m.sized in omega arith

  abbrev pub old : Cells
  old = get_or cells i no_cells

  -- the cells of the name itself
  pub its : cells_at names cells x ≡ old
  its = ap (λ k. get_or cells k no_cells) (m.apart i x at)

  module _ {X : Type 0} (p : Cells → X) (c : Cells) where
    exchanged-by : (y : Name) (t : Bool) → (place names y == i) ≡ t → p (get_or (slice_set cells i c) (place names y) no_cells) ≡ (if t then p c else p (cells_at names cells y))
    exchanged-by y true e =
        let here : place names y ≡ i = same-number (place names y) i e in
        ap p (ap (λ k. get_or (slice_set cells i c) k no_cells) here ∙ get_or-set_same cells i c no_cells within)
    exchanged-by y false e = ap p (get_or-set_other cells i (place names y) c no_cells (other-number (place names y) i e))

    -- what a reading of the cells gives of each name
    pub exchanged : (y : Name) → p (cells_at names (slice_set cells i c) y) ≡ (if name_equal y x then p c else p (cells_at names cells y))
    exchanged y = exchanged-by y (place names y == i) refl ∙ ap (λ t. if t then p c else p (cells_at names cells y)) (place_is names i x m.apart at y)

    kept-by : (y : Name) (t : Bool) → (place names y == i) ≡ t → p c ≡ p old → (if t then p c else p (cells_at names cells y)) ≡ p (cells_at names cells y)
    kept-by y true e same =
        let here : place names y ≡ i = same-number (place names y) i e in
        same ∙ ap (λ k. p (get_or cells k no_cells)) (sym here)
    kept-by y false e same = refl

    -- a reading that the exchange doesn't change
    pub kept : p c ≡ p old → (y : Name) → p (cells_at names (slice_set cells i c) y) ≡ p (cells_at names cells y)
    kept same y = exchanged-by y (place names y == i) refl ∙ kept-by y (place names y == i) refl same

  -- the set of a name
  members : Cells → ℕ → Bool
  members c a = get_or c.set a false

  pub object_written : (v : ℕ) → state_in names last (slice_set cells i (record old { object = v })) ≡ assigned (state_in names last cells) x (an_object v)
  unfolding state_in
  object_written v =
      let c : Cells = record old { object = v } in
      λ j. record {
        last = last;
        object = λ y. exchanged (λ (z : Cells). z.object) c y j;
        number = λ y. kept (λ (z : Cells). z.number) c refl y j;
        truth = λ y. kept (λ (z : Cells). z.truth) c refl y j;
        set = λ y a. kept (λ (z : Cells). get_or z.set a false) c refl y j;
        field = λ y. kept field_in c refl y j;
      }

  pub number_written : (v : ℤ) → state_in names last (slice_set cells i (record old { number = v })) ≡ assigned (state_in names last cells) x (a_number v)
  unfolding state_in
  number_written v =
      let c : Cells = record old { number = v } in
      λ j. record {
        last = last;
        object = λ y. kept (λ (z : Cells). z.object) c refl y j;
        number = λ y. exchanged (λ (z : Cells). z.number) c y j;
        truth = λ y. kept (λ (z : Cells). z.truth) c refl y j;
        set = λ y a. kept (λ (z : Cells). get_or z.set a false) c refl y j;
        field = λ y. kept field_in c refl y j;
      }

  pub truth_written : (v : Bool) → state_in names last (slice_set cells i (record old { truth = v })) ≡ assigned (state_in names last cells) x (a_truth v)
  unfolding state_in
  truth_written v =
      let c : Cells = record old { truth = v } in
      λ j. record {
        last = last;
        object = λ y. kept (λ (z : Cells). z.object) c refl y j;
        number = λ y. kept (λ (z : Cells). z.number) c refl y j;
        truth = λ y. exchanged (λ (z : Cells). z.truth) c y j;
        set = λ y a. kept (λ (z : Cells). get_or z.set a false) c refl y j;
        field = λ y. kept field_in c refl y j;
      }

  -- a set, by the list of whether each object is in it
  pub set_written : (v : List Bool) (test : ℕ → Bool) → ((a : ℕ) → get_or v a false ≡ test a) →
      state_in names last (slice_set cells i (record old { set = v })) ≡ assigned (state_in names last cells) x (a_set test)
  unfolding state_in members
  set_written v test same =
      let c : Cells = record old { set = v } in
      let tests : members c ≡ test = λ j a. same a j in
      λ j. record {
        last = last;
        object = λ y. kept (λ (z : Cells). z.object) c refl y j;
        number = λ y. kept (λ (z : Cells). z.number) c refl y j;
        truth = λ y. kept (λ (z : Cells). z.truth) c refl y j;
        set = λ y. (exchanged members c y ∙ ap (λ (f : ℕ → Bool). if name_equal y x then f else members (cells_at names cells y)) tests) j;
        field = λ y. kept field_in c refl y j;
      }

  -- a field, by what it has
  pub field_written : (c : Cells) (f : Fields) → c.object ≡ old.object → c.number ≡ old.number → c.truth ≡ old.truth → c.set ≡ old.set → field_in c ≡ f →
      state_in names last (slice_set cells i c) ≡ assigned (state_in names last cells) x (a_field f)
  unfolding state_in
  field_written c f object number truth set same =
      λ j. record {
        last = last;
        object = λ y. kept (λ (z : Cells). z.object) c object y j;
        number = λ y. kept (λ (z : Cells). z.number) c number y j;
        truth = λ y. kept (λ (z : Cells). z.truth) c truth y j;
        set = λ y a. kept (λ (z : Cells). get_or z.set a false) c (ap (λ s. get_or s a false) set) y j;
        field = λ y. (exchanged field_in c y ∙ ap (λ (g : Fields). if name_equal y x then g else field_in (cells_at names cells y)) same) j;
      }

  here : field_in old ≡ (state_in names last cells).field x
  unfolding state_in
  here = ap field_in (sym its)

  pub object_written_at : (a v : ℕ) → state_in names last (slice_set cells i (record old { objects = put 0 old.objects a v })) ≡ assigned (state_in names last cells) x (a_field (updated ((state_in names last cells).field x) a (an_object v)))
  object_written_at a v =
      let c : Cells = record old { objects = put 0 old.objects a v } in
      let same : field_in c ≡ updated (field_in old) a (an_object v) = λ j. record { objects = λ k. put_reads 0 old.objects a v k j; numbers = (field_in old).numbers; truths = (field_in old).truths; sets = (field_in old).sets } in
      field_written c (updated ((state_in names last cells).field x) a (an_object v)) refl refl refl refl (same ∙ ap (λ f. updated f a (an_object v)) here)

  pub number_written_at : (a : ℕ) (v : ℤ) → state_in names last (slice_set cells i (record old { numbers = put (pos 0) old.numbers a v })) ≡ assigned (state_in names last cells) x (a_field (updated ((state_in names last cells).field x) a (a_number v)))
  number_written_at a v =
      let c : Cells = record old { numbers = put (pos 0) old.numbers a v } in
      let same : field_in c ≡ updated (field_in old) a (a_number v) = λ j. record { objects = (field_in old).objects; numbers = λ k. put_reads (pos 0) old.numbers a v k j; truths = (field_in old).truths; sets = (field_in old).sets } in
      field_written c (updated ((state_in names last cells).field x) a (a_number v)) refl refl refl refl (same ∙ ap (λ f. updated f a (a_number v)) here)

  pub truth_written_at : (a : ℕ) (v : Bool) → state_in names last (slice_set cells i (record old { truths = put false old.truths a v })) ≡ assigned (state_in names last cells) x (a_field (updated ((state_in names last cells).field x) a (a_truth v)))
  truth_written_at a v =
      let c : Cells = record old { truths = put false old.truths a v } in
      let same : field_in c ≡ updated (field_in old) a (a_truth v) = λ j. record { objects = (field_in old).objects; numbers = (field_in old).numbers; truths = λ k. put_reads false old.truths a v k j; sets = (field_in old).sets } in
      field_written c (updated ((state_in names last cells).field x) a (a_truth v)) refl refl refl refl (same ∙ ap (λ f. updated f a (a_truth v)) here)

  -- the set of the members that a list tells
  members_of : List Bool → ℕ → Bool
  members_of v b = get_or v b false

  either-set : (v w : List Bool) (test : ℕ → Bool) → members_of v ≡ test → (t : Bool) → members_of (if t then v else w) ≡ (if t then test else members_of w)
  either-set v w test same true = same
  either-set v w test same false = refl

  pub set_written_at : (a : ℕ) (v : List Bool) (test : ℕ → Bool) → ((b : ℕ) → get_or v b false ≡ test b) →
      state_in names last (slice_set cells i (record old { sets = put [] old.sets a v })) ≡ assigned (state_in names last cells) x (a_field (updated ((state_in names last cells).field x) a (a_set test)))
  unfolding members_of
  set_written_at a v test same-test =
      let c : Cells = record old { sets = put [] old.sets a v } in
      let tests : members_of v ≡ test = λ j b. same-test b j in
      let same : field_in c ≡ updated (field_in old) a (a_set test) = λ j. record { objects = (field_in old).objects; numbers = (field_in old).numbers; truths = (field_in old).truths; sets = λ k. (ap members_of (put_reads [] old.sets a v k) ∙ either-set v (get_or old.sets k []) test tests (k == a)) j } in
      field_written c (updated ((state_in names last cells).field x) a (a_set test)) refl refl refl refl (same ∙ ap (λ f. updated f a (a_set test)) here)

-- the cells of a list, one of which is exchanged
get-set : (cells : List Cells) (i : ℕ) (c : Cells) (k : ℕ) (P : Cells → Type 0) → i < length cells → P c → P (get_or cells k no_cells) → P (get_or (slice_set cells i c) k no_cells)
get-set cells i c k P within one other = by (k == i) refl
  where
    by : (t : Bool) → (k == i) ≡ t → P (get_or (slice_set cells i c) k no_cells)
    by true e =
        let same : k ≡ i = same-number k i e in
        subst P (sym (ap (λ n. get_or (slice_set cells i c) n no_cells) same ∙ get_or-set_same cells i c no_cells within)) one
    by false e = subst P (sym (get_or-set_other cells i k c no_cells (other-number k i e))) other

-- memory in which the cells of one name are exchanged
pub memory_kept : (names : List Name) (last : ℕ) (cells : List Cells) (i : ℕ) (c : Cells) → IsMemory names last cells → i < length cells → AreInside last c → IsMemory names last (slice_set cells i c)
memory_kept names last cells i c m within inside = record {
  sized = length-set cells i c ∙ m.sized;
  apart = m.apart;
  inside = λ k. get-set cells i c k (λ z. AreInside last z) within inside (m.inside k);
}

pub object_inside : (last : ℕ) (c : Cells) (v : ℕ) → AreInside last c → v < suc last → AreInside last (record c { object = v })
object_inside last c v inside lt = record { object = lt; objects = inside.objects }

pub objects_inside : (last : ℕ) (c : Cells) (a v : ℕ) → AreInside last c → v < suc last → AreInside last (record c { objects = put 0 c.objects a v })
objects_inside last c a v inside lt = record { object = inside.object; objects = λ k. subst (λ z. z < suc last) (sym (put_reads 0 c.objects a v k)) (by k (k == a)) }
  where
    by : (k : ℕ) (t : Bool) → (if t then v else get_or c.objects k 0) < suc last
    by k true = lt
    by k false = inside.objects k

-- a field may be exchanged whole
pub field_inside : (last : ℕ) (c d : Cells) → AreInside last c → d.object ≡ c.object → ((a : ℕ) → get_or d.objects a 0 < suc last) → AreInside last d
field_inside last c d inside one all = record { object = subst (λ z. z < suc last) (sym one) inside.object; objects = all }

-- what stands in cells but objects may be exchanged
pub others_inside : (last : ℕ) (c d : Cells) → AreInside last c → d.object ≡ c.object → d.objects ≡ c.objects → AreInside last d
others_inside last c d inside one all = record { object = subst (λ z. z < suc last) (sym one) inside.object; objects = λ a. subst (λ z. get_or z a 0 < suc last) (sym all) (inside.objects a) }

default-there : (n k : ℕ) → get_or (replicate n no_cells) k no_cells ≡ no_cells
default-there zero k = refl
default-there (suc n) zero = refl
default-there (suc n) (suc k) = default-there n k

-- where all cells are defaults
pub nothing_there : (names : List Name) (last n : ℕ) → state_in names last (replicate n no_cells) ≡ nothing last
unfolding state_in
nothing_there names last n =
    let at = λ (x : Name). default-there n (place names x) in
    λ j. record {
      last = last;
      object = λ x. (at x j).object;
      number = λ x. (at x j).number;
      truth = λ x. (at x j).truth;
      set = λ x a. get_or (at x j).set a false;
      field = λ x. field_in (at x j);
    }
