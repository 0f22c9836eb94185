-- What the methods of a memory read and write, in its state: the cells of a name were found, and others stand in their place.
use Rattle.std.proofs.Common.{◌≡◌, refl, sym, ap, subst, ◌∙◌, ℕ, suc, ◌<◌, ℤ, pos, Bool, true, false, if◌then◌else◌, ◌==◌, ◌||◌, List, [], get_or, slice_set, length, arith, Ok, Err, OnOk, OnErr}
use Rattle.std.specs.Prelude.{Result}
use Rattle.std.proofs.lemmas.List.{get_or_default}
use Rattle.std.proofs.lemmas.Option.{slice_get_within}
use Rattle.jh_name.specs.declared.naming.Name.{Name}
use Rattle.jh_form.specs.Meaning.{Interp, Fields, an_object, a_number, a_truth, a_set, a_field, updated}
use Rattle.jh_form.specs.Assigned.{assigned}
use Rattle.jh_store.specs.memory.Cells.{Cells, no_cells, field_in, put}
use Rattle.jh_store.specs.memory.Held.{Held, state_of, state_in, IsNamed, IsMemory, AreInside, cells_at}
use Rattle.jh_store.proofs.memory.Puts.{put_reads}
use Rattle.jh_store.proofs.memory.States as s

-- a memory, the number of a name, and the cells that were found there
module _ (m : Held) (is : IsMemory m.names m.last m.cells) (i : ℕ) (x : Name) (at : IsNamed m i x) (found : Cells) (there : found ≡ get_or m.cells i found) where
  within : i < length m.cells
  within = let lt : i < length m.names = slice_get_within m.names i x at in let same : length m.cells ≡ length m.names = is.sized in omega arith

  old_is : found ≡ get_or m.cells i no_cells
  old_is = there ∙ get_or_default m.cells i found no_cells within

  pub read : {X : Type 0} (p : Cells → X) → p found ≡ p (cells_at m.names m.cells x)
  read p = ap p (old_is ∙ ap (λ k. get_or m.cells k no_cells) (sym (is.apart i x at)))

  pub number_read : found.number ≡ (state_of m).number x
  unfolding state_in
  number_read = read (λ (c : Cells). c.number)

  pub number_read_at : (a : ℕ) → get_or found.numbers a (pos 0) ≡ ((state_of m).field x).numbers a
  unfolding state_in
  number_read_at a = read (λ (c : Cells). get_or c.numbers a (pos 0))

  abbrev after : Cells → Interp
  after new = state_in m.names m.last (slice_set m.cells i new)

  pub object_put : (v : ℕ) (new : Cells) → new ≡ record found { object = v } → after new ≡ assigned (state_of m) x (an_object v)
  object_put v new e = ap after (e ∙ ap (λ (c : Cells). record c { object = v }) old_is) ∙ s.object_written m.names m.last m.cells is i x at v

  pub number_put : (v : ℤ) (new : Cells) → new ≡ record found { number = v } → after new ≡ assigned (state_of m) x (a_number v)
  number_put v new e = ap after (e ∙ ap (λ (c : Cells). record c { number = v }) old_is) ∙ s.number_written m.names m.last m.cells is i x at v

  pub truth_put : (v : Bool) (new : Cells) → new ≡ record found { truth = v } → after new ≡ assigned (state_of m) x (a_truth v)
  truth_put v new e = ap after (e ∙ ap (λ (c : Cells). record c { truth = v }) old_is) ∙ s.truth_written m.names m.last m.cells is i x at v

  pub set_put : (v : List Bool) (new : Cells) → new ≡ record found { set = v } → (test : ℕ → Bool) → ((a : ℕ) → get_or v a false ≡ test a) → after new ≡ assigned (state_of m) x (a_set test)
  set_put v new e test same = ap after (e ∙ ap (λ (c : Cells). record c { set = v }) old_is) ∙ s.set_written m.names m.last m.cells is i x at v test same

  either-or : (t u : Bool) → (if t then true else u) ≡ (u || t)
  either-or true true = refl
  either-or true false = refl
  either-or false true = refl
  either-or false false = refl

  pub joined : (a : ℕ) (new : Cells) → new ≡ record found { set = put false found.set a true } → after new ≡ assigned (state_of m) x (a_set (λ b. (state_of m).set x b || b == a))
  unfolding state_in
  joined a new e =
      set_put (put false found.set a true) new e (λ b. (state_of m).set x b || b == a)
      (λ b. put_reads false found.set a true b ∙ either-or (b == a) (get_or found.set b false) ∙ ap (λ t. t || b == a) (read (λ (c : Cells). get_or c.set b false)))

  pub object_put_at : (a : ℕ) (v : ℕ) (new : Cells) → new ≡ record found { objects = put 0 found.objects a v } → after new ≡ assigned (state_of m) x (a_field (updated ((state_of m).field x) a (an_object v)))
  object_put_at a v new e = ap after (e ∙ ap (λ (c : Cells). record c { objects = put 0 c.objects a v }) old_is) ∙ s.object_written_at m.names m.last m.cells is i x at a v

  pub number_put_at : (a : ℕ) (v : ℤ) (new : Cells) → new ≡ record found { numbers = put (pos 0) found.numbers a v } → after new ≡ assigned (state_of m) x (a_field (updated ((state_of m).field x) a (a_number v)))
  number_put_at a v new e = ap after (e ∙ ap (λ (c : Cells). record c { numbers = put (pos 0) c.numbers a v }) old_is) ∙ s.number_written_at m.names m.last m.cells is i x at a v

  pub truth_put_at : (a : ℕ) (v : Bool) (new : Cells) → new ≡ record found { truths = put false found.truths a v } → after new ≡ assigned (state_of m) x (a_field (updated ((state_of m).field x) a (a_truth v)))
  truth_put_at a v new e = ap after (e ∙ ap (λ (c : Cells). record c { truths = put false c.truths a v }) old_is) ∙ s.truth_written_at m.names m.last m.cells is i x at a v

  pub set_put_at : (a : ℕ) (v : List Bool) (new : Cells) → new ≡ record found { sets = put [] found.sets a v } → (test : ℕ → Bool) → ((b : ℕ) → get_or v b false ≡ test b) →
      after new ≡ assigned (state_of m) x (a_field (updated ((state_of m).field x) a (a_set test)))
  set_put_at a v new e test same = ap after (e ∙ ap (λ (c : Cells). record c { sets = put [] c.sets a v }) old_is) ∙ s.set_written_at m.names m.last m.cells is i x at a v test same

  pub field_put : (new : Cells) (f : Fields) → new.object ≡ found.object → new.number ≡ found.number → new.truth ≡ found.truth → new.set ≡ found.set → field_in new ≡ f → after new ≡ assigned (state_of m) x (a_field f)
  field_put new f object number truth set same =
      s.field_written m.names m.last m.cells is i x at new f (object ∙ ap (λ (c : Cells). c.object) old_is) (number ∙ ap (λ (c : Cells). c.number) old_is) (truth ∙ ap (λ (c : Cells). c.truth) old_is) (set ∙ ap (λ (c : Cells). c.set) old_is) same

-- what a memory is stays, where a field of the cells that were found is exchanged for one of objects inside
pub memory_field : (names : List Name) (last : ℕ) (cells : List Cells) (i : ℕ) (found new : Cells) → IsMemory names last cells → i < length cells → found ≡ get_or cells i found → new.object ≡ found.object → ((a : ℕ) → get_or new.objects a 0 < suc last) →
    IsMemory names last (slice_set cells i new)
memory_field names last cells i found new is within there one all =
    let old : found ≡ get_or cells i no_cells = there ∙ get_or_default cells i found no_cells within in
    s.memory_kept names last cells i new is within (s.field_inside last (get_or cells i no_cells) new (is.inside i) (one ∙ ap (λ (c : Cells). c.object) old) all)

-- what a memory is stays, where the objects of the cells that were found stay
pub memory_others : (names : List Name) (last : ℕ) (cells : List Cells) (i : ℕ) (found new : Cells) → IsMemory names last cells → i < length cells → found ≡ get_or cells i found → new.object ≡ found.object → new.objects ≡ found.objects →
    IsMemory names last (slice_set cells i new)
memory_others names last cells i found new is within there one all =
    let old : found ≡ get_or cells i no_cells = there ∙ get_or_default cells i found no_cells within in
    s.memory_kept names last cells i new is within (s.others_inside last (get_or cells i no_cells) new (is.inside i) (one ∙ ap (λ (c : Cells). c.object) old) (all ∙ ap (λ (c : Cells). c.objects) old))

pub memory_written_at : {E : Type 0} (names : List Name) (last : ℕ) (cells : List Cells) (i : ℕ) (r : Result (Unit {0}) E) (found new : Cells) (a v : ℕ) → IsMemory names last cells → i < length cells → found ≡ get_or cells i found → v < suc last →
    OnOk r (new ≡ record found { objects = put 0 found.objects a v }) → OnErr r (new ≡ found) → IsMemory names last (slice_set cells i new)
memory_written_at names last cells i (Ok u) found new a v is within there lt put-it kept =
    let old : found ≡ get_or cells i no_cells = there ∙ get_or_default cells i found no_cells within in
    let e : new ≡ record found { objects = put 0 found.objects a v } = put-it in
    s.memory_kept names last cells i new is within (subst (λ c. AreInside last c) (sym e) (s.objects_inside last found a v (subst (λ c. AreInside last c) (sym old) (is.inside i)) lt))
memory_written_at names last cells i (Err u) found new a v is within there lt put-it kept =
    let e : new ≡ found = kept in
    memory_others names last cells i found new is within there (ap (λ (c : Cells). c.object) e) (ap (λ (c : Cells). c.objects) e)
