-- What is noted stays right while the table grows.
use Rattle.std.proofs.Common.{◌≡◌, sym, ap, subst, ℕ, ◌<◌, ◌⊎◌, inl, inr, Bool, true, false, List, [], ◌∷◌, ◌++◌, length, slice_get, Option, Some, None, Result, Ok, Err, OnOk}
use Rattle.std.proofs.lemmas.Option.{slice_get_within}
use Rattle.jh_form.specs.Tree.{FormulaTree, ValueTree, of_truth}
use Rattle.jh_arena.specs.table.Entries.{is_truth, the_truth}
use Rattle.jh_arena.specs.table.Growth.{Grows}
use Rattle.jh_arena.proofs.table.Children.{it-is-truth}
use Rattle.jh_arena.proofs.table.Listed.{slice_get-last, grows-append}
use Rattle.jh_normal_forms.specs.parts.Collected.{IsCollected}
use Rattle.jh_approx.specs.definition.Shown.{shown}
use Rattle.jh_approx.specs.definition.Names.{names, without_repeats}
use Rattle.jh_query_names.specs.declared.visible_part.memo.Signed.{Signed}
use Rattle.jh_query_names.specs.declared.visible_part.memo.Made.{Made}
use Rattle.jh_query_names.specs.visible_part.Memos.{found as found_shown}
use Rattle.jh_query_names.specs.visible_part.Showing.{IsShown, IsShownAt, HoldsShown}
use Rattle.jh_query_names.specs.declared.mentioned_names.memo.Note.{Note}
use Rattle.jh_query_names.specs.declared.mentioned_names.memo.Memo.{Memo}
use Rattle.jh_query_names.specs.mentioned_names.Memos.{found}
use Rattle.jh_query_names.specs.mentioned_names.Notes.{IsNote, IsNoteAt, IsNoted, HoldsNotes, IsRight}
use Rattle.jh_query_names.proofs.mentioned_names.Listings.{trees-grow}

pub truth-there : (ts : List ValueTree) (n : ℕ) (a : FormulaTree) → slice_get ts n ≡ Some (of_truth a) → is_truth (slice_get ts n) ≡ true
unfolding is_truth
truth-there ts n a e = ap is_truth e

pub truth-is : (ts : List ValueTree) (n : ℕ) (a : FormulaTree) → slice_get ts n ≡ Some (of_truth a) → the_truth (slice_get ts n) ≡ a
unfolding the_truth
truth-is ts n a e = ap the_truth e

pub truth-inside : (ts : List ValueTree) (n : ℕ) → is_truth (slice_get ts n) ≡ true → n < length ts
truth-inside ts n h = slice_get_within ts n (of_truth (the_truth (slice_get ts n))) (it-is-truth (slice_get ts n) h)

nothing : {X : Type 0} (o : Option X) (x : X) → o ≡ None → o ≡ Some x → ⊥
nothing o x e f = cc

pub on-ok : {A E P : Type 0} (r : Result A E) → P → OnOk r P
on-ok (Ok a) p = p
on-ok (Err e) p = tt

module _ (ts us : List ValueTree) (g : Grows ts us) where
  pub truth-stays : (n : ℕ) → is_truth (slice_get ts n) ≡ true → slice_get us n ≡ Some (of_truth (the_truth (slice_get ts n)))
  truth-stays n h = g.keeps n (of_truth (the_truth (slice_get ts n))) (it-is-truth (slice_get ts n) h)

  pub still-truth : (n : ℕ) → is_truth (slice_get ts n) ≡ true → is_truth (slice_get us n) ≡ true
  still-truth n h = truth-there us n (the_truth (slice_get ts n)) (truth-stays n h)

  made-grows : (made : Made) (a : FormulaTree) (positive : Bool) → IsShown ts a positive made → IsShown us a positive made
  made-grows made a positive h = record { node = g.keeps made.node (of_truth (shown a positive)) h.node; flag = h.flag }

  shown-grows : (k : Signed) (made : Made) → IsShownAt ts k made → IsShownAt us k made
  shown-grows k made h = record {
    there = still-truth k.node h.there;
    is = subst (λ (a : FormulaTree). IsShown us a k.positive made) (sym (truth-is us k.node (the_truth (slice_get ts k.node)) (truth-stays k.node h.there))) (made-grows made (the_truth (slice_get ts k.node)) k.positive h.is);
  }

  pub holds-grow : (find : Signed → Option Made) → HoldsShown ts find → HoldsShown us find
  holds-grow find h = record { at = λ k made e. shown-grows k made (h.at k made e) }

  collected-grows : (trees : List ValueTree) (ns : List ℕ) → IsCollected ts [] trees ns → IsCollected us [] trees ns
  collected-grows trees ns h = record { numbers = h.numbers; are = trees-grow ts us g h.numbers trees h.are; added = h.added }

  pub note-grows : (a : FormulaTree) (note : Note) → IsNote ts a note → IsNote us a note
  note-grows a note h = record {
    said = g.keeps note.shown (of_truth (shown a false)) h.said;
    called = trees-grow ts us g note.names (without_repeats (names (shown a false))) h.called;
    speaks_of = collected-grows _ note.free h.speaks_of;
  }

  note-at-grows : (fact : ℕ) (note : Note) → IsNoteAt ts fact note → IsNoteAt us fact note
  note-at-grows fact note h = record { formula = h.formula; there = g.keeps fact (of_truth h.formula) h.there; is = note-grows h.formula note h.is }

  -- a fact that is noted stays noted, among more notes too
  pub noted-grows : (notes more : List Note) → Grows notes more → (fact place : ℕ) → IsNoted ts notes fact place → IsNoted us more fact place
  noted-grows notes more k fact place h = record { note = h.note; at = k.keeps place h.note h.at; is = note-at-grows fact h.note h.is }

  pub notes-grow : (find : ℕ → Option ℕ) (notes more : List Note) → Grows notes more → HoldsNotes ts find notes → HoldsNotes us find more
  notes-grow find notes more k h = record { at = λ fact place e. noted-grows notes more k fact place (h.at fact place e) }

  -- what is right over a table is right over one that extends it
  pub mentions-grow : (memo : Memo) → IsRight ts memo → IsRight us memo
  mentions-grow memo h = record {
    shown_before = holds-grow (found_shown memo.shown.answers) h.shown_before;
    noted_before = notes-grow (found memo.places) memo.notes.items memo.notes.items (record { keeps = λ n v e. e }) h.noted_before;
  }

  -- the same where more was shown
  pub mentions-shown : (old new : Memo) → new.places ≡ old.places → new.notes ≡ old.notes → HoldsShown us (found_shown new.shown.answers) → IsRight ts old → IsRight us new
  mentions-shown old new p n h r = record {
    shown_before = h;
    noted_before = subst (λ (find : ℕ → Option ℕ). HoldsNotes us find new.notes.items) (ap (λ m. found m) (sym p)) (subst (λ (notes : List Note). HoldsNotes us (found old.places) notes) (ap (λ v. v.items) (sym n)) (mentions-grow old r).noted_before);
  }

pub notes-none : (ts : List ValueTree) (find : ℕ → Option ℕ) (notes : List Note) → ((k : ℕ) → find k ≡ None) → HoldsNotes ts find notes
notes-none ts find notes empty = record { at = λ fact place e. absurd (nothing (find fact) place (empty fact) e) }

-- one more note
noted-last : (ts : List ValueTree) (notes : List Note) (fact : ℕ) (note : Note) → IsNoteAt ts fact note → IsNoted ts (notes ++ note ∷ []) fact (length notes)
noted-last ts notes fact note h = record { note = note; at = slice_get-last notes note; is = h }

pub noted-one : (ts : List ValueTree) (notes new : List Note) (fact place : ℕ) (note : Note) → new ≡ notes ++ note ∷ [] → place ≡ length notes → IsNoteAt ts fact note → IsNoted ts new fact place
noted-one ts notes new fact place note e f h =
    subst (λ (xs : List Note). IsNoted ts xs fact place) (sym e) (subst (λ (k : ℕ). IsNoted ts (notes ++ note ∷ []) fact k) (sym f) (noted-last ts notes fact note h))

grows-to : {X : Type 0} (xs new : List X) (x : X) → new ≡ xs ++ x ∷ [] → Grows xs new
grows-to xs new x e = subst (λ zs. Grows xs zs) (sym e) (grows-append xs (x ∷ []))

which : (ts : List ValueTree) (notes new : List Note) (fact k place : ℕ) (note : Note) (old : Option ℕ) → new ≡ notes ++ note ∷ [] → IsNoteAt ts fact note →
    (old ≡ Some place → IsNoted ts notes k place) → ((k ≡ fact) × (place ≡ length notes)) ⊎ (old ≡ Some place) → IsNoted ts new k place
which ts notes new fact k place note old e m h (inl f) = subst (λ (l : ℕ). IsNoted ts new l place) (sym f.0) (noted-one ts notes new fact place note e f.1 m)
which ts notes new fact k place note old e m h (inr f) = noted-grows ts ts (record { keeps = λ n v x. x }) notes new (grows-to notes new note e) k place (h f)

pub notes-more : (ts : List ValueTree) (old new : ℕ → Option ℕ) (notes more : List Note) (fact : ℕ) (note : Note) → HoldsNotes ts old notes → more ≡ notes ++ note ∷ [] → IsNoteAt ts fact note →
    ((k r : ℕ) → new k ≡ Some r → ((k ≡ fact) × (r ≡ length notes)) ⊎ (old k ≡ Some r)) → HoldsNotes ts new more
notes-more ts old new notes more fact note h e m fresh = record { at = λ k place f. which ts notes more fact k place note (old k) e m (h.at k place) (fresh k place f) }

pub notes-longer : {X : Type 0} (xs new : List X) (x : X) → new ≡ xs ++ x ∷ [] → Grows xs new
notes-longer xs new x e = grows-to xs new x e
