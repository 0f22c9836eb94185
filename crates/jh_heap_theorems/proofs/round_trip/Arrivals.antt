-- From the lines of a text to the draft that its heap is of.
use Rattle.std.proofs.Common.{◌≡◌, refl, sym, ◌∙◌, inl, inr, ℕ, zero, suc, ◌==◌, Bool, true, false, true≢false, if◌then◌else◌, List, [], ◌∷◌, Option, Some, None, eq-eqb}
use Rattle.jh_semantics.specs.Heaps.{Heap, Args}
use Rattle.jh_heap.specs.lines.Lines.{Line, line_of}
use Rattle.jh_heap.specs.lines.Bytes.{split, is_empty}
use Rattle.jh_heap.specs.text.Outlines.{Outline}
use Rattle.jh_heap.specs.text.Drafts.{Draft, empty_draft}
use Rattle.jh_heap.specs.text.Rules.{rule_of}
use Rattle.jh_heap.specs.text.Reading.{Reading, read, bad_line, not_well_formed, Step, goes_on, ends, then_on, in_order, heap_of, args_of, is_lacking, finished, ruled, step_with, step, lines_from, reading}
use Rattle.jh_heap_theorems.proofs.round_trip.Listings.{Of, IsLine, lined}
use Rattle.jh_heap_theorems.proofs.round_trip.Drafted.{DraftFits, Begins, taken-fits}

module _ (o : Outline) where
  -- a draft that lacks nothing, of which a heap and arguments are
  pub record IsMade (h : Heap) (args : Args) (d : Draft) : Type 0 where
    pub fits : DraftFits o d
    pub whole : is_lacking o d ≡ false
    pub heap : heap_of o d ≡ h
    pub given : args_of o d ≡ args

  abbrev Answer : Reading → Type 0
  Answer r = (h : Heap) (args : Args) → r ≡ read h args → (d : Draft) × IsMade h args d

  abbrev Next : Step → Type 0
  Next (goes_on d) = DraftFits o d
  Next (ends r) = Answer r

  bad : (k : ℕ) → Answer (bad_line k)
  bad k h args e = cc

  breaks : (k rule : ℕ) → Answer (not_well_formed k rule)
  breaks k rule h args e = cc

  made : (d : Draft) → DraftFits o d → is_lacking o d ≡ false → Answer (read (heap_of o d) (args_of o d))
  made d f whole h args e =
      let heap : heap_of o d ≡ h = cc in
      let given : args_of o d ≡ args = cc in
      (d, record { fits = f; whole = whole; heap = heap; given = given })

  none-begun : (d : Draft) → Begins o d → (d.stage == 0) ≡ false → DraftFits o d
  none-begun d (inl e) later = absurd (true≢false (sym (eq-eqb d.stage 0 e) ∙ later))
  none-begun d (inr f) later = f

  finished-made : (k : ℕ) (d : Draft) → Begins o d → Answer (finished o k d)
  finished-made k d b = by (d.stage == 0) refl
    where
      lacking : (t : Bool) → is_lacking o d ≡ t → DraftFits o d → Answer (if t then not_well_formed k 8 else read (heap_of o d) (args_of o d))
      lacking true e f = breaks k 8
      lacking false e f = made d f e

      by : (t : Bool) → (d.stage == 0) ≡ t → Answer (if t then bad_line k else (if is_lacking o d then not_well_formed k 8 else read (heap_of o d) (args_of o d)))
      by true e = bad k
      by false e = lacking (is_lacking o d) refl (none-begun d b e)

  ruled-made : (k : ℕ) (line : Line) (d : Draft) → Begins o d → IsLine line → in_order d.stage line ≡ true → (rule : ℕ) → rule_of o d line ≡ rule → Next (ruled o k rule line d)
  ruled-made k line d b listed order zero e = taken-fits o d line b listed order e
  ruled-made k line d b listed order (suc rule) e = breaks k (suc rule)

  step-made : (k : ℕ) (found : Option Line) (d : Draft) → Begins o d → Of IsLine found → Next (step_with o k found d)
  step-made k None d b listed = bad k
  step-made k (Some line) d b listed = by (in_order d.stage line) refl
    where
      by : (t : Bool) → in_order d.stage line ≡ t → Next (if t then ruled o k (rule_of o d line) line d else ends (bad_line k))
      by true e = ruled-made k line d b listed e (rule_of o d line) refl
      by false e = bad k

  from-made : (k : ℕ) (ws : List (List ℕ)) (d : Draft) → Begins o d → Answer (lines_from o k ws d)
  from-made k [] d b = finished-made k d b
  from-made k (w ∷ []) d b = by (is_empty w)
    where
      by : (t : Bool) → Answer (if t then finished o k d else bad_line k)
      by true = finished-made k d b
      by false = bad k
  from-made k (w ∷ v ∷ ws) d b = by (λ x. from-made (suc k) (v ∷ ws) x) (step o k w d) (step-made k (line_of w) d b (lined w))
    where
      by : ((x : Draft) → Begins o x → Answer (lines_from o (suc k) (v ∷ ws) x)) → (s : Step) → Next s → Answer (then_on s (λ x. lines_from o (suc k) (v ∷ ws) x))
      by on (goes_on x) more = on x (inr more)
      by on (ends r) answer = answer

  pub read-made : (bytes : List ℕ) (h : Heap) (args : Args) → reading o bytes ≡ read h args → (d : Draft) × IsMade h args d
  read-made bytes h args e = from-made 1 (split 10 bytes) empty_draft (inl refl) h args e
