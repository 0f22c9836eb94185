-- From the lines of a text to what it spells.
use Rattle.std.proofs.Common.{◌≡◌, refl, subst, ℕ, zero, suc, ◌==◌, Bool, true, false, if◌then◌else◌, List, [], ◌∷◌, Option, Some, None}
use Rattle.jh_semantics.specs.Heaps.{Heap, Args}
use Rattle.jh_heap.specs.lines.Lines.{Line, line_of}
use Rattle.jh_heap.specs.lines.Bytes.{split, is_empty}
use Rattle.jh_heap.specs.text.Outlines.{Outline}
use Rattle.jh_heap.specs.text.Drafts.{Draft, empty_draft}
use Rattle.jh_heap.specs.text.Rules.{rule_of}
use Rattle.jh_heap.specs.text.Reading.{Reading, read, bad_line, not_well_formed, Step, goes_on, ends, then_on, in_order, heap_of, args_of, is_lacking, finished, ruled, step_with, step, lines_from}
use Rattle.jh_store.specs.heaps.Inside.{HeapIsInside, ArgsAreInside}
use Rattle.jh_heap.specs.object_bounds.Inside.{ReadIsInside}
use Rattle.jh_heap.proofs.object_bounds.Drafts.{DraftInside, empty-inside, taken-inside, heap-inside, args-inside}

abbrev Both : Heap → Args → Type 0
Both h args = HeapIsInside h × ArgsAreInside h.greatest args

-- what comes of reading is inside, where something is read
abbrev Answer : Reading → Type 0
Answer r = (h : Heap) (args : Args) → r ≡ read h args → Both h args

abbrev Next : Step → Type 0
Next (goes_on d) = DraftInside d
Next (ends r) = Answer r

bad : (n : ℕ) → Answer (bad_line n)
bad n h args e = cc

broken : (n rule : ℕ) → Answer (not_well_formed n rule)
broken n rule h args e = cc

module _ (o : Outline) where
  done : (d : Draft) → DraftInside d → Answer (read (heap_of o d) (args_of o d))
  done d inside h args e =
      let heap : heap_of o d ≡ h = cc in
      let given : args_of o d ≡ args = cc in
      subst (λ a. Both h a) given (subst (λ g. Both g (args_of o d)) heap (heap-inside o d inside, args-inside o d inside))

  finished-inside : (n : ℕ) (d : Draft) → DraftInside d → Answer (finished o n d)
  finished-inside n d inside = by (d.stage == 0)
    where
      lacking : (t : Bool) → Answer (if t then not_well_formed n 8 else read (heap_of o d) (args_of o d))
      lacking true = broken n 8
      lacking false = done d inside

      by : (t : Bool) → Answer (if t then bad_line n else (if is_lacking o d then not_well_formed n 8 else read (heap_of o d) (args_of o d)))
      by true = bad n
      by false = lacking (is_lacking o d)

  ruled-inside : (n : ℕ) (line : Line) (d : Draft) → DraftInside d → (rule : ℕ) → rule_of o d line ≡ rule → Next (ruled o n rule line d)
  ruled-inside n line d inside zero e = taken-inside o d line inside e
  ruled-inside n line d inside (suc rule) e = broken n (suc rule)

  step-inside : (n : ℕ) (found : Option Line) (d : Draft) → DraftInside d → Next (step_with o n found d)
  step-inside n None d inside = bad n
  step-inside n (Some line) d inside = by (in_order d.stage line)
    where
      by : (t : Bool) → Next (if t then ruled o n (rule_of o d line) line d else ends (bad_line n))
      by true = ruled-inside n line d inside (rule_of o d line) refl
      by false = bad n

  from-inside : (n : ℕ) (ws : List (List ℕ)) (d : Draft) → DraftInside d → Answer (lines_from o n ws d)
  from-inside n [] d inside = finished-inside n d inside
  from-inside n (w ∷ []) d inside = by (is_empty w)
    where
      by : (t : Bool) → Answer (if t then finished o n d else bad_line n)
      by true = finished-inside n d inside
      by false = bad n
  from-inside n (w ∷ v ∷ ws) d inside = by (λ x. from-inside (suc n) (v ∷ ws) x) (step o n w d) (step-inside n (line_of w) d inside)
    where
      by : ((x : Draft) → DraftInside x → Answer (lines_from o (suc n) (v ∷ ws) x)) → (s : Step) → Next s → Answer (then_on s (λ x. lines_from o (suc n) (v ∷ ws) x))
      by on (goes_on x) more = on x more
      by on (ends r) answer = answer

pub read_inside : ReadIsInside
read_inside o bytes h args e = from-inside o 1 (split 10 bytes) empty_draft empty-inside h args e
