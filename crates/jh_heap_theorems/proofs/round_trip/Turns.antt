-- Reading goes from line to line.
use Rattle.std.proofs.Common.{◌≡◌, refl, ap, ◌∙◌, arith, ℕ, suc, ◌<◌, true, false, if◌then◌else◌, List, [], ◌∷◌, ◌++◌, length, Option, Some, None, ne_eqb}
use Rattle.jh_semantics.specs.Code.{Text}
use Rattle.jh_semantics.specs.Heaps.{Cell}
use Rattle.jh_heap.specs.lines.Bytes.{split}
use Rattle.jh_heap.specs.lines.Lines.{Line, line_of}
use Rattle.jh_heap.specs.text.Outlines.{Holder, Outline}
use Rattle.jh_heap.specs.text.Drafts.{Draft}
use Rattle.jh_heap.specs.text.Rules.{rule_of}
use Rattle.jh_heap.specs.text.Reading.{Reading, read, bad_line, goes_on, ends, then_on, in_order, taken, heap_of, args_of, ruled, step_with, step, lines_from}
use Rattle.jh_heap_theorems.specs.round_trip.Names.{has}
use Rattle.jh_heap_theorems.proofs.round_trip.Words.{split-word, split-some}

-- The outline of a method without `this` and parameters, and a draft of its lines: the stage, the classes, the statics and the fields.
abbrev pub outline : List Text → List Holder → List Holder → Outline
outline cs ss fs = record { classes = cs; statics = ss; fields = fs; this = None; params = [] }

abbrev pub draft : ℕ → ℕ → List (Option (List ℕ)) → List (Option Cell) → List (List (Option Cell)) → Draft
draft n s cl st fi = record { greatest = n; stage = s; classes = cl; statics = st; fields = fi; this = None; arguments = [] }

module _ (o : Outline) where
  -- what comes of reading a text, whichever number its first line has
  abbrev pub Reads : List ℕ → Draft → Reading → Type 0
  Reads text d r = (k : ℕ) → lines_from o k (split 10 text) d ≡ r

  pub reads-text : (t u : List ℕ) (d : Draft) (r : Reading) → t ≡ u → Reads u d r → Reads t d r
  reads-text t u d r e h k = ap (λ z. lines_from o k (split 10 z) d) e ∙ h k

  pub reads-draft : (t : List ℕ) (d e : Draft) (r : Reading) → d ≡ e → Reads t e r → Reads t d r
  reads-draft t d e r q h k = ap (λ z. lines_from o k (split 10 t) z) q ∙ h k

  line-step : (k : ℕ) (w : List ℕ) (ws : List (List ℕ)) (d : Draft) → 0 < length ws → lines_from o k (w ∷ ws) d ≡ then_on (step o k w d) (λ e. lines_from o (suc k) ws e)
  line-step k w [] d h = absurd (omega arith)
  line-step k w (v ∷ ws) d h = refl

  step-on : (k : ℕ) (w : List ℕ) (line : Line) (d : Draft) → line_of w ≡ Some line → in_order d.stage line ≡ true → rule_of o d line ≡ 0 → step o k w d ≡ goes_on (taken o d line)
  step-on k w line d is order rule =
      ap (λ f. step_with o k f d) is
      ∙ ap (λ t. if t then ruled o k (rule_of o d line) line d else ends (bad_line k)) order
      ∙ ap (λ q. ruled o k q line d) rule

  -- a line that breaks no rule
  pub read-line : (w more : List ℕ) (line : Line) (d : Draft) (r : Reading) → has 10 w ≡ false → line_of w ≡ Some line → in_order d.stage line ≡ true → rule_of o d line ≡ 0 →
      Reads more (taken o d line) r → Reads (w ++ (10 ∷ more)) d r
  read-line w more line d r lacks is order rule next k =
      ap (λ ws. lines_from o k ws d) (split-word 10 w more lacks)
      ∙ line-step k w (split 10 more) d (split-some 10 more)
      ∙ ap (λ s. then_on s (λ e. lines_from o (suc k) (split 10 more) e)) (step-on k w line d is order rule)
      ∙ next (suc k)

-- the end
pub read-end : (cs : List Text) (ss fs : List Holder) (n s : ℕ) (cl : List (Option (List ℕ))) (st : List (Option Cell)) (fi : List (List (Option Cell))) → 0 < s →
    Reads (outline cs ss fs) [] (draft n s cl st fi) (read (heap_of (outline cs ss fs) (draft n s cl st fi)) (args_of (outline cs ss fs) (draft n s cl st fi)))
read-end cs ss fs n s cl st fi some k =
    ap (λ t. if t then bad_line k else read (heap_of (outline cs ss fs) (draft n s cl st fi)) (args_of (outline cs ss fs) (draft n s cl st fi))) (ne_eqb s 0 (λ e. omega (arith, e, some)))
