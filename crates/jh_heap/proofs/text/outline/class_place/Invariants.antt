use Rattle.std.proofs.Common.{◌≡◌, ◌+◌, drop}
use Rattle.jh_heap.specs.text.Drafts.{place_of}
use Rattle.jh_heap.specs.text.Held.{texts_in}
use Rattle.jh_heap.proofs.text.outline.class_place.Given as goal

abbrev pub invariant-loop-place : goal.invariant-loop-place
invariant-loop-place l = place_of (texts_in l.classes) l.text ≡ l.place + place_of (texts_in (drop l.place l.classes)) l.text
