use Rattle.std.proofs.Common.{◌≡◌, ◌+◌, drop}
use Rattle.jh_heap.specs.text.Drafts.{place_of, texts_of}
use Rattle.jh_heap.specs.text.Held.{holders_in}
use Rattle.jh_heap.proofs.text.outline.holder_place.Given as goal

abbrev pub invariant-loop-place : goal.invariant-loop-place
invariant-loop-place l = place_of (texts_of (holders_in l.holders)) l.text ≡ l.place + place_of (texts_of (holders_in (drop l.place l.holders))) l.text
