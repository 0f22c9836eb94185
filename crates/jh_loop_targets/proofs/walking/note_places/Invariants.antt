use Rattle.std.proofs.Common.{drop}
use Rattle.jh_loop_targets.specs.declared.texts.Texts.{Texts}
use Rattle.jh_loop_targets.specs.Noted.{Notes}
use Rattle.jh_loop_targets.specs.Telling.{is_text_of, standing}
use Rattle.jh_loop_targets.proofs.walking.note_places.Given as goal

-- with the texts at the places that are left, all are noted
abbrev pub invariant-loop-place : goal.invariant-loop-place
invariant-loop-place l = (new : Texts) → Notes l.written new (is_text_of (standing l.states (drop l.place-index l.places))) → Notes l.initial.written new (is_text_of (standing l.states l.places))
