-- What formulas see at a moment.
use Rattle.jh_form.specs.Meaning.{Interp}
use Rattle.jh_semantics.specs.State.{shown}
use Rattle.jh_store.specs.memory.Held.{state_of}
use Rattle.jh_store.specs.declared.state_pairs.moment.Moment.{Moment}

abbrev pub seen : Moment → Interp
seen w = shown (state_of w.current.now) (state_of w.entry.now)
