use Rattle.std.proofs.Common.{◌≡◌, drop}
use Rattle.jh_rules.specs.Words.{is_one_of}
use Rattle.jh_definitions.specs.jh_resolution.Spots.{texts_of}
use Rattle.jh_unfolding.proofs.unfolder.this.is_bound.Given as goal

abbrev pub invariant-loop-word : goal.invariant-loop-word
invariant-loop-word l = is_one_of l.text (texts_of (drop l.word-index l.bound)) ≡ is_one_of l.text (texts_of l.bound)
