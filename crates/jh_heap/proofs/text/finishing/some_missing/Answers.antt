use Rattle.std.proofs.Common.{◌∙◌, sym}
use Rattle.jh_heap.proofs.text.Finishings.{any_missing}
use Rattle.jh_heap.proofs.text.finishing.some_missing.Goals as goal

pub returns : goal.returns
returns c = c.any_is_missing.ensures ∙ sym (any_missing c.args.given.now)
