use Rattle.std.proofs.Common.{◌∙◌}
use Rattle.jh_loop_targets.proofs.Enterings.{sort-lookup}
use Rattle.jh_loop_targets.proofs.names.Names.sort.Goals as goal

pub returns : goal.returns
returns c = c.copied.ensures ∙ c.get.ensures.value ∙ sort-lookup c.args.text.now c.args.self.now.sorts.entries
