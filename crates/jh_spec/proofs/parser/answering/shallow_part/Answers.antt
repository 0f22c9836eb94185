use Rattle.std.proofs.Common.{ℕ, sym, ◌∙◌}
use Rattle.std.proofs.lemmas.Option.{none-some}
use Rattle.jh_operators.proofs.lookahead.Options.{of_found}
use Rattle.jh_spec.specs.declared.parser.part.SpecPart.{SpecPart}
use Rattle.jh_spec.specs.parser.PartReads.{part_tree}
use Rattle.jh_spec.specs.parser.PartReading.{part_at}
use Rattle.jh_spec.proofs.parser.Refusals.{refused-none}
use Rattle.jh_spec.proofs.parser.PartComplete.{part-complete}
use Rattle.jh_spec.proofs.parser.PartSound.{part-sound}
use Rattle.jh_spec.proofs.parser.answering.shallow_part.Goals as goal

pub returns-in-Ok : goal.returns-in-Ok
returns-in-Ok c = (c.requires.shallow, of_found (part-sound c.args.tokens.now c.args.at) (part_tree c.in-Ok.part, c.in-Ok.next) c.in-Ok.ensures)

pub returns-in-Err-Refused : goal.returns-in-Err-Refused
returns-in-Err-Refused c = (c.requires.shallow, λ p s. none-some p (sym (refused-none {X = SpecPart × ℕ} (λ r. (part_tree r.0, r.1)) (part_at c.args.tokens.now c.args.at) c.in-Err-Refused.field-0 c.in-Err-Refused.near c.in-Err-Refused.field-0-is c.in-Err-Refused.ensures) ∙ part-complete c.args.tokens.now c.args.at p.1 p.0 s), c.start_near.ensures)
