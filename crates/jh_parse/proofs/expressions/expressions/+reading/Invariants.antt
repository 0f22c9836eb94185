use Rattle.std.proofs.Common.{◌+◌, ◌*◌}
use Rattle.jh_parse.proofs.expressions.expressions.+reading.Given as goal

abbrev pub decreases-inner : goal.decreases-inner
decreases-inner l = 2048 * l.room + 0

abbrev pub decreases-ranked : goal.decreases-ranked
decreases-ranked l = 2048 * l.room + 300 + 2 * l.level

abbrev pub decreases-chain : goal.decreases-chain
decreases-chain l = 2048 * l.room + 301 + 2 * l.level

abbrev pub decreases-unary : goal.decreases-unary
decreases-unary l = 2048 * l.room + 200

abbrev pub decreases-negated : goal.decreases-negated
decreases-negated l = 2048 * l.room + 160

abbrev pub decreases-minus : goal.decreases-minus
decreases-minus l = 2048 * l.room + 160

abbrev pub decreases-postfix : goal.decreases-postfix
decreases-postfix l = 2048 * l.room + 150

abbrev pub decreases-words : goal.decreases-words
decreases-words l = 2048 * l.room + 140

abbrev pub decreases-primary : goal.decreases-primary
decreases-primary l = 2048 * l.room + 110

abbrev pub decreases-bracket : goal.decreases-bracket
decreases-bracket l = 2048 * l.room + 50
