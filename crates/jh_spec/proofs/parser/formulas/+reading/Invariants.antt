use Rattle.std.proofs.Common.{◌+◌, ◌*◌}
use Rattle.jh_spec.proofs.parser.formulas.+reading.Given as goal

abbrev pub decreases-operand : goal.decreases-operand
decreases-operand l = 2048 * l.room + 0

abbrev pub decreases-open_operand : goal.decreases-open_operand
decreases-open_operand l = 2048 * l.room + 1300

abbrev pub decreases-right : goal.decreases-right
decreases-right l = 2048 * l.room + 1000 + l.level + 1

abbrev pub decreases-negation : goal.decreases-negation
decreases-negation l = 2048 * l.room + 1000

abbrev pub decreases-compared : goal.decreases-compared
decreases-compared l = 2048 * l.room + 900

abbrev pub decreases-divides : goal.decreases-divides
decreases-divides l = 2048 * l.room + 890

abbrev pub decreases-left : goal.decreases-left
decreases-left l = 2048 * l.room + 300 + 2 * l.level

abbrev pub decreases-chain : goal.decreases-chain
decreases-chain l = 2048 * l.room + 301 + 2 * l.level

abbrev pub decreases-prefix : goal.decreases-prefix
decreases-prefix l = 2048 * l.room + 200

abbrev pub decreases-rtrancl : goal.decreases-rtrancl
decreases-rtrancl l = 2048 * l.room + 150

abbrev pub decreases-postfix : goal.decreases-postfix
decreases-postfix l = 2048 * l.room + 120

abbrev pub decreases-atom : goal.decreases-atom
decreases-atom l = 2048 * l.room + 110

abbrev pub decreases-bracket : goal.decreases-bracket
decreases-bracket l = 2048 * l.room + 50

abbrev pub decreases-set : goal.decreases-set
decreases-set l = 2048 * l.room + 60

abbrev pub decreases-compr : goal.decreases-compr
decreases-compr l = 2048 * l.room + 50

abbrev pub decreases-braces : goal.decreases-braces
decreases-braces l = 2048 * l.room + 50

abbrev pub decreases-members : goal.decreases-members
decreases-members l = 2048 * l.room + 20

abbrev pub decreases-quantified : goal.decreases-quantified
decreases-quantified l = 2048 * l.room + 100

abbrev pub decreases-signed : goal.decreases-signed
decreases-signed l = 2048 * l.room + 160
