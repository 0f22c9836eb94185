use Rattle.std.proofs.Common.{◌≡◌, ◌++◌, drop}
use Rattle.jh_ast.specs.Bare.{form_trees}
use Rattle.jh_definitions.specs.reads.Listed.{states_in, all_reads_at}
use Rattle.jh_definitions.proofs.reads.reading.+reads.Given as goal

abbrev pub invariant-add_all-loop-form : goal.invariant-add_all-loop-form
invariant-add_all-loop-form l = states_in l.made.items ++ all_reads_at l.at (form_trees (drop l.form-index l.forms)) ≡ states_in l.fn.made.items ++ all_reads_at l.at (form_trees l.forms)
