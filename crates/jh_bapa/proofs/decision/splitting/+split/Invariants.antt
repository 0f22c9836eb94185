use Rattle.std.proofs.Common.{◌≡◌, ◌+◌, ◌*◌, ◌<◌, ℕ}
use Rattle.jh_query.specs.queries.Bare.{cond_tree, query_tree}
use Rattle.jh_query.specs.declared.partial_truth.casing.Case.TheVariants.{Open}
use Rattle.jh_bapa.specs.decision.Cases.{case_at}
use Rattle.jh_bapa.specs.decision.Searching.{NoneLeft, open_count, with_case}
use Rattle.jh_bapa.proofs.decision.splitting.+split.Given as goal

-- each case is one atom less to split
abbrev pub decreases-split : goal.decreases-split
decreases-split l = 3 * open_count l.atoms.now.items + 2

abbrev pub decreases-split_atom : goal.decreases-split_atom
decreases-split_atom l = 3 * open_count l.atoms.now.items + 1

abbrev pub decreases-split_case : goal.decreases-split_case
decreases-split_case l = 3 * open_count (with_case l.atoms.now.items l.place l.case) + 3

abbrev pub invariant-split_atom-loop-number : goal.invariant-split_atom-loop-number
invariant-split_atom-loop-number l = record {
  kept : with_case l.atoms.items l.place Open ≡ l.fn.atoms.items;
  none : (n : ℕ) → n < l.number → NoneLeft (query_tree l.query) l.spots (with_case l.fn.atoms.items l.place (case_at (cond_tree l.cond) n));
}
