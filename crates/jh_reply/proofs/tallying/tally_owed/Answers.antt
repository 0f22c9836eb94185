use Rattle.jh_ast.specs.Bare.{program_tree}
use Rattle.jh_reply.proofs.tallying.tally_owed.Goals as goal

-- src/tallying.rt
pub returns : goal.returns
returns c =
    let owed = c.requires.owes in
    let made = c.in_ok-counts.ensures (program_tree c.args.parts.now.typed) owed.0 owed.2 in
    record { reported = made.0; judges = record { owed = owed.0; owes = owed.1; judged = made.1 }; counts_are = made.2 }
