use Rattle.std.proofs.Common.{ℕ, Option, IfSome, not, slice_get, subst}
use Rattle.jh_form.specs.Passing.{name_equal}
use Rattle.jh_arena.specs.table.Entries.{the_value}
use Rattle.jh_arena.specs.table.Nodes.{nodes}
use Rattle.jh_arena.proofs.table.Weaker.{value-weaker}
use Rattle.jh_substitution.specs.rewriting.Passed.{PassesBut}
use Rattle.jh_substitution.proofs.rewriting.Passes.{not-true}
use Rattle.jh_substitution.proofs.rewriting.naming.passes_at_once.Goals as goal

pub returns-in-Some : goal.returns-in-Some
returns-in-Some g c = λ h.
    let w : PassesBut (g.T.NameTest.test c.args._test.now) c.args.table.now.pools.names c.in-Some.number =
    subst (λ (o : Option ℕ). IfSome o (λ number. PassesBut (g.T.NameTest.test c.args._test.now) c.args.table.now.pools.names number)) c.in-Some.is c.requires.only in
    value-weaker (λ y s. not (name_equal y w.name)) (g.T.NameTest.test c.args._test.now) w.others (the_value (slice_get (nodes c.args.table.now) c.args.node))
    (c.may_hold.ensures (not-true c.may_hold.result h) w.name w.at)
