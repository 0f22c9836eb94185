use Rattle.std.proofs.lemmas.Result.{on_ok_weaker}
use Rattle.jh_instantiation.proofs.closed_terms.Additions.{adds-two}
use Rattle.jh_instantiation.proofs.closed_terms.adding.add_member.Goals as goal

pub returns : goal.returns
returns c = λ p q e f.
    on_ok_weaker c.add_set.result (adds-two c.args.table.now c.args.terms.now.nodes.keys c.add_term.new.terms.nodes.keys c.add_set.new.terms.nodes.keys _ _ (c.in_ok-add_term.ensures p e)) (c.add_set.ensures q f)
