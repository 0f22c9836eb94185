use Rattle.std.proofs.lemmas.Result.{on_ok_weaker}
use Rattle.jh_instantiation.proofs.closed_terms.Additions.{adds-two}
use Rattle.jh_instantiation.proofs.closed_terms.adding.add_two.Goals as goal

pub returns : goal.returns
returns c = λ p q e f.
    on_ok_weaker c.add_term-2.result (adds-two c.args.table.now c.args.terms.now.nodes.keys c.add_term.new.terms.nodes.keys c.add_term-2.new.terms.nodes.keys _ _ (c.in_ok-add_term.ensures p e)) (c.add_term-2.ensures q f)
