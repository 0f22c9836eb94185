use Rattle.jh_local.proofs.asking.searched.Goals as goal

pub returns : goal.returns
returns c = λ many few. c.in_ok-cause.ensures c.args.leaves many few c.in_ok-searching.ensures
