use Rattle.jh_instantiation.proofs.instance_count.weighing.+chain.Given as goal

-- the term inside has a smaller number
abbrev pub decreases-chain : goal.decreases-chain
decreases-chain l = l.node
