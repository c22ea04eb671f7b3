use Rattle.heco_transform.proofs.forward.+forward_even.Given as goal

abbrev pub decreases-forward_even : goal.decreases-forward_even
decreases-forward_even l = l.depth
