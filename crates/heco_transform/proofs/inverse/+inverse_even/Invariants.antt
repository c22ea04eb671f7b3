use Rattle.heco_transform.proofs.inverse.+inverse_even.Given as goal

abbrev pub decreases-inverse_even : goal.decreases-inverse_even
decreases-inverse_even l = l.depth
