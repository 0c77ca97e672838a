use Rattle.asn1_types.proofs.lists.+members_of.Given as goal

abbrev pub decreases-members_of : goal.decreases-members_of
decreases-members_of l = l.levels

abbrev pub invariant-loop-member : goal.invariant-loop-member
invariant-loop-member l = Unit {0}
