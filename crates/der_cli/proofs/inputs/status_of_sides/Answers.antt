use Rattle.der_cli.proofs.inputs.status_of_sides.Goals as goal

pub returns-clause-status : goal.returns-clause-status
returns-clause-status g c =
    (c.in_ok-found.found, c.in_ok-found.ensures.finds, c.in_ok-found.ensures.writes, c.status_of_comparison.ensures.status)
