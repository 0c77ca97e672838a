use Rattle.std.proofs.Common.{rules}
use Rattle.der_actions.proofs.Changing.{writes_range}
use Rattle.der_actions.proofs.diff.pass.Goals as goal

pub returns-in_ok-write_pair-in-Some : goal.returns-in_ok-write_pair-in-Some
returns-in_ok-write_pair-in-Some g c = (
  search rules,
  search rules,
  writes_range c.args.new.now c.args.passed c.in-Some.partner _ (search rules) (search rules) c.in_ok-write_added-in-Some.ensures c.in_ok-write_pair-in-Some.ensures,
)
