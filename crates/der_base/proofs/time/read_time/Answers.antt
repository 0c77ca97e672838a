use Rattle.std.proofs.Common.{arith}
use Rattle.der_base.proofs.Times.TimesRead.{utc_text, generalized_text, time_only}
use Rattle.der_base.proofs.time.read_time.Goals as goal

pub returns-in-UtcTime-clause-found : goal.returns-in-UtcTime-clause-found
returns-in-UtcTime-clause-found c = utc_text c.args.tag.0 c.args.content.now c.read_utc_time.result (omega arith) c.read_utc_time.ensures

pub returns-in-UtcTime-clause-only : goal.returns-in-UtcTime-clause-only
returns-in-UtcTime-clause-only c = time_only c.args.tag.0 c.args.content.now c.read_utc_time.result (returns-in-UtcTime-clause-found c)

pub returns-in-GeneralizedTime-clause-found : goal.returns-in-GeneralizedTime-clause-found
returns-in-GeneralizedTime-clause-found c = generalized_text c.args.tag.0 c.args.content.now c.read_generalized_time.result (omega arith) c.read_generalized_time.ensures

pub returns-in-GeneralizedTime-clause-only : goal.returns-in-GeneralizedTime-clause-only
returns-in-GeneralizedTime-clause-only c = time_only c.args.tag.0 c.args.content.now c.read_generalized_time.result (returns-in-GeneralizedTime-clause-found c)
