use Rattle.der_base.specs.Refusal.{refusal}
use Rattle.der_base.proofs.Times.TimesStrict.{strict_only, strict_refuses}
use Rattle.der_base.proofs.time.read_der_time.Goals as goal

pub returns-clause-only : goal.returns-clause-only
returns-clause-only c = strict_only c.args.tag.0 c.args.content.now c.read_strict_time.result refusal c.read_strict_time.ensures

pub returns-clause-refuses : goal.returns-clause-refuses
returns-clause-refuses c = strict_refuses c.args.tag.0 c.args.content.now c.read_strict_time.result refusal c.read_strict_time.ensures
