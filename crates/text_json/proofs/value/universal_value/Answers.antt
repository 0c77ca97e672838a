use Rattle.std.proofs.Common.{inl, inr}
use Rattle.text_json.proofs.value.universal_value.Goals as goal

pub returns-in-23 : goal.returns-in-23
returns-in-23 c = c.time.ensures (inl c.in-23.is)

pub returns-in-24 : goal.returns-in-24
returns-in-24 c = c.time-in-24.ensures (inr c.in-24.is)
