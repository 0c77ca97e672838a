-- Rules by numbers.
use Rattle.std.specs.Prelude.{ℕ, ◌==◌, if◌then◌else◌}
use Rattle.der_base.specs.declared.rules.Rules.{Rules}
use Rattle.der_base.specs.declared.rules.Rules.TheVariants.{Ber, Der}

-- 1 for DER
abbrev pub rules_numbered : ℕ → Rules
rules_numbered n = if n == 1 then Der else Ber
