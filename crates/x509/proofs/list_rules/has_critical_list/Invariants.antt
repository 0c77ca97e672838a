use Rattle.std.proofs.Common.{◌≡◌, true}
use Rattle.x509.specs.Certificates.{extension}
use Rattle.x509.specs.Lists.{extensions_left}
use Rattle.x509.specs.Rules.{IsFilled}
use Rattle.x509.proofs.WalkLaws.{IsStill}
use Rattle.x509.proofs.list_rules.has_critical_list.Given as goal

-- what is asked is asked of the extensions that are left
abbrev pub invariant-loop-extension : goal.invariant-loop-extension
invariant-loop-extension l = IsStill extension (λ e _. (e.identifier ≡ l.fn.identifier) × (e.critical ≡ true) × IsFilled e.value) l.fn.extensions.octets.now (extensions_left l.extension-iterator)
