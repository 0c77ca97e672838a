-- Names of issuers in authorityKeyIdentifier.
use Rattle.std.proofs.Common.{◌≡◌, ℕ, Bool, IsTrue, None, Ok, List, sym, subst}
use Rattle.std.specs.Prelude.{◌↔◌}
use Rattle.der_base.specs.declared.rules.Rules.TheVariants.{Der}
use Rattle.der_cursor.specs.Formats.{Never, Only, ReadsWhole, Required}
use Rattle.der_extensions.specs.Extensions.{AuthorityKeyIdentifier, AuthorityValue}
use Rattle.x509_value_rules.specs.Readings.{NamesNoIssuer}
use Rattle.x509_value_rules.specs.ValueRules.{IsIssuerBroken}
use Rattle.x509_value_rules.proofs.SoundLaws.{broken_issuer}

-- where there is no authorityCertIssuer, no name of it breaks a rule
module _ {T E : Type 0} {view : T → AuthorityValue} (w : List ℕ) {x : T} (r : ReadsWhole {E = E} (Only (Required AuthorityKeyIdentifier) Der w) view Never (Ok x)) where
  pub names_none : {b : Bool} → IsTrue b ↔ ((view x).1.0 ≡ None) → NamesNoIssuer b w
  names_none t h q s = broken_issuer q (view x).1.0 (subst (IsIssuerBroken q) (sym (r.only s.0 s.1)) s.2) (t.0 h)
