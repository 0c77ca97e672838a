-- What RFC 5280 asks of the entries of a list of revoked certificates (5.1.2.6, 5.3).
use Rattle.std.specs.Prelude.{ℕ, ◌<◌, Option, Some, None, List, length}
use Rattle.x509.specs.Crl.Lists.{Revoked, revoked_certificate}
use Rattle.x509.specs.Lists.{Somewhere}
use Rattle.x509.specs.Rules.{AreIndistinct, HasFraction, IsEarly, IsPositive}
use Rattle.x509_rules.specs.declared.crl.entries.EntryRule.{EntryRule}
use Rattle.x509_rules.specs.declared.crl.entries.EntryRule.TheVariants.{PositiveSerialNumber, ShortSerialNumber}
use Rattle.x509_rules.specs.declared.crl.entries.EntryRule.TheVariants.{DistinctExtensions, UtcTimeTo2049}
use Rattle.x509_rules.specs.declared.crl.entries.EntryRule.TheVariants.{WholeSeconds, Without}
use Rattle.x509_value_rules.specs.Facts.{Shows}

-- the entry breaks the rule
abbrev pub BreaksEntry : EntryRule → Revoked → Type 0
BreaksEntry PositiveSerialNumber e = ¬ IsPositive e.user_certificate
BreaksEntry ShortSerialNumber e = 20 < length e.user_certificate
BreaksEntry UtcTimeTo2049 e = IsEarly e.revocation_date
BreaksEntry WholeSeconds e = HasFraction e.revocation_date
BreaksEntry DistinctExtensions e = AreIndistinct e.extensions
BreaksEntry (Without k f) e = Shows k f e.extensions

-- one of the entries with these octets breaks it, if there are any
abbrev pub SomeEntry : EntryRule → Option (List ℕ) → Type 0
SomeEntry r None = ⊥
SomeEntry r (Some i) = Somewhere revoked_certificate (λ e _. BreaksEntry r e) i
