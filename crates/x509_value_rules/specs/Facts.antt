-- What the extensions of a certificate show.
use Rattle.std.specs.Prelude.{◌≡◌, ℕ, ◌⊎◌, Bool, false, true, List}
use Rattle.x509.specs.Certificates.{ExtensionValue, Signed, extension}
use Rattle.x509.specs.Lists.{Somewhere}
use Rattle.x509_value_rules.specs.declared.facts.Fact.{Fact}
use Rattle.x509_value_rules.specs.declared.facts.Fact.TheVariants.{Present, Critical, NotCritical, Says, Breaks}
use Rattle.der_extensions.specs.declared.known.KnownExtension.{KnownExtension}
use Rattle.der_extensions.specs.declared.known.KnownExtension.TheVariants as known
use Rattle.x509_rule_facts.specs.declared.value_facts.ValueFact.{ValueFact}
use Rattle.x509_rule_facts.specs.declared.value_facts.ValueFact.TheVariants.{Authority, KeyCertSign}
use Rattle.der_extensions.specs.Known.{octets_of}
use Rattle.x509_rule_facts.specs.ValueFacts.{ValueSays, extension_of_fact}
use Rattle.x509_value_rules.specs.ValueRules.{BreaksValue}

-- an extension that is critical or not, with this value, shows the fact
abbrev pub Holds : Fact → Bool → List ℕ → Type 0
Holds Present c w = Unit {0}
Holds Critical c w = c ≡ true
Holds NotCritical c w = c ≡ false
Holds (Says f) c w = ValueSays f w
Holds (Breaks r) c w = BreaksValue r w

-- the extension is this one, and shows the fact
abbrev pub IsShownBy : KnownExtension → Fact → ExtensionValue → Type 0
IsShownBy k f e = (e.identifier ≡ octets_of k) × Holds f e.critical e.value

-- one of the extensions does
unfoldable pub Shows : KnownExtension → Fact → List ℕ → Type 0
Shows k f i = Somewhere extension (λ e _. IsShownBy k f e) i

-- one of the certificate's does
abbrev pub Has : KnownExtension → Fact → Signed → Type 0
Has k f c = Shows k f c.tbs_certificate.extensions

-- the value of the extension that the fact is about says it
abbrev pub Tells : ValueFact → Signed → Type 0
Tells f c = Has (extension_of_fact f) (Says f) c

-- the subject is a certification authority (4.2.1.9)
abbrev pub IsAuthority : Signed → Type 0
IsAuthority c = Tells Authority c

-- The key verifies signatures of certificates, as far as the certificate says (4.2.1.9): the subject is an authority,
-- and no keyUsage says otherwise.
abbrev pub MaySignCertificates : Signed → Type 0
MaySignCertificates c = IsAuthority c × ((¬ Has known.KeyUsage Present c) ⊎ Tells KeyCertSign c)
