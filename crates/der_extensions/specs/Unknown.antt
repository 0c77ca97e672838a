-- Critical extensions that aren't known (RFC 5280 4.2).
use Rattle.std.specs.Prelude.{◌≡◌, ◌≢◌, ℕ, true, List}
use Rattle.x509.specs.Certificates.{ExtensionValue, extension}
use Rattle.x509.specs.Lists.{Somewhere}
use Rattle.der_extensions.specs.declared.known.KnownExtension.{KnownExtension}
use Rattle.der_extensions.specs.Known.{octets_of}

-- no known extension has the identifier with these content octets
abbrev pub IsUnknown : List ℕ → Type 0
IsUnknown w = (k : KnownExtension) → w ≢ octets_of k

abbrev pub IsUnknownCritical : ExtensionValue → Type 0
IsUnknownCritical e = (e.critical ≡ true) × IsUnknown e.identifier

-- of the extensions that the octets begin with, one after another, there is such
abbrev pub HasUnknownCritical : List ℕ → Type 0
HasUnknownCritical i = Somewhere extension (λ e _. IsUnknownCritical e) i
