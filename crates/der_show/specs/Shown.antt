-- The summaries of certificates, CRLs and certification requests.
use Rattle.std.specs.Prelude.{ℕ, Option, List}
use Rattle.certificate_text.specs.Certificates.{IsCertificateText}
use Rattle.certificate_text.specs.Lists.{IsListText}
use Rattle.certificate_text.specs.Requests.{IsRequestText}
use Rattle.x509.specs.Crl.Lists.{certificate_list_of}
use Rattle.x509_keys.specs.Request.Requests.{request_of}
use Rattle.x509.specs.Certificates.{certificate_of}
use Rattle.extension_text.specs.Names.Pieces.{◌⨾◌}
use Rattle.der_show.specs.Rules.{AreListRules, AreRules}
use Rattle.der_show.specs.declared.known.Known.{Known}
use Rattle.der_show.specs.declared.known.Known.TheVariants.{Certificate, CertificateList, CertificationRequest}

-- the summary of what was read from i, and then the rules that it breaks; `now` is in seconds since 1970
abbrev pub IsShown : Option ℕ → List ℕ → Known → List ℕ → Type 0
IsShown now i (Certificate c) = IsCertificateText now i (certificate_of c) ⨾ AreRules (certificate_of c)
IsShown now i (CertificateList l) = IsListText now i (certificate_list_of l) ⨾ AreListRules (certificate_list_of l)
IsShown now i (CertificationRequest r) = IsRequestText (request_of r)
