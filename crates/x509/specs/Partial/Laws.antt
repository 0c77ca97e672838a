-- The statement of the law in `src/laws.rt`.
use Rattle.std.specs.Prelude.{ℕ, List, [], Some}
use Rattle.x509.specs.Certificates.{Signed, Tbs, whole_certificate}
use Rattle.x509.specs.Formats.{spells}
use Rattle.x509.specs.Partial.Partials.{IsPartial, Partial}

-- all fields
abbrev pub all_of : Tbs → Partial
all_of t = record {
  version = Some t.version;
  serial_number = Some t.serial_number;
  signature = Some t.signature;
  issuer = Some t.issuer;
  validity = Some t.validity;
  subject = Some t.subject;
  key_info = Some t.key_info;
  issuer_id = t.issuer_id;
  subject_id = t.subject_id;
  extensions = t.extensions;
}

-- of a certificate all fields are read
abbrev pub CertificatesHaveAll : Type 0
CertificatesHaveAll = (i : List ℕ) (c : Signed) → spells whole_certificate i c []
    → IsPartial i (all_of c.tbs_certificate)
