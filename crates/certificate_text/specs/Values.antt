-- When something is valid, and what follows the signed part.
use Rattle.std.specs.Prelude.{ℕ, Option, List, ◌++◌, codes, decimal, length}
use Rattle.x509.specs.declared.time.Validity.{Validity}
use Rattle.x509.specs.Certificates.{moment_of}
use Rattle.sha1.specs.Sha1.{sha1}
use Rattle.sha2.specs.Sha256.{sha256}
use Rattle.extension_text.specs.Names.Values.{hex, line, time_line}
use Rattle.certificate_text.specs.Expiry.{optional_expiry}

abbrev pub validity_text : Option ℕ → Validity → List ℕ
validity_text now v = time_line (codes "  Not before: ") (moment_of v.not_before)
    ++ (time_line (codes "  Not after: ") (moment_of v.not_after) ++ optional_expiry now (moment_of v.not_after))

abbrev pub signature_text : List ℕ → List ℕ
signature_text w = codes "  Signature: " ++ (decimal (length w) ++ codes " octets\n")

-- the digests of a whole input (FIPS 180-4)
abbrev pub digests_text : List ℕ → List ℕ
digests_text i = line (codes "  SHA-256: ") (hex (sha256 i)) ++ line (codes "  SHA-1: ") (hex (sha1 i))
