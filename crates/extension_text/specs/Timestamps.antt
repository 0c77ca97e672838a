-- Timestamps of logs, in words (RFC 6962 3.2, 3.3).
use Rattle.std.specs.Prelude.{ℕ, ◌==◌, ◌&&◌, nat_le, Bool, if◌then◌else◌, List, ◌++◌, codes, decimal, length}
use Rattle.std.specs.Prelude.{slice_index, slice_range}
use Rattle.std.specs.Int.{from_be_bytes, w64}
use Rattle.der_base.specs.declared.rules.Rules.TheVariants.{Der}
use Rattle.der_extensions.specs.WebExtensions.{Vector}
use Rattle.extension_text.specs.Names.Pieces.{Each, Exactly}
use Rattle.extension_text.specs.Names.Values.{line, octets_line}

-- A SignedCertificateTimestamp of version v1, which is 0, has the identifier of its log in 32 octets, and then its
-- time, a number of 8 octets.
abbrev pub is_v1 : List ℕ → Bool
is_v1 w = nat_le 41 (length w) && (slice_index w 0 == 0)

abbrev pub milliseconds_text : List ℕ → List ℕ
milliseconds_text w = line (codes "        Milliseconds since 1970: ") (decimal (from_be_bytes w64 w))

abbrev pub timestamp_text : List ℕ → List ℕ
timestamp_text w =
    if is_v1 w then octets_line (codes "      Log: ") (slice_range w 1 33) ++ milliseconds_text (slice_range w 33 41)
    else octets_line (codes "      Timestamp: ") w

abbrev pub AreTimestamps : List ℕ → List ℕ → Type 0
AreTimestamps i = Each (Vector Der) (λ w. Exactly (timestamp_text w)) i
