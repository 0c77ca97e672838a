-- Parts of certificates as C sees them.
use Rattle.std.specs.Prelude.{ℕ, pos, Option, Some, None, List, []}
use Rattle.x509.specs.declared.certificate.Version.{Version}
use Rattle.x509.specs.declared.certificate.Version.TheVariants.{V1, V2, V3}
use Rattle.x509.specs.declared.time.Time.{Time}
use Rattle.x509.specs.declared.time.Time.TheVariants.{Generalized, Utc}
use Rattle.x509.specs.Certificates.{Algorithm}
use Rattle.c_values.specs.declared.parts.DmAlgorithm.{DmAlgorithm}
use Rattle.c_values.specs.declared.parts.DmBits.{DmBits}
use Rattle.c_values.specs.declared.parts.DmMoment.{DmMoment}
use Rattle.c_values.specs.declared.time.DmTime.{DmTime}
use Rattle.c_values.specs.Values.{time_fields}

abbrev pub algorithm_in : DmAlgorithm → Algorithm
algorithm_in a = record { algorithm = a.identifier.now; parameters = a.parameters.now }

-- the octets of a BIT STRING, how many bits aren't used, and whether there is one
abbrev pub bits_in : DmBits → List ℕ × ℕ × ℕ
bits_in b = (b.octets.now, b.unused, b.is_present)

abbrev pub bits_numbers : Option (ℕ × List ℕ) → List ℕ × ℕ × ℕ
bits_numbers (Some v) = (v.1, v.0, 1)
bits_numbers None = ([], 0, 0)

-- The fields of a time, and the number of its type. Its year has all digits, whichever type it is.
abbrev pub moment_fields : Time → DmMoment
moment_fields (Utc t) = record { time = time_fields t; number = 23 }
moment_fields (Generalized t) = record { time = time_fields t; number = 24 }

abbrev pub no_time : DmTime
no_time = record {
  year = 0;
  nanosecond = 0;
  month = 0;
  day = 0;
  hour = 0;
  minute = 0;
  second = 0;
  zone = 0;
  zone_hours = pos 0;
  zone_minutes = pos 0;
}

abbrev pub optional_moment_fields : Option Time → DmMoment
optional_moment_fields (Some t) = moment_fields t
optional_moment_fields None = record { time = no_time; number = 0 }

abbrev pub version_number : Version → ℕ
version_number V1 = 1
version_number V2 = 2
version_number V3 = 3
