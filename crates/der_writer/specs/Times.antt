-- Times of certificates (RFC 5280 4.1.2.5).
use Rattle.std.specs.Prelude.{◌≡◌, ℕ, ◌%◌, ◌<◌, ◌≤◌, nat_lt, if◌then◌else◌, None, List, Result, MatchResult}
use Rattle.der_base.specs.declared.error.Error.{Error as BerError}
use Rattle.der_base.specs.declared.time.ASN1DateTime.{ASN1DateTime}
use Rattle.der_base.specs.declared.time.ASN1TimeZone.TheVariants.{Z}
use Rattle.der_base.specs.Encoding.{content_octets}
use Rattle.der_base.specs.Refusal.{refusal, invalid_date_time}
use Rattle.der_base.specs.Time.{IsMoment}
use Rattle.der_base.specs.Tree.{time}
use Rattle.der_writer.specs.declared.writer.Writer.{Writer}
use Rattle.der_writer.specs.Written.{PutsLeaf}

-- a time that has a form there: in UTC, in whole seconds, in a year from 1950 to 9999
pub record IsRfc5280Time (t : ASN1DateTime) : Type 0 where
  pub year : (1950 ≤ t.year) × (t.year ≤ 9999)
  pub moment : IsMoment t
  pub second : t.second < 60
  pub whole : t.nanosecond ≡ None
  pub zone : t.tz ≡ Z

-- a UTCTime through 2049, a GeneralizedTime from 2050 on
abbrev pub rfc5280_type : ASN1DateTime → ℕ
rfc5280_type t = if nat_lt t.year 2050 then 23 else 24

-- a UTCTime has the last two digits of the year
abbrev pub with_short_year : ASN1DateTime → ASN1DateTime
with_short_year t = if nat_lt t.year 2050 then record t { year = t.year % 100 } else t

abbrev pub rfc5280_octets : ASN1DateTime → List ℕ
rfc5280_octets t = content_octets (time (rfc5280_type t) (with_short_year t))

-- it is put; or it has no form, and nothing is put
abbrev pub PutsRfc5280Time : ASN1DateTime → Writer → Result (Unit {0}) BerError → Writer → Type 0
PutsRfc5280Time t old result new = MatchResult result
    (λ v. IsRfc5280Time t × PutsLeaf (rfc5280_type t) (rfc5280_octets t) old new)
    (λ e. (¬ IsRfc5280Time t) × (refusal e ≡ invalid_date_time) × (new ≡ old))
