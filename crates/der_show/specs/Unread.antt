-- Why octets aren't a certificate, CRL or certification request, and where the error is.
use Rattle.std.specs.Prelude.{◌≡◌, ℕ, ◌⊎◌, Option, Some, None, MatchOption, List}
use Rattle.x509.specs.declared.crl.list.CertificateList.{CertificateList as ListStruct}
use Rattle.x509.specs.declared.crl.error.CertificateListError.{CertificateListError}
use Rattle.x509.specs.Crl.Lists.{field_fault as list_fault, whole_list}
use Rattle.der_known.specs.declared.known.KnownTypes.{KnownTypes}
use Rattle.der_known.specs.Tables.{AreKnown}
use Rattle.x509_keys.specs.declared.request.CertificationRequest.{CertificationRequest as RequestStruct}
use Rattle.x509_keys.specs.declared.request.error.CertificationRequestError.{CertificationRequestError}
use Rattle.x509_keys.specs.Request.Requests.{field_fault as request_fault, whole_request}
use Rattle.der_schema.specs.declared.schema.Schema.{Schema}
use Rattle.der_schema.specs.Known.{IsFirstSchema}
use Rattle.der_schema.specs.Meaning.{all_types, root_of}
use Rattle.x509.specs.declared.certificate.Certificate.{Certificate as CertificateStruct}
use Rattle.x509.specs.declared.error.CertificateError.{CertificateError}
use Rattle.x509.specs.Certificates.{whole_certificate}
use Rattle.x509.specs.Formats.{Format, refuses, start}
use Rattle.x509.specs.Readers.{field_fault as certificate_fault}
use Rattle.der_show.specs.declared.known.Known.{Known}
use Rattle.der_show.specs.declared.known.Known.TheVariants as known
use Rattle.der_show.specs.declared.place.Place.{Place}
use Rattle.der_show.specs.declared.refused.Refused.{Refused}
use Rattle.der_show.specs.declared.refused.Refused.TheVariants.{Certificate, CertificateList, CertificationRequest}
use Rattle.der_show.specs.declared.unread.Unread.{Unread}
use Rattle.der_show.specs.Known.{Is, IsKnown, IsNo}
use Rattle.der_show.specs.Places.{FindsPlace}
use Rattle.der_show.specs.Refused.{ComesFirst, Refuses, offset_of, type_name}
use Rattle.der_show.specs.Why.{IsAtEnd, IsWhy}

-- octets are none of the three, and e comes first among the errors by their formats
pub record IsFurthest (i : List ℕ) (e : Refused) : Type 0 where
  pub none : IsKnown i None
  pub refused : Refuses i e
  pub first : (x : Refused) → Refuses i x → ComesFirst e x

-- that error; None if octets are one of the three
abbrev pub IsWhyRefused : List ℕ → Option Refused → Type 0
IsWhyRefused i (Some e) = IsFurthest i e
IsWhyRefused i None = (x : Known) × Is i x

-- the known type with the name of the type that the reader reads
abbrev pub IsTypeRead : Refused → KnownTypes → Option Schema → Type 0
IsTypeRead e types found =
    IsFirstSchema (λ k. k.name.now ≡ type_name e) types.known.now (all_types types.types) found

-- the position of the element with the error in that type, if there is an element at its offset
abbrev pub IsPlaceOf : List ℕ → Refused → Option Place → Type 0
IsPlaceOf i e place = (IsAtEnd e × (place ≡ None))
    ⊎ ((¬ IsAtEnd e) × (types : KnownTypes) × AreKnown types × (sc : Option Schema) × IsTypeRead e types sc
    × MatchOption sc (place ≡ None) (λ s. FindsPlace (root_of s) i (offset_of e) place))

-- the error that comes first, with its position and a more exact reason
pub record IsWhyUnreadAt (i : List ℕ) (u : Unread) : Type 0 where
  pub furthest : IsFurthest i u.refused
  pub place : IsPlaceOf i u.refused u.place
  pub why : IsWhy u.refused u.place u.why

abbrev pub IsWhyUnread : List ℕ → Option Unread → Type 0
IsWhyUnread i (Some u) = IsWhyUnreadAt i u
IsWhyUnread i None = (x : Known) × Is i x

-- octets aren't a value of the format; e is the error, with the fault by `fault`, and any other has the same offset
pub record IsWhyNo {X E V : Type 0} (fault : X → E) (offset : X → ℕ) (f : Format E V) (i : List ℕ) (e : X)
    : Type 0 where
  pub none : IsNo f i
  pub refused : refuses f (start i) (fault e)
  pub only : (x : X) → refuses f (start i) (fault x) → offset x ≡ offset e

abbrev pub IsWhyNoCertificate : List ℕ → Option Refused → Type 0
IsWhyNoCertificate i (Some e) = (x : CertificateError) × (e ≡ Certificate x)
    × IsWhyNo certificate_fault (λ y. y.refusal.offset) whole_certificate i x
IsWhyNoCertificate i None = (c : CertificateStruct) × Is i (known.Certificate c)

abbrev pub IsWhyNoList : List ℕ → Option Refused → Type 0
IsWhyNoList i (Some e) = (x : CertificateListError) × (e ≡ CertificateList x)
    × IsWhyNo list_fault (λ y. y.refusal.offset) whole_list i x
IsWhyNoList i None = (l : ListStruct) × Is i (known.CertificateList l)

abbrev pub IsWhyNoRequest : List ℕ → Option Refused → Type 0
IsWhyNoRequest i (Some e) = (x : CertificationRequestError) × (e ≡ CertificationRequest x)
    × IsWhyNo request_fault (λ y. y.refusal.offset) whole_request i x
IsWhyNoRequest i None = (r : RequestStruct) × Is i (known.CertificationRequest r)
