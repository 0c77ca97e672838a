-- Lists of revoked certificates in words (RFC 5280 5.1).
use Rattle.std.specs.Prelude.{◌≡◌, ℕ, Option, Some, None, List, [], ◌++◌, codes, Result, Ok, Err}
use Rattle.x509.specs.declared.crl.reason.Reason.{Reason}
use Rattle.x509.specs.declared.crl.reason.Reason.TheVariants.{Unspecified, KeyCompromise, CaCompromise}
use Rattle.x509.specs.declared.crl.reason.Reason.TheVariants.{AffiliationChanged, Superseded, CessationOfOperation}
use Rattle.x509.specs.declared.crl.reason.Reason.TheVariants.{CertificateHold, RemoveFromCrl, PrivilegeWithdrawn}
use Rattle.x509.specs.declared.crl.reason.Reason.TheVariants.{AaCompromise}
use Rattle.x509.specs.Crl.Lists.{Revoked, Signed, Tbs, revoked_certificate}
use Rattle.x509.specs.Crl.Reasons.{CRLReason}
use Rattle.der_base.specs.declared.error.Error.{Error as BerError}
use Rattle.der_base.specs.declared.rules.Rules.TheVariants.{Der}
use Rattle.der_cursor.specs.declared.error.ReadError.{ReadError}
use Rattle.der_cursor.specs.Formats.{Never, ReadsInput}
use Rattle.der_extensions.specs.declared.value.ExtensionValue.{ExtensionValue}
use Rattle.der_extensions.specs.declared.value.ExtensionValue.TheVariants as value
use Rattle.der_extensions.specs.Lists.{list_octets}
use Rattle.der_extensions.specs.Values.{ReadsExtension}
use Rattle.x509.specs.declared.extension.Extension.{Extension}
use Rattle.x509.specs.declared.time.Time.{Time}
use Rattle.x509.specs.Certificates.{ExtensionValue as ExtensionFields, extension, extension_of, moment_of}
use Rattle.x509.specs.Formats.{spells}
use Rattle.extension_text.specs.Names.Identifiers.{IsIdentifierLine}
use Rattle.extension_text.specs.Names.Names.{IsNameLine}
use Rattle.extension_text.specs.Names.Pieces.{Each, Exactly, ◌⨾◌}
use Rattle.extension_text.specs.Names.Values.{line, octets_line, serial_text, time_line}
use Rattle.extension_text.specs.Extensions.{IsExtensionList, IsHeading}
use Rattle.extension_text.specs.GeneralNames.{AreGeneralNames}
use Rattle.extension_text.specs.Unread.{IsUnread}
use Rattle.certificate_text.specs.Certificates.{version_text}
use Rattle.certificate_text.specs.Expiry.{optional_expiry}
use Rattle.certificate_text.specs.Values.{digests_text, signature_text}

-- CRLReason (5.3.1)
abbrev pub reason_name : Reason → List ℕ
reason_name Unspecified = codes "unspecified"
reason_name KeyCompromise = codes "keyCompromise"
reason_name CaCompromise = codes "cACompromise"
reason_name AffiliationChanged = codes "affiliationChanged"
reason_name Superseded = codes "superseded"
reason_name CessationOfOperation = codes "cessationOfOperation"
reason_name CertificateHold = codes "certificateHold"
reason_name RemoveFromCrl = codes "removeFromCRL"
reason_name PrivilegeWithdrawn = codes "privilegeWithdrawn"
reason_name AaCompromise = codes "aACompromise"

abbrev pub reason_line : Reason → List ℕ
reason_line r = line (codes "        Reason: ") (reason_name r)

-- the reason that a value is, or that it is none
abbrev pub IsReasonResult : List ℕ → Result Reason (ReadError BerError) → List ℕ → Type 0
IsReasonResult w (Ok r) = Exactly (reason_line r)
IsReasonResult w (Err e) = IsUnread (codes "        ") w e

abbrev pub IsReason : List ℕ → List ℕ → Type 0
IsReason w text =
    (r : Result Reason (ReadError BerError)) × ReadsInput Der CRLReason (λ v. v) Never w r × IsReasonResult w r text

-- what the value of an extension of an entry says; w has the octets of one that isn't shown otherwise
abbrev pub IsEntryResult : List ℕ → Result ExtensionValue (ReadError BerError) → List ℕ → Type 0
IsEntryResult w (Ok value.ReasonCode) = IsReason w
IsEntryResult w (Ok (value.InvalidityDate t)) = Exactly (time_line (codes "        Invalid since: ") t)
IsEntryResult w (Ok (value.CertificateIssuer x)) = AreGeneralNames (codes "        ") (list_octets x)
IsEntryResult w (Err e) = IsUnread (codes "        ") w e
IsEntryResult w r = Exactly (octets_line (codes "        Octets: ") w)

abbrev pub IsEntryRead : Extension → List ℕ → Type 0
IsEntryRead e text =
    (r : Result ExtensionValue (ReadError BerError)) × ReadsExtension e r × IsEntryResult e.value.now r text

abbrev pub IsEntryValue : ExtensionFields → List ℕ → Type 0
IsEntryValue v text = (e : Extension) × (extension_of e ≡ v) × IsEntryRead e text

abbrev pub IsEntryExtension : ExtensionFields → List ℕ → Type 0
IsEntryExtension v = IsHeading (codes "      ") v ⨾ IsEntryValue v

abbrev pub AreEntryExtensions : List ℕ → List ℕ → Type 0
AreEntryExtensions i = Each (spells extension) IsEntryExtension i

-- a certificate that is revoked (5.1.2.6)
abbrev pub IsEntry : Revoked → List ℕ → Type 0
IsEntry r = Exactly (line (codes "    Serial number: ") (serial_text r.user_certificate))
    ⨾ (Exactly (time_line (codes "      Date: ") (moment_of r.revocation_date)) ⨾ AreEntryExtensions r.extensions)

abbrev pub AreEntries : List ℕ → List ℕ → Type 0
AreEntries i = Each (spells revoked_certificate) IsEntry i

abbrev pub AreOptionalEntries : Option (List ℕ) → List ℕ → Type 0
AreOptionalEntries (Some i) = Exactly (codes "  Revoked certificates\n") ⨾ AreEntries i
AreOptionalEntries None = Exactly []

-- when it was made, and when the next one is
abbrev pub next_update_text : Option ℕ → Option Time → List ℕ
next_update_text now (Some t) = time_line (codes "  Next update: ") (moment_of t) ++ optional_expiry now (moment_of t)
next_update_text now None = []

abbrev pub updates_text : Option ℕ → Time → Option Time → List ℕ
updates_text now this next = time_line (codes "  This update: ") (moment_of this) ++ next_update_text now next

-- the fields that are signed
abbrev pub IsListBody : Option ℕ → Tbs → List ℕ → Type 0
IsListBody now t = Exactly (version_text t.version)
    ⨾ (IsIdentifierLine (codes "  Signature algorithm: ") t.signature.algorithm
    ⨾ (IsNameLine (codes "  Issuer: ") t.issuer
    ⨾ (Exactly (updates_text now t.this_update t.next_update)
    ⨾ (IsExtensionList (codes "  Extensions\n") t.extensions
    ⨾ AreOptionalEntries t.revoked))))

-- a list that was read from i
abbrev pub IsListText : Option ℕ → List ℕ → Signed → List ℕ → Type 0
IsListText now i c = Exactly (codes "Certificate revocation list\n")
    ⨾ (IsListBody now c.tbs_cert_list ⨾ (Exactly (signature_text c.signature.1) ⨾ Exactly (digests_text i)))
