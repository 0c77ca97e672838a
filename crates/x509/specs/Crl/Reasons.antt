-- The reason of a revocation, as its ASN.1 has it.
use Rattle.std.specs.Prelude.{◌≡◌, ◌≢◌, ℕ, Option, Some, None, List, [], ◌∷◌}
use Rattle.der_base.specs.declared.rules.Rules.TheVariants.{Der}
use Rattle.der_cursor.specs.Formats.{Content, Format, Required, Only, Enumerated}
use Rattle.x509.specs.declared.crl.reason.Reason.{Reason}
use Rattle.x509.specs.declared.crl.reason.Reason.TheVariants.{Unspecified, KeyCompromise, CaCompromise}
use Rattle.x509.specs.declared.crl.reason.Reason.TheVariants.{AffiliationChanged}
use Rattle.x509.specs.declared.crl.reason.Reason.TheVariants.{Superseded, CessationOfOperation, CertificateHold}
use Rattle.x509.specs.declared.crl.reason.Reason.TheVariants.{RemoveFromCrl, PrivilegeWithdrawn, AaCompromise}
use Rattle.x509.specs.Certificates.{ExtensionValue, extension}
use Rattle.x509.specs.Formats.{spells}
use Rattle.x509.specs.Lists.{BeginsWithNone}

-- CRLReason ::= ENUMERATED {                                          (RFC 5280 5.3.1)
abbrev pub number_of : Reason → ℕ
number_of Unspecified = 0  -- unspecified           (0),
number_of KeyCompromise = 1  -- keyCompromise         (1),
number_of CaCompromise = 2  -- cACompromise          (2),
number_of AffiliationChanged = 3  -- affiliationChanged    (3),
number_of Superseded = 4  -- superseded            (4),
number_of CessationOfOperation = 5  -- cessationOfOperation  (5),
number_of CertificateHold = 6  -- certificateHold       (6), value 7 is not used
number_of RemoveFromCrl = 8  -- removeFromCRL         (8),
number_of PrivilegeWithdrawn = 9  -- privilegeWithdrawn    (9),
number_of AaCompromise = 10  -- aACompromise         (10) }

-- a type whose values have names
abbrev pub NamedValues : {V W : Type 0} → (W → V) → Format V → Format W
NamedValues value T =
    record {
      class = T.class;
      number = T.number;
      constructed = T.constructed;
      content = λ r w v. T.content r w (value v);
    }

abbrev pub CRLReason : Format Reason
CRLReason = NamedValues number_of Enumerated

-- id-ce-cRLReasons OBJECT IDENTIFIER ::= { id-ce 21 }, which is 2.5.29.21
abbrev pub reason_code : List ℕ
reason_code = 85 ∷ 29 ∷ 21 ∷ []

-- reasonCode ::= { CRLReason }
abbrev pub ReasonCode : Content Reason
ReasonCode = Only (Required CRLReason)

-- the reason that an extension has, if it is a reason code
abbrev pub IsReasonOf : ExtensionValue → Option Reason → Type 0
IsReasonOf x None = x.identifier ≢ reason_code
IsReasonOf x (Some v) = (x.identifier ≡ reason_code) × ReasonCode Der x.value v

-- the reason of the first extension of these octets that is a reason code
pub data IsFirstReason : List ℕ → Option Reason → Type 0 where
  absent : {i : List ℕ} → BeginsWithNone extension i → IsFirstReason i None
  here : {i rest : List ℕ} {x : ExtensionValue} {v : Reason} → spells extension i x rest → IsReasonOf x (Some v)
      → IsFirstReason i (Some v)
  later : {i rest : List ℕ} {x : ExtensionValue} {v : Option Reason} → spells extension i x rest → IsReasonOf x None
      → IsFirstReason rest v → IsFirstReason i v
