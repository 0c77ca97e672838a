-- Certification requests as C sees them.
use Rattle.std.specs.Prelude.{◌≡◌, Some}
use Rattle.x509_keys.specs.declared.request.attribute.Attribute.{Attribute}
use Rattle.x509_keys.specs.declared.request.error.CertificationRequestError.{CertificationRequestError}
use Rattle.x509_keys.specs.declared.request.CertificationRequest.{CertificationRequest}
use Rattle.x509_keys.specs.Request.Requests.{Attribute as AttributeValue, Signed, attribute_of, request_of}
use Rattle.x509.specs.declared.extension.Extensions.{Extensions}
use Rattle.c_values.specs.declared.fault.DmFault.{DmFault}
use Rattle.c_values.specs.declared.octets.DmOctets.{DmOctets}
use Rattle.c_values.specs.Parts.{algorithm_in, bits_in, bits_numbers}
use Rattle.c_values.specs.Faults.{field_fault}
use Rattle.c_formats.specs.declared.request.DmRequest.{DmRequest}
use Rattle.c_formats.specs.declared.request.DmRequestAttribute.{DmRequestAttribute}
use Rattle.c_formats.specs.FieldNumbers.{request_field_number}

-- the fields are those of the request (RFC 2986 4)
pub record HasRequest (c : Signed) (d : DmRequest) : Type 0 where
  pub info : d.info.now ≡ c.octets
  pub subject : d.subject.now ≡ c.info.subject
  pub key_algorithm : algorithm_in d.key_algorithm ≡ c.info.key_info.algorithm
  pub key : bits_in d.key ≡ bits_numbers (Some c.info.key_info.key)
  pub attributes : d.attributes.now ≡ c.info.attributes
  pub signature_algorithm : algorithm_in d.signature_algorithm ≡ c.algorithm
  pub signature : bits_in d.signature ≡ bits_numbers (Some c.signature)

abbrev pub IsRequest : CertificationRequest → DmRequest → Type 0
IsRequest r d = HasRequest (request_of r) d

abbrev pub request_fault : CertificationRequestError → DmFault
request_fault e = field_fault (request_field_number e.field) e.refusal

-- the fields are those of the attribute
pub record HasAttribute (a : AttributeValue) (d : DmRequestAttribute) : Type 0 where
  pub identifier : d.identifier.now ≡ a.identifier
  pub values : d.values.now ≡ a.values

abbrev pub IsAttribute : Attribute → DmRequestAttribute → Type 0
IsAttribute a d = HasAttribute (attribute_of a) d

abbrev pub IsExtensions : Extensions → DmOctets → Type 0
IsExtensions e d = d.octets.now ≡ e.octets.now
