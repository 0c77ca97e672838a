-- Values of extensions that are lists, and their items, as C sees them (RFC 5280 4.2.1, 4.2.2).
use Rattle.std.specs.Prelude.{◌≡◌, is_some, Option, Some, None, List, [], ℕ}
use Rattle.std.specs.Option.{unwrap_or}
use Rattle.der_extensions.specs.declared.certificate_policies.PolicyInformation.{PolicyInformation}
use Rattle.der_extensions.specs.declared.certificate_policies.PolicyQualifierInfo.{PolicyQualifierInfo}
use Rattle.der_extensions.specs.declared.distribution_points.DistributionPoint.{DistributionPoint}
use Rattle.der_extensions.specs.declared.information_access.AccessDescription.{AccessDescription}
use Rattle.der_extensions.specs.declared.list.SequenceOf.{SequenceOf}
use Rattle.der_extensions.specs.declared.name_constraints.GeneralSubtree.{GeneralSubtree}
use Rattle.der_extensions.specs.declared.name_constraints.NameConstraints.{NameConstraints}
use Rattle.der_extensions.specs.Extensions.{AccessValue, NameConstraintsValue, PointNameValue, PointValue, PolicyValue}
use Rattle.der_extensions.specs.Extensions.{QualifierValue, access_of, full_name, name_constraints_of, point_of}
use Rattle.der_extensions.specs.Extensions.{name_relative_to_issuer, policy_of, qualifier_of}
use Rattle.der_extensions.specs.GeneralNames.{name_of}
use Rattle.der_extensions.specs.Lists.{list_octets}
use Rattle.c_values.specs.declared.octets.DmOctets.{DmOctets}
use Rattle.c_values.specs.AnyElements.{HasAny}
use Rattle.c_values.specs.Parts.{bits_in, bits_numbers}
use Rattle.c_values.specs.Elements.{bit}
use Rattle.c_formats.specs.declared.access.DmAccessDescription.{DmAccessDescription}
use Rattle.c_formats.specs.declared.point.DmDistributionPoint.{DmDistributionPoint}
use Rattle.c_formats.specs.declared.policy.DmPolicy.{DmPolicy}
use Rattle.c_formats.specs.declared.policy.DmPolicyQualifier.{DmPolicyQualifier}
use Rattle.c_formats.specs.declared.subtree.DmNameConstraints.{DmNameConstraints}
use Rattle.c_formats.specs.declared.subtree.DmSubtree.{DmSubtree}
use Rattle.c_formats.specs.Items.{name_in, name_parts}

-- the encodings of the items of a list, one after another
abbrev pub HasItems : {T : Type 0} → SequenceOf T → DmOctets → Type 0
HasItems x d = d.octets.now ≡ list_octets x

-- those of policies, of points and of descriptions
abbrev pub policies_octets : SequenceOf PolicyInformation → List ℕ
policies_octets x = list_octets x

abbrev pub points_octets : SequenceOf DistributionPoint → List ℕ
points_octets x = list_octets x

abbrev pub descriptions_octets : SequenceOf AccessDescription → List ℕ
descriptions_octets x = list_octets x

-- the fields are those of the policy (4.2.1.4); without qualifiers there are no octets
pub record HasPolicy (x : PolicyValue) (d : DmPolicy) : Type 0 where
  pub identifier : d.identifier.now ≡ x.0
  pub qualifiers : d.qualifiers.now ≡ unwrap_or x.1.0 []

abbrev pub IsPolicy : PolicyInformation → DmPolicy → Type 0
IsPolicy x d = HasPolicy (policy_of x) d

-- and of its qualifier
pub record HasQualifier (x : QualifierValue) (d : DmPolicyQualifier) : Type 0 where
  pub identifier : d.identifier.now ≡ x.0
  pub value : HasAny x.1.0 d.value

abbrev pub IsQualifier : PolicyQualifierInfo → DmPolicyQualifier → Type 0
IsQualifier x d = HasQualifier (qualifier_of x) d

-- a point has general names, or a relative name, or neither (4.2.1.13)
abbrev pub HasPointName : Option PointNameValue → List ℕ → List ℕ → Type 0
HasPointName (Some (full_name v)) full relative = (full ≡ v) × (relative ≡ [])
HasPointName (Some (name_relative_to_issuer v)) full relative = (full ≡ []) × (relative ≡ v)
HasPointName None full relative = (full ≡ []) × (relative ≡ [])

-- the fields are those of the point
pub record HasPoint (x : PointValue) (d : DmDistributionPoint) : Type 0 where
  pub name : HasPointName x.0 d.full_name.now d.relative_name.now
  pub reasons : bits_in d.reasons ≡ bits_numbers x.1.0
  pub crl_issuer : d.crl_issuer.now ≡ unwrap_or x.1.1.0 []

abbrev pub IsPoint : DistributionPoint → DmDistributionPoint → Type 0
IsPoint x d = HasPoint (point_of x) d

-- the subtrees where names have to be, and may not be (4.2.1.10); without any there are no octets
pub record HasNameConstraints (x : NameConstraintsValue) (d : DmNameConstraints) : Type 0 where
  pub permitted : d.permitted.now ≡ unwrap_or x.0 []
  pub excluded : d.excluded.now ≡ unwrap_or x.1.0 []

abbrev pub IsNameConstraints : NameConstraints → DmNameConstraints → Type 0
IsNameConstraints x d = HasNameConstraints (name_constraints_of x) d

-- the fields are those of the subtree
pub record HasSubtree (x : GeneralSubtree) (d : DmSubtree) : Type 0 where
  pub base : name_in d.base ≡ name_parts (name_of x.base)
  pub minimum : d.minimum ≡ x.minimum
  pub maximum : d.maximum ≡ unwrap_or x.maximum 0
  pub has_maximum : d.has_maximum ≡ bit (is_some x.maximum)
  pub reserved : d.reserved ≡ 0

abbrev pub IsSubtree : GeneralSubtree → DmSubtree → Type 0
IsSubtree x d = HasSubtree x d

-- and of the description (4.2.2.1)
pub record HasAccess (x : AccessValue) (d : DmAccessDescription) : Type 0 where
  pub method : d.method.now ≡ x.0
  pub location : name_in d.location ≡ name_parts x.1.0

abbrev pub IsAccess : AccessDescription → DmAccessDescription → Type 0
IsAccess x d = HasAccess (access_of x) d
