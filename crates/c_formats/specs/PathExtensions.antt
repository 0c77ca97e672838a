-- Values of extensions about policies in a path, as C sees them (RFC 5280 4.2.1.5, 4.2.1.11).
use Rattle.std.specs.Prelude.{◌≡◌, ℕ, List, is_some}
use Rattle.std.specs.Option.{unwrap_or}
use Rattle.der_extensions.specs.declared.list.SequenceOf.{SequenceOf}
use Rattle.der_extensions.specs.declared.policy_constraints.PolicyConstraints.{PolicyConstraints}
use Rattle.der_extensions.specs.declared.policy_mappings.PolicyMapping.{PolicyMapping}
use Rattle.der_extensions.specs.Lists.{list_octets}
use Rattle.der_extensions.specs.PolicyExtensions.{MappingValue, mapping_of}
use Rattle.c_values.specs.Elements.{bit}
use Rattle.c_formats.specs.declared.path.DmPolicyConstraints.{DmPolicyConstraints}
use Rattle.c_formats.specs.declared.path.DmPolicyMapping.{DmPolicyMapping}

-- the encodings of pairs, one after another
abbrev pub mappings_octets : SequenceOf PolicyMapping → List ℕ
mappings_octets x = list_octets x

-- the fields are those of the pair (4.2.1.5)
pub record HasMapping (x : MappingValue) (d : DmPolicyMapping) : Type 0 where
  pub issuer_policy : d.issuer_policy.now ≡ x.0
  pub subject_policy : d.subject_policy.now ≡ x.1.0

abbrev pub IsMapping : PolicyMapping → DmPolicyMapping → Type 0
IsMapping x d = HasMapping (mapping_of x) d

-- a number that is absent is 0 (4.2.1.11)
abbrev pub path_constraints_fields : PolicyConstraints → DmPolicyConstraints
path_constraints_fields x = record {
  has_require_explicit_policy = bit (is_some x.require_explicit_policy);
  require_explicit_policy = unwrap_or x.require_explicit_policy 0;
  has_inhibit_policy_mapping = bit (is_some x.inhibit_policy_mapping);
  inhibit_policy_mapping = unwrap_or x.inhibit_policy_mapping 0;
}

abbrev pub IsPathConstraints : PolicyConstraints → DmPolicyConstraints → Type 0
IsPathConstraints x d = d ≡ path_constraints_fields x
