use Rattle.x509_rule_facts.proofs.SaidLaws.{is_readable}
use Rattle.x509_rule_facts.proofs.types.is_of_type.Goals as goal

pub returns-in-KeyIdentifiers : goal.returns-in-KeyIdentifiers
returns-in-KeyIdentifiers c = rw c.in-KeyIdentifiers.is (is_readable _ c.read_authority_key_identifier.ensures.value c.is_ok.ensures.value)

pub returns-in-Octets : goal.returns-in-Octets
returns-in-Octets c = rw c.in-Octets.is (is_readable _ c.read_subject_key_identifier.ensures.value c.is_ok-in-Octets.ensures.value)

pub returns-in-KeyUsage : goal.returns-in-KeyUsage
returns-in-KeyUsage c = rw c.in-KeyUsage.is (is_readable _ c.read_key_usage.ensures.value c.is_ok-in-KeyUsage.ensures.value)

pub returns-in-Policies : goal.returns-in-Policies
returns-in-Policies c = rw c.in-Policies.is (is_readable _ c.read_certificate_policies.ensures.value c.is_ok-in-Policies.ensures.value)

pub returns-in-Names : goal.returns-in-Names
returns-in-Names c = rw c.in-Names.is (is_readable _ c.read_general_names.ensures.value c.is_ok-in-Names.ensures.value)

pub returns-in-Constraints : goal.returns-in-Constraints
returns-in-Constraints c = rw c.in-Constraints.is (is_readable _ c.read_basic_constraints.ensures.value c.is_ok-in-Constraints.ensures.value)

pub returns-in-NameConstraints : goal.returns-in-NameConstraints
returns-in-NameConstraints c = rw c.in-NameConstraints.is (is_readable _ c.read_name_constraints.ensures.value c.is_ok-in-NameConstraints.ensures.value)

pub returns-in-Purposes : goal.returns-in-Purposes
returns-in-Purposes c = rw c.in-Purposes.is (is_readable _ c.read_extended_key_usage.ensures.value c.is_ok-in-Purposes.ensures.value)

pub returns-in-Points : goal.returns-in-Points
returns-in-Points c = rw c.in-Points.is (is_readable _ c.read_crl_distribution_points.ensures.value c.is_ok-in-Points.ensures.value)

pub returns-in-Descriptions : goal.returns-in-Descriptions
returns-in-Descriptions c = rw c.in-Descriptions.is (is_readable _ c.read_information_access.ensures.value c.is_ok-in-Descriptions.ensures.value)

pub returns-in-Number : goal.returns-in-Number
returns-in-Number c = rw c.in-Number.is (is_readable _ c.read_number.ensures c.is_ok-in-Number.ensures.value)

pub returns-in-Reason : goal.returns-in-Reason
returns-in-Reason c = rw c.in-Reason.is (is_readable _ c.read_reason.ensures.value c.is_ok-in-Reason.ensures.value)

pub returns-in-Date : goal.returns-in-Date
returns-in-Date c = rw c.in-Date.is (is_readable _ c.read_invalidity_date.ensures.value c.is_ok-in-Date.ensures.value)

pub returns-in-Mappings : goal.returns-in-Mappings
returns-in-Mappings c = rw c.in-Mappings.is (is_readable _ c.read_policy_mappings.ensures.value c.is_ok-in-Mappings.ensures.value)

pub returns-in-DirectoryAttributes : goal.returns-in-DirectoryAttributes
returns-in-DirectoryAttributes c = rw c.in-DirectoryAttributes.is (is_readable _ c.read_subject_directory_attributes.ensures.value c.is_ok-in-DirectoryAttributes.ensures.value)

pub returns-in-PolicyConstraints : goal.returns-in-PolicyConstraints
returns-in-PolicyConstraints c = rw c.in-PolicyConstraints.is (is_readable _ c.read_policy_constraints.ensures.value c.is_ok-in-PolicyConstraints.ensures.value)

pub returns-in-IssuingPoint : goal.returns-in-IssuingPoint
returns-in-IssuingPoint c = rw c.in-IssuingPoint.is (is_readable _ c.read_issuing_distribution_point.ensures.value c.is_ok-in-IssuingPoint.ensures.value)

pub returns-in-Statements : goal.returns-in-Statements
returns-in-Statements c = rw c.in-Statements.is (is_readable _ c.read_qc_statements.ensures.value c.is_ok-in-Statements.ensures.value)

pub returns-in-Timestamps : goal.returns-in-Timestamps
returns-in-Timestamps c = rw c.in-Timestamps.is (is_readable _ c.read_signed_certificate_timestamps.ensures.value c.is_ok-in-Timestamps.ensures.value)

pub returns-in-Features : goal.returns-in-Features
returns-in-Features c = rw c.in-Features.is (is_readable _ c.read_tls_features.ensures.value c.is_ok-in-Features.ensures.value)

pub returns-in-Null : goal.returns-in-Null
returns-in-Null c = rw c.in-Null.is (is_readable _ c.read_null.ensures.value c.is_ok-in-Null.ensures.value)
