use Rattle.x509_rules.proofs.whole.breaks_whole.Goals as goal

pub returns-in-NoUniqueIdentifier : goal.returns-in-NoUniqueIdentifier
returns-in-NoUniqueIdentifier c = rw c.in-NoUniqueIdentifier.is c.breaks_no_unique_identifier.ensures

pub returns-in-NamedAuthority : goal.returns-in-NamedAuthority
returns-in-NamedAuthority c = rw c.in-NamedAuthority.is c.breaks_named_authority.ensures

pub returns-in-NamedCrlIssuer : goal.returns-in-NamedCrlIssuer
returns-in-NamedCrlIssuer c = rw c.in-NamedCrlIssuer.is c.breaks_named_crl_issuer.ensures

pub returns-in-MailboxInAltName : goal.returns-in-MailboxInAltName
returns-in-MailboxInAltName c = rw c.in-MailboxInAltName.is c.breaks_mailbox_in_alt_name.ensures

pub returns-in-KeyIdentifierOfIssuer : goal.returns-in-KeyIdentifierOfIssuer
returns-in-KeyIdentifierOfIssuer c = rw c.in-KeyIdentifierOfIssuer.is c.breaks_key_identifier_of_issuer.ensures

pub returns-in-KeyIdentifierOfAuthority : goal.returns-in-KeyIdentifierOfAuthority
returns-in-KeyIdentifierOfAuthority c = rw c.in-KeyIdentifierOfAuthority.is c.breaks_key_identifier_of_authority.ensures

pub returns-in-KeyIdentifierOfEndEntity : goal.returns-in-KeyIdentifierOfEndEntity
returns-in-KeyIdentifierOfEndEntity c = rw c.in-KeyIdentifierOfEndEntity.is c.breaks_key_identifier_of_end_entity.ensures

pub returns-in-KeyUsageOfAuthority : goal.returns-in-KeyUsageOfAuthority
returns-in-KeyUsageOfAuthority c = rw c.in-KeyUsageOfAuthority.is c.breaks_key_usage_of_authority.ensures

pub returns-in-CertSignOfAuthority : goal.returns-in-CertSignOfAuthority
returns-in-CertSignOfAuthority c = rw c.in-CertSignOfAuthority.is c.breaks_cert_sign_of_authority.ensures

pub returns-in-AltNameNotCritical : goal.returns-in-AltNameNotCritical
returns-in-AltNameNotCritical c = rw c.in-AltNameNotCritical.is c.breaks_alt_name_not_critical.ensures

pub returns-in-CriticalConstraints : goal.returns-in-CriticalConstraints
returns-in-CriticalConstraints c = rw c.in-CriticalConstraints.is c.breaks_critical_constraints.ensures

pub returns-in-PathLengthOfAuthority : goal.returns-in-PathLengthOfAuthority
returns-in-PathLengthOfAuthority c = rw c.in-PathLengthOfAuthority.is c.breaks_path_length_of_authority.ensures

pub returns-in-PathLengthOfCertSign : goal.returns-in-PathLengthOfCertSign
returns-in-PathLengthOfCertSign c = rw c.in-PathLengthOfCertSign.is c.breaks_path_length_of_cert_sign.ensures

pub returns-in-NameConstraintsOfAuthority : goal.returns-in-NameConstraintsOfAuthority
returns-in-NameConstraintsOfAuthority c = rw c.in-NameConstraintsOfAuthority.is c.breaks_name_constraints_of_authority.ensures

pub returns-in-AnyPurposeNotCritical : goal.returns-in-AnyPurposeNotCritical
returns-in-AnyPurposeNotCritical c = rw c.in-AnyPurposeNotCritical.is c.breaks_any_purpose_not_critical.ensures

pub returns-in-OtherCrlIssuer : goal.returns-in-OtherCrlIssuer
returns-in-OtherCrlIssuer c = rw c.in-OtherCrlIssuer.is c.breaks_other_crl_issuer.ensures

pub returns-in-NoRevAvailOfEndEntity : goal.returns-in-NoRevAvailOfEndEntity
returns-in-NoRevAvailOfEndEntity c = rw c.in-NoRevAvailOfEndEntity.is c.breaks_no_rev_avail_of_end_entity.ensures

pub returns-in-NoRevAvailWithoutPoints : goal.returns-in-NoRevAvailWithoutPoints
returns-in-NoRevAvailWithoutPoints c = rw c.in-NoRevAvailWithoutPoints.is c.breaks_no_rev_avail_without_points.ensures

pub returns-in-NoRevAvailWithoutOcsp : goal.returns-in-NoRevAvailWithoutOcsp
returns-in-NoRevAvailWithoutOcsp c = rw c.in-NoRevAvailWithoutOcsp.is c.breaks_no_rev_avail_without_ocsp.ensures
