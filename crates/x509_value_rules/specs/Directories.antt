-- Names that are entries of a directory (RFC 5280 4.2.1.13, 4.2.2.1, 4.2.2.2).
use Rattle.der_extensions.specs.GeneralNames.{NameValue, uniform_resource_identifier}
use Rattle.x509_rule_facts.specs.Uris.{IsLdap, NamesEntry, NamesSeveralAttributes}

-- "When the LDAP URI scheme is used, the URI MUST include a <dn> field .., MUST include an <attributes> field"
abbrev pub IsOddEntry : NameValue → Type 0
IsOddEntry (uniform_resource_identifier w) = IsLdap w × (¬ NamesEntry w)
IsOddEntry _ = ⊥

-- ".. MUST include a single <attrdesc>" (4.2.1.13)
abbrev pub HasSeveralAttributes : NameValue → Type 0
HasSeveralAttributes (uniform_resource_identifier w) = IsLdap w × NamesSeveralAttributes w
HasSeveralAttributes _ = ⊥
