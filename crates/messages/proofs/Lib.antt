pub mod KerberosLaws
pub mod LdapLaws
pub mod SnmpLaws
