pub mod Kerberos
pub mod Ldap
pub mod Snmp
