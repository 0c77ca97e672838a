pub mod Broken
pub mod Crl
pub mod Examined
pub mod Issuers
pub mod Rules
pub mod Whole
