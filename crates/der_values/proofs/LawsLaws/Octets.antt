-- Numbers, identifiers and lengths as octets (X.690 8.1.2, 8.1.3, 8.3).
pub mod LastBits
pub mod ShortIdentifiers
