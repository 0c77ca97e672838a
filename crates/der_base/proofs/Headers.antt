-- Headers by BER and by DER (X.690 8.1).
pub mod BerHeaders
pub mod DerHeaders
pub mod HeaderLaws
