-- Headers by BER and by DER (X.690 8.1).
pub mod StableHeaders
