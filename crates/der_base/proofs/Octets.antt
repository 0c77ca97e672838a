-- Numbers, identifiers and lengths as octets (X.690 8.1.2, 8.1.3, 8.3).
pub mod Identifiers
pub mod LengthOctets
pub mod LongLengths
pub mod MinimalIntegers
pub mod Numbers
pub mod Shortest
pub mod ShortestLengths
pub mod SignBit
pub mod TagNumbers
pub mod UsedBits
