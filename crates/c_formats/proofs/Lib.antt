pub mod AfterSequence
pub mod AfterTimestamp
pub mod BrokenNumbers
pub mod Decoding
pub mod Finding
pub mod SameOctets
