pub mod Ber
pub mod Der
pub mod Types
