pub mod Encoded
pub mod Words
pub mod Lexemes
pub mod Texts
pub mod Printed
pub mod Looks
