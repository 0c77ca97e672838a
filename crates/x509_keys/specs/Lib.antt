pub mod Fields
pub mod Keys
pub mod OtherKeys
pub mod Request
