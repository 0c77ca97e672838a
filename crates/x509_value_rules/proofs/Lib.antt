pub mod IssuerLaws
pub mod KeptLaws
pub mod SchemeLaws
pub mod SortedLaws
pub mod SoundLaws
pub mod TwiceLaws
