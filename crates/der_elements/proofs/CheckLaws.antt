pub mod Contents
pub mod ElementLaws
pub mod FirstOctets
pub mod HeadersBy
pub mod OneList
pub mod Overlays
pub mod Quick
pub mod TapeLaws
