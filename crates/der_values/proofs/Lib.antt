mod ContentLaws
mod DecimalDigits
pub mod DecodedContents
pub mod Identifiers
pub mod LawsLaws
mod LimbNumbers
pub mod OctetsLaws
mod PaddedArcs
mod SmallArcs
pub mod Subidentifiers
mod TimeTests
mod TurnedBits
mod UnusedBits
mod WideArcs
