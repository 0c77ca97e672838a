-- Spellings of whole objects, refusals that an input shows, and inputs that are cut short.
pub mod AppendedBer
pub mod AppendedDer
pub mod BerFaults
pub mod BerReadings
pub mod DerContents
pub mod DerFaults
pub mod DerLacking
pub mod DerReadings
pub mod DerWithinBer
pub mod FrontsAreCut
pub mod NormalForm
pub mod StableAnswers
