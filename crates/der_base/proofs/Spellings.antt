-- Spellings of whole objects, refusals that an input shows, and inputs that are cut short.
pub mod Contents
pub mod Counted
