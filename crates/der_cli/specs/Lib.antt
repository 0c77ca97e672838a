pub mod Arguments
pub mod Counts
pub mod Inputs
pub mod Outputs
pub mod Runs
pub mod Shown
pub mod Statuses
pub mod Taken
