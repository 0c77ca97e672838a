mod Changes
mod Visits
