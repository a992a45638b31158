-- T-07 as executable definitions.
pub mod Counting
pub mod History
