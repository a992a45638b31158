-- T-04 as executable definitions.
pub mod Bursts
pub mod Life
