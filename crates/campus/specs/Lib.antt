-- What the contracts of `campus` cite beside the rules.
pub mod Places
pub mod Stores
pub mod Switches
pub mod Steps
pub mod Queue
pub mod Done
