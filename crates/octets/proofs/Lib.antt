pub mod Cases
pub mod Bits
pub mod Ends
pub mod WordLaws
pub mod Hops
pub mod Macs
pub mod FlagLaws
