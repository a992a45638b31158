-- Document 01 as executable definitions, in its order.
pub mod Octets
pub mod Fields
pub mod Settings
pub mod Link
pub mod Header
pub mod Options
pub mod Extension
pub mod Answer
pub mod Channel
pub mod Handling
pub mod WayOut
pub mod Campus
pub mod Demand
pub mod Text
pub mod Cases
