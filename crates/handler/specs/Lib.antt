-- What the contracts of `handler` cite beside the rules.
pub mod Shapes
pub mod Tasks
pub mod Ranks
pub mod Treatment
