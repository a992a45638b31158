-- What the contracts of `stores` cite beside the rules, and what those above it say of a store.
pub mod Halving
pub mod Store
pub mod Insert
pub mod Extend
