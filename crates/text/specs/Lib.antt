-- What the contracts of `text` cite beside the rules.
pub mod Print
