pub mod Copy
pub mod Flags
pub mod Words
pub mod Records
