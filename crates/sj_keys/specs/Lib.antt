pub mod Writes
pub mod Examples
pub mod inside
