pub mod Step
pub mod Inverse
pub mod Inverses
pub mod Examples
pub mod inside
