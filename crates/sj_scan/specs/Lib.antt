pub mod Positions
pub mod Scan
pub mod Examples
pub mod inside
