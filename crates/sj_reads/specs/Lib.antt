pub mod Reads
pub mod Views
pub mod Member
pub mod Examples
