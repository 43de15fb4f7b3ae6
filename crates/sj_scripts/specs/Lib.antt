pub mod Values
pub mod Command
pub mod Reading
pub mod Script
pub mod Steps
pub mod Examples
pub mod inside
