pub mod Kept
pub mod MetKeys
pub mod Placed
pub mod Stacks
pub mod Members
pub mod Reading
pub mod Steps
