pub mod Trees
pub mod Reading
pub mod Steps
pub mod Deserializers
pub mod inside
