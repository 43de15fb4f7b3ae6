pub mod Printed
pub mod Refused
pub mod Stats
pub mod Task
pub mod inside
