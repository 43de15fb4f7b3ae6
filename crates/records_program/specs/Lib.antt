pub mod Arguments
pub mod Fault
pub mod Program
pub mod Examples
pub mod inside
