-- What clauses of private functions alone cite.
pub mod WordBytes
pub mod Decoded
pub mod NumberNode
pub mod Trees
pub mod Machine
pub mod Step
pub mod Tail
pub mod Underway
pub mod Blocks
