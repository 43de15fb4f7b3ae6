-- How a type may hold the type that holds it.
pub mod object
