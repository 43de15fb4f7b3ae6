pub mod ScriptSteps
pub mod KeptTrees
