pub mod Forget
pub mod Shorter
pub mod Machine
pub mod OpenContainers
pub mod Bodies
pub mod BlockPlaces
pub mod LanePlaces
pub mod NumberLemmas
pub mod PlainNumbers
pub mod DigitValues
pub mod DigitWords
pub mod EscapeForms
pub mod FormSteps
pub mod StringLemmas
pub mod ScalarTokens
pub mod LiteralTokens
pub mod ValueSteps
pub mod StepCases
pub mod Ahead
pub mod Between
pub mod Underway
pub mod Counts
pub mod Descents
mod Walk
mod Pieces
mod SpelledScalars
mod ReadingValues
mod ReadingLists
mod ReadingObjects
mod Complete
mod FirstToken
mod Joined
mod FoundScalars
mod FoundLists
mod FoundObjects
mod Sound
pub mod Documents
pub mod TextTapes
pub mod Decoding
pub mod AtomLemmas
