pub mod Literals
pub mod Carriers
pub mod Ends
pub mod Fronts
pub mod NumberBytes
pub mod Bodies
mod Cuts
mod Values
pub mod Meanings
pub mod Quotes
mod Decimals
mod Compact
mod Pretty
pub mod Trees
pub mod Utf8
pub mod OneLine
pub mod Spelled
pub mod Misses
pub mod Prints
pub mod LaidOut
pub mod Towards
mod Blocks
pub mod Keys
pub mod Keeping
pub mod Kept
pub mod Valid
pub mod Depths
pub mod KeyCounts
pub mod Alike
