mod Answered
mod Blocks
pub mod Decimals
mod Digits
mod Feeding
mod Forms
mod Held
pub mod Hexadecimals
mod KeyLine
mod Lines
pub mod Parts
mod Puts
mod Searches
mod Turns
pub mod Whole
