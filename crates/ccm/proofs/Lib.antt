pub mod Laws
mod Answers
mod Codes
mod Schedules
mod Padding
mod Parts
mod Splitting
mod Strings
mod Turns
