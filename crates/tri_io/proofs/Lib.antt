mod Bytes
mod Values
mod Items
mod Parsers
mod KnownNames
mod Cuts
mod States
mod Turns
mod Readings
mod Outcomes
mod Distinct
mod Rules
mod Matches
mod Chosen
pub mod KnownCommands
