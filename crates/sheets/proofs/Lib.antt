pub mod Cuts
pub mod Numerals
pub mod Passing
pub mod Texts
pub mod Trips
pub mod Unique
