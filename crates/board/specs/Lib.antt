pub mod Reading
pub mod Due
pub mod Acting
pub mod Face
pub mod Audit
pub mod Tallies
