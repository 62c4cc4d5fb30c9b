pub mod Cutting
pub mod Filling
pub mod Framing
pub mod Naming
pub mod Paging
pub mod Placing
pub mod Reading
