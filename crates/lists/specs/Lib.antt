pub mod Order
pub mod Contents
pub mod Reading
