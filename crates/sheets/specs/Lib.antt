pub mod Grants
pub mod Sheets
