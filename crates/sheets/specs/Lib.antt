pub mod Laws
pub mod Actions
pub mod Sheets
pub mod Steps
pub mod Fits
