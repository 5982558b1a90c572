pub mod Shifts
pub mod Places
pub mod Kept
