pub mod Picking
pub mod Reasons
pub mod Rules
pub mod Halves
pub mod Parts
pub mod Props
