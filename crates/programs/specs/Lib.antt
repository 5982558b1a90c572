pub mod Literals
pub mod Formulas
pub mod Programs
pub mod Refusals
pub mod Questions
pub mod Steps
