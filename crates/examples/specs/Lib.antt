pub mod Tables
pub mod Eithers
pub mod Guards
