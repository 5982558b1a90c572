pub mod Bits
pub mod Sets
pub mod Closures
pub mod Props
pub mod Rows
