pub mod Searches
pub mod Nogoods
pub mod Trails
pub mod Rows
