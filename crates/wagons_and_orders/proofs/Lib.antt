pub mod Ascending
pub mod Membership
pub mod Possible
pub mod Rows
