pub mod Listed
pub mod Made
