pub mod Listed
pub mod MadeRows
