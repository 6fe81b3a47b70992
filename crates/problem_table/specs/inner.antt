-- What only proofs and private functions need.
pub mod Alike
pub mod AllowedRows
pub mod Goals
pub mod Making
pub mod Moved
pub mod RowsSoFar
