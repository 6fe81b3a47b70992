-- What only proofs and private functions need.
pub mod BufferedLine
pub mod Cutting
pub mod Serving
