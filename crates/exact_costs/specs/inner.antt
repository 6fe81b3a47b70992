-- What only proofs and private functions need.
pub mod Changed
pub mod Certified
pub mod Further
pub mod OneLess
