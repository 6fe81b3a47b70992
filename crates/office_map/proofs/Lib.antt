pub mod LineParts
pub mod Loops
pub mod Names
pub mod OrderLines
pub mod Pushed
pub mod Whole
