pub mod RefusedFiles
pub mod NetworkSteps
