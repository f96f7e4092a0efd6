pub mod Carryless
pub mod SumRule
pub mod Octets
pub mod SumSteps
pub mod Figures
pub mod SumLaws
