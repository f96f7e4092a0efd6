pub mod ParserLaws
pub mod Agree
pub mod Filled
