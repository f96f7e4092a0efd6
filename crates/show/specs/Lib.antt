pub mod Person
