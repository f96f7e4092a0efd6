pub mod HeadLaws
pub mod IdleLaws
