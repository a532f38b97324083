pub mod Examples
pub mod TextExamples
