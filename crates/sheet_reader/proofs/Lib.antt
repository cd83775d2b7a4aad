-- Laws of the definitions of the reader.
pub mod StepLaws
pub mod ReaderLaws
pub mod Examples
