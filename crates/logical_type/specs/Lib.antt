-- Logical types, as contracts cite them. The first file that names a type of src/ says what it holds.
pub mod Table
pub mod Parameters
pub mod Spelling
pub mod Forward
pub mod Backward
