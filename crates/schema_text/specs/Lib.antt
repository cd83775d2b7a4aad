-- What document 01's program prints: rows, or `refused N at P`.
pub mod Rows
pub mod Making
pub mod Printed
