-- Parquet's codes, as document 01 lists them under "The sheet": "Numeric codes are those of the public parquet.thrift".
pub mod Physical
pub mod Repetition
pub mod Converted
pub mod Logical
