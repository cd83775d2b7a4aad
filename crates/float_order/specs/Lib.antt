-- What document 01 says of the order of floats: as numbers, and over their bits.
pub mod Floats
pub mod Keys
