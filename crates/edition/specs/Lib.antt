-- The editions, and what each decides (document 02, R-4).
pub mod Editions
