-- The edition of a program's argument (document 02, R-4: "The program takes it as its argument, or 1 without one").
pub mod Spelling
