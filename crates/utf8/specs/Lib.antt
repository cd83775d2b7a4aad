-- What the contracts of `utf8` cite: RFC 3629's grammar, and where a text stops keeping to it.
pub mod Sequence
pub mod Text
pub mod Valid
pub mod Steps
