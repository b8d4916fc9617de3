pub mod Least
pub mod Lex
pub mod Best
