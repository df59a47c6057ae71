-- Laws that the code of the C interface needs.
pub mod Decoded
