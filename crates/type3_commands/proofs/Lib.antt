-- Laws that the code of Type 3's commands needs. Nothing here states a rule.
pub mod Numbering
pub mod BlockLists
pub mod Rising
pub mod Encoding
pub mod Decoding
pub mod Framing
