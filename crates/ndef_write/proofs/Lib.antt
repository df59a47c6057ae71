-- Laws that the code which writes records needs.
pub mod OneRecord
pub mod Measuring
pub mod HeaderPut
pub mod Behind
pub mod Answering
