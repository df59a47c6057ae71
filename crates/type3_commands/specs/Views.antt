-- Views of the code of Type 3's commands.
pub mod InPlace
pub mod Framing
pub mod Rising
