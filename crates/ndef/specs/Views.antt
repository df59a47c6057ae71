-- Views of the code of `ndef`: nobody has to believe them.
pub mod Headers
