-- Laws that the code needs. Nothing here states a rule.
pub mod Overlays
pub mod Measured
