-- Laws that the proofs of the judge use.
pub mod Turning
