-- What the code's values stand for.
pub mod Findings
