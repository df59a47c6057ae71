-- Laws about URIs in messages, and what the code needs of them. Nothing here states a rule.
pub mod Folding
pub mod Findings
pub mod Walking
pub mod Arms
pub mod Answering
pub mod Standing
pub mod Lengths
pub mod Theorems
pub mod Specimens
