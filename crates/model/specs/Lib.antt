-- What the paper's words mean. Read in this order; nothing here is a proof, a limit or a number of refusal.
pub mod Shape
pub mod Sums
pub mod Distinct
pub mod Walk
pub mod Loop
pub mod Ratio
pub mod Period
pub mod Filling
pub mod Ends
pub mod Schedule
pub mod Reported
pub mod Knot
pub mod Rate
pub mod Answer
pub mod Times
pub mod Wide
pub mod Thesis
