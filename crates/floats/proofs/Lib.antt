-- How far rounding moves a whole number, what the operations give on whole numbers, that comparisons are exact, the order of fractions, and machine integers as single floats.
pub mod Rounded
pub mod Operations
pub mod Compared
pub mod Fractions
pub mod Machine
