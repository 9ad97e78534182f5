-- Reading one item after another, without the values.
pub mod InTurn
