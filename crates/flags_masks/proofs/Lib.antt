-- What belongs to no one function: the wanted masks, and the flags that cells are read off.
pub mod Masks
pub mod Cells
