-- Which event comes next, by keys, and one turn of a run.
mod Next
mod Turn
