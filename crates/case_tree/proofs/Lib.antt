mod Remainders
mod Inputs
mod Roots
mod Ranks
mod TestTasks
