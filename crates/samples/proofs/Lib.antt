mod Trials
mod Ways
mod Sums
mod Rotations
