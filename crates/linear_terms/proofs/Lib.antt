mod Adding
mod Counting
mod Weighing
