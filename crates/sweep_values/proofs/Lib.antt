mod Counting
mod Making
mod Reading
