mod Turns
mod Beyond
