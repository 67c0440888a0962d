mod Turning
mod Seeking
mod Sets
mod Starts
mod Singles
