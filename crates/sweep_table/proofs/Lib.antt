mod Deepening
mod Walking
