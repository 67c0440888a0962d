mod Bounds
mod Places
mod Reading
