mod Lists
mod Tables
mod Changes
mod Legal
mod Stores
mod Ways
mod Places
