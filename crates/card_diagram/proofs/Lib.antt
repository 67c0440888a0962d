mod Cards
mod Ends
mod Words
