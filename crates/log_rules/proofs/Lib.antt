pub mod Fronts
pub mod Walks
pub mod Growth
pub mod Inside
pub mod Sound
pub mod Firsts
