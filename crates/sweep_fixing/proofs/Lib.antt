mod Exact
mod Fewer
mod Puts
mod Replaced
mod Rows
