mod Conversing
mod Showing
