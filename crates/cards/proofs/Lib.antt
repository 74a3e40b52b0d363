mod Legs
mod Laws
mod First
