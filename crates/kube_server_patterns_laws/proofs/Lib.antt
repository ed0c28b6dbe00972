mod Opened
mod Sets
mod Trees
mod Characters
