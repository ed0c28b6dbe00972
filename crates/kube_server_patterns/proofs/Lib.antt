mod Numbers
mod Letters
mod Steps
