mod Added
mod Firsts
mod Texts
mod Names
