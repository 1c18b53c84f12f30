mod Firsts
mod Standing
mod Walked
