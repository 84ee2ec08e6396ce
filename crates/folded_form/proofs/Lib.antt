mod OneForm
mod Stops
