mod Covering
mod Walking
