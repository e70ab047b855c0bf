mod Walking
mod Making
