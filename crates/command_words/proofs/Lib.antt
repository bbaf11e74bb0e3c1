mod Limits
mod MostCosts
mod Names
mod Readings
