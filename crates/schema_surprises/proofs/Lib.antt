mod Found
mod Reports
mod Left
mod Shapes
