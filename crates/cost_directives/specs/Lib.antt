-- The meaning: what types and fields weigh, what arguments cost, declared sizes, the weights of a schema and their look-ups, where sizes come from;
-- then the tests of cost directives in the order in which they are made, and what a build answers.
pub mod Readings
pub mod Weighing
pub mod ArgumentCosts
pub mod DeclaredSizes
pub mod Weights
pub mod SizeSources
pub mod FieldPlaces
pub mod BadWeight
pub mod NotAList
pub mod Dotted
pub mod SlicingUnknown
pub mod SlicingNotInt
pub mod SizedOnList
pub mod SizedUnknown
pub mod NegativeSize
pub mod Disagree
pub mod DirectiveFaults
-- What the laws of these speak of: sizes that fit their fields, and lists of any length.
pub mod Fitting
pub mod FreeLists
-- What serves proofs: what the program's forms of these stand for.
pub mod WeightViews
pub mod TestViews
